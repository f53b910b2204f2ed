-- What is taken out of a root's list, seen from the transaction.
use Rattle.std.specs.Prelude.{◌≡◌, ◌<◌, ℕ, ◌+◌, List, [], ◌∷◌, ◌++◌, Option, IfSome, Ok}
use Rattle.jfs_ranges.specs.declared.edit.Edit.{Edit}
use Rattle.jfs_ranges.specs.declared.edit.Edit.TheVariants.{NoRedo, Free}
use Rattle.jfs_tree.specs.Walk.{Node, Scale}
use Rattle.jfs_tree.specs.Spells.{spells, footprint}
use Rattle.jfs_tree.specs.Edit.{count_in, found_in}
use Rattle.jfs_tree.specs.Shrink.{TakenOut}
use Rattle.jfs_tree.specs.Tell.{TellsThen}
use Rattle.jfs_tree.specs.Fresh.{LeadsTo, after_tx}
use Rattle.jfs_tree.specs.Adds.{read_as}

-- the edits that free these pages, whose records are not to be redone
abbrev pub page_no_redos : List ℕ → List Edit
page_no_redos [] = []
page_no_redos (n ∷ ns) = NoRedo n ∷ page_no_redos ns

abbrev pub page_marks : List ℕ → List Edit
page_marks [] = []
page_marks (n ∷ ns) = Free (record { len = 1; addr = n }) ∷ page_marks ns

-- the records of the blocks are then one list
abbrev pub page_frees : List ℕ → List Edit
page_frees ns = page_no_redos ns ++ page_marks ns

-- lines were appended, and then what frees these pages; nothing else
abbrev pub TellsFreed : List ℕ → List Edit → List Edit → Type 0
TellsFreed freed tx later = TellsThen (page_frees freed) tx later

-- A root that spelled these entries spells all but one. The pages that it has no more are the freed ones, and each page of the file system that isn't its own keeps its bytes.
pub record HasOneLess {P E : Type 0} (s : Scale P E) (node : List ℕ → Node P E) (blocks : ℕ) (e : E) (es : List E) (pages later : ℕ → List ℕ) (root after : Node P E) (freed : List ℕ) : Type 0 where
  pub list : List E
  pub spelled : spells s (read_as node later) after ≡ Ok list
  pub gone : TakenOut e es list
  pub owned : (n : ℕ) → footprint s (read_as node later) after n + count_in n freed ≡ footprint s (read_as node pages) root n
  pub keeps : (n : ℕ) → n < blocks → footprint s (read_as node pages) root n ≡ 0 → later n ≡ pages n

-- Whatever list the root spelled, the entry in it that shares a place with x was taken out: where the edits before lead to the pages that the view shows, all edits lead
-- to pages in which the root spells one entry less. The last edits free the pages that it has no more.
abbrev pub RemovesTold : {P E : Type 0} → Scale P E → (List ℕ → Node P E) → ℕ → (ℕ → List ℕ) → E → Node P E → Node P E → List Edit → List Edit → Option E → Type 0
RemovesTold {E = E} s node blocks pages x root after tx later found = (es : List E) → spells s (read_as node pages) root ≡ Ok es → (found ≡ found_in s x es)
    × IfSome found (λ e. (freed : List ℕ) × TellsFreed freed tx later
    × ((base : ℕ → List ℕ) → LeadsTo blocks base tx pages → HasOneLess s node blocks e es pages (after_tx base later) root after freed))
