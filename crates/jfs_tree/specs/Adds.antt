-- What is added to a root's list, seen from the transaction.
use Rattle.std.specs.Prelude.{◌≡◌, ◌⊎◌, ◌<◌, ℕ, ◌+◌, List, Ok}
use Rattle.jfs_ranges.specs.declared.edit.Edit.{Edit}
use Rattle.jfs_tree.specs.Walk.{Node, Scale}
use Rattle.jfs_tree.specs.Spells.{no_page, with_root, levels_of, spells, footprint}
use Rattle.jfs_tree.specs.Edit.{Added, IsApart, count_in}
use Rattle.jfs_tree.specs.Root.{IsSpare}
use Rattle.jfs_tree.specs.Fresh.{LeadsTo, after_tx}
use Rattle.jfs_tree.specs.declared.form.TreeError.{TreeError}
use Rattle.jfs_tree.specs.declared.form.TreeError.TheVariants.{View, Bad, Memory}

-- what pages read as
abbrev pub read_as : {P E : Type 0} → (List ℕ → Node P E) → (ℕ → List ℕ) → ℕ → Node P E
read_as node pages n = node (pages n)

-- A root that spelled these entries spells one more. The pages that it has more are the free ones that aren't left, and each other page of the file system that isn't its own keeps its bytes.
pub record HasOneMore {P E : Type 0} (s : Scale P E) (node : List ℕ → Node P E) (blocks : ℕ) (x : E) (es : List E) (pages later : ℕ → List ℕ) (root after : Node P E) (free left : List ℕ) : Type 0 where
  pub list : List E
  pub spelled : spells s (read_as node later) after ≡ Ok list
  pub added : Added x es list
  pub owned : (n : ℕ) → footprint s (read_as node later) after n + count_in n left ≡ footprint s (read_as node pages) root n + count_in n free
  pub keeps : (n : ℕ) → n < blocks → footprint s (read_as node pages) root n ≡ 0 → count_in n free ≡ count_in n left → later n ≡ pages n

-- Whatever list the root spelled, if the entry is apart from it and the free blocks aren't pages of the tree: where the edits before lead to the pages that the view shows,
-- all edits lead to pages in which the root spells one entry more.
abbrev pub AddsTold : {P E : Type 0} → Scale P E → (List ℕ → Node P E) → ℕ → (ℕ → List ℕ) → E → Node P E → Node P E → List ℕ → List ℕ → List Edit → List Edit → Type 0
AddsTold {E = E} s node blocks pages x root after free left tx later = (base : ℕ → List ℕ) → LeadsTo blocks base tx pages → (es : List E) → spells s (read_as node pages) root ≡ Ok es → IsApart s x es → IsSpare s (read_as node pages) root free
    → HasOneMore s node blocks x es pages (after_tx base later) root after free left

-- Whatever list the root spelled, if the entry is apart from it and the free blocks aren't pages of the tree: where the edits before lead to the pages that the view shows, all edits
-- lead to pages in which the tree has as many levels as before, or it had to get one more.
abbrev pub LevelsTold : {P E : Type 0} → Scale P E → (List ℕ → Node P E) → ℕ → (ℕ → List ℕ) → E → Node P E → Node P E → List ℕ → List Edit → List Edit → ((ℕ → Node P E) → Type 0) → Type 0
LevelsTold {E = E} s node blocks pages x root after free tx later grows = (base : ℕ → List ℕ) → LeadsTo blocks base tx pages → (es : List E) → spells s (read_as node pages) root ≡ Ok es → IsApart s x es → IsSpare s (read_as node pages) root free
    → (levels_of (with_root after (read_as node (after_tx base later))) 8 no_page ≡ levels_of (with_root root (read_as node pages)) 8 no_page) ⊎ grows (read_as node (after_tx base later))

-- An entry is refused only where no page on its way has room, in whatever list the root spells.
abbrev pub RefusesWhereFull : {P E : Type 0} → Scale P E → E → (ℕ → Node P E) → Node P E → List ℕ → Type 0 → TreeError → Type 0
RefusesWhereFull s x pages root free full (View e) = Unit {0}
RefusesWhereFull {E = E} s x pages root free full (Bad bad rule) = (es : List E) → spells s pages root ≡ Ok es → IsApart s x es → IsSpare s pages root free → full
RefusesWhereFull s x pages root free full Memory = Unit {0}

-- what holds of the bytes of a page
abbrev pub on_page : (List ℕ → Type 0) → (ℕ → List ℕ) → ℕ → Type 0
on_page holds pages n = holds (pages n)
