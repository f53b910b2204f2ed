-- What a call of several steps makes of a root's list.
use Rattle.std.specs.Prelude.{◌≡◌, ◌≤◌, ◌<◌, ℕ, ◌+◌, List, Ok}
use Rattle.jfs_ranges.specs.declared.edit.Edit.{Edit}
use Rattle.jfs_tree.specs.Walk.{Node, Scale}
use Rattle.jfs_tree.specs.Spells.{spells, footprint}
use Rattle.jfs_tree.specs.Edit.{count_in}
use Rattle.jfs_tree.specs.Fresh.{LeadsTo, after_tx}
use Rattle.jfs_tree.specs.Adds.{read_as}

-- A root spells these entries, in the pages as they are now. The pages that it has more are the free ones that aren't left, and each page that is neither one of its own nor taken keeps
-- its bytes.
pub record Becomes {P E : Type 0} (s : Scale P E) (node : List ℕ → Node P E) (list : List E) (old new : ℕ → List ℕ) (root after : Node P E) (free left : List ℕ) : Type 0 where
  pub spelled : spells s (read_as node new) after ≡ Ok list
  pub pages : (n : ℕ) → footprint s (read_as node new) after n + count_in n left ≡ footprint s (read_as node old) root n + count_in n free
  pub keeps : (n : ℕ) → footprint s (read_as node old) root n ≡ 0 → count_in n free ≡ count_in n left → new n ≡ old n
  pub fewer : (n : ℕ) → count_in n left ≤ count_in n free

-- the same of the pages of the file system
pub record HasNow {P E : Type 0} (s : Scale P E) (node : List ℕ → Node P E) (blocks : ℕ) (list : List E) (pages later : ℕ → List ℕ) (root after : Node P E) (free left : List ℕ) : Type 0 where
  pub spelled : spells s (read_as node later) after ≡ Ok list
  pub owned : (n : ℕ) → footprint s (read_as node later) after n + count_in n left ≡ footprint s (read_as node pages) root n + count_in n free
  pub keeps : (n : ℕ) → n < blocks → footprint s (read_as node pages) root n ≡ 0 → count_in n free ≡ count_in n left → later n ≡ pages n

-- where the edits before lead to the pages that the view shows, all edits lead to pages in which the root spells these entries
abbrev pub BecomesTold : {P E : Type 0} → Scale P E → (List ℕ → Node P E) → ℕ → List E → (ℕ → List ℕ) → Node P E → Node P E → List ℕ → List ℕ → List Edit → List Edit → Type 0
BecomesTold s node blocks list pages root after free left tx later = (base : ℕ → List ℕ) → LeadsTo blocks base tx pages → HasNow s node blocks list pages (after_tx base later) root after free left
