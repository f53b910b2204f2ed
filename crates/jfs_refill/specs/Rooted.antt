-- A list of entries that goes to a root, or from there to a page. (JFS Layout: a tree has its root in the inode.)
use Rattle.std.specs.Prelude.{◌≡◌, ◌⊎◌, ◌<◌, ◌≤◌, ◌+◌, ℕ, false, List, [], ◌∷◌, ◌++◌, map, length, Result, Ok, Err}
use Rattle.jfs_bits.specs.declared.extent.Xad.{Xad}
use Rattle.jfs_bits.specs.declared.rule.Rule.TheVariants as rules
use Rattle.jfs_disk.specs.Image.{Image}
use Rattle.jfs_tree.specs.Walk.{Child, Leaf, Inner}
use Rattle.jfs_tree.specs.Spells.{no_page}
use Rattle.jfs_tree.specs.Root.{Settled}
use Rattle.jfs_tree.specs.Call.{PutsOne, nodes}
use Rattle.jfs_tree.specs.declared.draft.Drafted.{Drafted}
use Rattle.jfs_tree.specs.declared.form.TreeError.{TreeError}
use Rattle.jfs_tree.specs.declared.form.TreeError.TheVariants.{View, Bad, Memory}
use Rattle.jfs_xtpage.specs.declared.head.XtForm.{XtForm}
use Rattle.jfs_xtpage.specs.declared.head.XtForm.TheVariants.{Full}
use Rattle.jfs_xtpage.specs.Page.{head_of, entries_of, new_head, kind_flag}
use Rattle.jfs_xtree.specs.Node.{xt_scale, xt_node, is_leaf, child_of, child_entry}

-- the list fits the root, which has it now
pub record RootHas (list : List Xad) (root after : List ℕ) : Type 0 where
  pub room : length list + 2 ≤ (head_of root).maxentry
  pub entries : entries_of after ≡ list
  pub head : head_of after ≡ record (head_of root) { nextindex = length list + 2 }

-- The list is too long for the root. The new page q has it, which is a leaf or an inner page as the root was; the root is an inner page, and page q its only child.
pub record RootMoved (list : List Xad) (q : ℕ) (root after page : List ℕ) : Type 0 where
  pub long : (head_of root).maxentry < length list + 2
  pub entries : entries_of page ≡ list
  pub head : head_of page ≡ record (new_head Full (is_leaf (head_of root).flag) (record { len = 1; addr = q })) { nextindex = length list + 2 }
  pub only : entries_of after ≡ child_entry 0 q ∷ []
  pub root_head : head_of after ≡ record (head_of root) { flag = kind_flag (head_of root).flag false; nextindex = 3 }

-- and the last of the free pages is page q of the draft
pub record MovesRoot (list : List Xad) (root after : List ℕ) (old new : List Drafted) (free left : List ℕ) : Type 0 where
  pub q : ℕ
  pub page : List ℕ
  pub taken : free ≡ left ++ q ∷ []
  pub puts : PutsOne old new q page
  pub moved : RootMoved list q root after page

-- What became of a root that was to have a list, in a tree of so many levels: only one that would need a ninth is refused, and then nothing changes.
abbrev pub RootStored : ℕ → List Xad → List ℕ → List ℕ → List Drafted → List Drafted → List ℕ → List ℕ → Result (Unit {0}) TreeError → Type 0
RootStored levels list root after old new free left (Ok it) = (RootHas list root after × (new ≡ old) × (left ≡ free)) ⊎ ((levels < 8) × MovesRoot list root after old new free left)
RootStored levels list root after old new free left (Err (Bad bad rule)) = (bad ≡ no_page) × (rule ≡ rules.Deep) × (8 ≤ levels) × ((head_of root).maxentry < length list + 2) × (after ≡ root) × (new ≡ old) × (left ≡ free)
RootStored levels list root after old new free left (Err (View e)) = ⊥
RootStored levels list root after old new free left (Err Memory) = Unit {0}

-- the same in the words of trees: the root's new list stands at the root, or below a root with one child
pub record SettlesList (form : XtForm) (blocks levels : ℕ) (list : List Xad) (root after : List ℕ) (old new : List Drafted) (free left : List ℕ) : Type 0 where
  pub leaf : (image : Image) (es : List Xad) → xt_node form blocks root ≡ Leaf es
      → Settled xt_scale levels (Leaf list) (nodes (xt_node Full blocks) old image) (nodes (xt_node Full blocks) new image) (xt_node form blocks after) free left
  pub inner : (image : Image) (cs : List (Child ℕ)) → xt_node form blocks root ≡ Inner cs → 0 < length list
      → Settled xt_scale levels (Inner (map child_of list)) (nodes (xt_node Full blocks) old image) (nodes (xt_node Full blocks) new image) (xt_node form blocks after) free left
