-- Parts of the call at the root, for the prover alone.
use Rattle.std.specs.Prelude.{◌≡◌, ◌⊎◌, ◌<◌, ◌≤◌, ◌+◌, ℕ, Bool, true, false, if◌then◌else◌, List, map, length, Ok}
use Rattle.std.specs.List.{All}
use Rattle.jfs_bits.specs.declared.extent.Xad.{Xad}
use Rattle.jfs_bits.specs.Extent.{FitsXad}
use Rattle.jfs_disk.specs.Image.{Image}
use Rattle.jfs_tree.specs.Walk.{Child, Node, Leaf, Inner, Broken}
use Rattle.jfs_tree.specs.Spells.{no_page, with_root, spells}
use Rattle.jfs_tree.specs.Levels.{IsFilledTo}
use Rattle.jfs_tree.specs.Root.{IsSpare}
use Rattle.jfs_tree.specs.Draft.{shown}
use Rattle.jfs_tree.specs.declared.draft.Drafted.{Drafted}
use Rattle.jfs_tree.specs.declared.form.TreeError.{TreeError}
use Rattle.jfs_tree.specs.declared.form.TreeError.TheVariants.{View, Bad, Memory}
use Rattle.jfs_xtpage.specs.declared.head.XtForm.{XtForm}
use Rattle.jfs_xtpage.specs.Page.{head_of, rises_from, IsLaidOut}
use Rattle.jfs_xtree.specs.Node.{xt_scale, xt_node, all_within, child_of}
use Rattle.jfs_xtree.specs.WriteParts.{StepsTo, drafted}
use Rattle.jfs_written.specs.Range.{with_range}
use Rattle.jfs_put_range.specs.Call.{IsNinth, LacksTwo}
use Rattle.jfs_put_range.specs.Parts.{Framed}

-- a leaf, or an inner page
abbrev pub IsOfKind : Bool → Node ℕ Xad → Type 0
IsOfKind true node = (es : List Xad) × (node ≡ Leaf es)
IsOfKind false node = (cs : List (Child ℕ)) × (node ≡ Inner cs)

-- a root that breaks no rule, with its entries
pub record IsOpenedRoot (form : XtForm) (blocks : ℕ) (root : List ℕ) (entries : List Xad) (leaf : Bool) : Type 0 where
  pub laid : IsLaidOut root
  pub slots : 3 ≤ (head_of root).maxentry
  pub few : length entries ≤ 16
  pub count : (head_of root).nextindex ≡ length entries + 2
  pub some : leaf ≡ false → 0 < length entries
  pub fits : All FitsXad entries
  pub order : rises_from 0 entries ≡ true
  pub range : all_within blocks entries ≡ true
  pub node : xt_node form blocks root ≡ (if leaf then Leaf entries else Inner (map child_of entries))

-- a root is named only where it breaks a rule
abbrev pub BreaksRoot : Node ℕ Xad → TreeError → Type 0
BreaksRoot root (View e) = ⊥
BreaksRoot root (Bad bad rule) = (bad ≡ no_page) × (root ≡ Broken rule)
BreaksRoot root Memory = Unit {0}

-- the root is named only where it breaks a rule, or has fewer than two free slots
abbrev pub NamesRoot : Node ℕ Xad → List ℕ → TreeError → Type 0
NamesRoot node root (View e) = Unit {0}
NamesRoot node root (Bad bad rule) = bad ≡ no_page → (node ≡ Broken rule) ⊎ LacksTwo root
NamesRoot node root Memory = Unit {0}

-- from the root down, each page but the last of its level has at least so many entries
abbrev pub AreFilled : ℕ → (ℕ → Node ℕ Xad) → Type 0
AreFilled least nodes = (depth : ℕ) → IsFilledTo least nodes depth true no_page

-- whatever list the root spelled, it spells the list with the range written
abbrev pub StepsRange : XtForm → ℕ → Image → List Xad → List ℕ → List ℕ → List Drafted → List Drafted → List ℕ → List ℕ → Type 0
StepsRange form blocks image xs root after old new free left =
    (es : List Xad) → StepsTo blocks image es (with_range xs es) (xt_node form blocks root) (xt_node form blocks after) old new free left

-- where the levels of its tree were filled, they are
abbrev pub FillsRange : XtForm → ℕ → Image → List ℕ → List ℕ → List Drafted → List Drafted → List ℕ → Type 0
FillsRange form blocks image root after old new free = (es : List Xad) → spells xt_scale (drafted blocks old image) (xt_node form blocks root) ≡ Ok es → IsSpare xt_scale (drafted blocks old image) (xt_node form blocks root) free
    → (least : ℕ) → least ≤ 127 → AreFilled least (with_root (xt_node form blocks root) (drafted blocks old image)) → AreFilled least (with_root (xt_node form blocks after) (drafted blocks new image))

-- each page that was taken names itself, and each other keeps its frame
abbrev pub FramesRange : XtForm → ℕ → Image → List ℕ → List Drafted → List Drafted → List ℕ → List ℕ → Type 0
FramesRange form blocks image root old new free left = (es : List Xad) → spells xt_scale (drafted blocks old image) (xt_node form blocks root) ≡ Ok es → IsSpare xt_scale (drafted blocks old image) (xt_node form blocks root) free
    → Framed (shown old image) (shown new image) free left

-- and where it spells a list, only a ninth level is refused
abbrev pub RefusesRange : XtForm → ℕ → Image → List ℕ → List Drafted → List ℕ → TreeError → Type 0
RefusesRange form blocks image root old free e = (es : List Xad) → spells xt_scale (drafted blocks old image) (xt_node form blocks root) ≡ Ok es → IsSpare xt_scale (drafted blocks old image) (xt_node form blocks root) free
    → IsNinth (drafted blocks old image) (xt_node form blocks root) root e
