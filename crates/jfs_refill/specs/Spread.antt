-- What the pages show that have a list, in the words of trees.
use Rattle.std.specs.Prelude.{◌≡◌, ◌≤◌, ◌<◌, ◌+◌, ℕ, suc, List, ◌∷◌, map, length, Option}
use Rattle.std.specs.List.{flat_map}
use Rattle.jfs_bits.specs.declared.extent.Xad.{Xad}
use Rattle.jfs_disk.specs.Image.{Image}
use Rattle.jfs_tree.specs.Walk.{Child, Node, Leaf, Inner, Page, Key, Row, Marks, Rises, rows_of, times, under, walk}
use Rattle.jfs_tree.specs.Edit.{FitsFirst, count_in}
use Rattle.jfs_tree.specs.Form.{children_of}
use Rattle.jfs_tree.specs.Call.{nodes}
use Rattle.jfs_tree.specs.declared.draft.Drafted.{Drafted}
use Rattle.jfs_tree.specs.declared.form.Sibling.{Sibling}
use Rattle.jfs_xtpage.specs.declared.head.XtForm.TheVariants.{Full}
use Rattle.jfs_xtree.specs.Node.{xt_scale, xt_node, child_of}
use Rattle.jfs_refill.specs.Refilled.{IsList}

-- Marks with the entries of others, which rise where those do. The pages that they have more are the free ones that aren't left.
pub record Spreads (low : ℕ) (whole marks : Marks ℕ Xad) (high : Option ℕ) (free left : List ℕ) : Type 0 where
  pub rows : rows_of marks ≡ rows_of whole
  pub rises : Rises xt_scale low marks high
  pub pages : (n : ℕ) → times n marks + count_in n left ≡ times n whole + count_in n free

-- what page n would show, were it a leaf with the whole list, or an inner page with it above so many levels
abbrev pub leaf_shown : ℕ → ℕ → List Xad → Marks ℕ Xad
leaf_shown n key list = Key n key ∷ Page n ∷ map (Row n) list

abbrev pub inner_shown : (ℕ → Node ℕ Xad) → ℕ → ℕ → ℕ → List Xad → Marks ℕ Xad
inner_shown pages below n key list = Key n key ∷ Page n ∷ flat_map (walk xt_scale pages below) (under key (map child_of list))

-- what page n shows, and the page behind it where there is one, above so many levels
abbrev pub both_shown : (ℕ → Node ℕ Xad) → ℕ → ℕ → ℕ → Option (Sibling ℕ) → Marks ℕ Xad
both_shown pages levels n key more = flat_map (walk xt_scale pages levels) (record { key = key; page = n } ∷ children_of more)

-- A leaf got a list that fits the leaf's key, and rises behind it up to an end: the leaf and the page behind it show the list.
abbrev pub LeafSpreads : ℕ → List Xad → List ℕ → ℕ → List Drafted → List Drafted → List ℕ → List ℕ → Option (Sibling ℕ) → Type 0
LeafSpreads blocks list bytes n old new free left more = (image : Image) (es : List Xad) (key low : ℕ) (high : Option ℕ) → xt_node Full blocks bytes ≡ Leaf es → IsList blocks list → FitsFirst xt_scale key list
    → Rises xt_scale low (leaf_shown n key list) high → count_in n free ≡ 0
    → Spreads low (leaf_shown n key list) (both_shown (nodes (xt_node Full blocks) new image) 1 n key more) high free left

-- An inner page got a list of children, below which all rises, and no page stands twice: the page and the one behind it show the same as one page with all children.
abbrev pub InnerSpreads : ℕ → List Xad → List ℕ → ℕ → List Drafted → List Drafted → List ℕ → List ℕ → Option (Sibling ℕ) → Type 0
InnerSpreads blocks list bytes n old new free left more = (image : Image) (cs : List (Child ℕ)) (lower key low : ℕ) (high : Option ℕ) → xt_node Full blocks bytes ≡ Inner cs → IsList blocks list → 0 < length list
    → Rises xt_scale low (inner_shown (nodes (xt_node Full blocks) old image) (suc lower) n key list) high
    → ((m : ℕ) → times m (inner_shown (nodes (xt_node Full blocks) old image) (suc lower) n key list) + count_in m free ≤ 1)
    → Spreads low (inner_shown (nodes (xt_node Full blocks) old image) (suc lower) n key list) (both_shown (nodes (xt_node Full blocks) new image) (suc (suc lower)) n key more) high free left
