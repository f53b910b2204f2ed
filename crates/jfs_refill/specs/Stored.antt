-- A list of entries that goes to a page of a draft, or to two.
use Rattle.std.specs.Prelude.{◌≡◌, ◌<◌, ◌≤◌, ◌/◌, ◌+◌, ℕ, Bool, if◌then◌else◌, List, [], ◌∷◌, ◌++◌, map, length, Option, Some, None}
use Rattle.jfs_bits.specs.declared.extent.Xad.{Xad}
use Rattle.jfs_tree.specs.Walk.{Child, Leaf, Inner}
use Rattle.jfs_tree.specs.Filled.{FillsBoth}
use Rattle.jfs_tree.specs.Form.{SplitsRows, SplitsChildren}
use Rattle.jfs_tree.specs.Call.{PutsOne, PutsTwo}
use Rattle.jfs_tree.specs.declared.draft.Drafted.{Drafted}
use Rattle.jfs_tree.specs.declared.form.Sibling.{Sibling}
use Rattle.jfs_xtpage.specs.declared.head.XtForm.TheVariants.{Full}
use Rattle.jfs_xtpage.specs.Page.{head_of, entries_of, new_flag}
use Rattle.jfs_xtree.specs.Node.{xt_scale, xt_node, is_leaf, child_of, AreNeighbours, BeginsAt, SameKind}
use Rattle.jfs_refill.specs.Refilled.{IsList, Relisted}

-- How many entries of a list that is too long for a page the first of two pages gets: as many as fit, where it is to be full, or half, rounded down.
abbrev pub border : Bool → ℕ → ℕ
border full count = if full then 254 else count / 2

-- What two pages read as that have a page's new list in two parts: a leaf's extents, or an inner page's children. Each has at least 127 of them, but for the second one where the first is full.
pub record Parted (blocks : ℕ) (full : Bool) (list : List Xad) (old first second : List ℕ) (key : ℕ) : Type 0 where
  pub leaf : (es : List Xad) → xt_node Full blocks old ≡ Leaf es
      → SplitsRows xt_scale list (xt_node Full blocks first) (xt_node Full blocks second) key × FillsBoth 127 full (xt_node Full blocks first) (xt_node Full blocks second)
  pub inner : (cs : List (Child ℕ)) → xt_node Full blocks old ≡ Inner cs
      → SplitsChildren (map child_of list) (xt_node Full blocks first) (xt_node Full blocks second) key × FillsBoth 127 full (xt_node Full blocks first) (xt_node Full blocks second)

-- Page n has the list up to a border now, and page q, which stands behind it, the rest, whose first offset is the key. Page q is new, and of page n's kind.
pub record Divided (list : List Xad) (full : Bool) (n q key : ℕ) (old first second : List ℕ) : Type 0 where
  pub all : list ≡ entries_of first ++ entries_of second
  pub parted : length (entries_of first) ≡ border full (length list)
  pub begins : BeginsAt key (entries_of second)
  pub kind : SameKind (head_of old) (head_of first) × ((head_of first).at ≡ (head_of old).at)
  pub fresh : ((head_of second).flag ≡ new_flag Full (is_leaf (head_of old).flag)) × ((head_of second).maxentry ≡ 256) × ((head_of second).at ≡ record { len = 1; addr = q })
  pub links : AreNeighbours n q (head_of old) (head_of first) (head_of second)
  pub reads : (blocks : ℕ) → IsList blocks list → Parted blocks full list old first second key

-- page n of a draft has the list now
pub record Refills (list : List Xad) (bytes : List ℕ) (n : ℕ) (old new : List Drafted) : Type 0 where
  pub page : List ℕ
  pub puts : PutsOne old new n page
  pub entries : entries_of page ≡ list
  pub head : head_of page ≡ record (head_of bytes) { nextindex = length list + 2 }
  pub reads : (blocks : ℕ) → IsList blocks list → Relisted Full blocks list bytes page

-- page n and page q of a draft have the list now
pub record Splits (list : List Xad) (full : Bool) (bytes : List ℕ) (n q key : ℕ) (old new : List Drafted) : Type 0 where
  pub first : List ℕ
  pub second : List ℕ
  pub puts : PutsTwo old new n first q second
  pub divided : Divided list full n q key bytes first second

-- A list that fits page n went there; of a longer one the part behind the border went to the last of the free pages, which is taken.
abbrev pub Stored : List Xad → Bool → List ℕ → ℕ → List Drafted → List Drafted → List ℕ → List ℕ → Option (Sibling ℕ) → Type 0
Stored list full bytes n old new free left None = (length list ≤ 254) × (left ≡ free) × Refills list bytes n old new
Stored list full bytes n old new free left (Some s) = (254 < length list) × (free ≡ left ++ s.page ∷ []) × Splits list full bytes n s.page s.key old new
