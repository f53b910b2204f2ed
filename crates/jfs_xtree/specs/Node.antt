-- What a page of an extent tree reads as. (JFS Layout, xtree.)
use Rattle.std.specs.Prelude.{◌≡◌, ℕ, suc, ◌+◌, ◌<◌, ◌≤◌, ◌==◌, ◌%◌, Bool, true, false, ◌&&◌, ◌||◌, nat_le, if◌then◌else◌, List, [], ◌∷◌, ◌++◌, take, drop, map}
use Rattle.jfs_bits.specs.declared.extent.Xad.{Xad}
use Rattle.jfs_bits.specs.declared.rule.Rule.TheVariants as rules
use Rattle.jfs_bits.specs.Extent.{FitsXad}
use Rattle.jfs_xtpage.specs.declared.head.XtForm.{XtForm}
use Rattle.jfs_xtpage.specs.declared.head.XtForm.TheVariants.{Root, Full, Small}
use Rattle.jfs_xtpage.specs.declared.head.XtHead.{XtHead}
use Rattle.jfs_xtpage.specs.Page.{behind_slots, head_of, entries_of, entry_of, count_of, end_of, rises_from}
use Rattle.jfs_tree.specs.Walk.{Child, Node, Leaf, Inner, Broken, Scale}

-- An extent takes the blocks of its file from its offset on, up to its end. A key is the offset of the first entry below it; on the leftmost way it is 0.
abbrev pub xt_scale : Scale ℕ Xad
xt_scale = record {
  le = nat_le;
  least = 0;
  from = λ x. x.offset;
  to = end_of;
  fits = λ key x. key == 0 || key == x.offset;
}

-- the low three bits of a root's flag are 3 or 5, of a page's 2 or 4
abbrev pub fits_flag : XtForm → ℕ → Bool
fits_flag Root flag = flag % 8 == 3 || flag % 8 == 5
fits_flag Full flag = flag % 8 == 2 || flag % 8 == 4
fits_flag Small flag = flag % 8 == 3 || flag % 8 == 5

abbrev pub is_leaf : ℕ → Bool
is_leaf flag = flag % 8 == 2 || flag % 8 == 3

abbrev pub fits_max : XtForm → ℕ → Bool
fits_max Root most = most == 10 || most == 18
fits_max Full most = most == 256
fits_max Small most = most == 6

abbrev pub fits_count : XtHead → Bool
fits_count head = nat_le 2 head.nextindex && nat_le head.nextindex head.maxentry

-- an extent with a length, within the blocks of the file system part
abbrev pub is_within : ℕ → Xad → Bool
is_within blocks x = nat_le 1 x.at.len && nat_le (x.at.addr + x.at.len) blocks

abbrev pub all_within : ℕ → List Xad → Bool
all_within blocks [] = true
all_within blocks (x ∷ xs) = is_within blocks x && all_within blocks xs

-- an inner page's entry names the first block of its run, which is a page
abbrev pub child_of : Xad → Child ℕ
child_of x = record { key = x.offset; page = x.at.addr }

-- an inner page isn't empty
abbrev pub by_kind : Bool → List Xad → Node ℕ Xad
by_kind true xs = Leaf xs
by_kind false [] = Broken rules.Deep
by_kind false (x ∷ xs) = Inner (map child_of (x ∷ xs))

-- The rules in their order: flag, greatest count, count, order, range, and that an inner page isn't empty.
abbrev pub node_of : XtForm → ℕ → XtHead → List Xad → Node ℕ Xad
node_of form blocks head xs =
    if fits_flag form head.flag then (
    if fits_max form head.maxentry then (
    if fits_count head then (
    if rises_from 0 xs then (
    if all_within blocks xs then by_kind (is_leaf head.flag) xs
    else Broken rules.Range)
    else Broken rules.Order)
    else Broken rules.Count)
    else Broken rules.Max)
    else Broken rules.Flag

-- the page, in its form, on a volume whose file system part has so many blocks
unfoldable pub xt_node : XtForm → ℕ → List ℕ → Node ℕ Xad
xt_node form blocks bytes = node_of form blocks (head_of bytes) (entries_of bytes)

-- ---- what a page can take

-- an extent that has a place in an entry and lies within the blocks
pub record IsGood (blocks : ℕ) (x : Xad) : Type 0 where
  pub fits : FitsXad x
  pub some : 1 ≤ x.at.len
  pub within : x.at.addr + x.at.len ≤ blocks

-- no slot is left
pub record HasNoRoom (form : XtForm) (bytes : List ℕ) : Type 0 where
  pub flag : fits_flag form (head_of bytes).flag ≡ true
  pub max : fits_max form (head_of bytes).maxentry ≡ true
  pub all : (head_of bytes).nextindex ≡ (head_of bytes).maxentry

-- a root, which takes fewer entries than a page
abbrev pub IsRoot : XtForm → Type 0
IsRoot Root = Unit {0}
IsRoot Full = ⊥
IsRoot Small = Unit {0}

-- ---- what stays while extents come and go: the frame of a page

-- the number of slots and the page's own descriptor; and of a root, which has no neighbours, its links and what stands behind its slots
abbrev pub page_frame : XtHead → List ℕ
page_frame head = head.maxentry ∷ head.at.len ∷ head.at.addr ∷ []

abbrev pub root_frame : XtHead → List ℕ → List ℕ
root_frame head behind = head.next ∷ head.prev ∷ head.maxentry ∷ head.at.len ∷ head.at.addr ∷ behind

abbrev pub frame_of : XtForm → List ℕ → List ℕ
frame_of Root bytes = root_frame (head_of bytes) (behind_slots bytes)
frame_of Full bytes = page_frame (head_of bytes)
frame_of Small bytes = root_frame (head_of bytes) (behind_slots bytes)

-- a new page names itself: its own descriptor is one block at its own number
abbrev pub new_frame : ℕ → List ℕ
new_frame n = 256 ∷ 1 ∷ n ∷ []

-- Of a root everything stays but its kind, its count and its entries.
abbrev pub KeepsFrame : List ℕ → List ℕ → Type 0
KeepsFrame old new = root_frame (head_of new) (behind_slots new) ≡ root_frame (head_of old) (behind_slots old)

-- ---- for the prover alone

-- no rule is broken, but that an inner page may be empty
pub record IsSound (form : XtForm) (blocks : ℕ) (head : XtHead) (xs : List Xad) : Type 0 where
  pub flag : fits_flag form head.flag ≡ true
  pub max : fits_max form head.maxentry ≡ true
  pub count : fits_count head ≡ true
  pub order : rises_from 0 xs ≡ true
  pub range : all_within blocks xs ≡ true

-- a page of the same kind and size
pub record SameKind (old new : XtHead) : Type 0 where
  pub flag : new.flag ≡ old.flag
  pub max : new.maxentry ≡ old.maxentry
  pub least : 2 ≤ new.nextindex
  pub most : new.nextindex ≤ new.maxentry

-- Page q, which is new, stands behind page n and before the page that was behind it.
abbrev pub AreNeighbours : ℕ → ℕ → XtHead → XtHead → XtHead → Type 0
AreNeighbours n q old left right = (left.next ≡ q) × (left.prev ≡ old.prev) × (right.next ≡ old.next) × (right.prev ≡ n)

-- one more extent at a place
abbrev pub with_at : List Xad → ℕ → Xad → List Xad
with_at xs i x = take i xs ++ x ∷ drop i xs

-- the first extent begins here
abbrev pub BeginsAt : ℕ → List Xad → Type 0
BeginsAt key [] = ⊥
BeginsAt key (x ∷ xs) = key ≡ x.offset

-- an entry that names a page
abbrev pub child_entry : ℕ → ℕ → Xad
child_entry key page = record { flag = 0; offset = key; at = record { len = 1; addr = page } }

-- Before a place, all entries begin at or before the offset; from it on, past it.
pub record IsPlace (bytes : List ℕ) (offset place : ℕ) : Type 0 where
  pub most : place ≤ count_of bytes
  pub before : (j : ℕ) → j < place → (entry_of bytes j).offset ≤ offset
  pub behind : (j : ℕ) → place ≤ j → j < count_of bytes → offset < (entry_of bytes j).offset

-- the extent goes between its neighbours at a place
pub record GoesBetween (bytes : List ℕ) (place : ℕ) (x : Xad) : Type 0 where
  pub before : (j : ℕ) → suc j ≡ place → end_of (entry_of bytes j) ≤ x.offset
  pub behind : place < count_of bytes → end_of x ≤ (entry_of bytes place).offset

-- the place of the last child that doesn't begin past the offset, or of the first one
pub record LeadsAt (bytes : List ℕ) (offset place : ℕ) : Type 0 where
  pub within : place < count_of bytes
  pub above : 0 < place → (entry_of bytes place).offset ≤ offset
  pub past : (j : ℕ) → place < j → j < count_of bytes → offset < (entry_of bytes j).offset

-- a key goes behind the child at a place
pub record TakesChild (bytes : List ℕ) (place key : ℕ) : Type 0 where
  pub within : place < count_of bytes
  pub some : 0 < key
  pub above : 0 < place → (entry_of bytes place).offset < key
  pub below : place + 1 < count_of bytes → key < (entry_of bytes (place + 1)).offset

-- an entry of an inner page before a key: it ends at or before it, where the key of the page's first one is 0
abbrev pub lowered : Bool → ℕ → Xad → Xad
lowered first key x = if nat_le (end_of x) key then x else record { flag = x.flag; offset = if first then 0 else x.offset; at = record { len = 1; addr = x.at.addr } }
