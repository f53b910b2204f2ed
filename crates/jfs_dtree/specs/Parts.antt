-- What a split leaves of a page. (JFS Layout, dtree: a key of a leaf is a front of a name.)
use Rattle.std.specs.Prelude.{◌≡◌, ◌⊎◌, ◌<◌, ◌≤◌, ◌+◌, ◌-◌, ◌==◌, ◌&&◌, if◌then◌else◌, ℕ, Bool, true, false, List, [], ◌∷◌, ◌++◌, map}
use Rattle.std.specs.Ordering.{is_lt, nat_cmp}
use Rattle.std.specs.Cmp.Lexicographic.{slice_cmp}
use Rattle.jfs_name.specs.declared.name.NameEntry.{NameEntry}
use Rattle.jfs_dtpage.specs.declared.head.DtForm.TheVariants.{Full}
use Rattle.jfs_dtpage.specs.declared.head.Place.{Place}
use Rattle.jfs_dtpage.specs.declared.head.Place.TheVariants.{InInode, OnVolume}
use Rattle.jfs_tree.specs.Walk.{Child}
use Rattle.jfs_dtpage.specs.Form.{head_of, is_leaf, count_of, free_of, linked, KeepsHead}
use Rattle.jfs_dtpage.specs.Order.{name_at, GoesAt}
use Rattle.jfs_dtpage.specs.Page.{Entry, Named, Below, name_in, entries_of, names_of, IsDtPage}
use Rattle.jfs_dtpage.specs.Fill.{slots_of_entry, slots_in}

-- with the next entry these take more than 70 slots
abbrev pub TakesTooMuch : List Entry → List Entry → Type 0
TakesTooMuch left [] = ⊥
TakesTooMuch left (next ∷ more) = 70 < slots_in left + slots_of_entry next

-- The left page keeps the longest front that takes 70 slots at most, and something is left for the right one.
abbrev pub IsLongestFront : List Entry → List Entry → Type 0
IsLongestFront left right = (slots_in left ≤ 70) × TakesTooMuch left right

-- An entry that is to stand alone does so on the right page; else the left page keeps the longest front.
abbrev pub IsParted : Bool → List Entry → Entry → List Entry → List Entry → Type 0
IsParted true old e left right = (left ≡ old) × (right ≡ e ∷ [])
IsParted false old e left right = IsLongestFront left right

-- the neighbours that a place names
abbrev pub next_in : Place → ℕ
next_in (InInode parent) = 0
next_in (OnVolume next prev maxslot stblindex at) = next

abbrev pub prev_in : Place → ℕ
prev_in (InInode parent) = 0
prev_in (OnVolume next prev maxslot stblindex at) = prev

-- Page q, which is new, stands behind page n and before the page that was behind it.
pub record AreNeighbours (n q : ℕ) (old left right : List ℕ) : Type 0 where
  pub left_is : (head_of Full left).place ≡ linked q (prev_in (head_of Full old).place) (head_of Full old).place
  pub right_is : (head_of Full right).place ≡ OnVolume (next_in (head_of Full old).place) n 128 1 (record { len = 1; addr = q })

-- The key of a right leaf: its first name, cut after the first unit in which it differs from the left leaf's last one, or whole where that one is a front of it.
abbrev pub cut_key : List ℕ → List ℕ → List ℕ
cut_key before [] = []
cut_key [] (unit ∷ units) = unit ∷ units
cut_key (other ∷ before) (unit ∷ units) = if other == unit then unit ∷ cut_key before units else unit ∷ []

-- A name joins a leaf that becomes two: the entries in two parts, the pages beside each other, and the key.
pub record SplitsLeaf (n q : ℕ) (last : Bool) (x : NameEntry) (old left right : List ℕ) (key : List ℕ) : Type 0 where
  pub place : ℕ
  pub goes : GoesAt (names_of Full old) place x.name
  pub parted : IsParted (last && place == count_of old) (entries_of Full old) (Named x.inode x.name) (entries_of Full left) (entries_of Full right)
  pub neighbours : AreNeighbours n q old left right
  pub key_is : key ≡ cut_key (name_at (names_of Full left) (count_of left - 1)) (name_at (names_of Full right) 0)

-- the first entry's key is empty, where it isn't lower than a key
abbrev pub emptied : Entry → Entry
emptied (Named inode name) = Named inode []
emptied (Below at key) = Below at []

abbrev pub lowered : List ℕ → List Entry → List Entry
lowered key [] = []
lowered key (e ∷ es) = (if is_lt (slice_cmp nat_cmp (name_in e) key) then e else emptied e) ∷ es

-- A child joins an inner page that becomes two, and its key is the first one of the right page, whole: a cut one would stand before names of the left page.
pub record SplitsInner (n q : ℕ) (last : Bool) (child : Child (List ℕ)) (old left right : List ℕ) (key : List ℕ) : Type 0 where
  pub place : ℕ
  pub goes : GoesAt (map name_in (lowered child.key (entries_of Full old))) place child.key
  pub parted : IsParted (last && place == count_of old) (lowered child.key (entries_of Full old)) (Below (record { len = 1; addr = child.page }) child.key) (entries_of Full left) (entries_of Full right)
  pub neighbours : AreNeighbours n q old left right
  pub key_is : key ≡ name_at (names_of Full right) 0

-- ---- for the prover alone

-- two pages of one kind with these entries in order
pub record ArePages (all : List Entry) (left right : List ℕ) : Type 0 where
  pub left_sound : IsDtPage Full left
  pub right_sound : IsDtPage Full right
  pub kind : is_leaf right ≡ is_leaf left
  pub rows : entries_of Full left ++ entries_of Full right ≡ all

-- the last entry of one list is the first of the other
pub record MovesLast (old_left old_right left right : List Entry) : Type 0 where
  pub last : Entry
  pub was : old_left ≡ left ++ last ∷ []
  pub now : right ≡ last ∷ old_right
  pub small : slots_of_entry last ≤ 18

-- what moves of last entries leave, while the left page takes more than 70 slots
pub record Sheds (old_left old_right left right : List ℕ) : Type 0 where
  pub pages : ArePages (entries_of Full old_left ++ entries_of Full old_right) left right
  pub head_left : KeepsHead Full old_left left
  pub head_right : KeepsHead Full old_right right
  pub few : free_of left ≤ 70
  pub next : ((entries_of Full left ≡ entries_of Full old_left) × (entries_of Full right ≡ entries_of Full old_right)) ⊎ TakesTooMuch (entries_of Full left) (entries_of Full right)
