-- Where pages have no room for an entry that is added. Only there a page gets another one beside it, and a root moves down.
use Rattle.std.specs.Prelude.{◌≡◌, ◌⊎◌, ℕ, zero, suc, ◌+◌, List, [], ◌∷◌, length, Option, Some, None, Result, Ok, Err}
use Rattle.jfs_disk.specs.Image.{Image}
use Rattle.jfs_tree.specs.Walk.{Child, Node, Inner, Scale}
use Rattle.jfs_tree.specs.Spells.{no_page, with_root, levels_of, spells}
use Rattle.jfs_tree.specs.Edit.{IsApart, KeysRise}
use Rattle.jfs_tree.specs.Form.{LeadsDown, IsLeaf, AtPlace, HasChildren, as_child}
use Rattle.jfs_tree.specs.Draft.{shown}
use Rattle.jfs_tree.specs.Root.{IsSpare}
use Rattle.jfs_tree.specs.declared.draft.Drafted.{Drafted}
use Rattle.jfs_tree.specs.declared.form.Sibling.{Sibling}
use Rattle.jfs_tree.specs.declared.form.TreeError.{TreeError}
use Rattle.jfs_tree.specs.declared.form.TreeError.TheVariants.{View, Bad, Memory}

-- what holds of the bytes that a call reads as a page
abbrev pub at_page : (List ℕ → Type 0) → List Drafted → Image → ℕ → Type 0
at_page holds drafts image n = holds (shown drafts image n)

-- No page has room on the entry's way down from this one, so many levels: the leaf lacks room for the entry, and each page is full.
abbrev pub FullDown : {P E : Type 0} → Scale P E → E → (ℕ → Node P E) → (ℕ → Type 0) → (ℕ → Type 0) → ℕ → ℕ → Type 0
FullDown s x nodes full lacks zero page = ⊥
FullDown s x nodes full lacks (suc zero) page = IsLeaf (nodes page) × full page × lacks page
FullDown s x nodes full lacks (suc (suc lower)) page = full page × ((place : ℕ) × (child : ℕ) × LeadsDown s x (nodes page) place child × FullDown s x nodes full lacks (suc lower) child)

-- so many pages at the lower end of the way have no room
abbrev pub FullUp : {P E : Type 0} → Scale P E → E → (ℕ → Node P E) → (ℕ → Type 0) → (ℕ → Type 0) → ℕ → ℕ → ℕ → Type 0
FullUp s x nodes full lacks zero page count = count ≡ 0
FullUp s x nodes full lacks (suc lower) page count = (count ≡ 0) ⊎ (((count ≡ suc lower) × FullDown s x nodes full lacks (suc lower) page)
    ⊎ ((place : ℕ) × (child : ℕ) × LeadsDown s x (nodes page) place child × FullUp s x nodes full lacks lower child count))

-- The pages that a call below a page takes: one beside each page at the lower end of the way that has no room. The page itself gets one where no page on the way has room.
abbrev pub GrowsWhereFull : {P E : Type 0} → Scale P E → E → (ℕ → Node P E) → (ℕ → Type 0) → (ℕ → Type 0) → ℕ → ℕ → Option (Sibling P) → List ℕ → List ℕ → Type 0
GrowsWhereFull s x nodes full lacks levels page (Some sibling) free left = FullDown s x nodes full lacks levels page × (length free ≡ length left + levels)
GrowsWhereFull s x nodes full lacks levels page None free left = (taken : ℕ) × FullUp s x nodes full lacks levels page taken × (length free ≡ length left + taken)

-- no page has room on the entry's way down from the root, nor has the root
abbrev pub FullFrom : {P E : Type 0} → Scale P E → E → (ℕ → Node P E) → (ℕ → Type 0) → (ℕ → Type 0) → Node P E → Type 0 → (P → Type 0) → Type 0
FullFrom {P} s x nodes full lacks root no_room no_place = (IsLeaf root × no_room)
    ⊎ ((place : ℕ) × (child : ℕ) × (levels : ℕ) × (key : P) × LeadsDown s x root place child × FullDown s x nodes full lacks levels child × no_place key)

-- The pages that a call on a root takes: one beside each page at the lower end of the way that has no room, and one for a root that moves down, where no page on the way has room.
abbrev pub TakesWhereFull : {P E : Type 0} → Scale P E → E → (ℕ → Node P E) → (ℕ → Type 0) → (ℕ → Type 0) → Node P E → Type 0 → (P → Type 0) → List ℕ → List ℕ → Type 0
TakesWhereFull {P} s x nodes full lacks root no_room no_place free left = (length free ≡ length left)
    ⊎ ((IsLeaf root × no_room × (length free ≡ length left + 1))
    ⊎ ((place : ℕ) × (child : ℕ) × (levels : ℕ) × LeadsDown s x root place child
    × (((taken : ℕ) × FullUp s x nodes full lacks levels child taken × (length free ≡ length left + taken))
    ⊎ (FullDown s x nodes full lacks levels child × ((key : P) × no_place key) × (length free ≡ length left + suc levels)))))

-- A root that is an inner page moved to a page, which is its only child now. It has one child more there, behind the one at a place, and the root had no place for that child's key.
pub record MovesForKey {P E : Type 0} (s : Scale P E) (place : ℕ) (root after : Node P E) (new : ℕ → Node P E) (no_place : P → Type 0) : Type 0 where
  pub page : ℕ
  pub child : Child P
  pub all : List (Child P)
  pub only : after ≡ Inner (record { key = s.least; page = page } ∷ [])
  pub takes : AtPlace root place child all
  pub has : HasChildren (new page) all
  pub none : no_place child.key

-- One level more: a root that is a leaf has no room for the entry; or no page has room on the entry's way down from the root, and the root moved for a child's key.
abbrev pub GrowsLevel : {P E : Type 0} → Scale P E → E → (ℕ → Node P E) → (ℕ → Type 0) → (ℕ → Type 0) → Node P E → Type 0 → (P → Type 0) → Node P E → (ℕ → Node P E) → Type 0
GrowsLevel s x old full lacks root no_room no_place after new = (IsLeaf root × no_room)
    ⊎ ((place : ℕ) × (child : ℕ) × (levels : ℕ) × LeadsDown s x root place child × FullDown s x old full lacks levels child × MovesForKey s place root after new no_place)

-- Whatever list the root spells, if the entry is apart from it and the free pages aren't in the tree: the tree has as many levels as before, or it had to get one
-- more; and it is refused only where it would have to.
abbrev pub LevelsWhereFull : {P E : Type 0} → Scale P E → E → (ℕ → Node P E) → (ℕ → Node P E) → Node P E → Node P E → List ℕ → Type 0 → Type 0 → Result (Unit {0}) TreeError → Type 0
LevelsWhereFull {E = E} s x old new root after free grows full (Ok it) = (es : List E) → spells s old root ≡ Ok es → IsApart s x es → IsSpare s old root free
    → (levels_of (with_root after new) 8 no_page ≡ levels_of (with_root root old) 8 no_page) ⊎ grows
LevelsWhereFull {E = E} s x old new root after free grows full (Err (Bad bad rule)) = (es : List E) → spells s old root ≡ Ok es → IsApart s x es → IsSpare s old root free → full
LevelsWhereFull s x old new root after free grows full (Err (View e)) = Unit {0}
LevelsWhereFull s x old new root after free grows full (Err Memory) = Unit {0}

-- ---- parts of a call, for the prover alone

-- one page is taken where there is no room, else none
abbrev pub TakesOne : {P : Type 0} → Type 0 → Option (Sibling P) → List ℕ → List ℕ → Type 0
TakesOne full (Some sibling) free left = full × (length free ≡ length left + 1)
TakesOne full None free left = left ≡ free

-- and none where the child didn't get one
abbrev pub TakesMore : {P : Type 0} → Type 0 → Option (Sibling P) → Option (Sibling P) → List ℕ → List ℕ → Type 0
TakesMore full (Some child) more free left = TakesOne full more free left
TakesMore full None more free left = (more ≡ None) × (left ≡ free)

-- a root stays, or moves to a new page where it has no room
abbrev pub RootRoom : Type 0 → List ℕ → List ℕ → Type 0
RootRoom full free left = (left ≡ free) ⊎ (full × (length free ≡ length left + 1))

abbrev pub RootChildRoom : {P E : Type 0} → Scale P E → Type 0 → ℕ → Sibling P → Node P E → List ℕ → List ℕ → Result (Unit {0}) TreeError → Type 0
RootChildRoom s full place child root free left (Ok it) = RootRoom full free left
RootChildRoom {P} s full place child root free left (Err (Bad bad rule)) = (all : List (Child P)) → AtPlace root place (as_child child) all → KeysRise s all → full
RootChildRoom s full place child root free left (Err (View e)) = ⊥
RootChildRoom s full place child root free left (Err Memory) = Unit {0}

abbrev pub RootGrownRoom : {P E : Type 0} → Scale P E → (P → Type 0) → ℕ → Option (Sibling P) → Node P E → List ℕ → List ℕ → Result (Unit {0}) TreeError → Type 0
RootGrownRoom s no_place place (Some child) root free left result = RootChildRoom s (no_place child.key) place child root free left result
RootGrownRoom s no_place place None root free left (Ok it) = left ≡ free
RootGrownRoom s no_place place None root free left (Err e) = ⊥
