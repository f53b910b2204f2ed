-- Pages that lose an entry or a child.
use Rattle.std.specs.Prelude.{◌≡◌, ◌==◌, ℕ, suc, Bool, true, false, List, [], ◌∷◌, ◌++◌, length, Option, Some, None}
use Rattle.jfs_disk.specs.Image.{Image}
use Rattle.jfs_tree.specs.Walk.{Child, Node, Leaf, Inner, Scale, under}
use Rattle.jfs_tree.specs.Edit.{IsCons, found_in}
use Rattle.jfs_tree.specs.Form.{LeadsDown}
use Rattle.jfs_tree.specs.Draft.{shown}
use Rattle.jfs_tree.specs.Call.{nodes, PutsOne}
use Rattle.jfs_tree.specs.Shrink.{TakenOut, Shrank}
use Rattle.jfs_tree.specs.declared.draft.Drafted.{Drafted}
use Rattle.jfs_tree.specs.declared.removal.Shrunk.{Shrunk}

-- a leaf lost the entry that shares a place with x; where there is none, nothing is lost
abbrev pub TakesRow : {P E : Type 0} → Scale P E → E → Node P E → Node P E → Option E → Type 0
TakesRow {E = E} s x old new None = (es : List E) → old ≡ Leaf es → found_in s x es ≡ None
TakesRow {E = E} s x old new (Some e) = (es : List E) → old ≡ Leaf es → (found_in s x es ≡ Some e) × ((left : List E) × TakenOut e es left × (new ≡ Leaf left))

-- an inner page with a child at this place
abbrev pub HasChildAt : {P E : Type 0} → ℕ → Node P E → Type 0
HasChildAt {P} place node = (front : List (Child P)) × (t : Child P) × (back : List (Child P)) × (node ≡ Inner (front ++ t ∷ back)) × (length front ≡ place)

-- and with others
abbrev pub HasOthers : {P E : Type 0} → ℕ → Node P E → Type 0
HasOthers {P} place node = (front : List (Child P)) × (t : Child P) × (back : List (Child P)) × (node ≡ Inner (front ++ t ∷ back)) × (length front ≡ place) × IsCons (front ++ back)

-- an inner page lost the child at a place; the first child's key isn't looked at
abbrev pub TakesChild : {P E : Type 0} → ℕ → Node P E → Node P E → Type 0
TakesChild {P} place old new = (front : List (Child P)) (t : Child P) (back : List (Child P)) → old ≡ Inner (front ++ t ∷ back) → length front ≡ place
    → (cs : List (Child P)) × (new ≡ Inner cs) × (length cs ≡ length (front ++ back)) × ((key : P) → under key cs ≡ under key (front ++ back))

-- whether a page has one entry, or one child, alone
pub record TellsSingle {P E : Type 0} (node : Node P E) (single : Bool) : Type 0 where
  pub leaf : (es : List E) → node ≡ Leaf es → single ≡ (length es == 1)
  pub inner : (cs : List (Child P)) → node ≡ Inner cs → single ≡ (length cs == 1)

-- A page is kept, with these bytes, or it is free.
abbrev pub Settles : Bool → ℕ → List ℕ → List Drafted → List Drafted → List ℕ → List ℕ → Type 0
Settles true page bytes old new free freed = PutsOne old new page bytes × (freed ≡ free)
Settles false page bytes old new free freed = (new ≡ old) × (freed ≡ free ++ page ∷ [])

-- what became of a leaf that was to lose an entry
abbrev pub LostHere : {P E : Type 0} → (List ℕ → Node P E) → Scale P E → E → List ℕ → ℕ → List Drafted → List Drafted → List ℕ → List ℕ → Option (Shrunk E) → Type 0
LostHere {E = E} node s x bytes page old new free freed None = ((es : List E) → node bytes ≡ Leaf es → found_in s x es ≡ None) × (new ≡ old) × (freed ≡ free)
LostHere {E = E} node s x bytes page old new free freed (Some shrunk) = (image : Image) (es : List E) → bytes ≡ shown old image page → node bytes ≡ Leaf es
    → (found_in s x es ≡ Some shrunk.entry) × (shrunk.levels ≡ 1) × Shrank s shrunk.entry (nodes node old image) (nodes node new image) 1 page shrunk.kept free freed

-- what became of an inner page whose child lost an entry
abbrev pub LostBelow : {P E : Type 0} → (List ℕ → Node P E) → Scale P E → E → List ℕ → ℕ → ℕ → Shrunk E → List Drafted → List Drafted → List ℕ → List ℕ → Shrunk E → Type 0
LostBelow {P} {E} node s x bytes page place shrunk old new between freed more = (image : Image) (before : ℕ → Node P E) (lower child : ℕ) (free : List ℕ)
    → before page ≡ node bytes → LeadsDown s x (node bytes) place child → Shrank s shrunk.entry before (nodes node old image) (suc lower) child shrunk.kept free between
    → Shrank s shrunk.entry before (nodes node new image) (suc (suc lower)) page more.kept free freed

-- the entry that was taken out, if one was
abbrev pub entry_of : {E : Type 0} → Option (Shrunk E) → Option E
entry_of None = None
entry_of (Some shrunk) = Some shrunk.entry

-- whether the page is kept
abbrev pub kept_in : {E : Type 0} → Option (Shrunk E) → Bool
kept_in None = true
kept_in (Some shrunk) = shrunk.kept
