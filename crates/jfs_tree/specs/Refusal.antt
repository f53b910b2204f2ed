-- Why an entry is refused: what the pages on its way hold doesn't go together with it, or the tree can't get deeper.
use Rattle.std.specs.Prelude.{◌≡◌, ◌⊎◌, ◌≤◌, false, ℕ, zero, suc, List, [], ◌∷◌, ◌++◌, map, Option, Some, None, Result, Ok, Err, IfSome, ⊤}
use Rattle.jfs_bits.specs.declared.rule.Rule.{Rule}
use Rattle.jfs_bits.specs.declared.rule.Rule.TheVariants as rules
use Rattle.jfs_tree.specs.Walk.{Child, Node, Leaf, Inner, Broken, Row, Scale, Rises}
use Rattle.jfs_tree.specs.Spells.{no_page}
use Rattle.jfs_tree.specs.Edit.{IsApart, IsCons, KeysRise, PartsRows, own, with_entry}
use Rattle.jfs_tree.specs.Form.{LeadsDown, AtPlace, as_child}
use Rattle.jfs_tree.specs.Path.{way_of}
use Rattle.jfs_tree.specs.Room.{FullDown}
use Rattle.jfs_tree.specs.declared.form.Sibling.{Sibling}
use Rattle.jfs_tree.specs.declared.grow.Grown.{Grown}
use Rattle.jfs_tree.specs.declared.form.TreeError.{TreeError}
use Rattle.jfs_tree.specs.declared.form.TreeError.TheVariants.{View, Bad, Memory}

-- ---- what fits in the place that the pages above give

-- A page's place for a child is between the child's key and the next child's: a leaf's entries go from the one on up to the other, an inner page's keys are strictly between the two. The first child's key isn't looked at, and after the last one there is no end.
abbrev pub begin_of : {P E : Type 0} → Scale P E → List (Child P) → Child P → P
begin_of s front child = (own s.least front child).key

abbrev pub end_of : {P : Type 0} → List (Child P) → Option P
end_of [] = None
end_of (next ∷ back) = Some next.key

-- a key stands in a place, neither at its begin nor at its end
abbrev pub IsBetween : {P E : Type 0} → Scale P E → P → Option P → P → Type 0
IsBetween s low None key = s.le key low ≡ false
IsBetween s low (Some high) key = (s.le key low ≡ false) × (s.le high key ≡ false)

abbrev pub AllBetween : {P E : Type 0} → Scale P E → P → Option P → List (Child P) → Type 0
AllBetween s low high [] = ⊤
AllBetween s low high (c ∷ cs) = IsBetween s low high c.key × AllBetween s low high cs

-- What a page holds fits in a place: a leaf's entries rise from the begin up to the end, the new one among them; the keys of an inner page, but for the first one's, stand in it.
abbrev pub FitsIn : {P E : Type 0} → Scale P E → E → P → Option P → Node P E → Type 0
FitsIn s x low high (Leaf es) = Rises s low (map (Row no_page) (with_entry s x es)) high
FitsIn s x low high (Inner []) = ⊤
FitsIn s x low high (Inner (c ∷ cs)) = AllBetween s low high cs
FitsIn s x low high (Broken rule) = ⊤

abbrev pub FitsOnward : (ℕ → Type 0) → Option ℕ → Type 0
FitsOnward fits None = ⊤
FitsOnward fits (Some page) = fits page

-- so does each page on the entry's way from this one on, so many levels
abbrev pub FitsDown : {P E : Type 0} → Scale P E → (ℕ → Node P E) → E → P → Option P → ℕ → ℕ → Type 0
FitsDown s nodes x low high zero page = ⊤
FitsDown s nodes x low high (suc most) page = FitsIn s x low high (nodes page) × FitsOnward (FitsDown s nodes x low high most) (way_of s (s.from x) (nodes page))

-- ---- where the entry clashes with what is stored

-- An inner page leads the entry to a child, no page on the way from there on has room, and what they hold doesn't fit in the child's place. (So the page would have to take one more child, whose key isn't in that place.)
pub record Misfits {P E : Type 0} (s : Scale P E) (nodes : ℕ → Node P E) (x : E) (full lacks : ℕ → Type 0) (most : ℕ) (node : Node P E) : Type 0 where
  pub place : ℕ
  pub child : ℕ
  pub leads : LeadsDown s x node place child
  pub levels : ℕ
  pub stuffed : FullDown s x nodes full lacks levels child
  pub never : FitsDown s nodes x (begin_of s leads.front leads.child) (end_of leads.back) most child → ⊥

-- The entry clashes at a page: with an entry of a leaf, with which it shares a place; or what an inner page leads to doesn't fit in its place.
abbrev pub ClashesAt : {P E : Type 0} → Scale P E → (ℕ → Node P E) → E → (ℕ → Type 0) → (ℕ → Type 0) → ℕ → Node P E → Type 0
ClashesAt s nodes x full lacks most (Leaf es) = IsApart s x es → ⊥
ClashesAt s nodes x full lacks most (Inner cs) = Misfits s nodes x full lacks most (Inner cs)
ClashesAt s nodes x full lacks most (Broken rule) = ⊥

-- the entry clashes at a page on its way, from a page on, so many levels
abbrev pub ClashesBelow : {P E : Type 0} → Scale P E → (ℕ → Node P E) → E → (ℕ → Type 0) → (ℕ → Type 0) → ℕ → ℕ → ℕ → Type 0
ClashesBelow s nodes x full lacks zero page bad = ⊥
ClashesBelow s nodes x full lacks (suc most) page bad = ((bad ≡ page) × ClashesAt s nodes x full lacks most (nodes page))
    ⊎ ((child : ℕ) × (way_of s (s.from x) (nodes page) ≡ Some child) × ClashesBelow s nodes x full lacks most child bad)

-- and from the root on
abbrev pub ClashesOnWay : {P E : Type 0} → Scale P E → (ℕ → Node P E) → E → (ℕ → Type 0) → (ℕ → Type 0) → Node P E → ℕ → Type 0
ClashesOnWay s nodes x full lacks root bad = ((bad ≡ no_page) × ClashesAt s nodes x full lacks 7 root)
    ⊎ ((child : ℕ) × (way_of s (s.from x) root ≡ Some child) × ClashesBelow s nodes x full lacks 7 child bad)

-- The entry's way has all 8 levels, with the root, and no page on it has room, nor has the root for one more child's key.
abbrev pub HasAllLevels : {P E : Type 0} → Scale P E → (ℕ → Node P E) → E → (ℕ → Type 0) → (ℕ → Type 0) → Node P E → (P → Type 0) → Type 0
HasAllLevels {P} s nodes x full lacks root no_place = (place : ℕ) × (child : ℕ) × LeadsDown s x root place child × FullDown s x nodes full lacks 7 child × ((key : P) × no_place key)

-- Why the entry is refused, where the first broken rule on its way is known. A page is named where it is the first one that breaks a rule by itself, with that rule; or where none does, with rule
-- `order` where the entry clashes at it, and the root with rule `deep` where the way has all 8 levels and no room.
abbrev pub TellsRefusal : Option (ℕ × Rule) → (ℕ → Type 0) → Type 0 → TreeError → Type 0
TellsRefusal first clashes deep (View e) = Unit {0}
TellsRefusal first clashes deep (Bad page rule) = (first ≡ Some (page, rule))
    ⊎ ((first ≡ None) × (((rule ≡ rules.Order) × clashes page) ⊎ ((page ≡ no_page) × (rule ≡ rules.Deep) × deep)))
TellsRefusal first clashes deep Memory = Unit {0}

-- And where it isn't, no page on its way breaks a rule.
abbrev pub TellsAdding : {T : Type 0} → Option (ℕ × Rule) → (ℕ → Type 0) → Type 0 → Result T TreeError → Type 0
TellsAdding first clashes deep (Ok it) = first ≡ None
TellsAdding first clashes deep (Err e) = TellsRefusal first clashes deep e

-- ---- parts of a call, for the prover alone

-- a key between entries, with some before it
abbrev pub CutsRows : {P E : Type 0} → Scale P E → List E → P → Type 0
CutsRows {E = E} s rows key = (front : List E) × (back : List E) × (rows ≡ front ++ back) × IsCons front × PartsRows s front key back

-- the key of one of these children, but not of the first one
abbrev pub CutsChildren : {P : Type 0} → List (Child P) → P → Type 0
CutsChildren {P} all key = (front : List (Child P)) × (first : Child P) × (back : List (Child P)) × (all ≡ front ++ first ∷ back) × IsCons front × (key ≡ first.key)

-- the key of a page that was split off a leaf, or off an inner page
abbrev pub HereCut : {P E : Type 0} → Scale P E → E → Node P E → Option (Sibling P) → Type 0
HereCut {E = E} s x node more = IfSome more (λ up. (es : List E) → node ≡ Leaf es → IsApart s x es → CutsRows s (with_entry s x es) up.key)

abbrev pub ChildCut : {P E : Type 0} → Node P E → ℕ → Sibling P → Option (Sibling P) → Type 0
ChildCut {P} node place child more = IfSome more (λ up. (all : List (Child P)) → AtPlace node place (as_child child) all → CutsChildren all up.key)

abbrev pub GrownCut : {P E : Type 0} → Node P E → ℕ → Option (Sibling P) → Option (Sibling P) → Type 0
GrownCut node place (Some child) more = ChildCut node place child more
GrownCut node place None more = more ≡ None

-- why a leaf takes no entry, and why an inner page takes no child
abbrev pub HereClash : {P E : Type 0} → Scale P E → E → Node P E → ℕ → TreeError → Type 0
HereClash s x node page (View e) = ⊥
HereClash {E = E} s x node page (Bad bad rule) = (bad ≡ page) × (rule ≡ rules.Order) × ((es : List E) → node ≡ Leaf es → IsApart s x es → ⊥)
HereClash s x node page Memory = Unit {0}

abbrev pub NeverRises : {P E : Type 0} → Scale P E → Node P E → ℕ → Sibling P → Type 0
NeverRises {P} s node place child = (all : List (Child P)) → AtPlace node place (as_child child) all → KeysRise s all → ⊥

abbrev pub ChildClash : {P E : Type 0} → Scale P E → Node P E → ℕ → ℕ → Sibling P → TreeError → Type 0
ChildClash s node page place child (View e) = ⊥
ChildClash s node page place child (Bad bad rule) = (bad ≡ page) × (rule ≡ rules.Order) × NeverRises s node place child
ChildClash s node page place child Memory = Unit {0}

abbrev pub GrownClash : {P E : Type 0} → Scale P E → Node P E → ℕ → ℕ → Option (Sibling P) → TreeError → Type 0
GrownClash s node page place (Some child) e = ChildClash s node page place child e
GrownClash s node page place None e = ⊥

-- why a root takes no child: it has no place for the key, and there are 7 levels below it already; or the key clashes
abbrev pub RootClash : {P E : Type 0} → Scale P E → Node P E → ℕ → ℕ → (P → Type 0) → Sibling P → TreeError → Type 0
RootClash s node levels place no_place child (View e) = ⊥
RootClash s node levels place no_place child (Bad bad rule) = (bad ≡ no_page)
    × (((rule ≡ rules.Order) × NeverRises s node place child) ⊎ ((rule ≡ rules.Deep) × (7 ≤ levels) × no_place child.key))
RootClash s node levels place no_place child Memory = Unit {0}

abbrev pub RootGrownClash : {P E : Type 0} → Scale P E → Node P E → ℕ → ℕ → (P → Type 0) → Option (Sibling P) → TreeError → Type 0
RootGrownClash s node levels place no_place (Some child) e = RootClash s node levels place no_place child e
RootGrownClash s node levels place no_place None e = ⊥

-- the key of a page that now stands behind this one is in each place in which the pages from this one on fit
abbrev pub KeyFits : {P E : Type 0} → Scale P E → (ℕ → Node P E) → E → ℕ → ℕ → Option (Sibling P) → Type 0
KeyFits {P} s nodes x most page more = IfSome more (λ up. (low : P) (high : Option P) → FitsDown s nodes x low high most page → IsBetween s low high up.key)

-- what a call below a page tells of the way
abbrev pub TellsGrowing : {P E : Type 0} → Scale P E → (ℕ → Node P E) → E → (ℕ → Type 0) → (ℕ → Type 0) → ℕ → ℕ → Option (ℕ × Rule) → Result (Grown P) TreeError → Type 0
TellsGrowing s nodes x full lacks most page first (Ok grown) = (first ≡ None) × KeyFits s nodes x most page grown.sibling
TellsGrowing s nodes x full lacks most page first (Err (View e)) = Unit {0}
TellsGrowing s nodes x full lacks most page first (Err (Bad bad rule)) = (first ≡ Some (bad, rule)) ⊎ ((first ≡ None) × (rule ≡ rules.Order) × ClashesBelow s nodes x full lacks most page bad)
TellsGrowing s nodes x full lacks most page first (Err Memory) = Unit {0}
