-- Where a page leads an entry, and what becomes of a page that takes one.
use Rattle.std.specs.Prelude.{◌≡◌, ◌⊎◌, ◌<◌, ◌==◌, ℕ, suc, List, [], ◌∷◌, ◌++◌, length, Option, Some, None, true, Result, Ok, Err}
use Rattle.jfs_bits.specs.declared.rule.Rule.{Rule}
use Rattle.jfs_tree.specs.Walk.{Node, Leaf, Inner, Broken, Child, Scale, under}
use Rattle.jfs_tree.specs.Path.{way_of}
use Rattle.jfs_tree.specs.Edit.{IsPast, IsCons, IsApart, KeysRise, PartsRows, with_entry}
use Rattle.jfs_tree.specs.declared.form.Way.{Way}
use Rattle.jfs_tree.specs.declared.form.Way.TheVariants.{Here, Down}
use Rattle.jfs_tree.specs.declared.form.Put.{Put}
use Rattle.jfs_tree.specs.declared.form.Put.TheVariants.{Done, Full, Clash}
use Rattle.jfs_tree.specs.declared.form.Sibling.{Sibling}

-- an inner page leads an entry to the last child that does not begin past it
pub record LeadsDown {P E : Type 0} (s : Scale P E) (x : E) (node : Node P E) (place page : ℕ) : Type 0 where
  pub front : List (Child P)
  pub child : Child P
  pub back : List (Child P)
  pub is : node ≡ Inner (front ++ child ∷ back)
  pub at : length front ≡ place
  pub to : child.page ≡ page
  pub past : IsPast s x back
  pub above : (front ≡ []) ⊎ (s.le child.key (s.from x) ≡ true)
  pub alone : way_of s (s.from x) node ≡ Some page

-- a page without children
abbrev pub IsLeaf : {P E : Type 0} → Node P E → Type 0
IsLeaf {E = E} node = (es : List E) × (node ≡ Leaf es)

-- a leaf leads it nowhere else, and a page that breaks a rule names the first one
abbrev pub Leads : {P E : Type 0} → Scale P E → E → Node P E → Result Way Rule → Type 0
Leads s x node (Ok Here) = IsLeaf node
Leads s x node (Ok (Down place page last)) = LeadsDown s x node place page
Leads s x node (Err rule) = node ≡ Broken rule

abbrev pub IsWithin : ℕ → Way → Type 0
IsWithin blocks Here = Unit {0}
IsWithin blocks (Down place page last) = page < blocks

-- the way leads to the last child of its page, or doesn't
abbrev pub TellsLast : {P E : Type 0} → Node P E → Way → Type 0
TellsLast node Here = Unit {0}
TellsLast {P} node (Down place page last) = (cs : List (Child P)) → node ≡ Inner cs → last ≡ (suc place == length cs)

-- A leaf took the entry, or it is full and stays as it was, or the entry shares a place with one that is there.
abbrev pub PutsRow : {P E : Type 0} → Scale P E → E → (List ℕ → Node P E) → (List ℕ → Type 0) → List ℕ → List ℕ → Put → Type 0
PutsRow {E = E} s x node is_full old new Done = (es : List E) → node old ≡ Leaf es → IsApart s x es → node new ≡ Leaf (with_entry s x es)
PutsRow s x node is_full old new Full = (new ≡ old) × is_full old
PutsRow {E = E} s x node is_full old new Clash = (es : List E) → node old ≡ Leaf es → IsApart s x es → ⊥

-- so where a page was full
abbrev pub IfFull : Put → Type 0 → Type 0
IfFull Done fact = Unit {0}
IfFull Full fact = fact
IfFull Clash fact = Unit {0}

abbrev pub as_child : {P : Type 0} → Sibling P → Child P
as_child s = record { key = s.key; page = s.page }

-- the page that a call made beside the old one, if it did
abbrev pub children_of : {P : Type 0} → Option (Sibling P) → List (Child P)
children_of None = []
children_of (Some s) = as_child s ∷ []

-- a leaf's entries on two pages
pub record SplitsRows {P E : Type 0} (s : Scale P E) (rows : List E) (left right : Node P E) (key : P) : Type 0 where
  pub front : List E
  pub back : List E
  pub all : rows ≡ front ++ back
  pub some : IsCons front
  pub parts : PartsRows s front key back
  pub left_is : left ≡ Leaf front
  pub right_is : right ≡ Leaf back

-- an inner page with these children, but for the first one's key, at which nothing looks
pub record HasChildren {P E : Type 0} (node : Node P E) (all : List (Child P)) : Type 0 where
  pub children : List (Child P)
  pub is : node ≡ Inner children
  pub some : IsCons children
  pub same : (key : P) → under key children ≡ under key all

-- the children with one more behind the one at a place
pub record AtPlace {P E : Type 0} (node : Node P E) (place : ℕ) (child : Child P) (all : List (Child P)) : Type 0 where
  pub front : List (Child P)
  pub before : Child P
  pub back : List (Child P)
  pub was : node ≡ Inner (front ++ before ∷ back)
  pub at : length front ≡ place
  pub is : all ≡ front ++ before ∷ child ∷ back

-- An inner page took the child, or it is full and stays as it was, or the child's key isn't between its neighbours'.
abbrev pub PutsChild : {P E : Type 0} → Scale P E → (List ℕ → Node P E) → (List ℕ → Type 0) → ℕ → Sibling P → List ℕ → List ℕ → Put → Type 0
PutsChild {P} s node is_full place child old new Done = (all : List (Child P)) → AtPlace (node old) place (as_child child) all → KeysRise s all → HasChildren (node new) all
PutsChild s node is_full place child old new Full = (new ≡ old) × is_full old
PutsChild {P} s node is_full place child old new Clash = (all : List (Child P)) → AtPlace (node old) place (as_child child) all → KeysRise s all → ⊥

-- the keys of an inner page's children rise
abbrev pub HasRisingKeys : {P E : Type 0} → Scale P E → Node P E → Type 0
HasRisingKeys {P} s node = (cs : List (Child P)) → node ≡ Inner cs → KeysRise s cs

-- and they still do with one more child behind the one at a place
abbrev pub GoesBehind : {P E : Type 0} → Scale P E → Node P E → ℕ → Child P → Type 0
GoesBehind {P} s node place child = (all : List (Child P)) → AtPlace node place child all → KeysRise s all

-- children on two pages; the key of the right page is its first child's
pub record SplitsChildren {P E : Type 0} (all : List (Child P)) (left right : Node P E) (key : P) : Type 0 where
  pub front : List (Child P)
  pub first : Child P
  pub back : List (Child P)
  pub is : all ≡ front ++ first ∷ back
  pub some : IsCons front
  pub left_is : HasChildren left front
  pub right_is : HasChildren right (first ∷ back)
  pub key_is : key ≡ first.key

-- each of these numbers is below the bound
abbrev pub AllBelow : ℕ → List ℕ → Type 0
AllBelow bound [] = Unit {0}
AllBelow bound (n ∷ ns) = (n < bound) × AllBelow bound ns

-- those that are left stand in front of those that were taken, in their order
abbrev pub IsFront : List ℕ → List ℕ → Type 0
IsFront left all = (taken : List ℕ) × (all ≡ left ++ taken)
