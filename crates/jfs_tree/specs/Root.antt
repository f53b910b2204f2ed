-- What a call on a whole tree does.
use Rattle.std.specs.Prelude.{◌≡◌, ◌≢◌, ◌⊎◌, ◌<◌, ◌≤◌, ℕ, ◌+◌, ◌==◌, if◌then◌else◌, List, [], ◌∷◌, ◌++◌, Option, Some, None, Result, Ok, Err}
use Rattle.jfs_bits.specs.declared.rule.Rule.TheVariants as rules
use Rattle.jfs_tree.specs.Walk.{Child, Node, Leaf, Inner, Broken, Scale}
use Rattle.jfs_tree.specs.Spells.{no_page, with_root, levels_of, spells, footprint}
use Rattle.jfs_tree.specs.Edit.{Added, IsApart, KeysRise, count_in, found_in, with_entry}
use Rattle.jfs_disk.specs.Image.{Image}
use Rattle.jfs_tree.specs.Form.{AtPlace, HasChildren, as_child}
use Rattle.jfs_tree.specs.Call.{Breaks, nodes}
use Rattle.jfs_tree.specs.Draft.{shown}
use Rattle.jfs_tree.specs.declared.draft.Drafted.{Drafted}
use Rattle.jfs_tree.specs.declared.form.Sibling.{Sibling}
use Rattle.jfs_tree.specs.declared.form.TreeError.{TreeError}
use Rattle.jfs_tree.specs.declared.form.TreeError.TheVariants.{View, Bad, Memory}

-- these pages stand there once, and none is one of the tree
pub record IsSpare {P E : Type 0} (s : Scale P E) (pages : ℕ → Node P E) (root : Node P E) (free : List ℕ) : Type 0 where
  pub once : (n : ℕ) → count_in n free ≤ 1
  pub apart : (n : ℕ) → 0 < count_in n free → footprint s pages root n ≡ 0

-- A root that spelled these entries spells one more. The pages that it has more are the free ones that aren't left, and no other page changed.
pub record Adds {P E : Type 0} (s : Scale P E) (x : E) (es : List E) (old new : ℕ → Node P E) (root after : Node P E) (free left : List ℕ) : Type 0 where
  pub list : List E
  pub spelled : spells s new after ≡ Ok list
  pub added : Added x es list
  pub pages : (n : ℕ) → footprint s new after n + count_in n left ≡ footprint s old root n + count_in n free
  pub keeps : (n : ℕ) → footprint s old root n ≡ 0 → count_in n free ≡ count_in n left → new n ≡ old n

-- whatever list the root spells, if the entry is apart from it and the free pages aren't in the tree
abbrev pub AddsAlways : {P E : Type 0} → Scale P E → E → (ℕ → Node P E) → (ℕ → Node P E) → Node P E → Node P E → List ℕ → List ℕ → Type 0
AddsAlways {E = E} s x old new root after free left = (es : List E) → spells s old root ≡ Ok es → IsApart s x es → IsSpare s old root free → Adds s x es old new root after free left

-- what is found in whatever list the root spells
abbrev pub FindsAlways : {P E : Type 0} → Scale P E → E → (ℕ → Node P E) → Node P E → Option E → Type 0
FindsAlways {E = E} s x pages root found = (es : List E) → spells s pages root ≡ Ok es → found ≡ found_in s x es

-- a page is named only where it breaks a rule on the way down, and then the root spells no list
abbrev pub NamesBroken : {P E : Type 0} → Scale P E → (ℕ → Node P E) → Node P E → TreeError → Type 0
NamesBroken s pages root (View e) = Unit {0}
NamesBroken {P} {E} s pages root (Bad bad rule) =
    (((bad ≡ no_page) × (root ≡ Broken rule)) ⊎ ((front : List (Child P)) × (t : Child P) × (back : List (Child P)) × (root ≡ Inner (front ++ t ∷ back)) × Breaks pages 7 t.page bad rule))
    × ((es : List E) → spells s pages root ≡ Ok es → ⊥)
NamesBroken s pages root Memory = Unit {0}

-- a page is named only where the root spells no list that is apart from the entry, or the tree has 8 levels
abbrev pub RefusesWhereBad : {P E : Type 0} → Scale P E → E → (ℕ → Node P E) → Node P E → List ℕ → TreeError → Type 0
RefusesWhereBad s x pages root free (View e) = Unit {0}
RefusesWhereBad {E = E} s x pages root free (Bad bad rule) = (es : List E) → spells s pages root ≡ Ok es → IsApart s x es → IsSpare s pages root free
    → (bad ≡ no_page) × (rule ≡ rules.Deep) × (levels_of (with_root root pages) 8 no_page ≡ Some 8)
RefusesWhereBad s x pages root free Memory = Unit {0}

-- Whatever list the root spells, if the entry is apart from it and the free pages aren't in the tree, a page that is neither in the tree nor taken keeps its bytes.
abbrev pub KeepsAlways : {P E : Type 0} → Scale P E → E → (ℕ → Node P E) → Node P E → Image → List Drafted → List Drafted → List ℕ → List ℕ → Type 0
KeepsAlways {E = E} s x pages root image old new free left = (es : List E) → spells s pages root ≡ Ok es → IsApart s x es → IsSpare s pages root free
    → (n : ℕ) → footprint s pages root n ≡ 0 → count_in n free ≡ count_in n left → shown new image n ≡ shown old image n

-- ---- parts of a call, for the prover alone

-- What was to stand at the root stands there, or below a root with one child, where there were fewer than 8 levels.
abbrev pub Settled : {P E : Type 0} → Scale P E → ℕ → Node P E → (ℕ → Node P E) → (ℕ → Node P E) → Node P E → List ℕ → List ℕ → Type 0
Settled s levels node old new after free left =
    ((after ≡ node) × ((n : ℕ) → new n ≡ old n) × ((n : ℕ) → count_in n free ≡ count_in n left))
    ⊎ ((q : ℕ) × (levels < 8) × (after ≡ Inner (record { key = s.least; page = q } ∷ [])) × (new q ≡ node) × ((n : ℕ) → n ≢ q → new n ≡ old n)
    × ((n : ℕ) → count_in n free ≡ (if q == n then 1 else 0) + count_in n left))

-- a root that is a leaf was to take an entry
abbrev pub RootHereDid : {P E : Type 0} → (List ℕ → Node P E) → Scale P E → E → Node P E → Node P E → List Drafted → List Drafted → List ℕ → List ℕ → Result (Unit {0}) TreeError → Type 0
RootHereDid {E = E} node s x root after old new free left (Ok it) = (image : Image) (es : List E) → root ≡ Leaf es → IsApart s x es → Settled s 1 (Leaf (with_entry s x es)) (nodes node old image) (nodes node new image) after free left
RootHereDid {E = E} node s x root after old new free left (Err (Bad bad rule)) = (es : List E) → root ≡ Leaf es → IsApart s x es → ⊥
RootHereDid node s x root after old new free left (Err (View e)) = ⊥
RootHereDid node s x root after old new free left (Err Memory) = Unit {0}

-- a root that is an inner page was to take a child, below which there are so many levels
abbrev pub RootChildDid : {P E : Type 0} → (List ℕ → Node P E) → Scale P E → ℕ → ℕ → Sibling P → Node P E → Node P E → List Drafted → List Drafted → List ℕ → List ℕ → Result (Unit {0}) TreeError → Type 0
RootChildDid {P} {E} node s levels place child root after old new free left (Ok it) = (image : Image) (all : List (Child P)) → AtPlace root place (as_child child) all → KeysRise s all
    → (taken : Node P E) × HasChildren taken all × Settled s (levels + 1) taken (nodes node old image) (nodes node new image) after free left
RootChildDid {P} node s levels place child root after old new free left (Err (Bad bad rule)) = (all : List (Child P)) → AtPlace root place (as_child child) all → KeysRise s all
    → (bad ≡ no_page) × (rule ≡ rules.Deep) × (7 ≤ levels)
RootChildDid node s levels place child root after old new free left (Err (View e)) = ⊥
RootChildDid node s levels place child root after old new free left (Err Memory) = Unit {0}

-- and perhaps took none
abbrev pub RootGrownDid : {P E : Type 0} → (List ℕ → Node P E) → Scale P E → ℕ → ℕ → Option (Sibling P) → Node P E → Node P E → List Drafted → List Drafted → List ℕ → List ℕ → Result (Unit {0}) TreeError → Type 0
RootGrownDid node s levels place (Some child) root after old new free left result = RootChildDid node s levels place child root after old new free left result
RootGrownDid node s levels place None root after old new free left (Ok it) = (after ≡ root) × (new ≡ old) × (left ≡ free)
RootGrownDid node s levels place None root after old new free left (Err e) = ⊥
