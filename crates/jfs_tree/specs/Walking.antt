-- A walk of a whole tree: what a reader of pages answers, and what a visitor sees.
use Rattle.std.specs.Prelude.{◌≡◌, ◌⊎◌, ◌<◌, ℕ, zero, suc, true, false, if◌then◌else◌, List, [], ◌∷◌, length, map, drop, Option, Some, None, Result, Ok, Err}
use Rattle.std.specs.List.{flat_map}
use Rattle.jfs_bits.specs.declared.rule.Rule.{Rule}
use Rattle.jfs_bits.specs.declared.rule.Rule.TheVariants as rules
use Rattle.jfs_ranges.specs.declared.view.ViewError.{ViewError}
use Rattle.jfs_tree.specs.Walk.{Child, Node, Leaf, Inner, Broken, Page, Key, Row, Fault, Marks, Scale, placed, body, walk}
use Rattle.jfs_tree.specs.Spells.{with_root, levels_of, first_path, spells}
use Rattle.jfs_tree.specs.declared.form.Sibling.{Sibling}
use Rattle.jfs_tree.specs.declared.form.TreeError.{TreeError}
use Rattle.jfs_tree.specs.declared.form.TreeError.TheVariants.{View, Bad, Memory}
use Rattle.jfs_tree.specs.declared.walk_leaf.Opened.{Opened}
use Rattle.jfs_tree.specs.declared.walk_read.Shape.{Shape}
use Rattle.jfs_tree.specs.declared.walk_read.Shape.TheVariants as shape

-- the entries of a leaf
abbrev pub rows_in : {P E : Type 0} → Node P E → List E
rows_in (Leaf es) = es
rows_in (Inner cs) = []
rows_in (Broken rule) = []

-- the children of an inner page
abbrev pub children_in : {P E : Type 0} → Node P E → List (Child P)
children_in (Leaf es) = []
children_in (Inner cs) = cs
children_in (Broken rule) = []

-- a leaf or an inner page with so many entries or children, or the rule that the page breaks
abbrev pub Shows : {P E : Type 0} → Node P E → Result Shape Rule → Type 0
Shows {E = E} node (Ok (shape.Leaf count)) = (es : List E) × (node ≡ Leaf es) × (length es ≡ count)
Shows {P = P} node (Ok (shape.Inner count)) = (cs : List (Child P)) × (node ≡ Inner cs) × (length cs ≡ count)
Shows node (Err rule) = node ≡ Broken rule

-- ---- the walk, mark by mark

-- the walk ends at a page that breaks a rule, and the visitor sees nothing more
abbrev pub Stops : {P V : Type 0} → ℕ → Rule → V → Result P TreeError → V → Type 0
Stops n rule v r w = (r ≡ Err (Bad n rule)) × (w ≡ v)

-- A walk from left to right, from a place and a visitor on: it ends at the first key or entry that doesn't rise and at the first broken rule, each with its
-- page; at a page that the view doesn't give; or where the visitor has no memory for an entry. Before that the visitor saw each page and each entry.
-- `page` and `row` say what a visitor becomes that sees a page, or an entry of a page.
abbrev pub Meets : {P E V : Type 0} → Scale P E → (V → ℕ → V → Type 0) → (V → ℕ → E → V → Type 0) → P → V → Marks P E → Result P TreeError → V → Type 0
Meets s page row low v [] r w = (r ≡ Ok low) × (w ≡ v)
Meets {V = V} s page row low v (Page n ∷ ms) r w = ((e : ViewError) × (r ≡ Err (View e)) × (w ≡ v)) ⊎ ((u : V) × page v n u × Meets s page row low u ms r w)
Meets s page row low v (Key n k ∷ ms) r w = ((s.le low k ≡ true) × Meets s page row k v ms r w) ⊎ ((s.le low k ≡ false) × Stops n rules.Order v r w)
Meets {V = V} s page row low v (Row n e ∷ ms) r w =
    ((s.le low (s.from e) ≡ true) × ((r ≡ Err Memory) ⊎ ((u : V) × row v n e u × Meets s page row (s.to e) u ms r w)))
    ⊎ ((s.le low (s.from e) ≡ false) × Stops n rules.Order v r w)
Meets s page row low v (Fault n rule ∷ ms) r w = Stops n rule v r w

-- a call's answer, and the place to which it came
abbrev pub ended : {P T : Type 0} → P → Result T TreeError → Result P TreeError
ended low (Ok it) = Ok low
ended low (Err e) = Err e

-- the first broken rule and its page, exactly where the root spells no list
abbrev pub NamesFirst : {P E : Type 0} → Scale P E → (ℕ → Node P E) → Node P E → TreeError → Type 0
NamesFirst s pages root (View e) = Unit {0}
NamesFirst s pages root (Bad page rule) = spells s pages root ≡ Err (page, rule)
NamesFirst s pages root Memory = Unit {0}

-- ---- parts of a walk, for the prover alone

-- what a leaf shows below a key, where no page stands below it
abbrev pub leaf_shown : {P E : Type 0} → Scale P E → ℕ → P → List E → Marks P E
leaf_shown s page key [] = Fault page rules.Deep ∷ []
leaf_shown s page key (e ∷ es) = if s.fits key e then map (Row page) (e ∷ es) else Fault page rules.Order ∷ []

-- what a page shows behind its own key, with so many levels below it
abbrev pub page_shown : {P E : Type 0} → Scale P E → (ℕ → Node P E) → ℕ → ℕ → P → Marks P E
page_shown s nodes below page key = Page page ∷ body (walk s nodes below) (record { key = key; page = page }) (placed s below key (nodes page))

-- what the children of an inner page behind the first one show, with so many levels below each
abbrev pub others_shown : {P E : Type 0} → Scale P E → (ℕ → Node P E) → ℕ → List (Child P) → Marks P E
others_shown s nodes below cs = flat_map (walk s nodes (suc below)) (drop 1 cs)

-- what a page on the way down the first children shows, where there are so many levels
abbrev pub at_first : {P E : Type 0} → Scale P E → (ℕ → Node P E) → ℕ → ℕ → Option ℕ → Marks P E
at_first s nodes most page None = first_path nodes most page
at_first s nodes most page (Some zero) = []
at_first s nodes most page (Some (suc below)) = page_shown s nodes below page s.least

abbrev pub first_shown : {P E : Type 0} → Scale P E → (ℕ → Node P E) → ℕ → ℕ → Marks P E
first_shown s nodes most page = at_first s nodes most page (levels_of nodes most page)

-- a key that rises is the next place, and one that doesn't breaks the order at its page
abbrev pub PassesKey : {P E T : Type 0} → Scale P E → P → Sibling P → P → Result T TreeError → Type 0
PassesKey s low child after (Ok it) = (s.le low child.key ≡ true) × (after ≡ child.key)
PassesKey s low child after (Err e) = (s.le low child.key ≡ false) × (e ≡ Bad child.page rules.Order) × (after ≡ low)

-- so many entries or children, at least one
abbrev pub Counts : {P E : Type 0} → Node P E → Shape → Type 0
Counts node (shape.Leaf count) = (count ≡ length (rows_in node)) × (0 < count)
Counts node (shape.Inner count) = (count ≡ length (children_in node)) × (0 < count)

-- a page below a root that breaks a rule wherever it stands
abbrev pub IsBroken : {P E : Type 0} → Node P E → Rule → Type 0
IsBroken node rule = (node ≡ Broken rule) ⊎ ((rule ≡ rules.Deep) × ((node ≡ Leaf []) ⊎ (node ≡ Inner [])))

-- a page was seen, or could not be read, or was seen and breaks a rule
abbrev pub Opens : {P E V : Type 0} → (V → ℕ → V → Type 0) → ℕ → Node P E → V → Result Opened TreeError → V → Type 0
Opens page n node v (Ok opened) w = page v n w × Counts node opened.shape
Opens page n node v (Err (View e)) w = w ≡ v
Opens page n node v (Err (Bad bad rule)) w = page v n w × (bad ≡ n) × IsBroken node rule
Opens page n node v (Err Memory) w = ⊥

-- a walk from here on is one from there on
abbrev pub GoesOn : {P E V : Type 0} → Scale P E → (V → ℕ → V → Type 0) → (V → ℕ → E → V → Type 0) → P → V → Marks P E → P → V → Marks P E → Type 0
GoesOn {P = P} {V = V} s page row from before all to after left = (r : Result P TreeError) (w : V) → Meets s page row to after left r w → Meets s page row from before all r w

-- a walk through the children from the one at a place on is one through all but the first, whatever the root is
abbrev pub OthersGoOn : {P E V : Type 0} → Scale P E → (V → ℕ → V → Type 0) → (V → ℕ → E → V → Type 0) → (ℕ → Node P E) → ℕ → List (Child P) → ℕ → P → V → P → V → Type 0
OthersGoOn {P} {E} s page row pages below cs place from before to after = (root : Node P E) →
    GoesOn s page row from before (others_shown s (with_root root pages) below cs) to after (flat_map (walk s (with_root root pages) (suc below)) (drop place cs))
