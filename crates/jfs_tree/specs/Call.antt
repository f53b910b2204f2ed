-- What a call on the part below a page did, or why it failed.
use Rattle.std.specs.Prelude.{◌≡◌, ◌≢◌, ◌⊎◌, ◌<◌, ◌≤◌, ℕ, zero, suc, ◌==◌, if◌then◌else◌, List, [], ◌∷◌, ◌++◌, Option, true, Result, Ok, Err, IfOk, IfSome}
use Rattle.jfs_bits.specs.declared.rule.Rule.{Rule}
use Rattle.jfs_bits.specs.declared.rule.Rule.TheVariants as rules
use Rattle.jfs_disk.specs.Image.{Image, page_of}
use Rattle.jfs_disk.specs.declared.disk.Fault.{Fault}
use Rattle.jfs_ranges.specs.View.{CarriesCount}
use Rattle.jfs_tree.specs.Walk.{Node, Leaf, Inner, Broken, Child, Scale, Rises, rows_of, times, walk}
use Rattle.jfs_tree.specs.Edit.{Grew, Ready, IsApart, KeysRise, count_in, found_in}
use Rattle.jfs_tree.specs.Form.{LeadsDown, AtPlace, AllBelow, as_child, children_of}
use Rattle.jfs_tree.specs.Path.{below_root}
use Rattle.jfs_tree.specs.Draft.{shown}
use Rattle.jfs_tree.specs.declared.draft.Drafted.{Drafted}
use Rattle.jfs_tree.specs.declared.form.Sibling.{Sibling}
use Rattle.jfs_tree.specs.declared.grow.Grown.{Grown}
use Rattle.jfs_tree.specs.declared.form.TreeError.{TreeError}
use Rattle.jfs_tree.specs.declared.form.TreeError.TheVariants.{View, Bad, Memory}

-- the pages that a call reads, as those of a tree
abbrev pub nodes : {P E : Type 0} → (List ℕ → Node P E) → List Drafted → Image → ℕ → Node P E
nodes node drafts image n = node (shown drafts image n)

-- the pages of an image, as those of a tree
abbrev pub pages_of : {P E : Type 0} → (List ℕ → Node P E) → Image → ℕ → Node P E
pages_of node image n = node (page_of image n)

-- the count of faults rises only with a fault, which carries the part and the count that it raised
abbrev pub CarriesFault : {T : Type 0} → Fault → Fault → Result T TreeError → Type 0
CarriesFault before now (Ok it) = now ≡ before
CarriesFault {T} before now (Err (View e)) = CarriesCount {T = T} before now (Err e)
CarriesFault before now (Err (Bad page rule)) = now ≡ before
CarriesFault before now (Err Memory) = now ≡ before

-- somewhere on the way down from a page, at most so many levels long, this page breaks the rule, or is past the last level
abbrev pub Breaks : {P E : Type 0} → (ℕ → Node P E) → ℕ → ℕ → ℕ → Rule → Type 0
Breaks nodes zero page bad rule = (bad ≡ page) × (rule ≡ rules.Deep)
Breaks {P} nodes (suc most) page bad rule = ((bad ≡ page) × (below_root (nodes page) ≡ Broken rule))
    ⊎ ((front : List (Child P)) × (t : Child P) × (back : List (Child P)) × (nodes page ≡ Inner (front ++ t ∷ back)) × Breaks nodes most t.page bad rule)

-- a page is named only where it breaks a rule on the way down
abbrev pub BreaksWhereBad : {P E : Type 0} → (ℕ → Node P E) → ℕ → ℕ → TreeError → Type 0
BreaksWhereBad nodes most page (View e) = Unit {0}
BreaksWhereBad nodes most page (Bad bad rule) = Breaks nodes most page bad rule
BreaksWhereBad nodes most page Memory = Unit {0}

-- a page is named only where the part below the page isn't one into which the entry can go
abbrev pub RefutesWhereBad : {P E : Type 0} → Scale P E → E → (ℕ → Node P E) → ℕ → ℕ → List ℕ → TreeError → Type 0
RefutesWhereBad s x nodes most page free (View e) = Unit {0}
RefutesWhereBad {P} s x nodes most page free (Bad bad rule) = (levels : ℕ) (key low : P) (high : Option P) → levels ≤ most → Ready s x key low (walk s nodes levels (record { key = key; page = page })) high free → ⊥
RefutesWhereBad s x nodes most page free Memory = Unit {0}

-- what is found below a page, wherever that part rises
abbrev pub Finds : {P E : Type 0} → Scale P E → E → (ℕ → Node P E) → ℕ → Option E → Type 0
Finds {P} s x nodes page found = (levels : ℕ) (key low : P) (high : Option P) → s.le key (s.from x) ≡ true → Rises s low (walk s nodes levels (record { key = key; page = page })) high
    → found ≡ found_in s x (rows_of (walk s nodes levels (record { key = key; page = page })))

-- a leaf took an entry, perhaps with a new page beside it
abbrev pub TookHere : {P E : Type 0} → (List ℕ → Node P E) → Scale P E → E → List ℕ → ℕ → List Drafted → List Drafted → List ℕ → List ℕ → Option (Sibling P) → Type 0
TookHere {E = E} node s x bytes page old new free left more = (image : Image) (es : List E) → bytes ≡ shown old image page → node bytes ≡ Leaf es
    → Grew s x (nodes node old image) (nodes node new image) 1 page (children_of more) free left

-- an inner page took a new child
abbrev pub TookChild : {P E : Type 0} → (List ℕ → Node P E) → Scale P E → List ℕ → ℕ → ℕ → Sibling P → List Drafted → List Drafted → List ℕ → List ℕ → Option (Sibling P) → Type 0
TookChild {P} {E} node s bytes page place sibling old new between left more = (image : Image) (x : E) (before : ℕ → Node P E) (lower child : ℕ) (free : List ℕ) →
    before page ≡ node bytes → LeadsDown s x (node bytes) place child → Grew s x before (nodes node old image) (suc lower) child (as_child sibling ∷ []) free between
    → Grew s x before (nodes node new image) (suc (suc lower)) page (children_of more) free left

-- what became of a leaf that was to take an entry: only one that has no place for it is refused
abbrev pub HereDid : {P E : Type 0} → (List ℕ → Node P E) → Scale P E → E → List ℕ → ℕ → List Drafted → List Drafted → List ℕ → List ℕ → Result (Option (Sibling P)) TreeError → Type 0
HereDid node s x bytes page old new free left (Ok more) = TookHere node s x bytes page old new free left more
HereDid {E = E} node s x bytes page old new free left (Err (Bad bad rule)) = (es : List E) → node bytes ≡ Leaf es → IsApart s x es → ⊥
HereDid node s x bytes page old new free left (Err (View e)) = ⊥
HereDid node s x bytes page old new free left (Err Memory) = Unit {0}

-- what became of an inner page that was to take a child
abbrev pub ChildDid : {P E : Type 0} → (List ℕ → Node P E) → Scale P E → List ℕ → ℕ → ℕ → Sibling P → List Drafted → List Drafted → List ℕ → List ℕ → Result (Option (Sibling P)) TreeError → Type 0
ChildDid node s bytes page place sibling old new between left (Ok more) = TookChild node s bytes page place sibling old new between left more
ChildDid {P} node s bytes page place sibling old new between left (Err (Bad bad rule)) = (all : List (Child P)) → AtPlace (node bytes) place (as_child sibling) all → KeysRise s all → ⊥
ChildDid node s bytes page place sibling old new between left (Err (View e)) = ⊥
ChildDid node s bytes page place sibling old new between left (Err Memory) = Unit {0}

-- where each free page is below the bound, each that is left is, and so is the new one
abbrev pub StaysBelow : {P : Type 0} → List ℕ → List ℕ → Result (Option (Sibling P)) TreeError → Type 0
StaysBelow free left result = (bound : ℕ) → AllBelow bound free → AllBelow bound left × IfOk result (λ more. IfSome more (λ s. s.page < bound))

-- two pages were put into the draft
abbrev pub PutsTwo : List Drafted → List Drafted → ℕ → List ℕ → ℕ → List ℕ → Type 0
PutsTwo old new page left q right = (image : Image) (m : ℕ) → shown new image m ≡ (if m == q then right else (if m == page then left else shown old image m))

abbrev pub PutsOne : List Drafted → List Drafted → ℕ → List ℕ → Type 0
PutsOne old new page bytes = (image : Image) (m : ℕ) → shown new image m ≡ (if m == page then bytes else shown old image m)

-- a page whose child grew: its child may have one more page behind it
abbrev pub GrownDid : {P E : Type 0} → (List ℕ → Node P E) → Scale P E → List ℕ → ℕ → ℕ → Option (Sibling P) → List Drafted → List Drafted → List ℕ → List ℕ → Result (Grown P) TreeError → Type 0
GrownDid {P} {E} node s bytes page place more old new between left (Ok grown) = (image : Image) (x : E) (before : ℕ → Node P E) (lower child : ℕ) (free : List ℕ) →
    before page ≡ node bytes → LeadsDown s x (node bytes) place child → Grew s x before (nodes node old image) (suc lower) child (children_of more) free between
    → Grew s x before (nodes node new image) (suc (suc lower)) page (children_of grown.sibling) free left
GrownDid {P} {E} node s bytes page place more old new between left (Err (Bad bad rule)) = (image : Image) (x : E) (before : ℕ → Node P E) (lower child : ℕ) (free : List ℕ) →
    before page ≡ node bytes → LeadsDown s x (node bytes) place child → Grew s x before (nodes node old image) (suc lower) child (children_of more) free between
    → (key low : P) (high : Option P) → Ready s x key low (walk s before (suc (suc lower)) (record { key = key; page = page })) high free → ⊥
GrownDid node s bytes page place more old new between left (Err (View e)) = ⊥
GrownDid node s bytes page place more old new between left (Err Memory) = Unit {0}

abbrev pub GrownBelow : {P : Type 0} → List ℕ → List ℕ → Result (Grown P) TreeError → Type 0
GrownBelow free left result = (bound : ℕ) → AllBelow bound free → AllBelow bound left × IfOk result (λ grown. IfSome grown.sibling (λ s. s.page < bound))

-- a page could not be read, or memory ran out
abbrev pub IsRead : TreeError → Type 0
IsRead (View e) = Unit {0}
IsRead (Bad page rule) = ⊥
IsRead Memory = Unit {0}

-- a page that is neither this one nor taken keeps its bytes
abbrev pub StaysOff : ℕ → List Drafted → List Drafted → List ℕ → List ℕ → Type 0
StaysOff page old new free left = (image : Image) (m : ℕ) → m ≢ page → count_in m free ≡ count_in m left → shown new image m ≡ shown old image m

-- and so does one that is neither below the page nor taken
abbrev pub KeepsBytes : {P E : Type 0} → Scale P E → (ℕ → Node P E) → Image → List Drafted → List Drafted → ℕ → ℕ → List ℕ → List ℕ → Type 0
KeepsBytes {P} s nodes image old new levels page free left = (key : P) (m : ℕ) → times m (walk s nodes levels (record { key = key; page = page })) ≡ 0 → count_in m free ≡ count_in m left → shown new image m ≡ shown old image m

-- where no page is changed but those that were taken
abbrev pub StaysTaken : List Drafted → List Drafted → List ℕ → List ℕ → Type 0
StaysTaken old new free left = (image : Image) (m : ℕ) → count_in m free ≡ count_in m left → shown new image m ≡ shown old image m
