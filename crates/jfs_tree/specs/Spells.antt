-- What a root spells. A root stands in an inode; the pages below it stand on the volume. (JFS Layout: a tree has its root in the inode.)
use Rattle.std.specs.Prelude.{ℕ, zero, suc, ◌==◌, if◌then◌else◌, List, [], ◌∷◌, Option, Some, None, Result, Ok, Err}
use Rattle.jfs_bits.specs.declared.rule.Rule.{Rule}
use Rattle.jfs_bits.specs.declared.rule.Rule.TheVariants as rules
use Rattle.jfs_tree.specs.Walk.{Child, Node, Leaf, Inner, Broken, Page, Key, Row, Fault, Marks, Scale, times, walk}

-- stands for the root where a page is named; it is no page
abbrev pub no_page : ℕ
no_page = 4294967295

-- the pages, with the root among them
abbrev pub with_root : {P E : Type 0} → Node P E → (ℕ → Node P E) → ℕ → Node P E
with_root root pages n = if n == no_page then root else pages n

abbrev pub one_more : Option ℕ → Option ℕ
one_more None = None
one_more (Some n) = Some (suc n)

abbrev pub below_first : {P E : Type 0} → (ℕ → Option ℕ) → Node P E → Option ℕ
below_first f (Inner []) = Some 0
below_first f (Inner (c ∷ cs)) = f c.page
below_first f (Leaf es) = Some 0
below_first f (Broken rule) = Some 0

-- how many levels there are from a page down to where its first children end, if there are so many at most
unfoldable pub levels_of : {P E : Type 0} → (ℕ → Node P E) → ℕ → ℕ → Option ℕ
levels_of nodes zero page = None
levels_of nodes (suc most) page = one_more (below_first (levels_of nodes most) (nodes page))

abbrev pub along_first : {P E : Type 0} → (ℕ → Marks P E) → Node P E → Marks P E
along_first f (Inner []) = []
along_first f (Inner (c ∷ cs)) = f c.page
along_first f (Leaf es) = []
along_first f (Broken rule) = []

-- the way down the first children, where it is longer than that: the page past the last level isn't read
unfoldable pub first_path : {P E : Type 0} → (ℕ → Node P E) → ℕ → ℕ → Marks P E
first_path nodes zero page = Fault page rules.Deep ∷ []
first_path nodes (suc most) page = Page page ∷ along_first (first_path nodes most) (nodes page)

abbrev pub top : {P E : Type 0} → Scale P E → Child P
top s = record { key = s.least; page = no_page }

abbrev pub at_levels : {P E : Type 0} → Scale P E → (ℕ → Node P E) → Option ℕ → Marks P E
at_levels s nodes (Some levels) = walk s nodes levels (top s)
at_levels s nodes None = first_path nodes 8 no_page

-- A tree has 8 levels at most, with its root. All its leaves stand at the level of the first one.
abbrev pub whole : {P E : Type 0} → Scale P E → (ℕ → Node P E) → Marks P E
whole s nodes = at_levels s nodes (levels_of nodes 8 no_page)

-- What a root shows, with these pages below it. A root alone may be a leaf without entries.
abbrev pub tree_of : {P E : Type 0} → Scale P E → (ℕ → Node P E) → Node P E → Marks P E
tree_of s pages (Leaf []) = Page no_page ∷ []
tree_of s pages (Leaf (e ∷ es)) = whole s (with_root (Leaf (e ∷ es)) pages)
tree_of s pages (Inner cs) = whole s (with_root (Inner cs) pages)
tree_of s pages (Broken rule) = whole s (with_root (Broken rule) pages)

-- an entry before others, unless a rule is broken
abbrev pub with_row : {E F : Type 0} → E → Result (List E) F → Result (List E) F
with_row e (Ok es) = Ok (e ∷ es)
with_row e (Err f) = Err f

-- The entries where keys and entries rise, or the first broken rule and its page.
abbrev pub judge : {P E : Type 0} → Scale P E → P → Marks P E → Result (List E) (ℕ × Rule)
judge s low [] = Ok []
judge s low (Page n ∷ ms) = judge s low ms
judge s low (Key n k ∷ ms) = if s.le low k then judge s k ms else Err (n, rules.Order)
judge s low (Row n e ∷ ms) = if s.le low (s.from e) then with_row e (judge s (s.to e) ms) else Err (n, rules.Order)
judge s low (Fault n r ∷ ms) = Err (n, r)

-- what a root spells: its entries, or the first broken rule and the page that breaks it
unfoldable pub spells : {P E : Type 0} → Scale P E → (ℕ → Node P E) → Node P E → Result (List E) (ℕ × Rule)
spells s pages root = judge s s.least (tree_of s pages root)

-- The footprint: how often a page is met below the root. These are the pages that the tree owns.
unfoldable pub footprint : {P E : Type 0} → Scale P E → (ℕ → Node P E) → Node P E → ℕ → ℕ
footprint s pages root n = if n == no_page then 0 else times n (tree_of s pages root)
