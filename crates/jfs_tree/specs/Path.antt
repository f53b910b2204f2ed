-- The way of an entry down a tree, page by page, and the first rule that is broken on it.
use Rattle.std.specs.Prelude.{◌≡◌, ℕ, zero, suc, if◌then◌else◌, List, [], ◌∷◌, Option, Some, None, Result, Ok, Err}
use Rattle.jfs_bits.specs.declared.rule.Rule.{Rule}
use Rattle.jfs_bits.specs.declared.rule.Rule.TheVariants as rules
use Rattle.jfs_tree.specs.Walk.{Child, Node, Leaf, Inner, Broken, Scale}
use Rattle.jfs_tree.specs.Spells.{no_page}
use Rattle.jfs_tree.specs.Edit.{found_in}
use Rattle.jfs_tree.specs.declared.form.TreeError.{TreeError}
use Rattle.jfs_tree.specs.declared.form.TreeError.TheVariants.{View, Bad, Memory}

-- the last child whose key isn't past a place, or the first one
abbrev pub child_for : {P E : Type 0} → Scale P E → P → ℕ → List (Child P) → ℕ
child_for s at page [] = page
child_for s at page (c ∷ cs) = child_for s at (if s.le c.key at then c.page else page) cs

-- the child to which a page leads
abbrev pub way_of : {P E : Type 0} → Scale P E → P → Node P E → Option ℕ
way_of s at (Leaf es) = None
way_of s at (Inner []) = None
way_of s at (Inner (c ∷ cs)) = Some (child_for s at c.page cs)
way_of s at (Broken rule) = None

abbrev pub onward : (ℕ → List ℕ) → Option ℕ → List ℕ
onward path None = []
onward path (Some page) = page ∷ path page

-- the pages on the way to a place, below a page, so many levels at most
unfoldable pub path_of : {P E : Type 0} → Scale P E → (ℕ → Node P E) → P → ℕ → Node P E → List ℕ
path_of s nodes at zero node = []
path_of s nodes at (suc most) node = onward (λ n. path_of s nodes at most (nodes n)) (way_of s at node)

-- ---- the first broken rule

abbrev pub further : {T : Type 0} → (ℕ → Option T) → Option ℕ → Option T
further below None = None
further below (Some page) = below page

-- what a page breaks, or the page to which it leads
abbrev pub broken_at : {P E : Type 0} → Scale P E → P → (ℕ → Option (ℕ × Rule)) → ℕ → Node P E → Option (ℕ × Rule)
broken_at s at below page (Leaf es) = None
broken_at s at below page (Inner cs) = further below (way_of s at (Inner cs))
broken_at s at below page (Broken rule) = Some (page, rule)

-- what a page below a root reads as there: a leaf without entries breaks the rule `deep`
abbrev pub below_root : {P E : Type 0} → Node P E → Node P E
below_root (Leaf []) = Broken rules.Deep
below_root (Leaf (e ∷ es)) = Leaf (e ∷ es)
below_root (Inner cs) = Inner cs
below_root (Broken rule) = Broken rule

-- The first broken rule on the way to a place, from a page on, and the page that breaks it: a page past the last level breaks the rule `deep`, unread.
unfoldable pub broken_below : {P E : Type 0} → Scale P E → (ℕ → Node P E) → P → ℕ → ℕ → Option (ℕ × Rule)
broken_below s nodes at zero page = Some (page, rules.Deep)
broken_below s nodes at (suc most) page = broken_at s at (broken_below s nodes at most) page (below_root (nodes page))

-- and from the root on: a tree has 8 levels at most, with its root
abbrev pub broken_on_way : {P E : Type 0} → Scale P E → (ℕ → Node P E) → P → Node P E → Option (ℕ × Rule)
broken_on_way s pages at root = broken_at s at (broken_below s pages at 7) no_page root

-- What a call that reads the way answers: a page is named exactly where it is the first one that breaks a rule, and where none does, the call goes through.
abbrev pub TellsBroken : {T : Type 0} → Option (ℕ × Rule) → Result T TreeError → Type 0
TellsBroken first (Ok it) = first ≡ None
TellsBroken first (Err (View e)) = Unit {0}
TellsBroken first (Err (Bad page rule)) = first ≡ Some (page, rule)
TellsBroken first (Err Memory) = Unit {0}

-- ---- what is found

-- the entry of a leaf that shares a place with `x`, or what is found from the page on to which an inner page leads
abbrev pub found_at : {P E : Type 0} → Scale P E → E → (ℕ → Option E) → Node P E → Option E
found_at s x below (Leaf es) = found_in s x es
found_at s x below (Inner cs) = further below (way_of s (s.from x) (Inner cs))
found_at s x below (Broken rule) = None

-- What is found on the way of an entry, from a page on, so many levels at most: it depends on the pages of the way alone, whatever stands beside them.
unfoldable pub found_below : {P E : Type 0} → Scale P E → (ℕ → Node P E) → E → ℕ → ℕ → Option E
found_below s nodes x zero page = None
found_below s nodes x (suc most) page = found_at s x (found_below s nodes x most) (nodes page)

-- and from the root on
abbrev pub found_on_way : {P E : Type 0} → Scale P E → (ℕ → Node P E) → E → Node P E → Option E
found_on_way s pages x root = found_at s x (found_below s pages x 7) root
