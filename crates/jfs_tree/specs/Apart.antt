-- An entry that goes in shares no place with what stands where its way leads.
use Rattle.std.specs.Prelude.{ℕ, zero, suc, Option, Some, None, ⊤}
use Rattle.jfs_tree.specs.Walk.{Node, Leaf, Inner, Broken, Scale}
use Rattle.jfs_tree.specs.Path.{way_of}
use Rattle.jfs_tree.specs.Edit.{IsApart}
use Rattle.jfs_tree.specs.declared.form.Put.{Put}
use Rattle.jfs_tree.specs.declared.form.Put.TheVariants.{Done, Full, Clash}

-- none of a leaf's entries shares a place with it
abbrev pub ApartAt : {P E : Type 0} → Scale P E → E → Node P E → Type 0
ApartAt s x (Leaf es) = IsApart s x es
ApartAt s x (Inner cs) = ⊤
ApartAt s x (Broken rule) = ⊤

-- and so of the page to which a page leads, if it leads to one
abbrev pub ApartNext : (ℕ → Type 0) → Option ℕ → Type 0
ApartNext below None = ⊤
ApartNext below (Some page) = below page

-- on the entry's way from a page on, so many levels
abbrev pub ApartBelow : {P E : Type 0} → Scale P E → (ℕ → Node P E) → E → ℕ → ℕ → Type 0
ApartBelow s nodes x zero page = ⊤
ApartBelow s nodes x (suc most) page = ApartAt s x (nodes page) × ApartNext (ApartBelow s nodes x most) (way_of s (s.from x) (nodes page))

-- The leaf at the end of the entry's way, from the root down, has no entry with which it shares a place.
abbrev pub ApartOnWay : {P E : Type 0} → Scale P E → (ℕ → Node P E) → E → Node P E → Type 0
ApartOnWay s nodes x root = ApartAt s x root × ApartNext (ApartBelow s nodes x 7) (way_of s (s.from x) root)

-- a leaf refuses an entry that shares a place with one of its own, whether it has room or not
abbrev pub PutsApart : {P E : Type 0} → Scale P E → E → Node P E → Put → Type 0
PutsApart s x node Done = ApartAt s x node
PutsApart s x node Full = ApartAt s x node
PutsApart s x node Clash = Unit {0}
