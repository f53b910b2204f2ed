-- What a cut meets of a tree, from left to right: the pages on the way to the bound, the extents of the leaf at its end, and all that stands behind the way.
use Rattle.std.specs.Prelude.{◌≡◌, ◌≤◌, ◌+◌, ℕ, zero, suc, Bool, false, nat_lt, if◌then◌else◌, List, [], ◌∷◌, ◌++◌, map, Result, Ok, Err}
use Rattle.std.specs.List.{flat_map}
use Rattle.jfs_bits.specs.declared.extent.Xad.{Xad}
use Rattle.jfs_bits.specs.declared.rule.Rule.{Rule}
use Rattle.jfs_bits.specs.declared.rule.Rule.TheVariants as rules
use Rattle.jfs_ranges.specs.declared.edit.Edit.{Edit}
use Rattle.jfs_tree.specs.Walk.{Child, Node, Leaf, Inner, Broken, Page, Key, Row, Fault, Marks, times, under, walk}
use Rattle.jfs_tree.specs.Spells.{no_page, top, judge}
use Rattle.jfs_tree.specs.Edit.{count_in}
use Rattle.jfs_tree.specs.Removes.{page_frees}
use Rattle.jfs_tree.specs.Tell.{TellsThen}
use Rattle.jfs_xtree.specs.Node.{xt_scale}
use Rattle.jfs_xtree.specs.Spells.{page_nodes, root_node, spells_extents}
use Rattle.jfs_xtree.specs.Cutting.{gone_past, run_frees}
use Rattle.jfs_xtree.specs.declared.error.XtError.{XtError}
use Rattle.jfs_xtree.specs.declared.error.XtError.TheVariants.{View, Bad}

-- whether the first of these begins below the bound
abbrev pub begins_below : ℕ → List (Child ℕ) → Bool
begins_below bound [] = false
begins_below bound (c ∷ cs) = nat_lt c.key bound

-- The children from the way on: from the last one that begins below the bound, or from the first one where none does.
abbrev pub from_way : ℕ → List (Child ℕ) → List (Child ℕ)
from_way bound [] = []
from_way bound (c ∷ cs) = if begins_below bound cs then from_way bound cs else c ∷ cs

abbrev pub of_first : (ℕ → ℕ) → List (Child ℕ) → ℕ
of_first f [] = 0
of_first f (c ∷ cs) = f c.page

abbrev pub below_way : (ℕ → ℕ) → ℕ → Node ℕ Xad → ℕ
below_way f bound (Leaf es) = 0
below_way f bound (Inner cs) = of_first f (from_way bound cs)
below_way f bound (Broken rule) = 0

-- how many levels the way has from a page on, at most so many
unfoldable pub way_levels : (ℕ → Node ℕ Xad) → ℕ → ℕ → ℕ → ℕ
way_levels nodes bound zero page = 0
way_levels nodes bound (suc most) page = suc (below_way (way_levels nodes bound most) bound (nodes page))

abbrev pub path_first : (ℕ → List ℕ) → List (Child ℕ) → List ℕ
path_first f [] = []
path_first f (c ∷ cs) = f c.page

abbrev pub path_below : (ℕ → List ℕ) → ℕ → Node ℕ Xad → List ℕ
path_below f bound (Leaf es) = []
path_below f bound (Inner cs) = path_first f (from_way bound cs)
path_below f bound (Broken rule) = []

-- the pages on the way from a page on, at most so many
unfoldable pub way_pages : (ℕ → Node ℕ Xad) → ℕ → ℕ → ℕ → List ℕ
way_pages nodes bound zero page = []
way_pages nodes bound (suc most) page = page ∷ path_below (way_pages nodes bound most) bound (nodes page)

-- and below a root
abbrev pub way_of_cut : ℕ → (ℕ → List ℕ) → ℕ → List ℕ → List ℕ
way_of_cut blocks pages bound root = path_below (way_pages (page_nodes blocks pages) bound 7) bound (root_node blocks root)

-- A page on the way isn't empty, and a leaf's first extent fits its key.
abbrev pub on_way : ℕ → Node ℕ Xad → Node ℕ Xad
on_way key (Leaf []) = Broken rules.Deep
on_way key (Leaf (e ∷ es)) = if xt_scale.fits key e then Leaf (e ∷ es) else Broken rules.Order
on_way key (Inner cs) = Inner cs
on_way key (Broken rule) = Broken rule

-- The child on the way shows what `f` says. Behind it all leaves stand at the level of the way's leaf.
abbrev pub met_children : (ℕ → Node ℕ Xad) → (Child ℕ → Marks ℕ Xad) → (ℕ → ℕ) → List (Child ℕ) → Marks ℕ Xad
met_children nodes f levels [] = []
met_children nodes f levels (c ∷ cs) = f c ++ flat_map (walk xt_scale nodes (levels c.page)) cs

abbrev pub met_body : (ℕ → Node ℕ Xad) → (Child ℕ → Marks ℕ Xad) → (ℕ → ℕ) → ℕ → Child ℕ → Node ℕ Xad → Marks ℕ Xad
met_body nodes f levels bound c (Leaf es) = map (Row c.page) es
met_body nodes f levels bound c (Inner cs) = met_children nodes f levels (from_way bound (under c.key cs))
met_body nodes f levels bound c (Broken rule) = Fault c.page rule ∷ []

-- what is met of a page on the way, which has so many levels at most
unfoldable pub met : (ℕ → Node ℕ Xad) → ℕ → ℕ → Child ℕ → Marks ℕ Xad
met nodes bound zero c = Fault c.page rules.Deep ∷ []
met nodes bound (suc most) c = Key c.page c.key ∷ Page c.page ∷ met_body nodes (met nodes bound most) (way_levels nodes bound most) bound c (on_way c.key (nodes c.page))

-- what is met below a page that reads so, with so many levels below it at most
abbrev pub met_below : (ℕ → Node ℕ Xad) → ℕ → ℕ → Child ℕ → Node ℕ Xad → Marks ℕ Xad
met_below nodes bound most c node = met_body nodes (met nodes bound most) (way_levels nodes bound most) bound c (on_way c.key node)

-- What a cut of a root's tree meets. A root alone may be a leaf without extents.
abbrev pub met_of : (ℕ → Node ℕ Xad) → ℕ → Node ℕ Xad → Marks ℕ Xad
met_of pages bound (Leaf []) = []
met_of pages bound (Leaf (e ∷ es)) = met_below pages bound 7 (top xt_scale) (Leaf (e ∷ es))
met_of pages bound (Inner cs) = met_below pages bound 7 (top xt_scale) (Inner cs)
met_of pages bound (Broken rule) = Fault no_page rule ∷ []

-- The extents that a cut meets where keys and extents rise, or the first rule that is broken there and the page that breaks it.
abbrev pub met_extents : ℕ → (ℕ → List ℕ) → ℕ → List ℕ → Result (List Xad) (ℕ × Rule)
met_extents blocks pages bound root = judge xt_scale 0 (met_of (page_nodes blocks pages) bound (root_node blocks root))

-- Whatever the pages hold: no page is freed twice, nor one that wasn't met, each that was met and isn't on the way to the bound is freed, and the blocks that are freed are those that the extents met, which rise, have past the bound.
abbrev pub FreesOnce : ℕ → (ℕ → List ℕ) → ℕ → List ℕ → List Edit → List Edit → Type 0
FreesOnce blocks pages bound root tx later = (xs : List Xad) × (freed : List ℕ) × (met_extents blocks pages bound root ≡ Ok xs) × ((n : ℕ) → count_in n freed ≤ 1)
    × ((n : ℕ) → count_in n freed ≤ times n (met_of (page_nodes blocks pages) bound (root_node blocks root))) × TellsThen (page_frees freed ++ run_frees (gone_past bound xs)) tx later
    × ((n : ℕ) → times n (met_of (page_nodes blocks pages) bound (root_node blocks root)) ≤ count_in n freed + count_in n (way_of_cut blocks pages bound root))

-- A page is named exactly where it is the first one that breaks a rule in what the cut meets, and then the root spells no list.
abbrev pub NamesFirstMet : ℕ → (ℕ → List ℕ) → ℕ → List ℕ → XtError → Type 0
NamesFirstMet blocks pages bound root (View e) = Unit {0}
NamesFirstMet blocks pages bound root (Bad page rule) = (met_extents blocks pages bound root ≡ Err (page, rule)) × ((es : List Xad) → spells_extents blocks pages root ≡ Ok es → ⊥)
