-- Why a range is refused, whatever the volume holds.
use Rattle.std.specs.Prelude.{◌≡◌, ◌⊎◌, ◌-◌, ◌==◌, if◌then◌else◌, ℕ, List, length, slice_get, Option, Some, None, Result, Ok, Err}
use Rattle.jfs_bits.specs.declared.extent.Xad.{Xad}
use Rattle.jfs_bits.specs.declared.rule.Rule.{Rule}
use Rattle.jfs_bits.specs.declared.rule.Rule.TheVariants as rules
use Rattle.jfs_tree.specs.Spells.{no_page}
use Rattle.jfs_tree.specs.declared.form.TreeError.{TreeError}
use Rattle.jfs_tree.specs.declared.form.TreeError.TheVariants as tree
use Rattle.jfs_xtpage.specs.Page.{end_of}
use Rattle.jfs_xtree.specs.declared.error.XtError.{XtError}
use Rattle.jfs_xtree.specs.declared.error.XtError.TheVariants.{View, Bad}
use Rattle.jfs_ways.specs.Along.{broken_along}
use Rattle.jfs_put_range.specs.Call.{LacksTwo}

abbrev pub offset_of : Option Xad → ℕ
offset_of None = 0
offset_of (Some x) = x.offset

abbrev pub end_after : Option Xad → ℕ
end_after None = 0
end_after (Some x) = end_of x

-- the first block of the file that extents have, and the first one behind all that they have
abbrev pub first_of : List Xad → ℕ
first_of xs = offset_of (slice_get xs 0)

abbrev pub end_of_all : List Xad → ℕ
end_of_all xs = end_after (slice_get xs (length xs - 1))

-- The first broken rule on a range's way, and the page that breaks it: on the ways of the blocks of the file from its first one to its last, one after the other.
abbrev pub broken_on_range : ℕ → (ℕ → List ℕ) → List ℕ → List Xad → Option (ℕ × Rule)
broken_on_range blocks pages root xs = broken_along blocks pages root (first_of xs) (end_of_all xs - first_of xs)

-- A page is named where it is the first one on the range's way that breaks a rule by itself, with that rule; or where none does, a page with rule `order`, and the root with rule `deep`,
-- which has fewer than two free slots then.
-- Where the range was written, none on its way breaks a rule.
abbrev pub RangeTellsWay : Option (ℕ × Rule) → List ℕ → Result (Unit {0}) XtError → Type 0
RangeTellsWay first root (Ok it) = first ≡ None
RangeTellsWay first root (Err (View e)) = Unit {0}
RangeTellsWay first root (Err (Bad page rule)) = (first ≡ Some (page, rule)) ⊎ ((first ≡ None) × ((rule ≡ rules.Order) ⊎ ((page ≡ no_page) × (rule ≡ rules.Deep) × LacksTwo root)))

-- what an error of pages that break no rule by themselves means
abbrev pub as_clash : TreeError → TreeError
as_clash (tree.View e) = tree.View e
as_clash (tree.Bad page rule) = if page == no_page then tree.Bad page rules.Deep else tree.Bad page rules.Order
as_clash tree.Memory = tree.Memory
