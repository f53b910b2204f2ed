-- The inode extents that a transaction adds.
use Rattle.std.specs.Prelude.{◌<◌, ◌^◌, ℕ, if◌then◌else◌, List, [], ◌∷◌}
use Rattle.jfs_ranges.specs.declared.edit.Edit.{Edit}
use Rattle.jfs_ranges.specs.declared.edit.Edit.TheVariants.{Lines, NoRedo, Alloc, Free}
use Rattle.jfs_data_steps.specs.steps.specs.After.{is_extent, place_in}
use Rattle.jfs_marks.specs.declared.founded.Founded.{Founded}
use Rattle.jfs_marks.specs.declared.founded.Founded.TheVariants.{Nothing, One, Several}

-- one more
abbrev pub and_extent : ℕ → ℕ → Founded → Founded
and_extent place first Nothing = One (record { place = place; first = first })
and_extent place first (One extent) = Several
and_extent place first Several = Several

abbrev pub founded_by : Edit → Founded → Founded
founded_by (Lines page kind first bytes) f = if is_extent kind first bytes then and_extent (place_in bytes) page f else f
founded_by (NoRedo page) f = f
founded_by (Alloc run) f = f
founded_by (Free run) f = f

abbrev pub founded_with : List Edit → Founded → Founded
founded_with [] f = f
founded_with (e ∷ es) f = founded_with es (founded_by e f)

abbrev pub founded_in : List Edit → Founded
founded_in tx = founded_with tx Nothing

-- the first page of what is founded has a number of 32 bits
abbrev pub FitsFounded : Founded → Type 0
FitsFounded Nothing = Unit {0}
FitsFounded (One x) = x.first < 2 ^ 32
FitsFounded Several = Unit {0}
