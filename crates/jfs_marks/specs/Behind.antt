-- A transaction that takes no block which an edit before frees.
use Rattle.std.specs.Prelude.{◌-◌, ◌&&◌, ◌||◌, Bool, true, false, not, nat_le, nat_lt, if◌then◌else◌, List, [], ◌∷◌}
use Rattle.jfs_bits.specs.declared.descriptor.Pxd.{Pxd}
use Rattle.jfs_ranges.specs.declared.edit.Edit.{Edit}
use Rattle.jfs_ranges.specs.declared.edit.Edit.TheVariants.{Lines, NoRedo, Alloc, Free}
use Rattle.jfs_data_steps.specs.steps.specs.After.{is_extent, four_from}

-- one of two runs begins in the other
abbrev pub overlap : Pxd → Pxd → Bool
overlap a b = if nat_le a.addr b.addr then nat_lt (b.addr - a.addr) a.len else nat_lt (a.addr - b.addr) b.len

-- an edit takes a block of a run, as new inodes do with theirs
abbrev pub takes_of : Edit → Pxd → Bool
takes_of (Lines page kind first bytes) run = is_extent kind first bytes && overlap (four_from page) run
takes_of (NoRedo page) run = false
takes_of (Alloc taken) run = overlap taken run
takes_of (Free freed) run = false

-- or of any
abbrev pub takes_any : Edit → Bool
takes_any (Lines page kind first bytes) = is_extent kind first bytes
takes_any (NoRedo page) = false
takes_any (Alloc taken) = true
takes_any (Free freed) = false

abbrev pub takes_some : List Edit → Bool
takes_some [] = false
takes_some (e ∷ es) = takes_any e || takes_some es

abbrev pub is_taken_in : List Edit → Pxd → Bool
is_taken_in [] run = false
is_taken_in (e ∷ es) run = takes_of e run || is_taken_in es run

abbrev pub frees_behind : List Edit → Bool
frees_behind [] = true
frees_behind (Lines page kind first bytes ∷ es) = frees_behind es
frees_behind (NoRedo page ∷ es) = frees_behind es
frees_behind (Alloc run ∷ es) = frees_behind es
frees_behind (Free run ∷ es) = not (is_taken_in es run) && frees_behind es
