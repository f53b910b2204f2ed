-- Whether runs of blocks have a block in common, as a test.
use Rattle.std.specs.Prelude.{ℕ, ◌+◌, Bool, true, false, not, ◌&&◌, ◌||◌, nat_lt, List, [], ◌∷◌}
use Rattle.jfs_bits.specs.declared.descriptor.Pxd.{Pxd}

-- a run has a block, and begins before the end of another
abbrev pub begins_before : Pxd → Pxd → Bool
begins_before one other = nat_lt 0 one.len && nat_lt one.addr (other.addr + other.len)

abbrev pub overlap : Pxd → Pxd → Bool
overlap one other = begins_before one other && begins_before other one

abbrev pub overlaps_one : Pxd → List Pxd → Bool
overlaps_one run [] = false
overlaps_one run (other ∷ others) = overlap run other || overlaps_one run others

abbrev pub are_apart : List Pxd → Bool
are_apart [] = true
are_apart (run ∷ runs) = not (overlaps_one run runs) && are_apart runs
