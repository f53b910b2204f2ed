-- When a reservation is refused.
use Rattle.std.specs.Prelude.{◌≡◌, ℕ, ◌<◌, ◌≤◌, List, Result, Ok, Err}
use Rattle.jfs_bits.specs.declared.descriptor.Pxd.{Pxd}
use Rattle.jfs_bmap.specs.declared.reserve.ReserveError.{ReserveError}
use Rattle.jfs_bmap.specs.declared.reserve.ReserveError.TheVariants.{NoSpace as TooFew, Memory}
use Rattle.jfs_bmap.specs.States.{Blocks, free_count}

-- NoSpace comes exactly where fewer blocks are free than wanted, with their number; a list, and want of memory, only where enough are
abbrev pub AnswersBySpace : Blocks → ℕ → Result (List Pxd) ReserveError → Type 0
AnswersBySpace m n (Ok list) = n ≤ free_count m
AnswersBySpace m n (Err (TooFew why)) = (why.free ≡ free_count m) × (free_count m < n)
AnswersBySpace m n (Err Memory) = n ≤ free_count m
