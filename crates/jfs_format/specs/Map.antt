-- The inode maps and the block map of a new volume, as functions. For the prover alone: the sets that the clauses name are the same.
use Rattle.std.specs.Prelude.{ℕ, ◌+◌, ◌-◌, ◌==◌, min, max, if◌then◌else◌}
use Rattle.jfs_bits.specs.declared.descriptor.Pxd.{Pxd}
use Rattle.jfs_iag.specs.Iag.{no_run}
use Rattle.jfs_format.specs.declared.layout.Layout.{Layout}
use Rattle.jfs_format.specs.Layout.{owned_blocks}

-- the first place has an extent
abbrev pub place_of : Pxd → ℕ → Pxd
place_of run e = if e == 0 then run else no_run

-- how many of the `n` blocks from `first` on are free
abbrev pub free_from : Layout → ℕ → ℕ → ℕ
free_from l first n = min (first + n) l.blocks - max first (owned_blocks l)
