use Rattle.std.proofs.Common.{◌<◌, ℕ, get_or, refl, arith}
use Rattle.std.specs.Prelude.{replicate}
use Rattle.std.proofs.lemmas.List.{get_or-replicate}
use Rattle.jfs_bits.specs.Descriptor.{FitsPxd}
use Rattle.jfs_iag.specs.Iag.{no_run}
use Rattle.jfs_inode_rows.proofs.groups.extents_at.Goals as goal

none-fits : (e : ℕ) → e < 128 → FitsPxd (get_or (replicate 128 no_run) e no_run)
none-fits e h = rw (get_or-replicate 128 e no_run no_run h) (record { len = omega arith; addr = omega arith })

pub loop-place-init : goal.loop-place-init
loop-place-init c = record { size = refl; fits = none-fits }
