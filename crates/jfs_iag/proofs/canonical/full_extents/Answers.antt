use Rattle.std.proofs.Common.{not, get_or, refl}
use Rattle.jfs_bits.specs.Bits.{is_taken}
use Rattle.jfs_iag.specs.Iag.{no_run}
use Rattle.jfs_iag.specs.Canonical.{has_free}
use Rattle.jfs_iag.proofs.Maps.{none-marked}
use Rattle.jfs_iag.proofs.canonical.full_extents.Goals as goal

pub loop-e-init : goal.loop-e-init
loop-e-init c = record { size = refl; marked = λ b. none-marked 16 b (not (has_free (is_taken c.args.set.now) (λ e. get_or c.args.extents.now e no_run) b)) }
