use Rattle.std.proofs.Common.{get_or, refl}
use Rattle.jfs_iag.specs.Iag.{no_run}
use Rattle.jfs_iag.specs.Canonical.{is_there}
use Rattle.jfs_iag.proofs.Maps.{none-marked}
use Rattle.jfs_iag.proofs.canonical.present_extents.Goals as goal

pub loop-e-init : goal.loop-e-init
loop-e-init c = record { size = refl; marked = λ b. none-marked 16 b (is_there (get_or c.args.extents.now b no_run)) }
