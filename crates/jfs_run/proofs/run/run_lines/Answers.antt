use Rattle.std.proofs.Common.{refl}
use Rattle.jfs_run.proofs.run.run_lines.Goals as goal

pub run_from-requires-clause-image : goal.run_from-requires-clause-image
run_from-requires-clause-image g c κs within = (refl, refl)
