use Rattle.jfs_survival.proofs.Start.{start_law}
use Rattle.jfs_survival.proofs.law.mounted_halves_have_a_core.Goals as goal

pub returns : goal.returns
returns c = start_law
