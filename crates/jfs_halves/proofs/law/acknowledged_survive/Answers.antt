use Rattle.jfs_halves.proofs.Stepped.{survive}
use Rattle.jfs_halves.proofs.law.acknowledged_survive.Goals as goal

pub returns : goal.returns
returns c = survive
