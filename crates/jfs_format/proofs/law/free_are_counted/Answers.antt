use Rattle.jfs_format.proofs.Accepted.{free-counted}
use Rattle.jfs_format.proofs.law.free_are_counted.Goals as goal

pub returns : goal.returns
returns c = free-counted
