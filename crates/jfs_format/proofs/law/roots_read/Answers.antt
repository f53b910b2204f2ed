use Rattle.jfs_format.proofs.Roots.{roots-read}
use Rattle.jfs_format.proofs.law.roots_read.Goals as goal

pub returns : goal.returns
returns c = roots-read
