use Rattle.jfs_kinds.proofs.Holding.{contents_law}
use Rattle.jfs_kinds.proofs.law.contents_have_owners.Goals as goal

pub returns : goal.returns
returns c = contents_law
