use Rattle.jfs_agree.proofs.Agreed.{new_law}
use Rattle.jfs_agree.proofs.law.new_maps_agree.Goals as goal

pub returns : goal.returns
returns c = new_law
