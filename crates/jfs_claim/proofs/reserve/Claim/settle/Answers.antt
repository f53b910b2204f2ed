use Rattle.std.proofs.Common.{◌∙◌}
use Rattle.jfs_claim.proofs.Settles.{left_reserved, settled}
use Rattle.jfs_claim.proofs.reserve.Claim.settle.Goals as goal

pub give_back-requires : goal.give_back-requires
give_back-requires c = left_reserved c.requires.0 c.args.map.now c.args.self.now c.requires.1 c.requires.2

pub returns : goal.returns
returns c before taken is = c.give_back.ensures ∙ settled before c.args.map.now c.args.self.now taken is
