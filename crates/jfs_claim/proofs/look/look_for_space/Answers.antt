use Rattle.jfs_claim.proofs.Looks.{space_told}
use Rattle.jfs_claim.proofs.look.look_for_space.Goals as goal

pub returns-clause-room : goal.returns-clause-room
returns-clause-room c = rw (c.space_for.ensures, c.unowned.ensures) (space_told c.args.blocks.now c.args.need)
