use Rattle.jfs_turns.specs.Both.{whole}
use Rattle.jfs_serving.proofs.Joining.{same_goes}
use Rattle.jfs_serving.proofs.lent.ask.Goals as goal

pub returns-clause-goes_on : goal.returns-clause-goes_on
returns-clause-goes_on g c = same_goes g.E.HasClient.client (whole c.args.both.now)
