use Rattle.jfs_turns.specs.Both.{whole}
use Rattle.jfs_groups.proofs.Views.{onwards}
use Rattle.jfs_serving.proofs.lent.ask_behind_point.Goals as goal

pub returns-clause-goes_on : goal.returns-clause-goes_on
returns-clause-goes_on g c = onwards g.E.HasClient.client (whole c.args.both.now) (whole c.point_both.new.both) (whole c.ask.new.both) c.point_both.ensures.goes_on c.ask.ensures.goes_on
