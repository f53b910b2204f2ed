use Rattle.jfs_turns.specs.Both.{whole}
use Rattle.jfs_groups.proofs.Views.{onwards}
use Rattle.jfs_serving.proofs.lent.ask_with_room.Goals as goal

pub returns-clause-goes_on : goal.returns-clause-goes_on
returns-clause-goes_on g c = onwards g.E.HasClient.client (whole c.args.both.now) (whole c.make_room.new.both) (whole c.ask.new.both) c.make_room.ensures.goes_on c.ask.ensures.goes_on
