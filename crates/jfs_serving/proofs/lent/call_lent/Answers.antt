use Rattle.jfs_turns.specs.Both.{whole}
use Rattle.jfs_groups.proofs.Views.{onwards}
use Rattle.jfs_serving.proofs.lent.call_lent.Goals as goal

pub returns-in-NeedsLog-clause-goes_on : goal.returns-in-NeedsLog-clause-goes_on
returns-in-NeedsLog-clause-goes_on g c =
    onwards g.E.HasClient.client (whole c.args.both.now) (whole c.ask_with_room.new.both) (whole c.ask_behind_point.new.both) c.ask_with_room.ensures.goes_on c.ask_behind_point.ensures.goes_on
