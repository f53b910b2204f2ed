use Rattle.jfs_turns.proofs.Purpose.{durable_is_the_log_sides}
use Rattle.jfs_turns.proofs.laws.durable_count_is_the_log_sides.Goals as goal

pub returns : goal.returns
returns g c = durable_is_the_log_sides g.E.HasClient.client g.V.Stands.stands g.L.Stands.stands
