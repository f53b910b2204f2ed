use Rattle.jfs_turns.proofs.Purpose.{at_most_one}
use Rattle.jfs_turns.proofs.laws.at_most_one_holder.Goals as goal

pub returns : goal.returns
returns g c = at_most_one g.E.HasClient.client g.V.Stands.stands g.L.Stands.stands
