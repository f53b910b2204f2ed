use Rattle.jfs_turns.proofs.Purpose.{sees_its_own}
use Rattle.jfs_turns.proofs.laws.sees_its_own_entries.Goals as goal

pub returns : goal.returns
returns g c = sees_its_own g.E.HasClient.client g.V.Stands.stands g.L.Stands.stands
