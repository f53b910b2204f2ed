use Rattle.jfs_turns.proofs.Purpose.{seen_is_prefix}
use Rattle.jfs_turns.proofs.laws.seen_is_a_prefix.Goals as goal

pub returns : goal.returns
returns g c = seen_is_prefix g.E.HasClient.client g.V.Stands.stands g.L.Stands.stands
