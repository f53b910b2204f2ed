use Rattle.jfs_turns.proofs.Purpose.{both_agree}
use Rattle.jfs_turns.proofs.laws.both_turns_agree.Goals as goal

pub returns : goal.returns
returns g c = both_agree g.E.HasClient.client g.V.Stands.stands g.L.Stands.stands
