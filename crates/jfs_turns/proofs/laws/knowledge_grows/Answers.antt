use Rattle.jfs_turns.proofs.Purpose.{knowledge_grows}
use Rattle.jfs_turns.proofs.laws.knowledge_grows.Goals as goal

pub returns : goal.returns
returns g c = knowledge_grows g.E.HasClient.client
