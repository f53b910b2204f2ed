use Rattle.std.proofs.Common.{rules}
use Rattle.jfs_turns.proofs.Logs.{sees_durable}
use Rattle.jfs_turns.proofs.turns.Turns.settled.Goals as goal

pub load-requires : goal.load-requires
load-requires g c = (c.requires, search rules, sees_durable _ _ _ _ _ _ (search rules) (search rules))
