use Rattle.std.proofs.Common.{rules, ◌∙◌}
use Rattle.jfs_turns.proofs.Logs.{gives_log}
use Rattle.jfs_turns.proofs.turns.Turns.give_log.Goals as goal

pub store-requires : goal.store-requires
store-requires g c = let t = c.args.turn.has in (c.exchange.ensures.0 ∙ c.requires.table, search rules, gives_log _ _ _ _ _ _ _ _ _ c.exchange.ensures.3 t.0.0 t.0.2 t.0.3 c.requires.stands)
