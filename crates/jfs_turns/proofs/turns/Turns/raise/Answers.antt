use Rattle.std.proofs.Common.{rules}
use Rattle.jfs_turns.proofs.Logs.{raises}
use Rattle.jfs_turns.proofs.turns.Turns.raise.Goals as goal

pub fetch_max-requires : goal.fetch_max-requires
fetch_max-requires g c = let t = c.args.turn.now in let r = c.requires in (r.table, search rules, raises _ _ _ _ _ _ _ t.has.0.0 t.has.0.2 t.has.0.3 r.within.0 r.within.1)
