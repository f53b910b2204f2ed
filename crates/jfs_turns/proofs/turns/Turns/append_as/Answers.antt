use Rattle.std.proofs.Common.{rules, sym, ◌∙◌}
use Rattle.jfs_turns.proofs.Steps.{appends_one}
use Rattle.jfs_turns.proofs.turns.Turns.append_as.Goals as goal

pub fetch_add-requires : goal.fetch_add-requires
fetch_add-requires g c = let t = c.args.turn.now in let r = c.requires in (r.table, search rules, appends_one _ _ _ _ _ _ _ t.may.0.0 t.may.0.1 t.may.0.2 r.room (r.said.0, r.said.1, r.said.2 ∙ sym t.may.1))
