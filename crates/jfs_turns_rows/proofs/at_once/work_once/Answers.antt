use Rattle.std.proofs.Common.{sym, ◌∙◌}
use Rattle.jfs_turns_rows.proofs.Callers.{keeps}
use Rattle.jfs_turns_rows.proofs.at_once.work_once.Goals as goal

pub returns-in-None : goal.returns-in-None
returns-in-None g c = keeps _ _ _ _ (sym c.take.ensures.value ∙ c.in-Some.is) c.replace.ensures.after c.work-pass.ensures
