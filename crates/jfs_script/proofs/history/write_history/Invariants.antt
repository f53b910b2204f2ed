use Rattle.std.proofs.Common.{◌++◌}
use Rattle.jfs_script.specs.History.{history_text}
use Rattle.jfs_script.proofs.Histories.{Left}
use Rattle.jfs_script.proofs.history.write_history.Given as goal

abbrev pub invariant-loop-entry : goal.invariant-loop-entry
invariant-loop-entry l = Left l.number l.entry-index l.rest l.history l.into.items (l.initial.into.items ++ history_text 1 l.told l.history)
