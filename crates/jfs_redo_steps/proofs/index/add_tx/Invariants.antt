use Rattle.std.proofs.Common.{drop}
use Rattle.jfs_redo_steps.proofs.ByPage.{AreAdded}
use Rattle.jfs_redo_steps.proofs.index.add_tx.Given as goal

abbrev pub invariant-loop-edit : goal.invariant-loop-edit
invariant-loop-edit l = AreAdded l.count l.tx (drop l.edit-index l.tx) l.fn.index.items l.index.items
