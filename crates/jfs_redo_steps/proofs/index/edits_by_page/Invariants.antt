use Rattle.std.proofs.Common.{drop, []}
use Rattle.jfs_records.specs.Redo.{all_of}
use Rattle.jfs_redo_steps.proofs.ByPage.{AreAdded}
use Rattle.jfs_redo_steps.proofs.index.edits_by_page.Given as goal

abbrev pub invariant-loop-tx : goal.invariant-loop-tx
invariant-loop-tx l = AreAdded l.count (all_of l.transactions) (all_of (drop l.tx-index l.transactions)) [] l.index.items
