use Rattle.std.proofs.Common.{◌≡◌, drop}
use Rattle.jfs_records.specs.Redo.{redone}
use Rattle.jfs_redo_steps.specs.ByPage.{edits_in}
use Rattle.jfs_redo_steps.proofs.page.redo_edits.Given as goal

abbrev pub invariant-loop-entry : goal.invariant-loop-entry
invariant-loop-entry l = redone l.n l.left.0 l.page.0 (edits_in (drop l.entry-index l.edits)) ≡ redone l.n l.left.0 l.fn.page.0 (edits_in l.edits)
