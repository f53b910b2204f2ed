use Rattle.std.proofs.Common.{◌≡◌, drop}
use Rattle.jfs_steps.specs.After.{extents_after}
use Rattle.jfs_redo_steps.proofs.extents.put_tx.Given as goal

abbrev pub invariant-loop-edit : goal.invariant-loop-edit
invariant-loop-edit l = extents_after (drop l.edit-index l.tx) l.extents ≡ extents_after l.tx l.fn.extents
