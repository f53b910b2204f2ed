use Rattle.std.proofs.Common.{◌≡◌, drop}
use Rattle.jfs_records.specs.Redo.{all_of}
use Rattle.jfs_steps.specs.After.{extents_after}
use Rattle.jfs_redo_steps.proofs.extents.redo_extents.Given as goal

abbrev pub invariant-loop-tx : goal.invariant-loop-tx
invariant-loop-tx l = extents_after (all_of (drop l.tx-index l.transactions)) l.extents ≡ extents_after (all_of l.transactions) l.fn.extents
