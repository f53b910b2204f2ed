use Rattle.std.proofs.Common.{◌≡◌, drop}
use Rattle.jfs_data_steps.specs.After.{is_put}
use Rattle.jfs_marks.proofs.changes.is_put.Given as goal

abbrev pub invariant-loop-d : goal.invariant-loop-d
invariant-loop-d l = is_put l.p (drop l.d-index l.written) ≡ is_put l.p l.written
