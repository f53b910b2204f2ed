use Rattle.std.proofs.Common.{◌≡◌}
use Rattle.std.specs.Vec.{vec_capacity}
use Rattle.jfs_disk.specs.Settled.{AreSettled}
use Rattle.jfs_disk.proofs.table.settle_all.Given as goal

abbrev pub invariant-loop-n : goal.invariant-loop-n
invariant-loop-n l = (AreSettled l.choices l.n l.fn.slots.items l.slots.items) × (vec_capacity l.slots ≡ vec_capacity l.fn.slots)
