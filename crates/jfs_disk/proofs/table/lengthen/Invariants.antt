use Rattle.std.proofs.Common.{◌≡◌, ◌≤◌, ◌++◌, None}
use Rattle.std.specs.Prelude.{replicate}
use Rattle.std.specs.Vec.{vec_capacity}
use Rattle.jfs_disk.proofs.table.lengthen.Given as goal

abbrev pub invariant-loop : goal.invariant-loop
invariant-loop l = (l.slots.items ≡ l.fn.slots.items ++ replicate l.counter None) × (vec_capacity l.fn.slots ≤ vec_capacity l.slots)
