use Rattle.std.proofs.Common.{◌≡◌, ◌&&◌, true}
use Rattle.jfs_bits.specs.Bits.{is_full}
use Rattle.jfs_bmap.specs.Set.{taken_at}
use Rattle.jfs_bmap.specs.Freed.{is_due}
use Rattle.jfs_bmap.proofs.settle.are_settled.Given as goal

abbrev pub invariant-loop-i : goal.invariant-loop-i
invariant-loop-i l = is_full (λ b. taken_at l.used b && is_due l.held l.entries l.told b) l.first l.i ≡ true
