use Rattle.std.proofs.Common.{arith}
use Rattle.jfs_create.proofs.extent.free_page.Goals as goal

pub returns : goal.returns
returns c = record {
  size = c.loop-slot.invariant.size;
  slots = λ k l. c.loop-slot.invariant.slots k (let e = c.loop-slot-test.false in omega (arith, l, e));
}
