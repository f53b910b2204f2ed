use Rattle.std.proofs.Common.{arith}
use Rattle.jfs_bits.specs.Bits.{is_taken}
use Rattle.jfs_bmap.specs.Set.{each_below}
use Rattle.jfs_bmap.proofs.Views.{length-each_below}
use Rattle.jfs_bmap.proofs.FromSet.{kept-fresh, view-fresh}
use Rattle.jfs_bmap.proofs.block_map.BlockMap.from_set.Goals as goal

pub invariant_of-result : goal.invariant_of-result
invariant_of-result c =
    let size = length-each_below c.args.blocks (is_taken c.args.set.now) in
    rw (c.in_ok-held.ensures, c.in_ok-used.ensures, c.in_ok-owned.ensures, c.new.ensures.items, c.new-2.ensures.items) (
      kept-fresh (each_below c.args.blocks (is_taken c.args.set.now)) (omega (arith, size, c.requires.most)) (rw c.new-2.ensures.items at c.new-2.ensures.heap_order),
      omega (arith, c.new-2.ensures.len),
      rw size c.requires.groups,
      λ h. absurd (omega arith),
    )

pub returns : goal.returns
returns c = rw (c.in_ok-held.ensures, c.in_ok-used.ensures, c.in_ok-owned.ensures, c.new.ensures.items, c.new-2.ensures.items) (view-fresh c.args.set.now c.args.blocks c.args.agsize)
