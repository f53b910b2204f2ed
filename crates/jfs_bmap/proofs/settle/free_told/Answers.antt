use Rattle.std.proofs.Common.{◌∙◌, ◌&&◌, Bool, not, ap, arith}
use Rattle.std.specs.BinaryHeap.{heap_items}
use Rattle.jfs_bmap.specs.Set.{taken_at}
use Rattle.jfs_bmap.specs.Freed.{covers, is_due}
use Rattle.jfs_bmap.proofs.Settling.{pending-less, pending-within, freed-rest}
use Rattle.jfs_bmap.proofs.settle.free_told.Goals as goal

pub free_blocks-requires-clause-within : goal.free_blocks-requires-clause-within
free_blocks-requires-clause-within c = pending-within c.in-Some.run' (heap_items c.pop_told.new.freed) c.loop-run.invariant.pending c.in-Some.ensures.others

pub loop-run-preserved : goal.loop-run-preserved
loop-run-preserved c =
    let run = c.in-Some.run' in
    let before = c.loop-run.invariant in
    record {
      blocks = c.free_blocks.ensures.blocks ∙ before.blocks;
      pending = pending-less run c.args.told c.free_blocks.new.used (heap_items c.pop_told.new.freed) before.pending c.pop_told.ensures.order c.in-Some.ensures.told c.in-Some.ensures.others c.free_blocks.ensures.blocks c.free_blocks.ensures.used;
      used = λ b. ap (λ (u : Bool). u && not (is_due c.args.held.now c.args.entries.now c.args.told b)) (c.free_blocks.ensures.used b) ∙ freed-rest (covers run b) (taken_at c.loop-run.used b) (is_due c.args.held.now c.args.entries.now c.args.told b) ∙ before.used b;
      fewer = omega (arith, c.pop_told.ensures.fewer, before.fewer);
      capacity = c.pop_told.ensures.capacity ∙ before.capacity;
    }
