use Rattle.std.proofs.Common.{length, ap, ◌∙◌, arith}
use Rattle.jfs_bmap.specs.States.{Blocks}
use Rattle.jfs_bmap.proofs.Puts.{put-length}
use Rattle.jfs_bmap.proofs.Reservations.{next-some, next-free, free-within}
use Rattle.jfs_bmap.proofs.LowestBlocks.{each-none, each-next, each-all}
use Rattle.jfs_bmap.proofs.block_map.BlockMap.reserve_blocks.Goals as goal

pub loop-left-init : goal.loop-left-init
loop-left-init c = rw c.requires.empty (each-none c.args.self.now c.args.n c.requires.enough)

pub reserve_run-requires-clause-within : goal.reserve_run-requires-clause-within
reserve_run-requires-clause-within c =
    let block = c.next_run-block.result in
    free-within c.loop-left.self block.addr block.len (next-free _ 1 block c.next_run-block.ensures) (next-some _ 1 block c.next_run-block.ensures (omega arith))

pub overflow_cast-block : goal.overflow_cast-block
overflow_cast-block c =
    let block = c.next_run-block.result in
    let now = c.loop-left.self in
    let size = ap (λ (b : Blocks). length b.states) c.loop-left.invariant.holds.reserved ∙ put-length _ c.loop-left.list c.args.self.now in
    let within = free-within now block.addr block.len (next-free _ 1 block c.next_run-block.ensures) (next-some _ 1 block c.next_run-block.ensures (omega arith)) in
    omega (arith, size, within, c.blocks-blocks.ensures.value, c.blocks-blocks.ensures.most)

pub loop-left-preserved : goal.loop-left-preserved
loop-left-preserved c =
    rw (c.in_ok-reserve_run.ensures.reserved, c.in_ok-reserve_run.ensures.list)
    (each-next c.args.self.now c.loop-left.self c.args.n c.loop-left.left c.loop-left.list c.next_run-block.result c.loop-left-test.true c.loop-left.invariant c.next_run-block.ensures)

pub returns-clause-chosen : goal.returns-clause-chosen
returns-clause-chosen c = each-all c.args.self.now c.loop-left.self c.args.n c.loop-left.left c.loop-left.list c.loop-left.invariant
