use Rattle.std.proofs.Common.{◌≤◌, ◌-◌, ◌+◌, length, refl, sym, ap, arith}
use Rattle.jfs_bmap.specs.States.{Blocks, is_reserved, is_reserved_state, state_of}
use Rattle.jfs_bmap.proofs.Grows.{is_full-none, is_full-not}
use Rattle.jfs_bmap.proofs.Opened.{size-is}
use Rattle.jfs_bmap.proofs.Overlap.{ends_past}
use Rattle.jfs_bmap.proofs.block_map.BlockMap.is_reserved_run.Goals.{then-first-blocks-via-then-first-blocks, then-first-blocks-via-else-first-blocks+then-from-blocks}
use Rattle.jfs_bmap.proofs.block_map.BlockMap.is_reserved_run.Goals as goal

pub returns-then-n-eq0 : goal.returns-then-n-eq0
returns-then-n-eq0 c = rw c.if-n-eq0.true (sym (is_full-none (is_reserved c.args.self.now) c.args.run.now.addr))

pub returns-then-first-blocks : goal.returns-then-first-blocks
returns-then-first-blocks c =
    let size = size-is c.self.inside c.args.self.now c.self.view_is in
    sym (ends_past c.args.self.now c.args.run.now.addr c.args.run.now.len c.if-n-eq0.false (elim c.then-first-blocks.branch [
      | then-first-blocks-via-then-first-blocks w ↦ omega (arith, size, w.if-first-blocks.true, c.from-blocks.ensures, c.blocks-2.ensures.value)
      | then-first-blocks-via-else-first-blocks+then-from-blocks w ↦ omega (arith, size, w.if-first-blocks.false, w.from.ensures, w.if-from-blocks.true, c.from-blocks.ensures, c.blocks-2.ensures.value)
    ]))

pub are_reserved_from-requires : goal.are_reserved_from-requires
are_reserved_from-requires c = omega (arith, size-is c.self.inside c.args.self.now c.self.view_is, c.if-first-blocks.false, c.from.ensures, c.if-from-blocks.false, c.from-blocks.ensures, c.blocks-2.ensures.value)
