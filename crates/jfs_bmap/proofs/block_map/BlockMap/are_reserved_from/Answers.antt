use Rattle.std.proofs.Common.{◌∙◌, sym, arith}
use Rattle.jfs_bmap.specs.States.{is_reserved}
use Rattle.jfs_bmap.proofs.Grows.{is_full-none, is_full-more, is_full-not}
use Rattle.jfs_bmap.proofs.Opened.{size-is}
use Rattle.jfs_bmap.proofs.block_map.BlockMap.are_reserved_from.Goals as goal

pub loop-i-init : goal.loop-i-init
loop-i-init c = is_full-none (is_reserved c.args.self.now) c.args.first

pub overflow_add-first : goal.overflow_add-first
overflow_add-first c = omega (arith, size-is c.self.inside c.args.self.now c.self.view_is, c.self.invariant.0.most, c.requires, c.loop-i-test.true)

pub returns-then-not-is_reserved : goal.returns-then-not-is_reserved
returns-then-not-is_reserved c = sym (is_full-not (is_reserved c.args.self.now) c.args.first c.args.n c.loop-i.i c.loop-i-test.true (sym c.is_reserved.ensures ∙ c.if-not-is_reserved.true))

pub loop-i-preserved : goal.loop-i-preserved
loop-i-preserved c = is_full-more (is_reserved c.args.self.now) c.args.first c.loop-i.i c.loop-i.invariant (sym c.is_reserved.ensures ∙ c.if-not-is_reserved.false)
