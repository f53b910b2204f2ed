use Rattle.std.proofs.Common.{◌∙◌, sym, arith}
use Rattle.jfs_bmap.specs.Set.{taken_at}
use Rattle.jfs_bmap.proofs.Views.{length-held}
use Rattle.jfs_bmap.proofs.Grows.{is_full-none, is_full-more, is_full-not}
use Rattle.jfs_bmap.proofs.map_pages.MapPages.is_full.Goals as goal

pub loop-i-init : goal.loop-i-init
loop-i-init c = is_full-none (taken_at c.args.self.now) c.args.first

pub overflow_add-first : goal.overflow_add-first
overflow_add-first c =
    let size = length-held c.self.inside.blocks c.self.inside.dmaps.items c.args.self.now c.self.view_is in
    omega (arith, size, c.self.invariant.most)

pub returns-then-not-is_taken : goal.returns-then-not-is_taken
returns-then-not-is_taken c = sym (is_full-not (taken_at c.args.self.now) c.args.first c.args.n c.loop-i.i c.loop-i-test.true (sym c.is_taken.ensures ∙ c.if-not-is_taken.true))

pub loop-i-preserved : goal.loop-i-preserved
loop-i-preserved c = is_full-more (taken_at c.args.self.now) c.args.first c.loop-i.i c.loop-i.invariant (sym c.is_taken.ensures ∙ c.if-not-is_taken.false)
