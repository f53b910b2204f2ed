use Rattle.std.proofs.Common.{◌&&◌, ◌∙◌, sym}
use Rattle.jfs_bmap.specs.Set.{taken_at}
use Rattle.jfs_bmap.specs.Freed.{is_due}
use Rattle.jfs_bmap.proofs.Grows.{is_full-none, is_full-more, is_full-not}
use Rattle.jfs_bmap.proofs.settle.are_settled.Goals as goal

pub loop-i-init : goal.loop-i-init
loop-i-init c = is_full-none (λ b. taken_at c.args.used.now b && is_due c.args.held.now c.args.entries.now c.args.told b) c.args.first

pub returns-then-not-is_settled : goal.returns-then-not-is_settled
returns-then-not-is_settled c = sym (is_full-not (λ b. taken_at c.args.used.now b && is_due c.args.held.now c.args.entries.now c.args.told b) c.args.first c.args.n c.loop-i.i c.loop-i-test.true (sym c.is_settled.ensures ∙ c.if-not-is_settled.true))

pub loop-i-preserved : goal.loop-i-preserved
loop-i-preserved c = is_full-more (λ b. taken_at c.args.used.now b && is_due c.args.held.now c.args.entries.now c.args.told b) c.args.first c.loop-i.i c.loop-i.invariant (sym c.is_settled.ensures ∙ c.if-not-is_settled.false)
