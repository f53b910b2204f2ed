use Rattle.std.proofs.Common.{◌==◌, ◌/◌, ◌∙◌, not, sym, arith, below_more}
use Rattle.jfs_bits.specs.Bits.{is_free_run}
use Rattle.jfs_bits.proofs.Buds.{any_below-from, any_below-none}
use Rattle.jfs_image.proofs.space.has_run.Goals as goal

pub loop-j-preserved : goal.loop-j-preserved
loop-j-preserved c = λ count is. below_more _ _ (c.loop-j.invariant count is) (sym (c.is_free_run.ensures count is) ∙ c.if-is_free_run.false)

pub returns-then-is_free_run : goal.returns-then-is_free_run
returns-then-is_free_run c = λ count is.
    sym (any_below-from (c.args.owners.now.blocks / 4) (is_free_run (λ b. not (count b == 0)) 2) c.loop-j.j (let l = c.loop-j-test.true in let size = c.blocks-runs.ensures in omega (arith, l, size)) (sym (c.is_free_run.ensures count is) ∙ c.if-is_free_run.true))

pub returns : goal.returns
returns c = λ count is.
    sym (any_below-none (c.args.owners.now.blocks / 4) (is_free_run (λ b. not (count b == 0)) 2) (λ k l. c.loop-j.invariant count is k (let last = c.loop-j-test.false in let size = c.blocks-runs.ensures in omega (arith, l, last, size))))
