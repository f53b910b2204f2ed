use Rattle.std.proofs.Common.{◌∙◌, ◌++◌, ◌+◌, ◌-◌, ◌∷◌, ap, sym, arith}
use Rattle.jfs_data_steps.specs.page_tree.specs.Fresh.{run_from}
use Rattle.jfs_write_pages.proofs.Steps.{run_step, pushed, below_here, below_next}
use Rattle.jfs_write_pages.proofs.fill.push_blocks.Goals as goal

pub overflow_cast-addr : goal.overflow_cast-addr
overflow_cast-addr c =
    let h = below_here c.args.blocks c.args.run.now.addr c.args.run.now.len c.loop-k.k c.loop-k-test.true c.loop-k.invariant.below in
    let e = c.from.ensures in let b = c.ranges.blocks.fits in omega (arith, h, e, b)

pub loop-k-preserved : goal.loop-k-preserved
loop-k-preserved c = record {
  rest =
      pushed c.push.new.self.items c.loop-k.news.items (run_from (c.args.run.now.addr + (c.loop-k.k + 1)) (c.args.run.now.len - (c.loop-k.k + 1))) (c.args.run.now.addr + c.from.result) c.in_ok-push.ensures.items
      ∙ ap (λ n. c.loop-k.news.items ++ (c.args.run.now.addr + n) ∷ run_from (c.args.run.now.addr + (c.loop-k.k + 1)) (c.args.run.now.len - (c.loop-k.k + 1))) c.from.ensures
      ∙ ap (λ xs. c.loop-k.news.items ++ xs) (sym (run_step c.args.run.now.addr c.args.run.now.len c.loop-k.k c.loop-k-test.true))
      ∙ c.loop-k.invariant.rest;
  below = below_next c.args.blocks c.args.run.now.addr c.args.run.now.len c.loop-k.k c.loop-k-test.true c.loop-k.invariant.below;
}
