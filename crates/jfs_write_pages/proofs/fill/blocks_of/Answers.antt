use Rattle.std.proofs.Common.{◌∙◌, ◌++◌, ◌+◌, ap, sym, subst, drop}
use Rattle.jfs_bits.specs.declared.descriptor.Pxd.{Pxd}
use Rattle.jfs_data_steps.specs.page_tree.specs.Form.{AllBelow}
use Rattle.jfs_data_steps.specs.page_tree.specs.Fresh.{blocks_of}
use Rattle.jfs_write_pages.proofs.Steps.{runs_step, runs_below, appended}
use Rattle.jfs_write_pages.proofs.fill.blocks_of.Goals as goal

abbrev blank : Pxd
blank = record { len = 0; addr = 0 }

pub loop-run-init : goal.loop-run-init
loop-run-init c = record { rest = ap (λ xs. xs ++ blocks_of c.as_slice-run-items.result.now) c.new-news.ensures.items; below = subst (λ ps. AllBelow c.args.blocks (blocks_of ps)) (sym c.as_slice-run-items.ensures) c.requires }

pub push_blocks-requires : goal.push_blocks-requires
push_blocks-requires c = (runs_below c.args.blocks c.as_slice-run-items.result.now c.loop-run.run-index blank c.loop-run-test.true c.loop-run.invariant.below).0

pub loop-run-preserved : goal.loop-run-preserved
loop-run-preserved c = record {
  rest = appended c.push_blocks.new.news.items c.loop-run.news.items _ (blocks_of (drop (c.loop-run.run-index + 1) c.as_slice-run-items.result.now)) c.in_ok-push_blocks.ensures
      ∙ ap (λ xs. c.loop-run.news.items ++ xs) (sym (runs_step c.as_slice-run-items.result.now c.loop-run.run-index blank c.loop-run-test.true)) ∙ c.loop-run.invariant.rest;
  below = (runs_below c.args.blocks c.as_slice-run-items.result.now c.loop-run.run-index blank c.loop-run-test.true c.loop-run.invariant.below).1;
}
