use Rattle.std.proofs.Common.{◌+◌, ◌*◌, ◌/◌, ◌%◌, ◌∙◌, refl, ℕ, List, Some}
use Rattle.jfs_disk.specs.Image.{page_of}
use Rattle.jfs_each.specs.Each.{Found, live_in, Visits}
use Rattle.jfs_each.proofs.Visiting.{visits_none, page_visits, moved}
use Rattle.jfs_each.proofs.each.each_in_extent.Goals as goal

pub loop-d-init : goal.loop-d-init
loop-d-init g c = record {
  blocks = refl;
  device = refl;
  count = refl;
  image = λ t. refl;
  visits = λ t. visits_none (g.W.EachInode.sees (g.V.PageView.block_count c.args.view.now) (g.V.PageView.image c.args.view.now)) (λ n. live_in (page_of (g.V.PageView.image c.args.view.now)) n (Some (c.args.first + n % 32 / 8))) (32 * c.args.e) c.args.visitor.now;
}

pub loop-d-preserved : goal.loop-d-preserved
loop-d-preserved g c = record {
  blocks = c.each_on_page.ensures.count_of_blocks ∙ c.loop-d.invariant.blocks;
  device = c.each_on_page.ensures.device ∙ c.loop-d.invariant.device;
  count = c.in_ok-each_on_page.ensures.fault ∙ c.loop-d.invariant.count;
  image = λ t. c.each_on_page.ensures.image t ∙ c.loop-d.invariant.image t;
  visits = λ t.
      page_visits (g.W.EachInode.sees (g.V.PageView.block_count c.args.view.now) (g.V.PageView.image c.args.view.now)) (page_of (g.V.PageView.image c.args.view.now)) c.args.first c.args.e c.loop-d.d
      c.args.visitor.now c.loop-d.visitor c.each_on_page.new.visitor c.loop-d-test.true (c.loop-d.invariant.visits t)
      (moved g.W.EachInode.sees (g.V.PageView.block_count c.args.view.now) (g.V.PageView.block_count c.loop-d.view) (g.V.PageView.image c.args.view.now) (g.V.PageView.image c.loop-d.view)
      (λ (see : g.row.W.Denot → ℕ → Found → g.row.W.Denot → Type 0) (page : ℕ → List ℕ). Visits see (λ n. live_in page n (Some (c.args.first + c.loop-d.d))) (32 * c.args.e + 8 * c.loop-d.d) 8 c.loop-d.visitor c.each_on_page.new.visitor)
      c.loop-d.invariant.blocks (c.loop-d.invariant.image t) (c.in_ok-each_on_page.ensures.visits t));
}
