use Rattle.std.proofs.Common.{◌+◌, ◌∙◌, refl, ap, ℕ, List, Some}
use Rattle.jfs_disk.specs.Image.{page_of}
use Rattle.jfs_each.specs.Each.{Found, live_in, Step}
use Rattle.jfs_each.proofs.Visiting.{visits_none, visits_next, moved, in_slot}
use Rattle.jfs_each.proofs.each.each_slot.Goals as goal

pub loop-k-init : goal.loop-k-init
loop-k-init g c = record {
  blocks = refl;
  device = refl;
  count = refl;
  image = λ t. refl;
  visits = λ t. visits_none (g.W.EachInode.sees (g.V.PageView.block_count c.args.view.now) (g.V.PageView.image c.args.view.now)) (λ n. live_in (page_of (g.V.PageView.image c.args.view.now)) n (Some c.args.page)) c.args.from c.args.visitor.now;
}

pub loop-k-preserved : goal.loop-k-preserved
loop-k-preserved g c = record {
  blocks = c.see_slot.ensures.count_of_blocks ∙ c.loop-k.invariant.blocks;
  device = c.see_slot.ensures.device ∙ c.loop-k.invariant.device;
  count = c.in_ok-see_slot.ensures.fault ∙ c.loop-k.invariant.count;
  image = λ t. c.see_slot.ensures.image t ∙ c.loop-k.invariant.image t;
  visits = λ t.
      visits_next (g.W.EachInode.sees (g.V.PageView.block_count c.args.view.now) (g.V.PageView.image c.args.view.now)) (λ n. live_in (page_of (g.V.PageView.image c.args.view.now)) n (Some c.args.page)) c.args.from c.loop-k.k
      c.args.visitor.now c.loop-k.visitor c.see_slot.new.visitor (c.loop-k.invariant.visits t)
      (moved g.W.EachInode.sees (g.V.PageView.block_count c.args.view.now) (g.V.PageView.block_count c.loop-k.view) (g.V.PageView.image c.args.view.now) (g.V.PageView.image c.loop-k.view)
      (λ (see : g.row.W.Denot → ℕ → Found → g.row.W.Denot → Type 0) (page : ℕ → List ℕ). Step see (c.args.from + c.loop-k.k) (live_in page (c.args.from + c.loop-k.k) (Some c.args.page)) c.loop-k.visitor c.see_slot.new.visitor)
      c.loop-k.invariant.blocks (c.loop-k.invariant.image t) (c.in_ok-see_slot.ensures.step t (in_slot (page_of (g.V.PageView.image c.args.view.now)) (page_of (g.V.PageView.image c.loop-k.view)) c.args.copy.now.0 c.inode_in.result c.args.page c.args.from c.loop-k.k (c.requires.copy t) (ap page_of (c.loop-k.invariant.image t)) c.requires.slots c.loop-k-test.true c.inode_in.ensures.value)));
}
