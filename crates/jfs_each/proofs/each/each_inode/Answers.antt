use Rattle.std.proofs.Common.{◌≤◌, ◌+◌, ◌∙◌, refl, sym, subst, ℕ, List}
use Rattle.std.specs.Prelude.{get_or, None}
use Rattle.jfs_disk.specs.Image.{page_of}
use Rattle.jfs_each.specs.Each.{Found, found_at, VisitsPlace}
use Rattle.jfs_each.proofs.Visiting.{visits_none, place_visits, moved}
use Rattle.jfs_each.proofs.each.each_inode.Goals as goal

pub each_in_place-requires-clause-fits : goal.each_in_place-requires-clause-fits
each_in_place-requires-clause-fits g c = λ first is. subst (λ n. first + 4 ≤ n) (sym c.loop-e.invariant.blocks) (c.requires.fit c.loop-e.e first is)

pub loop-e-init : goal.loop-e-init
loop-e-init g c = record {
  blocks = refl;
  device = refl;
  count = refl;
  image = λ t. refl;
  visits = λ t. visits_none (g.W.EachInode.sees (g.V.PageView.block_count c.args.view.now) (g.V.PageView.image c.args.view.now)) (found_at (page_of (g.V.PageView.image c.args.view.now)) c.args.places.now) 0 c.args.visitor.now;
}

pub loop-e-preserved : goal.loop-e-preserved
loop-e-preserved g c = record {
  blocks = c.each_in_place.ensures.count_of_blocks ∙ c.loop-e.invariant.blocks;
  device = c.each_in_place.ensures.device ∙ c.loop-e.invariant.device;
  count = c.in_ok-each_in_place.ensures.fault ∙ c.loop-e.invariant.count;
  image = λ t. c.each_in_place.ensures.image t ∙ c.loop-e.invariant.image t;
  visits = λ t.
      place_visits (g.W.EachInode.sees (g.V.PageView.block_count c.args.view.now) (g.V.PageView.image c.args.view.now)) (page_of (g.V.PageView.image c.args.view.now)) c.args.places.now (get_or c.args.places.now c.loop-e.e None) c.loop-e.e
      c.args.visitor.now c.loop-e.visitor c.each_in_place.new.visitor refl (c.loop-e.invariant.visits t)
      (moved g.W.EachInode.sees (g.V.PageView.block_count c.args.view.now) (g.V.PageView.block_count c.loop-e.view) (g.V.PageView.image c.args.view.now) (g.V.PageView.image c.loop-e.view)
      (λ (see : g.row.W.Denot → ℕ → Found → g.row.W.Denot → Type 0) (page : ℕ → List ℕ). VisitsPlace see page c.loop-e.e (get_or c.args.places.now c.loop-e.e None) c.loop-e.visitor c.each_in_place.new.visitor)
      c.loop-e.invariant.blocks (c.loop-e.invariant.image t) (c.in_ok-each_in_place.ensures.visits t));
}
