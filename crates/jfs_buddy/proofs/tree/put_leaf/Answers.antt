use Rattle.std.proofs.Common.{◌≡◌, ◌+◌, ◌-◌, ◌/◌, ◌∙◌, sym, refl, arith}
use Rattle.std.proofs.lemmas.Bool.{eqb-true}
use Rattle.jfs_buddy.specs.Tree.{first_of, rank_at}
use Rattle.jfs_buddy.proofs.Ranks.{first_of-next, above-changed, none-changed, rank-changed, kept}
use Rattle.jfs_buddy.proofs.tree.put_leaf.Goals as goal

pub replace_rank-before-requires : goal.replace_rank-before-requires
replace_rank-before-requires c = omega (arith, first_of-next c.args.height, c.requires.size)

pub loop-n-init : goal.loop-n-init
loop-n-init c = let put = c.replace_rank-before.ensures in record {
  within = omega (arith, first_of-next c.args.height, c.requires.size);
  changed = grind (arith, put.now);
  leaves = λ v. grind (arith, put.now, c.requires.size);
  inner = λ h. rank-changed _ (rank_at c.args.tree.now) (rank_at c.replace_rank-before.new.tree) _ _ c.args.rank put.before put.now (λ m room. grind (arith, h));
}

pub returns-then-has_rank-clause-inner : goal.returns-then-has_rank-clause-inner
returns-then-has_rank-clause-inner c h m room =
    let i = c.loop-n.invariant in
    none-changed _ (rank_at c.loop-n.tree) _ c.greatest_now-now.result m (eqb-true _ _ (sym c.has_rank.ensures ∙ c.if-has_rank.true)) (
    above-changed _ (rank_at c.loop-n.tree) c.loop-n.n _ c.loop-n.before c.greatest_now-now.result c.loop-n-test.true refl (i.inner h) (c.greatest_now-now.ensures c.loop-n.n (omega arith) (omega arith) i.changed)) (omega arith)

pub loop-n-preserved : goal.loop-n-preserved
loop-n-preserved c = let put = c.replace_rank-before-in-loop-n.ensures in let i = c.loop-n.invariant in record {
  within = omega arith;
  changed = grind (arith, put.now);
  leaves = λ v. kept _ _ _ _ _ (put.now (first_of c.args.height + v)) (λ (e : (c.loop-n.n - 1) / 4 ≡ first_of c.args.height + v). absurd (omega (arith, c.requires.size, c.requires.within))) ∙ i.leaves v;
  inner = λ h.
      rank-changed _ (rank_at c.loop-n.tree) (rank_at c.replace_rank-before-in-loop-n.new.tree) _ _ c.greatest_now-now.result put.before put.now (
      above-changed _ (rank_at c.loop-n.tree) c.loop-n.n _ c.loop-n.before c.greatest_now-now.result c.loop-n-test.true refl (i.inner h) (c.greatest_now-now.ensures c.loop-n.n (omega arith) (omega arith) i.changed));
}
