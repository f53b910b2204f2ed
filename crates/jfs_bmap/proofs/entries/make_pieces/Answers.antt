use Rattle.std.proofs.Common.{[], ◌∷◌, ◌∙◌, length-append, arith}
use Rattle.jfs_bmap.proofs.Pieces.{entry_at-more}
use Rattle.jfs_bmap.proofs.entries.make_pieces.Goals as goal

pub loop-k-preserved : goal.loop-k-preserved
loop-k-preserved c = rw (c.in_ok-push.ensures.items, c.in_ok-new.ensures) (record {
  size = omega (arith, c.loop-k.invariant.size, length-append c.loop-k.pieces.items ([] ∷ []));
  same = λ b. entry_at-more c.loop-k.pieces.items b ∙ c.loop-k.invariant.same b;
})
