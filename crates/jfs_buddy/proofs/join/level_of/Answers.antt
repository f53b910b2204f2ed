use Rattle.std.proofs.Common.{◌∙◌, sym, inl, inr, arith}
use Rattle.std.proofs.lemmas.Bool.{cases_eq}
use Rattle.jfs_buddy.proofs.Levels.{level-found, level-missing}
use Rattle.jfs_buddy.proofs.join.level_of.Goals as goal

pub returns-then-leaf_rank-whole-clause-level : goal.returns-then-leaf_rank-whole-clause-level
returns-then-leaf_rank-whole-clause-level c own some t =
    level-found c.args.height c.args.whole own c.args.tree.now c.args.leaf c.loop-k.k some t c.requires.within (rw c.start.ensures at (sym c.leaf_rank.ensures.value ∙ c.if-leaf_rank-whole.true))

pub loop-k-preserved : goal.loop-k-preserved
loop-k-preserved c j h e =
    elim (cases_eq j c.loop-k.k) [
      | inl s ↦ c.if-leaf_rank-whole.false (rw (c.leaf_rank.ensures.value, c.start.ensures) (rw s at e))
      | inr n ↦ c.loop-k.invariant j (omega arith) e
    ]

pub returns-clause-level : goal.returns-clause-level
returns-clause-level c own some t =
    level-missing c.args.height c.args.whole own c.args.tree.now c.args.leaf t c.requires.within (λ k h. c.loop-k.invariant k (omega arith))
