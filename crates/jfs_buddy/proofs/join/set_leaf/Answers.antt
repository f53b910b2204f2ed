use Rattle.std.proofs.Common.{◌*◌, sym, ◌∙◌, arith}
use Rattle.jfs_buddy.specs.Tree.{leaves_of, leaf_at}
use Rattle.jfs_buddy.specs.Buddy.{with_own}
use Rattle.jfs_buddy.proofs.Changes.{plain-change, joined-same, unchanged}
use Rattle.jfs_buddy.proofs.Levels.{with_own-bounded}
use Rattle.jfs_buddy.proofs.join.set_leaf.Goals as goal

pub returns-then-rank-whole : goal.returns-then-rank-whole
returns-then-rank-whole c own some small t =
    let l = c.in-Some.ensures.level own some t in
    c.split.ensures own l.0 (omega (arith, small, c.if-rank-whole.true)) l.1 t

pub returns-else-rank-whole : goal.returns-else-rank-whole
returns-else-rank-whole c own some small t =
    let l = c.in-Some.ensures.level own some t in
    record {
      bounded = with_own-bounded own c.args.whole c.args.leaf c.args.rank t.bounded small;
      size = t.size;
      leaves = λ v b. t.leaves v b ∙ joined-same own (with_own own c.args.leaf c.args.rank) c.args.whole (2 * c.args.height) v b (λ u w. unchanged own c.args.leaf c.args.rank u (l.0 ∙ sym c.if-rank-whole.false));
      inner = t.inner;
    }

pub returns-then-rank-whole-2 : goal.returns-then-rank-whole-2
returns-then-rank-whole-2 c own some small t = rw c.if-rank-whole-2.true (c.join.ensures own some (c.in-None.ensures.level own some t) t)

pub returns-else-rank-whole-2 : goal.returns-else-rank-whole-2
returns-else-rank-whole-2 c own some small t = record {
  bounded = with_own-bounded own c.args.whole c.args.leaf c.args.rank t.bounded small;
  size = omega (arith, c.requires.size);
  leaves = plain-change own (leaf_at c.args.height c.args.tree.now) (leaf_at c.args.height c.put_leaf.new.tree) (leaves_of c.args.height) c.args.whole c.args.leaf c.args.rank (2 * c.args.height) (c.in-None.ensures.level own some t) c.if-rank-whole-2.false t.leaves c.put_leaf.ensures.leaves;
  inner = c.put_leaf.ensures.inner t.inner;
}
