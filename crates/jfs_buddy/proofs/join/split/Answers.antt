use Rattle.std.proofs.Common.{◌≡◌, ◌+◌, ◌-◌, ◌*◌, suc, arith}
use Rattle.jfs_buddy.specs.Tree.{leaves_of, leaf_at}
use Rattle.jfs_buddy.proofs.Joins.{is_whole-finer}
use Rattle.jfs_buddy.proofs.Changes.{run-within, split-starts, split-goes_on, split-ends}
use Rattle.jfs_buddy.proofs.Levels.{with_own-bounded}
use Rattle.jfs_buddy.proofs.join.split.Goals as goal

pub loop-below-init : goal.loop-below-init
loop-below-init c own full less l t = let all : c.args.level - 0 ≡ c.args.level = omega arith in rw all (record {
  inner = t.inner;
  course = split-starts own (leaf_at c.args.height c.args.tree.now) (leaves_of c.args.height) c.args.whole c.args.leaf c.args.rank (2 * c.args.height) c.args.level full (λ e. absurd (omega arith)) l t.leaves (λ v e. run-within c.args.level (2 * c.args.height) v c.args.leaf l.most c.requires.within e);
})

pub loop-below-preserved : goal.loop-below-preserved
loop-below-preserved c own full less l t =
    let i = c.loop-below.invariant own full less l t in
    let k = c.args.level - 1 - c.loop-below.below in
    let here : c.args.level - c.loop-below.below ≡ suc k = omega arith in
    let next : c.args.level - (c.loop-below.below + 1) ≡ k = omega arith in
    let most = l.most in
    rw next (record {
      inner = c.put_halves.ensures.inner i.inner;
      course = split-goes_on own (leaf_at c.args.height c.loop-below.tree) (leaf_at c.args.height c.put_halves.new.tree) (leaves_of c.args.height) c.args.whole c.args.leaf c.args.rank (2 * c.args.height) k (omega arith) (λ e. absurd (omega arith)) (is_whole-finer own c.args.whole (suc k) c.args.level c.args.leaf (omega arith) l.run) (rw here at i.course) c.put_halves.ensures.leaves;
    })

pub returns : goal.returns
returns c own full less l t =
    let i = c.loop-below.invariant own full less l t in
    let none : c.args.level - c.loop-below.below ≡ 0 = omega arith in
    record {
      bounded = with_own-bounded own c.args.whole c.args.leaf c.args.rank t.bounded (omega arith);
      size = omega (arith, c.requires.size);
      leaves = split-ends own (leaf_at c.args.height c.loop-below.tree) (leaf_at c.args.height c.put_leaf.new.tree) (leaves_of c.args.height) c.args.whole c.args.leaf c.args.rank (2 * c.args.height) (λ e. absurd (omega arith)) (rw none at i.course) c.put_leaf.ensures.leaves;
      inner = c.put_leaf.ensures.inner i.inner;
    }
