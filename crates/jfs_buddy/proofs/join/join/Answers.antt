use Rattle.std.proofs.Common.{◌≡◌, ◌+◌, ◌*◌, suc, add-one, arith}
use Rattle.std.proofs.lemmas.Bool.{both_ways}
use Rattle.jfs_buddy.specs.Tree.{leaves_of, leaf_at}
use Rattle.jfs_buddy.specs.Buddy.{HalvesPut, HalvesShow}
use Rattle.jfs_buddy.proofs.Changes.{alone, run-within, join-starts, join-goes_on, join-stops, join-ends}
use Rattle.jfs_buddy.proofs.Levels.{with_own-bounded}
use Rattle.jfs_buddy.proofs.join.join.Goals as goal

pub loop-k-init : goal.loop-k-init
loop-k-init c own some before t = record {
  inner = c.put_leaf.ensures.inner t.inner;
  course = join-starts own (leaf_at c.args.height c.args.tree.now) (leaf_at c.args.height c.put_leaf.new.tree) (leaves_of c.args.height) c.args.whole c.args.leaf (2 * c.args.height) t.leaves c.put_leaf.ensures.leaves;
  run = alone own c.args.whole c.args.leaf;
}

pub returns-then-not-shows_halves : goal.returns-then-not-shows_halves
returns-then-not-shows_halves c own some before t =
    let top = 2 * c.args.height in
    let i = c.loop-k.invariant own some before t in
    let shows : HalvesShow c.loop-k.k c.args.leaf (c.args.whole + c.loop-k.k) (leaf_at c.args.height c.loop-k.tree) → ⊥ = λ b. both_ways c.shows_halves.result c.if-not-shows_halves.true (c.shows_halves.ensures.1 b) in
    let stops = join-stops own (leaf_at c.args.height c.loop-k.tree) (leaves_of c.args.height) c.args.whole c.args.leaf top c.loop-k.k c.loop-k-test.true before i.course (λ u e. run-within (suc c.loop-k.k) top u c.args.leaf c.loop-k-test.true c.requires.within e) shows in
    record {
      bounded = with_own-bounded own c.args.whole c.args.leaf c.args.whole t.bounded (omega arith);
      size = omega (arith, c.requires.size);
      leaves = join-ends own (leaf_at c.args.height c.loop-k.tree) (leaves_of c.args.height) c.args.whole c.args.leaf top c.loop-k.k (omega arith) before i.course i.run (λ b. stops);
      inner = i.inner;
    }

pub loop-k-preserved : goal.loop-k-preserved
loop-k-preserved c own some before t =
    let top = 2 * c.args.height in
    let k = c.loop-k.k in
    let i = c.loop-k.invariant own some before t in
    let both : HalvesShow k c.args.leaf (c.args.whole + k) (leaf_at c.args.height c.loop-k.tree) = c.shows_halves.ensures.0 c.if-not-shows_halves.false in
    let next : c.args.whole + k + 1 ≡ c.args.whole + suc k = omega arith in
    let puts : HalvesPut k c.args.leaf (c.args.whole + suc k) 0 (leaf_at c.args.height c.loop-k.tree) (leaf_at c.args.height c.put_halves.new.tree) = rw next at c.put_halves.ensures.leaves in
    let g = join-goes_on own (leaf_at c.args.height c.loop-k.tree) (leaf_at c.args.height c.put_halves.new.tree) (leaves_of c.args.height) c.args.whole c.args.leaf top k c.loop-k-test.true some t.bounded before i.run i.course both (λ u e. run-within (suc k) top u c.args.leaf c.loop-k-test.true c.requires.within e) puts in
    rw add-one (record { inner = c.put_halves.ensures.inner i.inner; course = g.0; run = g.1 })

pub returns : goal.returns
returns c own some before t =
    let top = 2 * c.args.height in
    let i = c.loop-k.invariant own some before t in
    record {
      bounded = with_own-bounded own c.args.whole c.args.leaf c.args.whole t.bounded (omega arith);
      size = omega (arith, c.requires.size);
      leaves = join-ends own (leaf_at c.args.height c.loop-k.tree) (leaves_of c.args.height) c.args.whole c.args.leaf top c.loop-k.k (omega arith) before i.course i.run (λ b. absurd (omega arith));
      inner = i.inner;
    }
