use Rattle.std.proofs.Common.{◌≡◌, ◌+◌, ◌*◌, inl, inr, arith}
use Rattle.jfs_buddy.proofs.Parts.{part-kept, part-again}
use Rattle.jfs_buddy.proofs.Renewals.{renewed, renew-starts, renew-goes_on, renew-ends}
use Rattle.jfs_dmapctl.specs.Control.{whole_of, tree_of, ranks_of}
use Rattle.jfs_dmapctl.proofs.Values.{ranks-most}
use Rattle.jfs_dmapctl.proofs.page.put_leaves.Goals as goal

pub loop-v-init : goal.loop-v-init
loop-v-init c = record {
  stays = part-kept 17 1365 c.args.bytes.now (omega (arith, c.requires.size));
  tree = λ t. renew-starts 5 (whole_of c.args.level + 1) (λ v. 0) (ranks_of c.args.leaves.now) (tree_of c.args.bytes.now) 0 1024 (ranks-most c.args.level c.args.leaves.now c.requires.values) (λ v b side. elim side [ inl a ↦ absurd (omega arith) | inr a ↦ absurd (omega arith) ]) t;
}

pub loop-v-preserved : goal.loop-v-preserved
loop-v-preserved c =
    let i = c.loop-v.invariant in
    let rank = c.rank_at.ensures in
    let most = ranks-most c.args.level c.args.leaves.now c.requires.values in
    let whole : 14 + 10 * c.args.level ≡ whole_of c.args.level + 1 = omega arith in
    record {
      stays = part-again 17 1365 c.args.bytes.now c.loop-v.bytes c.set_rank.new.bytes (omega arith) (omega arith) (omega (arith, c.requires.size)) i.stays c.set_rank.ensures.stays;
      tree = λ t. renew-goes_on 5 (whole_of c.args.level + 1) (λ v. 0) (ranks_of c.args.leaves.now) (tree_of c.set_rank.new.bytes) c.loop-v.v (λ v. omega arith) most (rw (rank, whole) at (c.set_rank.ensures.tree (renewed (λ v. 0) (ranks_of c.args.leaves.now) c.loop-v.v)) (omega arith) (most c.loop-v.v) (i.tree t));
    }

pub returns-clause-tree : goal.returns-clause-tree
returns-clause-tree c t =
    renew-ends 5 (whole_of c.args.level + 1) (λ v. 0) (ranks_of c.args.leaves.now) (tree_of c.loop-v.bytes) 0 1024 c.loop-v.v c.loop-v-test.false (ranks-most c.args.level c.args.leaves.now c.requires.values) (λ v b side. elim side [ inl a ↦ absurd (omega arith) | inr a ↦ absurd (omega arith) ]) (c.loop-v.invariant.tree t)
