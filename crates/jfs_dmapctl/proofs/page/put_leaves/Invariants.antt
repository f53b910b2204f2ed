use Rattle.std.proofs.Common.{◌≡◌, ◌+◌}
use Rattle.jfs_bits.specs.Field.{put_bytes}
use Rattle.jfs_buddy.specs.Buddy.{IsBuddyTree}
use Rattle.jfs_buddy.proofs.Renewals.{renewed}
use Rattle.jfs_dmapctl.specs.Control.{whole_of, tree_of, ranks_of}
use Rattle.jfs_dmapctl.proofs.page.put_leaves.Given as goal

abbrev pub invariant-loop-v : goal.invariant-loop-v
invariant-loop-v l = record {
  stays : l.bytes ≡ put_bytes 17 (tree_of l.bytes) l.fn.bytes;
  tree : IsBuddyTree 5 (whole_of l.level + 1) (λ v. 0) (tree_of l.fn.bytes) → IsBuddyTree 5 (whole_of l.level + 1) (renewed (λ v. 0) (ranks_of l.leaves) l.v) (tree_of l.bytes);
}
