use Rattle.std.proofs.Common.{◌≡◌, ◌≤◌, ◌<◌, ◌+◌, ℕ, drop}
use Rattle.jfs_reader.specs.objects.specs.Contents.{block_of}
use Rattle.jfs_mount.proofs.blocks.run_at.Given as goal

-- up to the limit no extent so far has a block from `j` on
abbrev pub invariant-loop-x : goal.invariant-loop-x
invariant-loop-x l = record {
  some : 0 < l.limit;
  most : l.limit ≤ l.most;
  same : (k : ℕ) → l.j ≤ k → k < l.j + l.limit → block_of (drop l.x-index l.extents) k ≡ block_of l.extents k;
}
