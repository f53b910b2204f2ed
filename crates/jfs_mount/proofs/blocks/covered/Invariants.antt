use Rattle.std.proofs.Common.{◌≡◌, ◌≤◌, ◌<◌, ◌-◌, ℕ, true, is_some}
use Rattle.jfs_reader.specs.objects.specs.Contents.{block_of}
use Rattle.jfs_mount.proofs.blocks.covered.Given as goal

abbrev pub invariant-loop-j : goal.invariant-loop-j
invariant-loop-j l = record {
  within : l.j ≤ l.n;
  same : (k : ℕ) → l.j ≤ k → block_of l.rest k ≡ block_of l.extents k;
  some : (k : ℕ) → k < l.j → is_some (block_of l.extents k) ≡ true;
}

abbrev pub decreases-loop-j : goal.decreases-loop-j
decreases-loop-j l = l.n - l.j
