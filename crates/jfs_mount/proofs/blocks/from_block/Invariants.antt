use Rattle.std.proofs.Common.{◌≡◌, ◌≤◌, ℕ, drop}
use Rattle.jfs_reader.specs.objects.specs.Contents.{block_of}
use Rattle.jfs_mount.proofs.blocks.from_block.Given as goal

abbrev pub invariant-loop-i : goal.invariant-loop-i
invariant-loop-i l = (k : ℕ) → l.j ≤ k → block_of (drop l.i l.extents) k ≡ block_of l.extents k
