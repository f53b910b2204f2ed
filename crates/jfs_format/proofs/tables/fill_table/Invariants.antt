use Rattle.std.proofs.Common.{◌≡◌, ◌<◌, ◌≤◌, ◌+◌, ◌*◌, ℕ, length, replicate}
use Rattle.jfs_inode.specs.Inode.{inode_at}
use Rattle.jfs_format.specs.Inodes.{inode_in, IsInodeOf}
use Rattle.jfs_format.proofs.tables.fill_table.Given as goal

abbrev pub invariant-loop-slot : goal.invariant-loop-slot
invariant-loop-slot l = record {
  size : length l.page.0 ≡ 4096;
  done : (s : ℕ) → s < l.slot → IsInodeOf (inode_in l.table l.v (8 * l.k + s)) (inode_at l.page.0 s);
  rest : (s : ℕ) → l.slot ≤ s → s < 8 → inode_at l.page.0 s ≡ replicate 512 0;
}
