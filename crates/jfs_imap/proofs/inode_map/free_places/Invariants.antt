use Rattle.std.proofs.Common.{◌≡◌, ◌^◌, ℕ, false, not, ◌&&◌, length, get_or}
use Rattle.std.specs.Prelude.{nat_lt}
use Rattle.jfs_iag.specs.Iag.{no_run}
use Rattle.jfs_iag.specs.Canonical.{is_there}
use Rattle.jfs_imap.proofs.inode_map.free_places.Given as goal

abbrev pub invariant-loop-e : goal.invariant-loop-e
invariant-loop-e l = record {
  size : length l.places ≡ 2 ^ l.height;
  marks : (k : ℕ) → get_or l.places k false ≡ (nat_lt k l.e && not (is_there (get_or l.extents k no_run)));
}
