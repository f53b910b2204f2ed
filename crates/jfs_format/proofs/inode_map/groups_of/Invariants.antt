use Rattle.std.proofs.Common.{◌≡◌, ◌<◌, ℕ, length, get_or}
use Rattle.jfs_iag.specs.Control.{no_group}
use Rattle.jfs_iag.specs.Canonical.{IsGroupOf}
use Rattle.jfs_format.specs.Inodes.{in_use}
use Rattle.jfs_format.specs.Volume.{extent_of, iags_of}
use Rattle.jfs_format.specs.Map.{place_of}
use Rattle.jfs_format.proofs.inode_map.groups_of.Given as goal

abbrev pub invariant-loop-g : goal.invariant-loop-g
invariant-loop-g l = record {
  size : length l.groups ≡ 128;
  each : (j : ℕ) → j < l.g → IsGroupOf (in_use l.table) (place_of (extent_of l.table l.l)) (iags_of l.table l.l) l.l.groups j (get_or l.groups j no_group);
}
