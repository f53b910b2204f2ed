use Rattle.std.proofs.Common.{◌≡◌, ◌^◌, ℕ, false, ◌&&◌, length, get_or}
use Rattle.std.specs.Prelude.{nat_lt}
use Rattle.jfs_bits.specs.Bits.{is_taken}
use Rattle.jfs_iag.specs.Iag.{no_run}
use Rattle.jfs_iag.specs.Canonical.{has_free}
use Rattle.jfs_imap.proofs.inode_map.free_extents.Given as goal

abbrev pub invariant-loop-e : goal.invariant-loop-e
invariant-loop-e l = record {
  size : length l.free ≡ 2 ^ l.height;
  marks : (k : ℕ) → get_or l.free k false ≡ (nat_lt k l.e && has_free (is_taken l.set) (λ e. get_or l.extents e no_run) k);
}
