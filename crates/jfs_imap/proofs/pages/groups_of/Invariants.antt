use Rattle.std.proofs.Common.{◌≡◌, ◌<◌, ℕ, length, get_or}
use Rattle.jfs_bits.specs.Bits.{is_taken}
use Rattle.jfs_iag.specs.Iag.{no_run}
use Rattle.jfs_iag.specs.Control.{no_group}
use Rattle.jfs_iag.specs.Canonical.{IsGroupOf}
use Rattle.jfs_imap.proofs.pages.groups_of.Given as goal

abbrev pub invariant-loop-g : goal.invariant-loop-g
invariant-loop-g l = record {
  size : length l.groups ≡ 128;
  each : (j : ℕ) → j < l.g → IsGroupOf (is_taken l.set) (λ e. get_or l.extents e no_run) l.iags l.numag j (get_or l.groups j no_group);
}
