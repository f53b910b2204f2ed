use Rattle.std.proofs.Common.{◌≡◌}
use Rattle.jfs_owners_rows.proofs.counted.owners_of.Given as goal

abbrev pub invariant-loop-run : goal.invariant-loop-run
invariant-loop-run l = l.owners.blocks ≡ l.blocks
