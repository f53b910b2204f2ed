use Rattle.std.proofs.Common.{◌≡◌, drop}
use Rattle.std.specs.Prelude.{None}
use Rattle.jfs_gen.specs.Summary.{left_after}
use Rattle.jfs_gen.proofs.summary.left_after.Given as goal

-- what the rest makes of the size so far is what the whole history makes
abbrev pub invariant-loop-entry : goal.invariant-loop-entry
invariant-loop-entry l = left_after l.home l.file l.size (drop l.entry-index l.history) ≡ left_after l.home l.file None l.history
