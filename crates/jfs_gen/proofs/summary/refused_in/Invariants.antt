use Rattle.std.proofs.Common.{◌≡◌, ◌+◌, ◌≤◌, drop}
use Rattle.jfs_gen.specs.Summary.{refused_in}
use Rattle.jfs_gen.proofs.summary.refused_in.Given as goal

-- those so far and those of the rest are all
abbrev pub invariant-loop-entry : goal.invariant-loop-entry
invariant-loop-entry l = (l.refused + refused_in (drop l.entry-index l.history) ≡ refused_in l.history) × (l.refused ≤ l.entry-index)
