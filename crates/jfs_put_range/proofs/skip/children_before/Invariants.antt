use Rattle.std.proofs.Common.{◌<◌, length, drop}
use Rattle.jfs_put_range.specs.Parts.{BeginsBy}
use Rattle.jfs_put_range.proofs.skip.children_before.Given as goal

abbrev pub invariant-loop-i : goal.invariant-loop-i
invariant-loop-i l = (l.at < length l.entries) × (0 < l.at → BeginsBy l.block (drop l.at l.entries))
