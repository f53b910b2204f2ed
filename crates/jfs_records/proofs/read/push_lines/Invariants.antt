use Rattle.std.proofs.Common.{◌≡◌, ◌++◌, map, drop}
use Rattle.jfs_records.specs.Committed.{lines_of}
use Rattle.jfs_records.proofs.read.push_lines.Given as goal

abbrev pub invariant-loop-range : goal.invariant-loop-range
invariant-loop-range l = l.into ++ map (lines_of l.page l.kind) (drop l.range-index l.ranges) ≡ l.fn.into ++ map (lines_of l.page l.kind) l.ranges
