use Rattle.std.proofs.Common.{◌≡◌, ◌++◌, take}
use Rattle.std.specs.List.{flat_map}
use Rattle.jfs_logfmt.specs.Written.{range_text}
use Rattle.jfs_logfmt.proofs.writing.push_ranges.Given as goal

abbrev pub invariant-loop-range : goal.invariant-loop-range
invariant-loop-range l = l.into.items ≡ l.fn.into.items ++ flat_map (range_text l.size) (take l.range-index l.ranges)
