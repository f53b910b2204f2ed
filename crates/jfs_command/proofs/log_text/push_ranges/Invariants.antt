use Rattle.std.proofs.Common.{◌≡◌, ◌++◌, take, string_bytes}
use Rattle.std.specs.List.{flat_map}
use Rattle.jfs_bits.specs.Line.{line_size}
use Rattle.jfs_command.specs.LogText.{range_word}
use Rattle.jfs_command.proofs.log_text.push_ranges.Given as goal

abbrev pub invariant-loop-range : goal.invariant-loop-range
invariant-loop-range l = string_bytes l.out ≡ string_bytes l.initial.out ++ flat_map (range_word (line_size l.kind)) (take l.range-index l.ranges)
