use Rattle.std.proofs.Common.{◌*◌}
use Rattle.jfs_findings.specs.Gains.{Gains}
use Rattle.jfs_map_check.specs.Found.{IsOtherBit}
use Rattle.jfs_map_check.proofs.block_map.note_word.Given as goal

abbrev pub invariant-loop-i : goal.invariant-loop-i
invariant-loop-i l = Gains (IsOtherBit l.k l.n l.have l.want (32 * l.w) l.i) l.fn.findings.items l.findings.items
