use Rattle.std.proofs.Common.{◌*◌}
use Rattle.std.specs.Prelude.{min}
use Rattle.jfs_findings.specs.Gains.{Gains}
use Rattle.jfs_map_check.specs.Found.{IsOtherBit}
use Rattle.jfs_map_check.proofs.block_map.note_bits.Given as goal

abbrev pub invariant-loop-w : goal.invariant-loop-w
invariant-loop-w l = Gains (IsOtherBit l.k l.n l.have l.want 0 (min (32 * l.w) l.count)) l.fn.findings.items l.findings.items
