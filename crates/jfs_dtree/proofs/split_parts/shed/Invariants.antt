use Rattle.std.proofs.Common.{◌≡◌, length}
use Rattle.jfs_dtpage.specs.Form.{count_of}
use Rattle.jfs_dtree.specs.Parts.{Sheds}
use Rattle.jfs_dtree.proofs.split_parts.shed.Given as goal

abbrev pub invariant-loop-bytes : goal.invariant-loop-bytes
invariant-loop-bytes l = (length l.bytes ≡ 4096) × (length l.right ≡ 4096) × Sheds l.initial.bytes l.initial.right l.bytes l.right

abbrev pub decreases-loop-bytes : goal.decreases-loop-bytes
decreases-loop-bytes l = count_of l.bytes
