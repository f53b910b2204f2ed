use Rattle.std.proofs.Common.{◌≡◌, ◌++◌, ◌+◌, ◌-◌}
use Rattle.jfs_plain.specs.Step.{bytes_from}
use Rattle.jfs_plain.specs.Plain.{byte_at}
use Rattle.jfs_plain.proofs.plain.PlainTree.read.Given as goal

abbrev pub invariant-loop-i : goal.invariant-loop-i
invariant-loop-i l = l.bytes ++ bytes_from (byte_at l.self l.n) (l.offset + l.i) (l.count - l.i) ≡ bytes_from (byte_at l.self l.n) l.offset l.count
