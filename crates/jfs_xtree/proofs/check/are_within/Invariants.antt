use Rattle.std.proofs.Common.{◌≡◌, ◌-◌}
use Rattle.jfs_xtpage.specs.Page.{entries_from}
use Rattle.jfs_xtree.specs.Node.{all_within}
use Rattle.jfs_xtree.proofs.check.are_within.Given as goal

abbrev pub invariant-loop-i : goal.invariant-loop-i
invariant-loop-i l = all_within l.blocks (entries_from l.bytes 0 l.count) ≡ all_within l.blocks (entries_from l.bytes l.i (l.count - l.i))
