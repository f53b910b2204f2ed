use Rattle.jfs_xtpage.specs.Page.{IsRising}
use Rattle.jfs_xtpage.proofs.check.is_rising.Given as goal

abbrev pub invariant-loop-i : goal.invariant-loop-i
invariant-loop-i l = IsRising l.bytes l.i
