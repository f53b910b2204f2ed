use Rattle.std.proofs.Common.{◌≡◌, take, drop}
use Rattle.jfs_tree.specs.Tell.{occurs}
use Rattle.jfs_tree.proofs.tell_all.is_newest.Given as goal

abbrev pub invariant-loop-newer : goal.invariant-loop-newer
invariant-loop-newer l = occurs l.n (take l.i l.pages) ≡ occurs l.n (drop l.newer-index l.newer-items)
