use Rattle.std.proofs.Common.{◌≡◌, ◌++◌, take}
use Rattle.jfs_tree.specs.Fresh.{allocs_of}
use Rattle.jfs_tree.proofs.add_told.take_pages.Given as goal

abbrev pub invariant-loop-n : goal.invariant-loop-n
invariant-loop-n l = l.tx ≡ l.fn.tx ++ allocs_of (take l.n-index l.taken)
