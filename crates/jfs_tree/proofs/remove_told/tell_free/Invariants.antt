use Rattle.std.proofs.Common.{◌≡◌, ◌++◌, drop}
use Rattle.jfs_tree.specs.Removes.{page_marks}
use Rattle.jfs_tree.proofs.remove_told.tell_free.Given as goal

abbrev pub invariant-loop-n : goal.invariant-loop-n
invariant-loop-n l = l.tx ++ page_marks (drop l.n-index l.pages) ≡ l.fn.tx ++ page_marks l.pages
