use Rattle.std.proofs.Common.{◌≡◌, ◌++◌, drop}
use Rattle.jfs_tree.specs.Removes.{page_no_redos}
use Rattle.jfs_tree.proofs.remove_told.tell_no_redos.Given as goal

abbrev pub invariant-loop-n : goal.invariant-loop-n
invariant-loop-n l = l.tx ++ page_no_redos (drop l.n-index l.pages) ≡ l.fn.tx ++ page_no_redos l.pages
