use Rattle.std.proofs.Common.{◌≡◌}
use Rattle.jfs_image.specs.View.{image_of}
use Rattle.jfs_image.specs.Tree.{IsUpTo}
use Rattle.jfs_image.proofs.tree.tree_of.Given as goal

abbrev pub invariant-loop-n : goal.invariant-loop-n
invariant-loop-n l = record { before : IsUpTo (image_of l.opened.view) l.n l.tree; limit : l.tree.file_limit ≡ l.opened.limit }
