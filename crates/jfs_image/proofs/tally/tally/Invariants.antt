use Rattle.jfs_image.specs.View.{image_of}
use Rattle.jfs_image.specs.Tallied.{IsTallied}
use Rattle.jfs_image.proofs.tally.tally.Given as goal

abbrev pub invariant-loop-n : goal.invariant-loop-n
invariant-loop-n l = IsTallied (image_of l.opened.view) l.n l.tally
