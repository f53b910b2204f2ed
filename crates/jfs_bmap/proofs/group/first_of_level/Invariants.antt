use Rattle.std.proofs.Common.{◌≡◌}
use Rattle.jfs_buddy.specs.Tree.{first_of}
use Rattle.jfs_bmap.proofs.group.first_of_level.Given as goal

abbrev pub invariant-loop-level : goal.invariant-loop-level
invariant-loop-level l = l.first ≡ first_of l._level
