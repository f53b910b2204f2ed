use Rattle.std.proofs.Common.{◌≡◌, take, map}
use Rattle.jfs_sets.specs.Sets.{extent_from}
use Rattle.jfs_sets.proofs.sets.inode_extents.Given as goal

abbrev pub invariant-loop-place : goal.invariant-loop-place
invariant-loop-place l = l.list ≡ map extent_from (take l.place-index l.places)
