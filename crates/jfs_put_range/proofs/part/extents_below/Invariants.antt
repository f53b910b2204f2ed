use Rattle.std.proofs.Common.{◌≡◌, ◌++◌, drop}
use Rattle.jfs_xtree.specs.Cutting.{kept_below}
use Rattle.jfs_put_range.proofs.part.extents_below.Given as goal

abbrev pub invariant-loop-x : goal.invariant-loop-x
invariant-loop-x l = l.list.items ++ kept_below l.bound (drop l.x-index l.xs) ≡ kept_below l.bound l.xs
