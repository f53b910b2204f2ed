use Rattle.std.proofs.Common.{◌≡◌, ◌++◌, drop}
use Rattle.jfs_xtree.specs.Writing.{kept_from}
use Rattle.jfs_put_range.proofs.part.extents_from.Given as goal

abbrev pub invariant-loop-x : goal.invariant-loop-x
invariant-loop-x l = l.list.items ++ kept_from l.bound (drop l.x-index l.xs) ≡ kept_from l.bound l.xs
