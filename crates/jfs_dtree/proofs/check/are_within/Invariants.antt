use Rattle.std.proofs.Common.{◌≡◌, drop}
use Rattle.std.specs.List.{list_all}
use Rattle.jfs_dtpage.specs.Page.{entries_of}
use Rattle.jfs_dtree.specs.Node.{child_within}
use Rattle.jfs_dtree.proofs.check.are_within.Given as goal

abbrev pub invariant-loop-place : goal.invariant-loop-place
invariant-loop-place l = list_all (child_within l.blocks) (entries_of l.form l.bytes) ≡ list_all (child_within l.blocks) (drop l.place (entries_of l.form l.bytes))
