use Rattle.std.proofs.Common.{◌≡◌, ◌++◌, drop}
use Rattle.jfs_disk.specs.Pages.{contents}
use Rattle.jfs_core.specs.Left.{redone_from}
use Rattle.jfs_core.proofs.crash.redo.Given as goal

abbrev pub invariant-loop-p : goal.invariant-loop-p
invariant-loop-p l = contents l.image ++ redone_from l.choices l.log l.p (drop l.p l.slots) ≡ redone_from l.choices l.log 0 l.slots
