use Rattle.std.proofs.Common.{◌≡◌, ◌++◌, drop}
use Rattle.jfs_volume.specs.Runs.{pages_freed}
use Rattle.jfs_volume.proofs.runs.freed_pages.Given as goal

abbrev pub invariant-loop-i : goal.invariant-loop-i
invariant-loop-i l = l.pages.items ++ pages_freed l.number (drop l.i l.edits) ≡ pages_freed l.number l.edits
