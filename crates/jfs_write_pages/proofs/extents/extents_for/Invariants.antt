use Rattle.std.proofs.Common.{◌≡◌, ◌-◌, drop}
use Rattle.std.specs.Prelude.{reverse}
use Rattle.jfs_write_pages.specs.Spots.{extents_for}
use Rattle.jfs_write_pages.proofs.extents.extents_for.Given as goal

abbrev pub invariant-loop-i : goal.invariant-loop-i
invariant-loop-i l = reverse l.behind.items ≡ extents_for (drop (l.count - l.i) l.spots)
