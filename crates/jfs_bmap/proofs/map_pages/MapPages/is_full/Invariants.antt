use Rattle.std.proofs.Common.{◌≡◌, true}
use Rattle.jfs_bits.specs.Bits.{is_full}
use Rattle.jfs_bmap.specs.Set.{taken_at}
use Rattle.jfs_bmap.proofs.map_pages.MapPages.is_full.Given as goal

abbrev pub invariant-loop-i : goal.invariant-loop-i
invariant-loop-i l = is_full (taken_at l.self) l.first l.i ≡ true
