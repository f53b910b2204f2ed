use Rattle.std.proofs.Common.{◌≡◌, true}
use Rattle.jfs_bits.specs.Bits.{is_free}
use Rattle.jfs_bmap.specs.Set.{taken_at}
use Rattle.jfs_bmap.proofs.map_pages.MapPages.free_front.Given as goal

abbrev pub invariant-loop-n : goal.invariant-loop-n
invariant-loop-n l = is_free (taken_at l.self) l.first l.n ≡ true
