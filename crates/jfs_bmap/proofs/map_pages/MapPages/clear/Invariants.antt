use Rattle.std.proofs.Common.{◌≡◌}
use Rattle.jfs_bmap.specs.Set.{cleared}
use Rattle.jfs_bmap.proofs.PartByPart.{covered}
use Rattle.jfs_bmap.proofs.map_pages.MapPages.clear.Given as goal

abbrev pub invariant-loop-k : goal.invariant-loop-k
invariant-loop-k l = l.self ≡ cleared l.first (covered l.first l.end l.k) l.initial.self
