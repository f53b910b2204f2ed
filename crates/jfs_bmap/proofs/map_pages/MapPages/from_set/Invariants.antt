use Rattle.jfs_bmap.proofs.Fresh.{AreFresh}
use Rattle.jfs_bmap.proofs.map_pages.MapPages.from_set.Given as goal

abbrev pub invariant-loop-k : goal.invariant-loop-k
invariant-loop-k l = AreFresh l.set l.blocks l.k l.free l.dmaps.items l.leaves
