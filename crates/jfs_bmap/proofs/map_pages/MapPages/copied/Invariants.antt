use Rattle.std.proofs.Common.{◌≡◌, take}
use Rattle.jfs_bmap.proofs.map_pages.MapPages.copied.Given as goal

abbrev pub invariant-loop-dmap : goal.invariant-loop-dmap
invariant-loop-dmap l = l.dmaps.items ≡ take l.dmap-index l.dmap-items
