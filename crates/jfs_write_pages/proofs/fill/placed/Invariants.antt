use Rattle.std.proofs.Common.{◌≡◌, ◌≤◌, ◌+◌, ◌++◌, length, drop}
use Rattle.jfs_write_pages.specs.Spots.{holes_in, placed}
use Rattle.jfs_write_pages.proofs.fill.placed.Given as goal

abbrev pub invariant-loop-spot : goal.invariant-loop-spot
invariant-loop-spot l = record {
  rest : l.all.items ++ placed l.index (drop l.spot-index l.spots) (drop l.next l.news.items) ≡ placed l.first l.spots l.news.items;
  index : l.index ≡ l.first + l.spot-index;
  enough : l.next + holes_in (drop l.spot-index l.spots) ≤ length l.news.items;
}
