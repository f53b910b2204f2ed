use Rattle.std.proofs.Common.{◌≡◌, ◌≤◌, ◌+◌, drop}
use Rattle.jfs_write_pages.specs.Spots.{holes_in}
use Rattle.jfs_write_pages.proofs.fill.holes_in.Given as goal

abbrev pub invariant-loop-spot : goal.invariant-loop-spot
invariant-loop-spot l = record {
  rest : l.holes + holes_in (drop l.spot-index l.spots) ≡ holes_in l.spots;
  most : l.holes ≤ l.spot-index;
}
