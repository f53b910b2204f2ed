use Rattle.std.proofs.Common.{◌≡◌}
use Rattle.std.specs.List.{All}
use Rattle.jfs_bits.specs.Extent.{FitsXad}
use Rattle.jfs_xtpage.specs.Page.{entries_from}
use Rattle.jfs_refill.proofs.entries.items.Given as goal

abbrev pub invariant-loop-i : goal.invariant-loop-i
invariant-loop-i l = (l.list.items ≡ entries_from l.bytes 0 l.i) × All FitsXad l.list.items
