use Rattle.std.proofs.Common.{◌≡◌, take, drop}
use Rattle.std.specs.List.{All}
use Rattle.jfs_bits.specs.Extent.{FitsXad}
use Rattle.jfs_xtpage.specs.Page.{rises_from}
use Rattle.jfs_written.specs.xtree.specs.Writing.{AllLong}
use Rattle.jfs_written_rows.proofs.ready.are_ready.Given as goal

abbrev pub invariant-loop-x : goal.invariant-loop-x
invariant-loop-x l = record {
  fits : All FitsXad (take l.x-index l.list);
  long : AllLong (drop l.x-index l.list) → AllLong l.list;
  rises : rises_from l.low (drop l.x-index l.list) ≡ rises_from 0 l.list;
}
