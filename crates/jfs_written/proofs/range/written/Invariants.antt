use Rattle.std.proofs.Common.{◌≡◌, ◌≤◌, ◌<◌, ◌^◌, [], true, length, take, drop}
use Rattle.jfs_xtpage.specs.Page.{rises_from}
use Rattle.jfs_xtree.specs.Writing.{AllTo}
use Rattle.jfs_written.specs.Walk.{walked}
use Rattle.jfs_written.proofs.range.written.Given as goal

abbrev pub invariant-loop-e : goal.invariant-loop-e
invariant-loop-e l = record {
  rest : walked l.from l.list.items (drop l.e-index l.entries) l.xs ≡ walked 0 [] l.entries l.xs;
  rises : rises_from l.from (drop l.e-index l.entries) ≡ true;
  fits : l.from < 2 ^ 64;
  next : l.next ≤ length l.xs;
  done : AllTo l.from (take l.next l.xs);
}
