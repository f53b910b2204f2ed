use Rattle.std.proofs.Common.{◌≡◌, ◌++◌, take, drop}
use Rattle.jfs_xtpage.specs.Page.{end_of}
use Rattle.jfs_xtree.specs.Writing.{AllTo}
use Rattle.jfs_written.specs.Walk.{under}
use Rattle.jfs_written.proofs.range.write_entry.Given as goal

abbrev pub invariant-loop-i : goal.invariant-loop-i
invariant-loop-i l = record {
  rest : l.list.items ++ under l.from (drop l.i l.xs) l.e ≡ l.fn.list.items ++ under 0 l.xs l.e;
  done : AllTo (end_of l.e) (take l.i l.xs);
}
