use Rattle.std.proofs.Common.{◌≡◌, take, drop}
use Rattle.jfs_xtree.specs.Cutting.{kept_below}
use Rattle.jfs_xtree.specs.Writing.{kept_from, AllTo}
use Rattle.jfs_written.specs.Walk.{all_joined}
use Rattle.jfs_written.proofs.range.write_hole.Given as goal

abbrev pub invariant-loop-i : goal.invariant-loop-i
invariant-loop-i l = record {
  rest : all_joined l.list.items (kept_below l.to (kept_from l.from (drop l.i l.xs))) ≡ all_joined l.fn.list.items (kept_below l.to (kept_from l.from l.xs));
  done : AllTo l.to (take l.i l.xs);
}
