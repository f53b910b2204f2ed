use Rattle.std.proofs.Common.{◌≡◌, ◌<◌, ◌≤◌, ◌+◌, ◌^◌, true, take, drop}
use Rattle.std.specs.List.{All}
use Rattle.jfs_xtpage.specs.Page.{end_of, rises_from}
use Rattle.jfs_xtree.specs.CutParts.{AllFrom}
use Rattle.jfs_xtree.specs.Node.{IsGood}
use Rattle.jfs_xtree.specs.Writing.{is_recorded, AllTo}
use Rattle.jfs_put_range_rows.proofs.ready.all_fit.Given as goal

abbrev pub invariant-loop-x : goal.invariant-loop-x
invariant-loop-x l = record {
  recorded : All (λ x. is_recorded x ≡ true) (take l.x-index l.list);
  good : All (IsGood 8192) (take l.x-index l.list);
  ends : All (λ x. end_of x < 2 ^ 40) (take l.x-index l.list);
  from : AllFrom l.start (drop l.x-index l.list) → AllFrom l.start l.list;
  to : AllTo (l.start + 17) (drop l.x-index l.list) → AllTo (l.start + 17) l.list;
  rises : rises_from l.low (drop l.x-index l.list) ≡ rises_from l.start l.list;
  low : l.start ≤ l.low;
}
