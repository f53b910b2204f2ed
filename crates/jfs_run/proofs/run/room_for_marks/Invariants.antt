use Rattle.std.proofs.Common.{◌≡◌, ◌≤◌, ◌++◌, List, length, drop, vec_capacity}
use Rattle.std.specs.Global.{Vec}
use Rattle.std.specs.Prelude.{Bool}
use Rattle.jfs_run.specs.Serving.{HaveRoom}
use Rattle.jfs_run.proofs.run.room_for_marks.Given as goal

-- With room for the scripts that are left there is room for all.
abbrev pub invariant-loop-script : goal.invariant-loop-script
invariant-loop-script l =
    record {
      so_far : (more : List (Vec Bool)) → HaveRoom (drop l.script-index l.scripts) more → HaveRoom l.scripts (l.marks.items ++ more);
      made : length l.marks.items ≡ l.script-index;
      room : length l.scripts ≤ vec_capacity l.marks;
    }
