use Rattle.std.proofs.Common.{◌≡◌, ◌≤◌, ◌<◌, length}
use Rattle.jfs_command.proofs.Scripted.{IsRead}
use Rattle.jfs_command.proofs.scripts.read_scripts.Given as goal

-- the first ones are read, and no source has failed
abbrev pub invariant-loop-i : goal.invariant-loop-i
invariant-loop-i g l = record {
  read : IsRead g.S.Source l.initial.scripts.items l.scripts.items l.i l.plan.items;
  count : l.count ≡ length l.initial.scripts.items;
  some : 0 < l.count;
  few : l.count ≤ 16;
}
