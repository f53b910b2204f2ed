use Rattle.std.proofs.Common.{◌≡◌, ◌-◌, length}
use Rattle.jfs_script.proofs.Reading.{IsTaken}
use Rattle.jfs_script.proofs.script.read_script.Given as goal

abbrev pub invariant-loop-taken : goal.invariant-loop-taken
invariant-loop-taken g l =
    let k = g.S.Source in
    record {
      so_far : IsTaken k.tells (k.remaining l.initial.source) (k.remaining l.source) (k.fault_count l.initial.source) (k.fault_count l.source) l.reader l.taken;
      size : length l.buffer ≡ 4096;
    }

abbrev pub decreases-loop-taken : goal.decreases-loop-taken
decreases-loop-taken g l = 16777217 - l.taken
