use Rattle.std.proofs.Common.{◌≡◌, ◌≤◌, ◌+◌, ◌*◌, ◌^◌, None}
use Rattle.jfs_logpages.specs.Group.{position_of}
use Rattle.jfs_bench.proofs.log.write_groups.Given as goal

abbrev pub invariant-loop-group : goal.invariant-loop-group
invariant-loop-group l = record {
  running : l.log.halted ≡ None;
  ring : l.log.last.ring ≡ l.initial.log.last.ring;
  number : position_of l.log.last ≤ 2 ^ 33 + l._group * 2 ^ 26;
  durable : l.log.durable ≤ l.text.last;
}
