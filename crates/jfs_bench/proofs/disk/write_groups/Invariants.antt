use Rattle.std.proofs.Common.{◌≡◌}
use Rattle.jfs_bench.proofs.disk.write_groups.Given as goal

abbrev pub invariant-loop-call : goal.invariant-loop-call
invariant-loop-call g l = g.D.Disk.page_count l.disk ≡ g.D.Disk.page_count l.initial.disk
