use Rattle.std.proofs.Common.{◌≡◌, ◌-◌, ◌+◌}
use Rattle.jfs_gen.specs.Summary.{clients_from, none}
use Rattle.jfs_gen.proofs.summary.files_in.Given as goal

-- with the clients that are left all of them are added
abbrev pub invariant-loop-i : goal.invariant-loop-i
invariant-loop-i l = clients_from l.history (l.i + 1) (l.clients - l.i) l.all ≡ clients_from l.history 1 l.clients none
