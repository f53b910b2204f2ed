use Rattle.std.proofs.Common.{◌≡◌, ◌≤◌, ◌+◌, length, vec_capacity}
use Rattle.jfs_run.specs.Clients.{HavePasses}
use Rattle.jfs_run.proofs.Callers.{AreBackSoFar}
use Rattle.jfs_run.proofs.clients.take_back.Given as goal

-- With those of the clients that are left the passes and the marks so far are those of all.
abbrev pub invariant-loop : goal.invariant-loop
invariant-loop g l =
    record {
      so_far : AreBackSoFar g.D.Disk l.failed l.fn.clients.items l.clients.items l.passes.items l.marks.items;
      have : HavePasses g.D.Disk l.clients.items;
      left : length l.clients.items + l.counter ≡ l.end;
      passes : length l.passes.items ≡ l.counter;
      marks : length l.marks.items ≡ l.counter;
      room : l.end ≤ vec_capacity l.passes;
      room_for_marks : l.end ≤ vec_capacity l.marks;
    }
