use Rattle.std.proofs.Common.{◌≡◌, ◌≤◌, ◌+◌, [], length, vec_capacity}
use Rattle.std.specs.List.{AllByRecursion}
use Rattle.jfs_run.proofs.Callers.{AreSoFar}
use Rattle.jfs_run.proofs.clients.clients_of.Given as goal

-- With the passes and the places for marks that are left the clients so far make all.
abbrev pub invariant-loop : goal.invariant-loop
invariant-loop g l =
    record {
      so_far : AreSoFar g.D.Disk l.now l.fn.passes.items l.fn.marks.items l.clients.items l.passes.items l.marks.items;
      left : length l.passes.items + l.counter ≡ l.end;
      made : length l.clients.items ≡ l.counter;
      same : length l.marks.items ≡ length l.passes.items;
      table : AllByRecursion (λ p. p.seat.table_id ≡ l.server.turns.table.shared.table_id) l.passes.items;
      empty : AllByRecursion (λ w. w.items ≡ []) l.marks.items;
      room : l.end ≤ vec_capacity l.clients;
      passes : vec_capacity l.passes ≡ vec_capacity l.fn.passes;
      marks : vec_capacity l.marks ≡ vec_capacity l.fn.marks;
    }
