use Rattle.std.proofs.Common.{◌≡◌, ◌≤◌, ◌+◌, ◌++◌, suc, drop, vec_len, vec_capacity}
use Rattle.jfs_run.specs.Telling.{marks_of, told_from, marks_in, left_at, marks_left}
use Rattle.jfs_run.proofs.telling.tell.Given as goal

-- What is told so far, and what is told of the rest, are all; and there is room for what is marked in it.
abbrev pub invariant-loop-entry : goal.invariant-loop-entry
invariant-loop-entry l =
    record {
      number : l.number ≡ l.entry-index;
      so_far : l.told.items ++ told_from (suc l.entry-index) l.durable (marks_of (left_at l.next l.marks) (drop l.entry-index l.history)) ≡ l.fn.told.items ++ told_from 1 l.durable (marks_of (marks_in l.marks) l.history);
      room : vec_len l.told + marks_left (left_at l.next l.marks) ≤ vec_capacity l.told;
    }
