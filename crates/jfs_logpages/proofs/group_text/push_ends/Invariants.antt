use Rattle.std.proofs.Common.{◌≡◌, ◌≤◌, ◌+◌, ◌-◌, ◌++◌, length, map, drop}
use Rattle.std.specs.Prelude.{vec_capacity}
use Rattle.jfs_logpages.proofs.group_text.push_ends.Given as goal

abbrev pub invariant-loop-end : goal.invariant-loop-end
invariant-loop-end l = record {
  rest : l.ends.items ++ map (λ e. l.start + e) (drop l.end-index l.more) ≡ l.fn.ends.items ++ map (λ e. l.start + e) l.more;
  room : length l.ends.items + (length l.more - l.end-index) ≤ vec_capacity l.ends;
}
