use Rattle.std.proofs.Common.{◌≡◌, ◌+◌, ◌≤◌, [], length, vec_capacity}
use Rattle.jfs_turns.specs.Passes.{ArePasses}
use Rattle.jfs_turns_rows.specs.Same.{AreCallers}
use Rattle.jfs_turns_rows.proofs.at_once.crowd.Given as goal

abbrev pub ghosts-new : goal.ghosts-new
ghosts-new g a = record { base = [] }

abbrev pub invariant-loop-pass : goal.invariant-loop-pass
invariant-loop-pass g l = ArePasses l.turns.table.shared.table_id l.fn.passes l.dealt.items × AreCallers l.turns.table.shared.table_id l.fn.passes l.callers.items × (length l.dealt.items + length l.callers.items ≡ l.fn.passes) × (l.fn.passes ≤ vec_capacity l.callers) × (l.fn.passes ≤ vec_capacity l.dealt) × (l.turns ≡ l.initial.turns)

abbrev pub decreases-loop-pass : goal.decreases-loop-pass
decreases-loop-pass g l = goal.left-loop-pass g l

abbrev pub invariant-loop-caller : goal.invariant-loop-caller
invariant-loop-caller g l = ArePasses l.turns.table.shared.table_id l.fn.passes l.dealt.items × AreCallers l.turns.table.shared.table_id l.fn.passes l.callers.items × (length l.dealt.items + length l.callers.items ≡ l.fn.passes) × (l.fn.passes ≤ vec_capacity l.dealt) × (l.turns ≡ l.initial.turns)

abbrev pub decreases-loop-caller : goal.decreases-loop-caller
decreases-loop-caller g l = goal.left-loop-caller g l
