use Rattle.std.proofs.Common.{◌≡◌, ◌≤◌, [], length, vec_capacity}
use Rattle.jfs_turns.specs.Views.{kept}
use Rattle.jfs_turns.specs.Passes.{ArePasses, AreNew}
use Rattle.jfs_turns.proofs.turns.Turns.new.Given as goal

abbrev pub invariant-loop-i : goal.invariant-loop-i
invariant-loop-i g l = (l.table ≡ l.initial.table) × (l.keeper.table_id ≡ l.table.shared.table_id) × (l.keeper.me ≡ (kept g.B.Based.base l.fn.passes l.i, [])) × (length l.dealt.items ≡ l.i) × (l.fn.passes ≤ vec_capacity l.dealt) × ArePasses l.table.shared.table_id l.fn.passes l.dealt.items × AreNew g.B.Based.base l.dealt.items
