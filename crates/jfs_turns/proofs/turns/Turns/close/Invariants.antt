use Rattle.std.proofs.Common.{◌≡◌, ◌+◌, [], length}
use Rattle.jfs_turns.specs.Views.{IsFree}
use Rattle.jfs_turns.specs.Passes.{ArePasses}
use Rattle.jfs_turns.proofs.Closing.{AreBack}
use Rattle.jfs_turns.proofs.turns.Turns.close.Given as goal

abbrev pub invariant-loop-pass : goal.invariant-loop-pass
invariant-loop-pass g l = (l.table ≡ l.initial.table) × (l.keeper.table_id ≡ l.initial.table.shared.table_id) × IsFree l.keeper.me.0 × (l.keeper.me.1 ≡ []) × (l.keeper.me.0.number ≡ l.keeper.me.0.dealt) × (length l.passes.items + l.keeper.me.0.back + 1 ≡ l.keeper.me.0.dealt) × ArePasses l.initial.table.shared.table_id l.keeper.me.0.dealt l.passes.items
    × (l.keeper.me.0.dealt ≡ length l.fn.passes.items) × AreBack l.fn.passes.items l.passes.items l.keeper.me.0

abbrev pub decreases-loop-pass : goal.decreases-loop-pass
decreases-loop-pass g l = goal.left-loop-pass g l
