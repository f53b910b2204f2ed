use Rattle.std.proofs.Common.{◌≤◌, ◌<◌, ◌-◌, ℕ}
use Rattle.jfs_xtpage.specs.Page.{count_of, entry_of, IsRising}
use Rattle.jfs_xtpage.proofs.find.xt_find.Given as goal

abbrev pub invariant-loop-low : goal.invariant-loop-low
invariant-loop-low l = (l.low ≤ l.high) × (l.high ≤ count_of l.bytes)
    × (IsRising l.bytes (count_of l.bytes) → (j : ℕ) → j < l.low → (entry_of l.bytes j).offset ≤ l.offset) × (IsRising l.bytes (count_of l.bytes) → (j : ℕ) → l.high ≤ j → j < count_of l.bytes → l.offset < (entry_of l.bytes j).offset)

abbrev pub decreases-loop-low : goal.decreases-loop-low
decreases-loop-low l = l.high - l.low
