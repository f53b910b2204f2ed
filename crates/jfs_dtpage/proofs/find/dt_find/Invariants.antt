use Rattle.std.proofs.Common.{◌≡◌, ◌≤◌, ◌<◌, ◌-◌, ℕ, length}
use Rattle.jfs_dtpage.specs.Form.{count_of}
use Rattle.jfs_dtpage.specs.Order.{IsBefore, name_at}
use Rattle.jfs_dtpage.specs.Page.{names_of}
use Rattle.jfs_dtpage.proofs.find.dt_find.Given as goal

abbrev pub invariant-loop-low : goal.invariant-loop-low
invariant-loop-low l =
    (length l.buffer ≡ 255) × (l.low ≤ l.high) × (l.high ≤ count_of l.bytes)
    × ((i : ℕ) → i < l.low → IsBefore (name_at (names_of l.form l.bytes) i) l.name) × ((i : ℕ) → l.high ≤ i → i < count_of l.bytes → IsBefore l.name (name_at (names_of l.form l.bytes) i))

abbrev pub decreases-loop-low : goal.decreases-loop-low
decreases-loop-low l = l.high - l.low
