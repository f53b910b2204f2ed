use Rattle.std.proofs.Common.{◌≡◌, ◌≤◌, ◌+◌, ◌-◌, ℕ}
use Rattle.std.specs.List.{flat_map, AllByRecursion}
use Rattle.jfs_dtpage.specs.Form.{count_of, is_leaf, table_at}
use Rattle.jfs_dtpage.specs.Slots.{slots_at, times}
use Rattle.jfs_dtpage.specs.Page.{usable, chain_of, Ends, table_of, taken_of}
use Rattle.jfs_dtpage.specs.Met.{left_of}
use Rattle.jfs_dtpage.proofs.follow.chains_fit.Given as goal

abbrev pub invariant-loop-place : goal.invariant-loop-place
invariant-loop-place l =
    ((k : ℕ) → left_of l.left k + times k (taken_of l.form l.bytes) ≡ usable l.form l.bytes k + times k (flat_map (chain_of (is_leaf l.bytes) l.bytes) (slots_at l.bytes (table_at l.form l.bytes + l.place) (count_of l.bytes - l.place))))
    × (AllByRecursion (Ends (is_leaf l.bytes) l.bytes) (slots_at l.bytes (table_at l.form l.bytes + l.place) (count_of l.bytes - l.place)) → AllByRecursion (Ends (is_leaf l.bytes) l.bytes) (table_of l.form l.bytes))
    × (AllByRecursion (Ends (is_leaf l.bytes) l.bytes) (table_of l.form l.bytes) → AllByRecursion (Ends (is_leaf l.bytes) l.bytes) (slots_at l.bytes (table_at l.form l.bytes + l.place) (count_of l.bytes - l.place)))
    × ((k : ℕ) → left_of l.left k ≤ usable l.form l.bytes k)
