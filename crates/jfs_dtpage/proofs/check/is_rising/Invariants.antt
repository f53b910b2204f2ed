use Rattle.std.proofs.Common.{◌<◌, ℕ, suc}
use Rattle.jfs_dtpage.specs.Order.{IsBefore, name_at}
use Rattle.jfs_dtpage.specs.Page.{names_of}
use Rattle.jfs_dtpage.proofs.check.is_rising.Given as goal

abbrev pub invariant-loop-place : goal.invariant-loop-place
invariant-loop-place l = (i : ℕ) → suc i < l.place → IsBefore (name_at (names_of l.form l.bytes) i) (name_at (names_of l.form l.bytes) (suc i))
