use Rattle.std.proofs.Common.{ℕ, ◌≡◌, ◌++◌, take, drop}
use Rattle.jfs_ranges.specs.Apply.{touches_tx}
use Rattle.jfs_core.specs.Step.{marked}
use Rattle.jfs_core.proofs.act.mark_touched.Given as goal

abbrev pub invariant-loop-p : goal.invariant-loop-p
invariant-loop-p l = take l.p l.slots ++ marked (λ (p : ℕ). touches_tx p l.tx) l.entry l.p (drop l.p l.slots) ≡ marked (λ (p : ℕ). touches_tx p l.tx) l.entry 0 l.fn.slots
