use Rattle.std.proofs.Common.{◌≡◌, drop}
use Rattle.jfs_ranges.specs.Apply.{apply_tx}
use Rattle.jfs_ranges.proofs.put.apply.Given as goal

abbrev pub invariant-loop-edit : goal.invariant-loop-edit
invariant-loop-edit l = apply_tx l.n (drop l.edit-index l.tx) l.page.0 ≡ apply_tx l.n l.tx l.fn.page.0
