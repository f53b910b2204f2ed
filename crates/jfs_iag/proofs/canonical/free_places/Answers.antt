use Rattle.std.proofs.Common.{◌+◌, not, get_or, sym, ℕ, arith}
use Rattle.jfs_bits.proofs.Counts.{count_below-next, count_below-none, count_below-most}
use Rattle.jfs_iag.specs.Iag.{no_run}
use Rattle.jfs_iag.specs.Canonical.{is_there}
use Rattle.jfs_iag.proofs.canonical.free_places.Goals as goal

pub overflow_add-free : goal.overflow_add-free
overflow_add-free c =
    let test = λ (e : ℕ). not (is_there (get_or c.args.extents.now e no_run)) in
    omega (arith, c.loop-e.invariant, rw c.is_there.ensures at c.weight-free.ensures, count_below-next c.loop-e.e test, count_below-most (c.loop-e.e + 1) test)

pub loop-e-init : goal.loop-e-init
loop-e-init c = sym (count_below-none (λ e. not (is_there (get_or c.args.extents.now e no_run))))

pub loop-e-preserved : goal.loop-e-preserved
loop-e-preserved c = rw (c.loop-e.invariant, c.weight-free.ensures, c.is_there.ensures) (sym (count_below-next c.loop-e.e (λ e. not (is_there (get_or c.args.extents.now e no_run)))))
