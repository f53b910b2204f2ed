use Rattle.std.proofs.Common.{◌+◌, ◌*◌, ℕ, get_or, sym, arith}
use Rattle.jfs_iag.specs.Iag.{no_run}
use Rattle.jfs_iag.specs.Canonical.{is_there}
use Rattle.jfs_bits.proofs.Counts.{count_below-next, count_below-none, count_below-most}
use Rattle.jfs_imap.proofs.counts.extents_in.Goals as goal

pub overflow_add-there : goal.overflow_add-there
overflow_add-there c =
    let test = λ (e : ℕ). is_there (get_or c.args.extents.now (128 * c.args.k + e) no_run) in
    omega (arith, c.loop-e.invariant, rw c.is_there.ensures at c.weight-there.ensures, count_below-next c.loop-e.e test, count_below-most (c.loop-e.e + 1) test)

pub loop-e-init : goal.loop-e-init
loop-e-init c = sym (count_below-none (λ e. is_there (get_or c.args.extents.now (128 * c.args.k + e) no_run)))

pub loop-e-preserved : goal.loop-e-preserved
loop-e-preserved c = rw (c.loop-e.invariant, c.weight-there.ensures, c.is_there.ensures) (sym (count_below-next c.loop-e.e (λ e. is_there (get_or c.args.extents.now (128 * c.args.k + e) no_run))))

pub returns-clause-most : goal.returns-clause-most
returns-clause-most c = omega (arith, c.loop-e.invariant, count_below-most c.loop-e.e (λ (e : ℕ). is_there (get_or c.args.extents.now (128 * c.args.k + e) no_run)))
