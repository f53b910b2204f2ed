use Rattle.std.proofs.Common.{◌+◌, ◌*◌, ℕ, get_or, sym, arith}
use Rattle.jfs_bits.specs.Bits.{is_taken}
use Rattle.jfs_iag.specs.Iag.{no_run}
use Rattle.jfs_iag.specs.Canonical.{is_free_inode}
use Rattle.jfs_bits.proofs.Counts.{count_below-next, count_below-none, count_below-most}
use Rattle.jfs_imap.proofs.counts.free_in.Goals as goal

pub overflow_add-free : goal.overflow_add-free
overflow_add-free c =
    let test = λ (i : ℕ). is_free_inode (is_taken c.args.set.now) (λ e. get_or c.args.extents.now e no_run) (4096 * c.args.k + i) in
    omega (arith, c.loop-i.invariant, rw c.is_free.ensures at c.weight-free.ensures, count_below-next c.loop-i.i test, count_below-most (c.loop-i.i + 1) test)

pub loop-i-init : goal.loop-i-init
loop-i-init c = sym (count_below-none (λ i. is_free_inode (is_taken c.args.set.now) (λ e. get_or c.args.extents.now e no_run) (4096 * c.args.k + i)))

pub loop-i-preserved : goal.loop-i-preserved
loop-i-preserved c = rw (c.loop-i.invariant, c.weight-free.ensures, c.is_free.ensures) (sym (count_below-next c.loop-i.i (λ i. is_free_inode (is_taken c.args.set.now) (λ e. get_or c.args.extents.now e no_run) (4096 * c.args.k + i))))

pub returns-clause-most : goal.returns-clause-most
returns-clause-most c = omega (arith, c.loop-i.invariant, count_below-most c.loop-i.i (λ (i : ℕ). is_free_inode (is_taken c.args.set.now) (λ e. get_or c.args.extents.now e no_run) (4096 * c.args.k + i)))
