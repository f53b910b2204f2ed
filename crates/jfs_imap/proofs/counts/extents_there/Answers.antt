use Rattle.std.proofs.Common.{ℕ, get_or, sym, arith}
use Rattle.jfs_iag.specs.Iag.{no_run}
use Rattle.jfs_iag.specs.Canonical.{is_there}
use Rattle.jfs_bits.proofs.Counts.{count_below-none}
use Rattle.jfs_imap.proofs.Sums.{count-next}
use Rattle.jfs_imap.proofs.counts.extents_there.Goals as goal

pub loop-k-init : goal.loop-k-init
loop-k-init c = record { value = sym (count_below-none ((λ (e : ℕ). is_there (get_or c.args.extents.now e no_run)))); most = omega arith }

pub loop-k-preserved : goal.loop-k-preserved
loop-k-preserved c =
    let i = c.loop-k.invariant in
    record {
      value = rw (i.value, c.extents_in-there.ensures.value) (sym (count-next 128 c.loop-k.k ((λ (e : ℕ). is_there (get_or c.args.extents.now e no_run)))));
      most = omega (arith, i.most, c.extents_in-there.ensures.most);
    }
