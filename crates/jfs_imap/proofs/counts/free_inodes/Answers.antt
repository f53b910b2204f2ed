use Rattle.std.proofs.Common.{get_or, sym, arith}
use Rattle.jfs_bits.specs.Bits.{is_taken}
use Rattle.jfs_iag.specs.Iag.{no_run}
use Rattle.jfs_iag.specs.Canonical.{is_free_inode}
use Rattle.jfs_bits.proofs.Counts.{count_below-none}
use Rattle.jfs_imap.proofs.Sums.{count-next}
use Rattle.jfs_imap.proofs.counts.free_inodes.Goals as goal

pub loop-k-init : goal.loop-k-init
loop-k-init c = record { value = sym (count_below-none (is_free_inode (is_taken c.args.set.now) (λ e. get_or c.args.extents.now e no_run))); most = omega arith }

pub loop-k-preserved : goal.loop-k-preserved
loop-k-preserved c =
    let i = c.loop-k.invariant in
    record {
      value = rw (i.value, c.free_in-free.ensures.value) (sym (count-next 4096 c.loop-k.k (is_free_inode (is_taken c.args.set.now) (λ e. get_or c.args.extents.now e no_run))));
      most = omega (arith, i.most, c.free_in-free.ensures.most);
    }
