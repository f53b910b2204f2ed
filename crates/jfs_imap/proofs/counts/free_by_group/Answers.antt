use Rattle.std.proofs.Common.{◌≡◌, ◌<◌, ◌+◌, ◌*◌, ◌/◌, ◌%◌, ◌&&◌, ◌∙◌, ℕ, get_or, replicate, refl, sym, arith}
use Rattle.std.specs.Prelude.{◌==◌}
use Rattle.jfs_bits.specs.Bits.{is_taken}
use Rattle.jfs_iag.specs.Iag.{no_run}
use Rattle.jfs_iag.specs.Canonical.{is_free_inode}
use Rattle.std.proofs.lemmas.List.{length-set, get_or-replicate}
use Rattle.jfs_bits.proofs.Counts.{count_below-none, count_below-most}
use Rattle.jfs_imap.proofs.Sums.{group-next}
use Rattle.jfs_imap.proofs.counts.free_by_group.Goals as goal

none-yet : (g : ℕ) → g < 128 → get_or (replicate {A = ℕ} 128 0) g 0 ≡ 0
none-yet g h = get_or-replicate 128 g 0 0 h

iag : (k i : ℕ) → i < 4096 → (4096 * k + i) / 4096 ≡ k
iag k i h = omega arith

pub loop-k-init : goal.loop-k-init
loop-k-init c = record { size = refl; counts = λ g h. none-yet g h ∙ sym (count_below-none (λ i. is_free_inode (is_taken c.args.set.now) (λ e. get_or c.args.extents.now e no_run) i && i / 4096 % c.args.numag == g)) }

pub overflow_add-free : goal.overflow_add-free
overflow_add-free c =
    let g = c.loop-k.k % c.args.numag in
    omega (arith, c.loop-k.invariant.counts g (omega arith), count_below-most (4096 * c.loop-k.k) (λ (i : ℕ). is_free_inode (is_taken c.args.set.now) (λ e. get_or c.args.extents.now e no_run) i && i / 4096 % c.args.numag == g), c.free_in.ensures.most)

pub loop-k-preserved : goal.loop-k-preserved
loop-k-preserved c =
    let i = c.loop-k.invariant in
    let k = c.loop-k.k in
    let size = i.size in
    record {
      size = simp length-set i.size;
      counts = λ g h. group-next 4096 k c.args.numag g c.free_in.result (is_free_inode (is_taken c.args.set.now) (λ e. get_or c.args.extents.now e no_run)) c.loop-k.free (iag k) (omega arith) c.free_in.ensures.value (i.counts g h) (i.counts (k % c.args.numag) (omega arith));
    }
