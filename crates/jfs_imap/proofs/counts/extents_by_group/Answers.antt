use Rattle.std.proofs.Common.{◌≡◌, ◌<◌, ◌+◌, ◌*◌, ◌/◌, ◌%◌, ◌&&◌, ◌∙◌, ℕ, get_or, replicate, refl, sym, arith}
use Rattle.std.specs.Prelude.{◌==◌}
use Rattle.jfs_iag.specs.Iag.{no_run}
use Rattle.jfs_iag.specs.Canonical.{is_there}
use Rattle.std.proofs.lemmas.List.{length-set, get_or-replicate}
use Rattle.jfs_bits.proofs.Counts.{count_below-none, count_below-most}
use Rattle.jfs_imap.proofs.Sums.{group-next}
use Rattle.jfs_imap.proofs.counts.extents_by_group.Goals as goal

none-yet : (g : ℕ) → g < 128 → get_or (replicate {A = ℕ} 128 0) g 0 ≡ 0
none-yet g h = get_or-replicate 128 g 0 0 h

iag : (k i : ℕ) → i < 128 → (128 * k + i) / 128 ≡ k
iag k i h = omega arith

pub loop-k-init : goal.loop-k-init
loop-k-init c = record { size = refl; counts = λ g h. none-yet g h ∙ sym (count_below-none (λ e. (λ (e : ℕ). is_there (get_or c.args.extents.now e no_run)) e && e / 128 % c.args.numag == g)) }

pub overflow_add-there : goal.overflow_add-there
overflow_add-there c =
    let g = c.loop-k.k % c.args.numag in
    omega (arith, c.loop-k.invariant.counts g (omega arith), count_below-most (128 * c.loop-k.k) (λ (e : ℕ). (λ (e : ℕ). is_there (get_or c.args.extents.now e no_run)) e && e / 128 % c.args.numag == g), c.extents_in.ensures.most)

pub loop-k-preserved : goal.loop-k-preserved
loop-k-preserved c =
    let i = c.loop-k.invariant in
    let k = c.loop-k.k in
    let size = i.size in
    record {
      size = simp length-set i.size;
      counts = λ g h. group-next 128 k c.args.numag g c.extents_in.result ((λ (e : ℕ). is_there (get_or c.args.extents.now e no_run))) c.loop-k.there (iag k) (omega arith) c.extents_in.ensures.value (i.counts g h) (i.counts (k % c.args.numag) (omega arith));
    }
