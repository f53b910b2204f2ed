use Rattle.std.proofs.Common.{◌≡◌, ◌≢◌, ◌+◌, ◌*◌, ◌≤◌, ◌∙◌, ◌⊎◌, ℕ, List, length, slice_index, inl, inr, refl, ap, arith}
use Rattle.std.proofs.lemmas.Bool.{cases_eq, cases_lt}
use Rattle.byteorder.specs.Endian.{little_bytes}
use Rattle.jfs_bits.specs.Field.{field_of, range_of}
use Rattle.jfs_bits.proofs.Ranges.{range_of-put_other}
use Rattle.jfs_bits.proofs.Words.{field_of-put_same, field_of-put_other}
use Rattle.jfs_dmapctl.proofs.map_control.put_groups.Goals as goal

apart : (j k : ℕ) → j ≢ k → (56 + 8 * j + 8 ≤ 56 + 8 * k) ⊎ (56 + 8 * k + 8 ≤ 56 + 8 * j)
apart j k n = elim (cases_lt j k) [ inl a ↦ inl (omega arith) | inr a ↦ inr (omega arith) ]

pub loop-k-preserved : goal.loop-k-preserved
loop-k-preserved c =
    let k = c.loop-k.k in
    let value = slice_index c.args.groups.now k in
    let size : length c.loop-k.bytes ≡ 4096 = omega (arith, c.requires) in
    record {
      counts = λ j h. elim (cases_eq j k) [
        | inl e ↦ rw e (ap (λ (z : List ℕ). field_of z (56 + 8 * k) 8) c.put_u64.ensures.bytes ∙ field_of-put_same (56 + 8 * k) 8 value c.loop-k.bytes refl (omega arith) c.put_u64.ensures.fits)
        | inr n ↦ ap (λ (z : List ℕ). field_of z (56 + 8 * j) 8) c.put_u64.ensures.bytes ∙ field_of-put_other (56 + 8 * j) 8 (56 + 8 * k) (little_bytes 8 value) c.loop-k.bytes (omega arith) (apart j k n) ∙ c.loop-k.invariant.counts j (omega arith)
      ];
      beside = λ p n side. ap (λ (z : List ℕ). range_of z p n) c.put_u64.ensures.bytes
          ∙ range_of-put_other p n (56 + 8 * k) (little_bytes 8 value) c.loop-k.bytes (omega arith) (elim side [ inl a ↦ inl (omega arith) | inr a ↦ inr (omega arith) ])
          ∙ c.loop-k.invariant.beside p n side;
    }
