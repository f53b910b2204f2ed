use Rattle.std.proofs.Common.{◌≡◌, ◌≢◌, ◌+◌, ◌*◌, ◌≤◌, ◌∙◌, ◌⊎◌, ℕ, List, length, get_or, inl, inr, sym, ap, arith}
use Rattle.std.proofs.lemmas.Bool.{cases_eq, cases_lt}
use Rattle.jfs_bits.specs.Descriptor.{pxd_of, pxd_bytes}
use Rattle.jfs_bits.specs.Field.{range_of}
use Rattle.jfs_bits.proofs.Ranges.{range_of-put_other}
use Rattle.jfs_bits.proofs.Descriptors.{pxd_of-range, length-pxd_bytes}
use Rattle.jfs_iag.specs.Iag.{no_run}
use Rattle.jfs_iag.proofs.iag.put_extents.Goals as goal

apart : (j k : ℕ) → j ≢ k → (3072 + 8 * j + 8 ≤ 3072 + 8 * k) ⊎ (3072 + 8 * k + 8 ≤ 3072 + 8 * j)
apart j k n = elim (cases_lt j k) [ inl a ↦ inl (omega arith) | inr a ↦ inr (omega arith) ]

pub loop-e-preserved : goal.loop-e-preserved
loop-e-preserved c =
    let k = c.loop-e.e in
    let value = get_or c.args.extents.now k no_run in
    let size : length c.loop-e.bytes ≡ 4096 = omega (arith, c.requires.size) in
    let width = length-pxd_bytes value in
    let put = c.put_pxd.ensures.bytes in
    record {
      value = λ j h. elim (cases_eq j k) [
        | inl e ↦ rw e c.put_pxd.ensures.read_back
        | inr n ↦ pxd_of-range c.put_pxd.new.bytes (3072 + 8 * j)
            ∙ ap (λ (z : List ℕ). pxd_of z 0) (ap (λ (z : List ℕ). range_of z (3072 + 8 * j) 8) put ∙ range_of-put_other (3072 + 8 * j) 8 (3072 + 8 * k) (pxd_bytes value) c.loop-e.bytes (omega (arith, width, size)) (elim (apart j k n) [ inl a ↦ inl (omega arith) | inr a ↦ inr (omega (arith, width)) ]))
            ∙ (sym (pxd_of-range c.loop-e.bytes (3072 + 8 * j)) ∙ c.loop-e.invariant.value j (omega arith))
      ];
      beside = λ p n h. ap (λ (z : List ℕ). range_of z p n) put
          ∙ range_of-put_other p n (3072 + 8 * k) (pxd_bytes value) c.loop-e.bytes (omega (arith, width, size)) (inl (omega arith))
          ∙ c.loop-e.invariant.beside p n h;
    }
