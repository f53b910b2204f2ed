-- What is noted of a page of the block map's file.
use Rattle.std.proofs.Common.{◌≡◌, ◌≢◌, ◌≤◌, ◌<◌, ◌⊎◌, ◌+◌, ◌-◌, ◌*◌, ℕ, suc, Bool, true, IsTrue, inl, inr, List, Some, sym, ap, subst, ◌∙◌, arith}
use Rattle.std.specs.Prelude.{min}
use Rattle.std.proofs.lemmas.Bool.{cases_eq, cases_lt}
use Rattle.jfs_bits.specs.declared.extent.Xad.{Xad}
use Rattle.jfs_bits.specs.Bits.{is_taken}
use Rattle.jfs_bits.specs.Field.{range_of}
use Rattle.jfs_bmap.specs.MapFile.{IsMapPage, is_in_use}
use Rattle.jfs_findings.specs.objects.specs.Contents.{block_of}
use Rattle.jfs_findings.specs.Gains.{Gains}
use Rattle.jfs_findings.specs.Maps.{IsMapPageAs}
use Rattle.jfs_findings.specs.declared.finding.Finding.{Finding}
use Rattle.jfs_findings.specs.declared.finding.FindingKind.TheVariants as kinds
use Rattle.jfs_map_check.specs.Found.{finding, IsOtherAt, IsOtherBit, IsWrongPage, IsWrongAt, IsWrongIn, IsWrongBelow}
use Rattle.jfs_map_check.proofs.Gaining.{gains_none, gains_then, gains_as}
use Rattle.jfs_map_check.proofs.Pads.{range-beside_pad}

-- ---- bits

module _ (k n : ℕ) (have want : List ℕ) where
  pub no_bits : (first end : ℕ) (xs : List Finding) → end ≤ first → Gains (IsOtherBit k n have want first end) xs xs
  no_bits first end xs none = gains_none (IsOtherBit k n have want first end) xs (λ f p. let a = p.past in let b = p.below in absurd (omega (arith, a, b, none)))

  -- a word that is the same
  pub word_same : (w end : ℕ) (xs : List Finding) → end ≤ 32 * w + 32 → ((i : ℕ) → i < 32 → is_taken have (32 * w + i) ≡ is_taken want (32 * w + i)) → Gains (IsOtherBit k n have want (32 * w) end) xs xs
  word_same w end xs most same =
      gains_none (IsOtherBit k n have want (32 * w) end) xs (λ f p.
      let a = p.past in
      let b = p.below in
      let here : 32 * w + (p.block - 32 * w) ≡ p.block = omega (arith, a) in
      p.differs (subst (λ (i : ℕ). is_taken have i ≡ is_taken want i) here (same (p.block - 32 * w) (omega (arith, a, b, most)))))

  pub bit_more : (first i : ℕ) (xs ys zs : List Finding) → first ≤ i → Gains (IsOtherBit k n have want first i) xs ys → Gains (IsOtherAt n (8192 * k + i) have want i) ys zs → Gains (IsOtherBit k n have want first (i + 1)) xs zs
  bit_more first i xs ys zs past g h =
      gains_then (IsOtherBit k n have want first i) (IsOtherAt n (8192 * k + i) have want i) (IsOtherBit k n have want first (i + 1)) xs ys zs g h
      (λ f p. let l = p.below in record { block = p.block; past = p.past; below = omega (arith, l); is = p.is; differs = p.differs })
      (λ f p. record { block = i; past = past; below = omega arith; is = p.is; differs = p.differs })
      (λ f p. elim (cases_eq p.block i) [
        | inl e ↦ inr (record { is = p.is ∙ ap (λ (b : ℕ). finding kinds.Map n (8192 * k + b)) e; differs = subst (λ (b : ℕ). (is_taken have b ≢ is_taken want b)) e p.differs })
        | inr other ↦ (let l = p.below in inl (record { block = p.block; past = p.past; below = omega (arith, l, other); is = p.is; differs = p.differs }))
      ])

  -- word by word
  pub word_more : (w count : ℕ) (xs ys zs : List Finding) → Gains (IsOtherBit k n have want 0 (min (32 * w) count)) xs ys → Gains (IsOtherBit k n have want (32 * w) (min (32 * w + 32) count)) ys zs
      → Gains (IsOtherBit k n have want 0 (min (32 * (w + 1)) count)) xs zs
  word_more w count xs ys zs g h =
      gains_then (IsOtherBit k n have want 0 (min (32 * w) count)) (IsOtherBit k n have want (32 * w) (min (32 * w + 32) count)) (IsOtherBit k n have want 0 (min (32 * (w + 1)) count)) xs ys zs g h
      (λ f p. let l = p.below in record { block = p.block; past = omega arith; below = omega (arith, l); is = p.is; differs = p.differs })
      (λ f p. let l = p.below in record { block = p.block; past = omega arith; below = omega (arith, l); is = p.is; differs = p.differs })
      (λ f p.
      let b = p.below in
      elim (cases_lt p.block (32 * w)) [
        | inl l ↦ inl (record { block = p.block; past = omega arith; below = omega (arith, l, b); is = p.is; differs = p.differs })
        | inr l ↦ inr (record { block = p.block; past = l; below = omega (arith, b); is = p.is; differs = p.differs })
      ])

-- the two maps as parts of their pages
pub bits_of : (k n end count : ℕ) (a b have want : List ℕ) (xs ys : List Finding) → a ≡ have → b ≡ want → end ≡ count → Gains (IsOtherBit k n a b 0 end) xs ys → Gains (IsOtherBit k n have want 0 count) xs ys
bits_of k n end count a b have want xs ys ea eb ei g =
    subst (λ (z : ℕ). Gains (IsOtherBit k n have want 0 z) xs ys) ei
    (subst (λ (z : List ℕ). Gains (IsOtherBit k n have z 0 end) xs ys) eb
    (subst (λ (z : List ℕ). Gains (IsOtherBit k n z b 0 end) xs ys) ea g))

-- ---- a page

module _ (blocks agsize : ℕ) (taken : ℕ → Bool) (j n : ℕ) (page : List ℕ) where
  -- the canonical page's bits are the set's
  bit_is : (canon : List ℕ) → 4 ≤ j → IsMapPage blocks agsize taken j canon → (i : ℕ) → i < 8192 → 8192 * (j - 4) + i < blocks → is_taken (range_of canon 3072 1024) i ≡ taken (8192 * (j - 4) + i)
  bit_is canon most is i small within =
      let e : j ≡ suc (suc (suc (suc (j - 4)))) = omega arith in
      let d = subst (λ (m : ℕ). IsMapPage blocks agsize taken m canon) e is in
      d.dmap.canonical.same i ∙ d.set i within small

  -- and so are those of a page that is canonical in what is compared
  bit_kept : 4 ≤ j → IsMapPageAs blocks agsize taken j page → (i : ℕ) → i < 8192 → 8192 * (j - 4) + i < blocks → is_taken (range_of page 3072 1024) i ≡ taken (8192 * (j - 4) + i)
  bit_kept most is i small within =
      let e : j ≡ suc (suc (suc (suc (j - 4)))) = omega arith in
      let c = subst (λ (m : ℕ). IsMapPageAs blocks agsize taken m page) e is in
      let beside = range-beside_pad 374 1674 page 3072 1024 c.dmap.canonical.size (omega arith) (omega arith) in
      sym (ap (λ (z : List ℕ). is_taken z i) beside) ∙ c.dmap.canonical.same i ∙ c.set i within small

  -- a page that is no dmap, or that passes, has no wrong bit
  pub no_bit : (passed : Bool) (xs ys : List Finding) → (IsTrue passed → IsMapPageAs blocks agsize taken j page) → IsTrue passed ⊎ (j < 4)
      → Gains (IsWrongPage blocks agsize taken j n page) xs ys → Gains (IsWrongAt blocks agsize taken j n page) xs ys
  no_bit passed xs ys canonical which g =
      gains_as (IsWrongPage blocks agsize taken j n page) (IsWrongAt blocks agsize taken j n page) xs ys g (λ f p. inl p)
      (λ f p. elim p [
        | inl q ↦ q
        | inr q ↦ absurd (elim which [
          | inl holds ↦ q.differs (bit_kept q.dmap (canonical holds) q.block q.small q.within)
          | inr small ↦ (let d = q.dmap in omega (arith, d, small))
        ])
      ])

  pub dmap_noted : (canon : List ℕ) (count : ℕ) (xs ys zs : List Finding) → 4 ≤ j → count ≡ min (blocks - 8192 * (j - 4)) 8192 → IsMapPage blocks agsize taken j canon
      → Gains (IsWrongPage blocks agsize taken j n page) xs ys → Gains (IsOtherBit (j - 4) n (range_of page 3072 1024) (range_of canon 3072 1024) 0 count) ys zs → Gains (IsWrongAt blocks agsize taken j n page) xs zs
  dmap_noted canon count xs ys zs most size is g h =
      gains_then (IsWrongPage blocks agsize taken j n page) (IsOtherBit (j - 4) n (range_of page 3072 1024) (range_of canon 3072 1024) 0 count) (IsWrongAt blocks agsize taken j n page) xs ys zs g h
      (λ f p. inl p)
      (λ f p.
      let l = p.below in
      let small : p.block < 8192 = omega (arith, l, size) in
      let within : 8192 * (j - 4) + p.block < blocks = omega (arith, l, size) in
      inr (record { dmap = most; block = p.block; small = small; within = within; is = p.is; differs = λ e. p.differs (e ∙ sym (bit_is canon most is p.block small within)) }))
      (λ f p. elim p [
        | inl q ↦ inl q
        | inr q ↦ (
            let small = q.small in
            let within = q.within in
            inr (record { block = q.block; past = omega arith; below = omega (arith, small, within, size); is = q.is; differs = λ e. q.differs (e ∙ bit_is canon most is q.block small within) }))
      ])

-- ---- a page of the file

module _ (blocks agsize : ℕ) (taken : ℕ → Bool) (pages : ℕ → List ℕ) (extents : List Xad) (j : ℕ) where
  pub there : (n : ℕ) (page : List ℕ) (xs ys : List Finding) → is_in_use blocks j ≡ true → block_of extents j ≡ Some n → page ≡ pages n → Gains (IsWrongAt blocks agsize taken j n page) xs ys → Gains (IsWrongIn blocks agsize taken pages extents j) xs ys
  there n page xs ys used at is g =
      gains_as (IsWrongAt blocks agsize taken j n page) (IsWrongIn blocks agsize taken pages extents j) xs ys g
      (λ f p. record { used = used; page = n; stands = at; wrong = subst (λ (z : List ℕ). IsWrongAt blocks agsize taken j n z f) is p })
      (λ f p.
      let e : p.page ≡ n = (let s = p.stands in cc) in
      subst (λ (z : List ℕ). IsWrongAt blocks agsize taken j n z f) (ap pages e ∙ sym is) (subst (λ (m : ℕ). IsWrongAt blocks agsize taken j m (pages p.page) f) e p.wrong))

  -- the same by extents that have the same block there
  pub from_rest : (rest : List Xad) (xs ys : List Finding) → block_of rest j ≡ block_of extents j → Gains (IsWrongIn blocks agsize taken pages rest j) xs ys → Gains (IsWrongIn blocks agsize taken pages extents j) xs ys
  from_rest rest xs ys same g =
      gains_as (IsWrongIn blocks agsize taken pages rest j) (IsWrongIn blocks agsize taken pages extents j) xs ys g
      (λ f p. record { used = p.used; page = p.page; stands = sym same ∙ p.stands; wrong = p.wrong })
      (λ f p. record { used = p.used; page = p.page; stands = same ∙ p.stands; wrong = p.wrong })

-- ---- page by page

module _ (blocks agsize : ℕ) (taken : ℕ → Bool) (pages : ℕ → List ℕ) (extents : List Xad) where
  pub one_more : (j : ℕ) (xs ys zs : List Finding) → Gains (IsWrongBelow blocks agsize taken pages extents j) xs ys → Gains (IsWrongIn blocks agsize taken pages extents j) ys zs → Gains (IsWrongBelow blocks agsize taken pages extents (j + 1)) xs zs
  one_more j xs ys zs g h =
      gains_then (IsWrongBelow blocks agsize taken pages extents j) (IsWrongIn blocks agsize taken pages extents j) (IsWrongBelow blocks agsize taken pages extents (j + 1)) xs ys zs g h
      (λ f p. let l = p.below in record { at = p.at; below = omega (arith, l); wrong = p.wrong })
      (λ f p. record { at = j; below = omega arith; wrong = p })
      (λ f p. elim (cases_eq p.at j) [
        | inl e ↦ inr (subst (λ (i : ℕ). IsWrongIn blocks agsize taken pages extents i f) e p.wrong)
        | inr other ↦ (let l = p.below in inl (record { at = p.at; below = omega (arith, l, other); wrong = p.wrong }))
      ])
