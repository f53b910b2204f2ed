-- A page of the block map's file is canonical in what is compared where it agrees with the canonical one in that.
use Rattle.std.proofs.Common.{◌≡◌, ◌<◌, ◌≤◌, ◌+◌, ◌-◌, ◌^◌, ◌↔◌, ℕ, suc, Bool, IsTrue, inl, inr, List, length, replicate, w8, refl, sym, ap, subst, ◌∙◌, arith}
use Rattle.std.specs.Int.{cast_signed, cast_unsigned}
use Rattle.std.proofs.lemmas.Int.{of_z-to_z}
use Rattle.std.proofs.lemmas.Bool.{cases_lt}
use Rattle.std.proofs.lemmas.Nat.{pow_below}
use Rattle.jfs_bits.specs.Field.{field_of, range_of}
use Rattle.jfs_bmap.specs.MapFile.{IsFirstPage, IsMapPage}
use Rattle.jfs_bmap.proofs.Agreed.{map-pages-same}
use Rattle.jfs_map_check.specs.Compared.{AgreeOutside, AreBytesOutside, IsSameControl}
use Rattle.jfs_findings.specs.Maps.{IsFirstPageAs, IsMapPageAs, without_pad}
use Rattle.jfs_findings.proofs.Compared.{map_page_as}
use Rattle.jfs_map_check.proofs.Pads.{bytes-pad, bytes-around, is_other, agrees}

-- ---- the control page

power_same : (k l : ℕ) → 2 ^ k ≡ 2 ^ l → k ≡ l
power_same k l e =
    elim (cases_lt k l) [
      | inl a ↦ absurd (omega (arith, pow_below k l a))
      | inr a ↦ elim (cases_lt l k) [ inl b ↦ absurd (omega (arith, pow_below l k b)) | inr b ↦ omega arith ]
    ]

sign_same : (x y : ℕ) → x < 2 ^ 8 → y < 2 ^ 8 → cast_signed w8 x ≡ cast_signed w8 y → x ≡ y
sign_same x y small little e = sym (of_z-to_z w8 x small) ∙ ap (cast_unsigned w8) e ∙ of_z-to_z w8 y little

first_decided : (blocks agsize : ℕ) (taken : ℕ → Bool) (page canon : List ℕ) (r : Bool) → IsFirstPage blocks agsize taken canon → field_of page 1088 1 < 2 ^ 8 → field_of canon 1088 1 < 2 ^ 8
    → IsTrue r ↔ IsSameControl page canon → IsTrue r ↔ IsFirstPageAs blocks agsize taken page
first_decided blocks agsize taken page canon r is small little same =
    let c : IsFirstPageAs blocks agsize taken canon = map_page_as blocks agsize taken taken (λ b. refl) 0 canon is in (
      λ y. let s = same.0 y in record {
        mapsize = s.mapsize ∙ c.mapsize;
        nfree = s.nfree ∙ c.nfree;
        agl2size = ap (λ (n : ℕ). 2 ^ n) s.agl2size ∙ c.agl2size;
        agfree = λ k h. s.agfree k h ∙ c.agfree k h;
        group = s.agsize ∙ c.group;
        maxfreebud = ap (cast_signed w8) s.maxfreebud ∙ c.maxfreebud;
      },
      λ p. same.1 (record {
        mapsize = p.mapsize ∙ sym c.mapsize;
        nfree = p.nfree ∙ sym c.nfree;
        agl2size = power_same (field_of page 52 4) (field_of canon 52 4) (p.agl2size ∙ sym c.agl2size);
        agfree = λ k h. p.agfree k h ∙ sym (c.agfree k h);
        agsize = p.group ∙ sym c.group;
        maxfreebud = sign_same (field_of page 1088 1) (field_of canon 1088 1) small little (p.maxfreebud ∙ sym c.maxfreebud);
      }),
    )

-- ---- the pages with a pad

padded_decided : (blocks agsize : ℕ) (taken : ℕ → Bool) (n at width : ℕ) (page canon : List ℕ) (r : Bool) → at + width ≤ 4096 → length page ≡ 4096 → AreBytesOutside at (at + width) page → AreBytesOutside at (at + width) canon
    → length canon ≡ 4096 → range_of canon at width ≡ replicate width 0 → IsMapPage blocks agsize taken n canon
    → IsTrue r ↔ AgreeOutside at (at + width) page canon → IsTrue r ↔ IsMapPage blocks agsize taken n (without_pad at width page)
padded_decided blocks agsize taken n at width page canon r within size bytes more long pad is same = (
  λ y. subst (IsMapPage blocks agsize taken n) (sym (is_other at width page size within canon long pad (same.0 y))) is,
  λ p. same.1 (agrees at width page size within canon (map-pages-same blocks agsize n taken taken (without_pad at width page) canon (λ b. refl) (bytes-pad at width page size within bytes) (bytes-around at width canon long pad more) p is)),
)

-- ---- each page

module _ (blocks agsize : ℕ) (taken : ℕ → Bool) (n : ℕ) (page canon : List ℕ) (r : Bool) (is : IsMapPage blocks agsize taken n canon) where
  decided_at : (m : ℕ) → n ≡ m → IsTrue r ↔ IsMapPageAs blocks agsize taken m page → IsTrue r ↔ IsMapPageAs blocks agsize taken n page
  decided_at m e d = subst (λ (k : ℕ). (IsTrue r ↔ IsMapPageAs blocks agsize taken k page)) (sym e) d

  canon_at : (m : ℕ) → n ≡ m → IsMapPage blocks agsize taken m canon
  canon_at m e = subst (λ (k : ℕ). IsMapPage blocks agsize taken k canon) e is

  pub decided_first : n ≡ 0 → field_of page 1088 1 < 2 ^ 8 → field_of canon 1088 1 < 2 ^ 8 → IsTrue r ↔ IsSameControl page canon → IsTrue r ↔ IsMapPageAs blocks agsize taken n page
  decided_first e small little same = decided_at 0 e (first_decided blocks agsize taken page canon r (canon_at 0 e) small little same)

  pub decided_control : n ≡ 3 → length page ≡ 4096 → AreBytesOutside 1382 4096 page → AreBytesOutside 1382 4096 canon → IsTrue r ↔ AgreeOutside 1382 4096 page canon → IsTrue r ↔ IsMapPageAs blocks agsize taken n page
  decided_control e size bytes more same =
      let c = canon_at 3 e in
      decided_at 3 e (padded_decided blocks agsize taken 3 1382 2714 page canon r (omega arith) size bytes more c.size c.pad c same)

  pub decided_dmap : 4 ≤ n → length page ≡ 4096 → AreBytesOutside 374 2048 page → AreBytesOutside 374 2048 canon → IsTrue r ↔ AgreeOutside 374 2048 page canon → IsTrue r ↔ IsMapPageAs blocks agsize taken n page
  decided_dmap most size bytes more same =
      let e : n ≡ suc (suc (suc (suc (n - 4)))) = omega arith in
      let c = canon_at (suc (suc (suc (suc (n - 4))))) e in
      decided_at (suc (suc (suc (suc (n - 4))))) e (padded_decided blocks agsize taken (suc (suc (suc (suc (n - 4))))) 374 1674 page canon r (omega arith) size bytes more c.dmap.canonical.size c.dmap.canonical.pad c same)
