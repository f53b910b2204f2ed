-- Pages with zeros in their unused bytes, and pages that agree outside these.
use Rattle.std.proofs.Common.{◌≡◌, ◌<◌, ◌≤◌, ◌+◌, ◌-◌, ℕ, inl, inr, List, length, take, drop, ◌++◌, replicate, get_or, sym, ap, ◌∙◌, arith}
use Rattle.std.proofs.lemmas.Bool.{cases_lt}
use Rattle.std.proofs.lemmas.List.{get_or-replicate, get_or_past, length-append, length-take, length-drop, length-replicate}
use Rattle.std.proofs.lemmas.Grind.{same_number_lists}
use Rattle.jfs_bits.specs.Field.{range_of, put_bytes, AreBytes}
use Rattle.jfs_bits.proofs.Ranges.{length-put_bytes, range_of-put_other}
use Rattle.jfs_bits.proofs.Parts.{part-held}
use Rattle.jfs_bits.proofs.Places.{part-at, range-same}
use Rattle.jfs_map_check.specs.Compared.{AgreeOutside, AreBytesOutside}
use Rattle.jfs_findings.specs.Maps.{without_pad}

-- a byte of a range of zeros
zero_at : (at width : ℕ) (page : List ℕ) → range_of page at width ≡ replicate width 0 → (k : ℕ) → at ≤ k → k < at + width → get_or page k 0 ≡ 0
zero_at at width page zeros k from to =
    let i = k - at in
    let here : at + i ≡ k = omega arith in
    let small : i < width = omega arith in
    rw here at (sym (part-at page at width i small)) ∙ ap (λ (z : List ℕ). get_or z i 0) zeros ∙ get_or-replicate {A = ℕ} width i 0 0 small

module _ (at width : ℕ) where
  -- a page with zeros there, of which all other numbers are bytes
  pub bytes-around : (page : List ℕ) → length page ≡ 4096 → range_of page at width ≡ replicate width 0 → AreBytesOutside at (at + width) page → AreBytes page
  bytes-around page size pad bytes k =
      elim (cases_lt k 4096) [
        | inl small ↦ elim (cases_lt k at) [
          | inl h ↦ bytes k small (inl h)
          | inr h ↦ elim (cases_lt k (at + width)) [
            | inl t ↦ rw (zero_at at width page pad k h t) (omega arith)
            | inr t ↦ bytes k small (inr t)
          ]
        ]
        | inr past ↦ rw (get_or_past page k 0 (omega (arith, size, past))) (omega arith)
      ]

module _ (at width : ℕ) (page : List ℕ) (size : length page ≡ 4096) (within : at + width ≤ 4096) where
  zeros : length {A = ℕ} (replicate width 0) ≡ width
  zeros = length-replicate width 0

  room : at + length {A = ℕ} (replicate width 0) ≤ length page
  room = omega (arith, zeros, size, within)

  length-pad : length (without_pad at width page) ≡ 4096
  length-pad = length-put_bytes at (replicate width 0) page room ∙ size

  in_pad : range_of (without_pad at width page) at width ≡ replicate width 0
  in_pad = part-held at width (replicate width 0) page zeros (omega (arith, size, within))

  before : (k : ℕ) → k < at → get_or (without_pad at width page) k 0 ≡ get_or page k 0
  before k h = range-same k 1 (without_pad at width page) page (range_of-put_other k 1 at (replicate width 0) page room (inl (omega (arith, h)))) k (omega arith) (omega arith)

  behind : (k : ℕ) → at + width ≤ k → get_or (without_pad at width page) k 0 ≡ get_or page k 0
  behind k h = range-same k 1 (without_pad at width page) page (range_of-put_other k 1 at (replicate width 0) page room (inr (omega (arith, zeros, h)))) k (omega arith) (omega arith)

  pub bytes-pad : AreBytesOutside at (at + width) page → AreBytes (without_pad at width page)
  bytes-pad bytes = bytes-around at width (without_pad at width page) length-pad in_pad (λ k small side. elim side [
    | inl h ↦ rw (before k h) (bytes k small (inl h))
    | inr h ↦ rw (behind k h) (bytes k small (inr h))
  ])

  -- a page with zeros there that agrees with this one elsewhere
  pub is_other : (other : List ℕ) → length other ≡ 4096 → range_of other at width ≡ replicate width 0 → AgreeOutside at (at + width) page other → without_pad at width page ≡ other
  is_other other long pad agree =
      same_number_lists (without_pad at width page) other (length-pad ∙ sym long) (λ k h.
      let small : k < 4096 = omega (arith, length-pad, h) in
      elim (cases_lt k at) [
        | inl l ↦ before k l ∙ agree k small (inl l)
        | inr l ↦ elim (cases_lt k (at + width)) [
          | inl t ↦ zero_at at width (without_pad at width page) in_pad k l t ∙ sym (zero_at at width other pad k l t)
          | inr t ↦ behind k t ∙ agree k small (inr t)
        ]
      ])

  pub agrees : (other : List ℕ) → without_pad at width page ≡ other → AgreeOutside at (at + width) page other
  agrees other e k small (inl l) = sym (before k l) ∙ ap (λ (z : List ℕ). get_or z k 0) e
  agrees other e k small (inr t) = sym (behind k t) ∙ ap (λ (z : List ℕ). get_or z k 0) e

-- what lies behind the pad stays
within-pad : (at width : ℕ) (page : List ℕ) → length (without_pad at width page) ≡ 4096 → at + width < 4096 → at + width ≤ length page
unfolding put_bytes
within-pad at width page size small =
    let zeros = replicate {A = ℕ} width 0 in
    let rest = drop (at + length zeros) page in
    omega (arith, size, small, length-append (take at page) (zeros ++ rest), length-append zeros rest, length-take at page, length-drop (at + length zeros) page, length-replicate {A = ℕ} width 0)

pub range-beside_pad : (at width : ℕ) (page : List ℕ) (place count : ℕ) → length (without_pad at width page) ≡ 4096 → at + width < 4096 → at + width ≤ place → range_of (without_pad at width page) place count ≡ range_of page place count
range-beside_pad at width page place count size small past =
    let zeros = length-replicate {A = ℕ} width 0 in
    let within = within-pad at width page size small in
    range_of-put_other place count at (replicate width 0) page (omega (arith, zeros, within)) (inr (omega (arith, zeros, past)))
