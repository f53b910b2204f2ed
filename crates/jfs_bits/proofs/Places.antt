-- Where two pages hold the same bytes.
use Rattle.std.proofs.Common.{◌≡◌, ◌<◌, ◌≤◌, ◌+◌, ◌-◌, ◌*◌, ℕ, zero, suc, inl, inr, List, length, drop, get_or, slice_index, sym, ap, ◌∙◌, arith}
use Rattle.std.proofs.lemmas.Bool.{cases_eq, cases_lt}
use Rattle.std.proofs.lemmas.List.{get_or-take, get_or-drop, get_or_past}
use Rattle.byteorder.specs.Endian.{little_from}
use Rattle.jfs_bits.specs.Field.{field_of, range_of}
use Rattle.jfs_bits.specs.Field.{AreBytes}
use Rattle.jfs_bits.proofs.Parts.{length-range_of}

-- the same bytes at the `n` places from `at` on
abbrev pub SameAt : List ℕ → List ℕ → ℕ → ℕ → Type 0
SameAt one other at n = (k : ℕ) → at ≤ k → k < at + n → get_or one k 0 ≡ get_or other k 0

low-same : (x y a b : ℕ) → x < 256 → y < 256 → x + 256 * a ≡ y + 256 * b → (x ≡ y) × (a ≡ b)
low-same x y a b small little same = (omega arith, omega arith)

number-same : (at width : ℕ) (one other : List ℕ) → AreBytes one → AreBytes other → little_from at width one ≡ little_from at width other → SameAt one other at width
number-same at zero one other bytes others same k past near = absurd (omega arith)
number-same at (suc width) one other bytes others same k past near =
    let parts = low-same (slice_index one at) (slice_index other at) (little_from (suc at) width one) (little_from (suc at) width other) (bytes at) (others at) same in
    elim (cases_eq at k) [
      | inl here ↦ rw here at parts.0
      | inr beyond ↦ number-same (suc at) width one other bytes others parts.1 k (omega arith) (omega arith)
    ]

pub field-same : (at width : ℕ) (one other : List ℕ) → AreBytes one → AreBytes other → field_of one at width ≡ field_of other at width → SameAt one other at width
unfolding field_of
field-same = number-same

pub part-at : (page : List ℕ) (at width k : ℕ) → k < width → get_or (range_of page at width) k 0 ≡ get_or page (at + k) 0
unfolding range_of
part-at page at width k h = get_or-take width (drop at page) k 0 h ∙ get_or-drop at page k 0

pub range-same : (at width : ℕ) (one other : List ℕ) → range_of one at width ≡ range_of other at width → SameAt one other at width
range-same at width one other same k past near =
    let here : at + (k - at) ≡ k = omega arith in
    rw here at (sym (part-at one at width (k - at) (omega arith)) ∙ ap (λ (z : List ℕ). get_or z (k - at) 0) same ∙ part-at other at width (k - at) (omega arith))

pub bytes-within : (page : List ℕ) (at width : ℕ) → at + width ≤ length page → AreBytes page → AreBytes (range_of page at width)
bytes-within page at width within bytes n =
    elim (cases_lt n width) [
      | inl h ↦ rw (part-at page at width n h) (bytes (at + n))
      | inr h ↦ rw (get_or_past (range_of page at width) n 0 (omega (arith, length-range_of page at width within))) (omega arith)
    ]
