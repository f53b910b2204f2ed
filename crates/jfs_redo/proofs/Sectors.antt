-- Pages, sector by sector.
use Rattle.std.proofs.Common.{◌≡◌, ◌⊎◌, ◌<◌, ◌≤◌, ◌+◌, ◌-◌, ◌*◌, ◌/◌, ℕ, List, ◌++◌, length, take, drop, get_or, refl, sym, ap, ◌∙◌, inl, inr, arith}
use Rattle.std.proofs.lemmas.Bool.{cases_lt}
use Rattle.std.proofs.lemmas.List.{get_or-take, get_or-drop, get_or_append_left, ext_get_or, length-take-le, drop_at}
use Rattle.jfs_bits.specs.Field.{field_of}
use Rattle.jfs_bits.proofs.Parts.{length-range_of, field-in_part}
use Rattle.jfs_bits.proofs.Places.{part-at, range-same}
use Rattle.jfs_disk.specs.Crash.{torn}
use Rattle.jfs_disk.proofs.Tearing.{length-torn}
use Rattle.jfs_redo.specs.Mixed.{sector, IsMixedPage}

-- a byte of a page that is torn
low_byte : (k : ℕ) (front rest : List ℕ) (i : ℕ) → k ≤ 8 → length front ≡ 4096 → i < 512 * k → get_or (torn k front rest) i 0 ≡ get_or front i 0
unfolding torn
low_byte k front rest i few size low =
    get_or_append_left (take (512 * k) front) (drop (512 * k) rest) 0 i (omega (arith, low, few, size, length-take-le (512 * k) front (omega (arith, few, size)))) ∙ get_or-take (512 * k) front i 0 low

high_byte : (k : ℕ) (front rest : List ℕ) (i : ℕ) → k ≤ 8 → length front ≡ 4096 → 512 * k ≤ i → get_or (torn k front rest) i 0 ≡ get_or rest i 0
unfolding torn
high_byte k front rest i few size high =
    let whole = take (512 * k) front ++ drop (512 * k) rest in
    let behind : drop (512 * k) whole ≡ drop (512 * k) rest = drop_at (take (512 * k) front) (drop (512 * k) rest) (512 * k) (length-take-le (512 * k) front (omega (arith, few, size))) in
    let place : 512 * k + (i - 512 * k) ≡ i = omega (arith, high) in
    ap (λ (n : ℕ). get_or whole n 0) (sym place) ∙ sym (get_or-drop (512 * k) whole (i - 512 * k) 0) ∙ ap (λ (bytes : List ℕ). get_or bytes (i - 512 * k) 0) behind
    ∙ get_or-drop (512 * k) rest (i - 512 * k) 0 ∙ ap (λ (n : ℕ). get_or rest n 0) place

-- pages with the same bytes there have the same sector
pub sector_from : (i : ℕ) (one other : List ℕ) → i < 8 → length one ≡ 4096 → length other ≡ 4096 → ((k : ℕ) → 512 * i ≤ k → k < 512 * i + 512 → get_or one k 0 ≡ get_or other k 0) → sector i one ≡ sector i other
sector_from i one other low size long same =
    let a = length-range_of one (512 * i) 512 (omega (arith, low, size)) in
    let b = length-range_of other (512 * i) 512 (omega (arith, low, long)) in
    ext_get_or 0 (sector i one) (sector i other) (a ∙ sym b) (λ k h.
    part-at one (512 * i) 512 k (omega (arith, h, a)) ∙ same (512 * i + k) (omega arith) (omega (arith, h, a)) ∙ sym (part-at other (512 * i) 512 k (omega (arith, h, a))))

pub front_sector : (k : ℕ) (front rest : List ℕ) (i : ℕ) → k ≤ 8 → i < 8 → length front ≡ 4096 → length rest ≡ 4096 → i < k → sector i (torn k front rest) ≡ sector i front
front_sector k front rest i few low size long below = sector_from i (torn k front rest) front low (length-torn k front rest few size long) size (λ j from to. low_byte k front rest j few size (omega (arith, below, to)))

-- a sector of a page that is torn is one of both pages'
pub torn_sector : (k : ℕ) (front rest : List ℕ) (i : ℕ) → k ≤ 8 → i < 8 → length front ≡ 4096 → length rest ≡ 4096 → (sector i (torn k front rest) ≡ sector i front) ⊎ (sector i (torn k front rest) ≡ sector i rest)
torn_sector k front rest i few low size long = elim (cases_lt i k) [
  | inl below ↦ inl (front_sector k front rest i few low size long below)
  | inr above ↦ inr (sector_from i (torn k front rest) rest low (length-torn k front rest few size long) long (λ j from to. high_byte k front rest j few size (omega (arith, above, from))))
]

-- bytes and numbers within a sector
pub sector_byte : (i k : ℕ) (one other : List ℕ) → sector i one ≡ sector i other → 512 * i ≤ k → k < 512 * i + 512 → get_or one k 0 ≡ get_or other k 0
sector_byte i k one other same from to = range-same (512 * i) 512 one other same k from to

pub sector_field : (i at width : ℕ) (one other : List ℕ) → sector i one ≡ sector i other → 512 * i ≤ at → at + width ≤ 512 * i + 512 → field_of one at width ≡ field_of other at width
sector_field i at width one other same from to =
    let place : 512 * i + (at - 512 * i) ≡ at = omega (arith, from) in
    ap (λ (n : ℕ). field_of one n width) (sym place) ∙ sym (field-in_part one (512 * i) 512 (at - 512 * i) width (omega (arith, from, to)))
    ∙ ap (λ (bytes : List ℕ). field_of bytes (at - 512 * i) width) same
    ∙ field-in_part other (512 * i) 512 (at - 512 * i) width (omega (arith, from, to)) ∙ ap (λ (n : ℕ). field_of other n width) place

-- pages with the same sectors
pub same_page : (one other : List ℕ) → length one ≡ 4096 → length other ≡ 4096 → ((i : ℕ) → i < 8 → sector i one ≡ sector i other) → one ≡ other
same_page one other size long same = ext_get_or 0 one other (size ∙ sym long) (λ k h.
    sector_byte (k / 512) k one other (same (k / 512) (omega (arith, h, size))) (omega arith) (omega arith))

-- ---- mixed pages

module _ (Is : List ℕ → Type 0) (old : List ℕ) (size : length old ≡ 4096) where
  pub mixed_old : IsMixedPage Is old old
  mixed_old = record { size = size; sectors = λ i low. inl refl }

  pub mixed_new : (page : List ℕ) → length page ≡ 4096 → Is page → IsMixedPage Is old page
  mixed_new page long is = record { size = long; sectors = λ i low. inr (page, is, refl) }

  -- a mixed page over a mixed page
  pub mixed_torn : (k : ℕ) (front rest : List ℕ) → k ≤ 8 → IsMixedPage Is old front → IsMixedPage Is old rest → IsMixedPage Is old (torn k front rest)
  mixed_torn k front rest few one other = record {
    size = length-torn k front rest few one.size other.size;
    sectors = λ i low. elim (torn_sector k front rest i few low one.size other.size) [
      | inl same ↦ elim (one.sectors i low) [ inl was ↦ inl (same ∙ was) | inr (page, is, at) ↦ inr (page, is, same ∙ at) ]
      | inr same ↦ elim (other.sectors i low) [ inl was ↦ inl (same ∙ was) | inr (page, is, at) ↦ inr (page, is, same ∙ at) ]
    ];
  }

  -- where only the old page may be written, it is there
  pub mixed_same : (left : List ℕ) → ((page : List ℕ) → Is page → page ≡ old) → IsMixedPage Is old left → left ≡ old
  mixed_same left only mixed = same_page left old mixed.size size (λ i low. elim (mixed.sectors i low) [ inl was ↦ was | inr (page, is, at) ↦ at ∙ ap (sector i) (only page is) ])
