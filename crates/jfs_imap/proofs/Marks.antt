-- Lists of marks, and words of the map.
use Rattle.std.proofs.Common.{◌≡◌, ◌≢◌, ◌<◌, ◌+◌, ◌-◌, ◌*◌, ◌^◌, ℕ, Bool, true, false, not, ◌&&◌, List, length, get_or, set, map, replicate, inl, inr, refl, sym, ap, ◌∙◌, arith}
use Rattle.std.specs.Prelude.{nat_lt, Some, None}
use Rattle.std.proofs.lemmas.Bool.{cases_eq, cases_lt, lt-ltb, le-ltb, true≢false, not-true}
use Rattle.std.proofs.lemmas.Bool.Decides.{nat_tests}
use Rattle.std.proofs.lemmas.List.{get_or-set_same, get_or-set_other, length-set, get_or_past}
use Rattle.std.proofs.lemmas.List.FromFn.{fill_by_all, length-map-range_with_len, get_or-map-range_with_len}
use Rattle.jfs_bits.specs.Bits.{is_taken, is_taken_in, IsLowestFree}
use Rattle.jfs_iag.proofs.Maps.{single, and_true, and_false}
use Rattle.jfs_imap.specs.Summary.{IsFirstMarked}
use Rattle.jfs_imap.specs.Inodes.{bits_of}
use Rattle.jfs_imap.proofs.Trees.{none-at}

pub not_false : (b : Bool) → not b ≡ false → b ≡ true
not_false true e = refl
not_false false e = absurd (true≢false e)

-- ---- marks put one by one

pub marks-none : (n k : ℕ) (f : ℕ → Bool) → get_or (replicate {A = Bool} n false) k false ≡ (nat_lt k 0 && f k)
marks-none n k f = none-at n k ∙ sym (and_false (nat_lt k 0) (f k) (le-ltb k 0 (omega arith)))

pub marks-next : (marks : List Bool) (e k : ℕ) (v : Bool) (f : ℕ → Bool) → e < length marks → v ≡ f e → get_or marks k false ≡ (nat_lt k e && f k) → get_or (set marks e v) k false ≡ (nat_lt k (e + 1) && f k)
marks-next marks e k v f within is before =
    elim (cases_eq k e) [
      | inl same ↦ rw (same, get_or-set_same marks e v false within) (is ∙ sym (and_true (nat_lt e (e + 1)) (f e) (lt-ltb e (e + 1) (omega arith))))
      | inr other ↦ get_or-set_other marks e k v false other ∙ before ∙ ap (λ (z : Bool). z && f k) (sym (further e k other))
    ]
  where
    further : (e k : ℕ) → k ≢ e → nat_lt k (e + 1) ≡ nat_lt k e
    further e k other = grind (arith, nat_tests)

-- no place of a list without a mark is marked
pub unmarked : (marks : List Bool) → IsFirstMarked marks None → (k : ℕ) → get_or marks k false ≡ false
unmarked marks none k = elim (cases_lt k (length marks)) [ inl h ↦ none k h | inr h ↦ get_or_past marks k false h ]

-- ---- words

pub lowest-clear : (word i : ℕ) → IsLowestFree (is_taken_in word) (2 ^ (5 - 0)) 0 (Some i) → (is_taken_in word i ≡ false) × ((k : ℕ) → k < i → is_taken_in word k ≡ true) × (i < 32)
lowest-clear word i h =
    let place : h.0 * 2 ^ 0 ≡ h.0 = omega arith in
    let is : i ≡ h.0 = h.2 ∙ place in
    let least = h.1 in (
      rw is (not-true (is_taken_in word h.0) (sym (single (is_taken_in word) h.0) ∙ h.3)),
      λ k b. not_false (is_taken_in word k) (sym (single (is_taken_in word) k) ∙ h.4 k (omega (arith, is, b))),
      omega (arith, is, least),
    )

-- ---- the bits of a map as a list

pub length-bits_of : (n : ℕ) (map : List ℕ) → length (bits_of n map) ≡ n
length-bits_of n map = length-map-range_with_len (is_taken map) 0 n

pub bit-at : (n : ℕ) (map : List ℕ) (i : ℕ) → i < n → get_or (bits_of n map) i false ≡ is_taken map i
bit-at n map i h = get_or-map-range_with_len (is_taken map) 0 n i i false h (omega arith)

-- a list of so many bits is that of a map
pub bits-are : (n : ℕ) (map : List ℕ) (marks : List Bool) → length marks ≡ n → ((k : ℕ) → k < n → get_or marks k false ≡ is_taken map k) → marks ≡ bits_of n map
bits-are n map marks size each = fill_by_all (is_taken map) marks n false size each

-- one bit changed
pub bits-set : (n i : ℕ) (v : Bool) (old new : List ℕ) → i < n → is_taken new i ≡ v → ((b : ℕ) → b ≢ i → is_taken new b ≡ is_taken old b) → set (bits_of n old) i v ≡ bits_of n new
bits-set n i v old new within here other =
    bits-are n new (set (bits_of n old) i v) (simp length-set (length-bits_of n old)) (λ k h. elim (cases_eq k i) [
      | inl e ↦ rw e (get_or-set_same (bits_of n old) i v false (omega (arith, length-bits_of n old)) ∙ sym here)
      | inr ne ↦ get_or-set_other (bits_of n old) i k v false ne ∙ bit-at n old k h ∙ sym (other k ne)
    ])
