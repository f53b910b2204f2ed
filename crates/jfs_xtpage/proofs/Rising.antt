-- Entries whose offsets rise.
use Rattle.std.proofs.Common.{◌≡◌, ◌≤◌, ◌<◌, ◌⊎◌, inl, inr, refl, sym, ap, subst, ℕ, zero, suc, ◌+◌, ◌-◌, ◌*◌, ◌/◌, List, arith}
use Rattle.jfs_bits.specs.declared.extent.Xad.{Xad}
use Rattle.jfs_bits.specs.Extent.{xad_of}
use Rattle.jfs_xtpage.specs.Page.{end_of, entry_of, IsRising}

step_or : (k i : ℕ) → suc k < i + 1 → (suc k < i) ⊎ (i ≡ suc k)
step_or k zero h = absurd (none k h)
  where
    none : (k : ℕ) → suc k < zero + 1 → ⊥
    none k h = omega (arith, h)
step_or zero (suc zero) h = inr refl
step_or zero (suc (suc i)) h = inl (omega arith)
step_or (suc k) (suc i) h = elim (step_or k i (omega (arith, h))) [ inl l ↦ inl (omega (arith, l)) | inr e ↦ inr (ap (λ n. suc n) e) ]

-- one pair more
pub rising_more : (bytes : List ℕ) (i : ℕ) → IsRising bytes i → end_of (xad_of bytes (32 + 16 * (i - 1))) ≤ (xad_of bytes (32 + 16 * i)).offset → IsRising bytes (i + 1)
rising_more bytes i r h k l = elim (step_or k i l) [
  | inl m ↦ r k m
  | inr e ↦ subst (λ n. end_of (xad_of bytes (32 + 16 * (n - 1))) ≤ (xad_of bytes (32 + 16 * n)).offset → end_of (entry_of bytes k) ≤ (entry_of bytes (suc k)).offset) (sym e)
      (λ g. subst (λ p. end_of (xad_of bytes (32 + 16 * p)) ≤ (entry_of bytes (suc k)).offset) (less k) g) h
]
  where
    less : (k : ℕ) → suc k - 1 ≡ k
    less k = omega arith

pub rising_fewer : (bytes : List ℕ) (i count : ℕ) → IsRising bytes i → count ≤ i → IsRising bytes count
rising_fewer bytes i count r h k l = r k (omega (arith, h, l))

begins_before : (x : Xad) → x.offset ≤ end_of x
begins_before x = omega arith

split_le : (i j : ℕ) → i ≤ suc j → (i ≤ j) ⊎ (i ≡ suc j)
split_le zero j h = inl (omega arith)
split_le (suc zero) zero h = inr refl
split_le (suc (suc i)) zero h = absurd (none i h)
  where
    none : (i : ℕ) → suc (suc i) ≤ suc zero → ⊥
    none i h = omega (arith, h)
split_le (suc i) (suc j) h = elim (split_le i j (omega (arith, h))) [ inl l ↦ inl (omega (arith, l)) | inr e ↦ inr (ap (λ n. suc n) e) ]

-- a later entry begins later
pub later : (bytes : List ℕ) (count i j : ℕ) → IsRising bytes count → i ≤ j → j < count → (entry_of bytes i).offset ≤ (entry_of bytes j).offset
later bytes count i zero r h l = subst (λ n. (entry_of bytes n).offset ≤ (entry_of bytes zero).offset) (sym (is_zero i h)) (omega arith)
  where
    is_zero : (i : ℕ) → i ≤ zero → i ≡ zero
    is_zero i h = omega (arith, h)
later bytes count i (suc j) r h l = elim (split_le i j h) [
  | inl m ↦ let a = later bytes count i j r m (omega (arith, l)) in let b = begins_before (entry_of bytes j) in let d = r j l in omega (arith, a, b, d)
  | inr e ↦ subst (λ n. (entry_of bytes n).offset ≤ (entry_of bytes (suc j)).offset) (sym e) (omega arith)
]

-- the middle lies between
pub middle_within : (low high : ℕ) → low < high → low + (high - low) / 2 < high
middle_within low high h = omega (arith, h)

-- all up to an entry that isn't past the offset aren't
pub low_moves : (bytes : List ℕ) (count middle offset j : ℕ) → IsRising bytes count → middle < count → (entry_of bytes middle).offset ≤ offset → j < middle + 1 → (entry_of bytes j).offset ≤ offset
low_moves bytes count middle offset j r m h l = let a = later bytes count j middle r (omega (arith, l)) m in omega (arith, a, h)

-- all from an entry that is past it are
pub high_moves : (bytes : List ℕ) (count middle offset j : ℕ) → IsRising bytes count → offset < (entry_of bytes middle).offset → middle ≤ j → j < count → offset < (entry_of bytes j).offset
high_moves bytes count middle offset j r h m l = let a = later bytes count middle j r m l in omega (arith, a, h)
