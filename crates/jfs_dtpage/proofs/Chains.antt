-- Chains of slots: their parts, and where a page keeps them.
use Rattle.std.proofs.Common.{◌≡◌, ◌+◌, ◌-◌, ◌*◌, ℕ, zero, suc, List, ◌∷◌, ◌++◌, length, refl, ap, ◌∙◌, arith}
use Rattle.std.specs.Prelude.{min}
use Rattle.std.specs.List.{AllByRecursion}
use Rattle.jfs_dtpage.specs.Slots.{next_of, follow, behind, gather, SameSlot}
use Rattle.jfs_dtpage.proofs.Kept.{same_field}
use Rattle.jfs_dtpage.proofs.Lists.{units_same}

-- ---- a chain in two parts

pub follow_split : (bytes : List ℕ) (slot m n total : ℕ) → total ≡ m + n → follow bytes slot total ≡ follow bytes slot m ++ follow bytes (behind bytes slot m) n
unfolding follow behind
follow_split bytes slot zero n total e = let t : total ≡ n = omega (arith, e) in ap (λ (k : ℕ). follow bytes slot k) t
follow_split bytes slot (suc m) n zero e = absurd (none m n e)
  where
    none : (m n : ℕ) → 0 ≡ suc m + n → ⊥
    none m n e = omega (arith, e)
follow_split bytes slot (suc m) n (suc total) e = ap (λ (xs : List ℕ). slot ∷ xs) (follow_split bytes (next_of bytes slot) m n total (omega (arith, e)))

pub behind_split : (bytes : List ℕ) (slot m n total : ℕ) → total ≡ m + n → behind bytes slot total ≡ behind bytes (behind bytes slot m) n
unfolding follow behind
behind_split bytes slot zero n total e = let t : total ≡ n = omega (arith, e) in ap (λ (k : ℕ). behind bytes slot k) t
behind_split bytes slot (suc m) n zero e = absurd (none m n e)
  where
    none : (m n : ℕ) → 0 ≡ suc m + n → ⊥
    none m n e = omega (arith, e)
behind_split bytes slot (suc m) n (suc total) e = behind_split bytes (next_of bytes slot) m n total (omega (arith, e))

pub length-follow : (bytes : List ℕ) (slot n : ℕ) → length (follow bytes slot n) ≡ n
unfolding follow
length-follow bytes slot zero = refl
length-follow bytes slot (suc n) = ap suc (length-follow bytes (next_of bytes slot) n)

-- ---- a page that keeps the slots of a chain keeps the chain

next_same : (old new : List ℕ) (slot : ℕ) → SameSlot old new slot → next_of new slot ≡ next_of old slot
next_same old new slot s = same_field old new slot 0 1 (32 * slot) s (omega arith) (omega arith)

pub follow_same : (old new : List ℕ) (slot n : ℕ) → AllByRecursion (SameSlot old new) (follow old slot n) → follow new slot n ≡ follow old slot n
unfolding follow
follow_same old new slot zero all = refl
follow_same old new slot (suc n) all =
    ap (λ (s : ℕ). slot ∷ follow new s n) (next_same old new slot all.0) ∙ ap (λ (xs : List ℕ). slot ∷ xs) (follow_same old new (next_of old slot) n all.1)

pub behind_same : (old new : List ℕ) (slot n : ℕ) → AllByRecursion (SameSlot old new) (follow old slot n) → behind new slot n ≡ behind old slot n
unfolding follow behind
behind_same old new slot zero all = refl
behind_same old new slot (suc n) all = ap (λ (s : ℕ). behind new s n) (next_same old new slot all.0) ∙ behind_same old new (next_of old slot) n all.1

pub gather_same : (old new : List ℕ) (slot n units : ℕ) → AllByRecursion (SameSlot old new) (follow old slot n) → gather new slot n units ≡ gather old slot n units
unfolding follow gather
gather_same old new slot zero units all = refl
gather_same old new slot (suc n) units all =
    let here = units_same old new (32 * slot + 2) (min units 15) (λ i l. same_field old new slot (2 + 2 * i) 2 (32 * slot + 2 + 2 * i) all.0 (omega arith) (omega (arith, l))) in
    let rest = gather_same old new (next_of old slot) n (units - 15) all.1 in
    rw (here, next_same old new slot all.0, rest) refl
