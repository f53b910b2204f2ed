-- The lowest number that passes a test.
use Rattle.std.proofs.Common.{◌≡◌, ◌<◌, inl, inr, refl, sym, ap, ◌∙◌, ℕ, zero, suc, Bool, true, false, if◌then◌else◌, Option, Some, None, arith}
use Rattle.std.proofs.lemmas.Bool.{cases_lt}
use Rattle.jfs_reader.specs.meaning.specs.Room.{or_else, lowest}

or_none : (o : Option ℕ) → or_else o None ≡ o
or_none None = refl
or_none (Some n) = refl

pub lowest_no : (n : ℕ) (test : ℕ → Bool) → test n ≡ false → lowest n test ≡ lowest (suc n) test
unfolding lowest
lowest_no n test e = sym (ap (λ (x : Bool). or_else (lowest n test) (if x then Some n else None)) e ∙ or_none (lowest n test))

pub lowest_yes : (n : ℕ) (test : ℕ → Bool) → test n ≡ true → or_else (lowest n test) (Some n) ≡ lowest (suc n) test
unfolding lowest
lowest_yes n test e = sym (ap (λ (x : Bool). or_else (lowest n test) (if x then Some n else None)) e)

pub lowest_zero : (test : ℕ → Bool) → None ≡ lowest 0 test
unfolding lowest
lowest_zero test = refl

pub lowest_none : (n : ℕ) (test : ℕ → Bool) → ((k : ℕ) → k < n → test k ≡ false) → None ≡ lowest n test
lowest_none zero test none = lowest_zero test
lowest_none (suc n) test none = lowest_none n test (λ k l. none k (omega (arith, l))) ∙ lowest_no n test (none n (omega arith))

pub lowest_same : (n : ℕ) (f g : ℕ → Bool) → ((k : ℕ) → k < n → f k ≡ g k) → lowest n f ≡ lowest n g
unfolding lowest
lowest_same zero f g same = refl
lowest_same (suc n) f g same =
    ap (λ (o : Option ℕ). or_else o (if f n then Some n else None)) (lowest_same n f g (λ k l. same k (omega (arith, l))))
    ∙ ap (λ (x : Bool). or_else (lowest n g) (if x then Some n else None)) (same n (omega arith))

later : (n k : ℕ) (test : ℕ → Bool) → Some k ≡ lowest n test → Some k ≡ lowest (suc n) test
unfolding lowest
later n k test e = ap (λ (o : Option ℕ). or_else o (if test n then Some n else None)) e

last : (n k : ℕ) (test : ℕ → Bool) → n ≡ k → test k ≡ true → ((i : ℕ) → i < k → test i ≡ false) → Some k ≡ lowest (suc n) test
last n k test e here none =
    ap Some (sym e)
    ∙ ap (λ (o : Option ℕ). or_else o (Some n)) (lowest_none n test (λ i h. none i (omega (arith, h, e))))
    ∙ lowest_yes n test (ap test e ∙ here)

pub lowest_at : (n k : ℕ) (test : ℕ → Bool) → k < n → test k ≡ true → ((i : ℕ) → i < k → test i ≡ false) → Some k ≡ lowest n test
lowest_at zero k test l here none = absurd (omega (arith, l))
lowest_at (suc n) k test l here none = elim (cases_lt k n) [
  | inl h ↦ later n k test (lowest_at n k test h here none)
  | inr h ↦ last n k test (omega (arith, l, h)) here none
]

some_is : (a b : ℕ) → Some a ≡ Some b → a ≡ b
some_is a b e = cc

or_below : (n : ℕ) (o : Option ℕ) (b : Bool) (k : ℕ) → ((j : ℕ) → Some j ≡ o → j < n) → Some k ≡ or_else o (if b then Some n else None) → k < suc n
or_below n (Some m) b k below e = let l = below k e in omega (arith, l)
or_below n None true k below e = let s = some_is k n e in omega (arith, s)
or_below n None false k below e = absurd cc

pub lowest_below : (n : ℕ) (test : ℕ → Bool) (k : ℕ) → Some k ≡ lowest n test → k < n
unfolding lowest
lowest_below zero test k e = absurd cc
lowest_below (suc n) test k e = or_below n (lowest n test) (test n) k (lowest_below n test) e
