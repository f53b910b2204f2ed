-- The lowest free run of a word, and its maximal buddy.
use Rattle.std.proofs.Common.{◌≡◌, ◌≢◌, ◌<◌, ◌≤◌, ◌+◌, ◌-◌, ◌*◌, ◌/◌, ◌%◌, ◌^◌, ℕ, zero, suc, Bool, true, false, inl, inr, refl, sym, ap, ◌∙◌, arith}
use Rattle.std.specs.Prelude.{pos, negsuc, Option, Some, None, is_some}
use Rattle.std.proofs.lemmas.Bool.{cases_eq, or_cases, or_left, or_right, or_from, cond-true, cond-false, false_from_ne_true, true≢false}
use Rattle.std.proofs.lemmas.Nat.{mul-le}
use Rattle.jfs_bits.specs.Bits.{any_below, is_taken_in, is_free_run, IsLowestFree, has_free_run, greatest_run}
use Rattle.jfs_bits.proofs.Runs.{is_free-number, number-is_free}

pub any_below-from : (n : ℕ) (test : ℕ → Bool) (i : ℕ) → i < n → test i ≡ true → any_below n test ≡ true
unfolding any_below
any_below-from zero test i k h = absurd (omega arith)
any_below-from (suc n) test i k h =
    elim (cases_eq i n) [ inl e ↦ or_right (any_below n test) (test n) (rw e at h) | inr e ↦ or_left (any_below n test) (test n) (any_below-from n test i (omega arith) h) ]

pub any_below-none : (n : ℕ) (test : ℕ → Bool) → ((i : ℕ) → i < n → test i ≡ false) → any_below n test ≡ false
unfolding any_below
any_below-none zero test h = refl
any_below-none (suc n) test h = or_from (any_below n test) (test n) (any_below-none n test (λ i k. h i (omega arith))) (h n (omega arith))

pub any_below-at : (n : ℕ) (test : ℕ → Bool) → any_below n test ≡ true → (i : ℕ) × (i < n) × (test i ≡ true)
unfolding any_below
any_below-at zero test h = absurd (true≢false (sym h))
any_below-at (suc n) test h =
    elim (or_cases (any_below n test) (test n) h) [ inl a ↦ (let r = any_below-at n test a in let within = r.1 in (r.0, omega arith, r.2)) | inr b ↦ (n, omega arith, b) ]

-- tests that agree below a number
pub any_below-same : (n : ℕ) (f g : ℕ → Bool) → ((i : ℕ) → i < n → f i ≡ g i) → any_below n f ≡ any_below n g
unfolding any_below
any_below-same zero f g h = refl
any_below-same (suc n) f g h = rw (any_below-same n f g (λ i b. h i (omega arith)), h n (omega arith)) refl

-- the numbers that the code makes of a run's length
pub sizes_of : (l2 : ℕ) → l2 ≤ 5 → (1 * 2 ^ l2 % 2 ^ 32 ≡ 2 ^ l2) × (1 * 2 ^ (2 ^ l2) % 2 ^ 64 ≡ 2 ^ (2 ^ l2)) × (32 / 2 ^ l2 ≡ 2 ^ (5 - l2)) × (2 ^ (5 - l2) * 2 ^ l2 ≡ 32)
sizes_of zero h = (refl, refl, refl, refl)
sizes_of (suc zero) h = (refl, refl, refl, refl)
sizes_of (suc (suc zero)) h = (refl, refl, refl, refl)
sizes_of (suc (suc (suc zero))) h = (refl, refl, refl, refl)
sizes_of (suc (suc (suc (suc zero)))) h = (refl, refl, refl, refl)
sizes_of (suc (suc (suc (suc (suc zero))))) h = (refl, refl, refl, refl)
sizes_of (suc (suc (suc (suc (suc (suc n)))))) h = absurd (omega arith)

-- a run's end within the word
end_of : (l2 j : ℕ) → l2 ≤ 5 → j < 2 ^ (5 - l2) → (j * 2 ^ l2 + 2 ^ l2 ≤ 32) × ((j + 1) * 2 ^ l2 ≡ j * 2 ^ l2 + 2 ^ l2)
end_of l2 j h k =
    let next : (j + 1) * 2 ^ l2 ≡ j * 2 ^ l2 + 2 ^ l2 = omega arith in
    let most : (j + 1) * 2 ^ l2 ≤ 2 ^ (5 - l2) * 2 ^ l2 = mul-le (j + 1) (2 ^ l2) (2 ^ (5 - l2)) (2 ^ l2) (omega arith) (omega arith) in
    (omega (arith, (sizes_of l2 h).3), next)

-- the test of a run, by a number
pub run-free : (word l2 j : ℕ) → l2 ≤ 5 → j < 2 ^ (5 - l2) → word / 2 ^ (32 - (j + 1) * 2 ^ l2) % 2 ^ (2 ^ l2) ≡ 0 → is_free_run (is_taken_in word) l2 j ≡ true
run-free word l2 j h k zeros =
    let e = end_of l2 j h k in
    is_free-number word (j * 2 ^ l2) (2 ^ l2) e.0 (rw e.1 at zeros)

pub run-taken : (word l2 j : ℕ) → l2 ≤ 5 → j < 2 ^ (5 - l2) → word / 2 ^ (32 - (j + 1) * 2 ^ l2) % 2 ^ (2 ^ l2) ≢ 0 → is_free_run (is_taken_in word) l2 j ≡ false
run-taken word l2 j h k other =
    let e = end_of l2 j h k in
    false_from_ne_true (is_free_run (is_taken_in word) l2 j) (λ free. other (rw e.1 (number-is_free word (j * 2 ^ l2) (2 ^ l2) e.0 free)))

-- a word has a free run where its lowest one was found
pub lowest-has : (word l2 : ℕ) (o : Option ℕ) → IsLowestFree (is_taken_in word) (2 ^ (5 - l2)) l2 o → has_free_run (is_taken_in word) 5 l2 ≡ is_some o
unfolding has_free_run
lowest-has word l2 None h = any_below-none (2 ^ (5 - l2)) (is_free_run (is_taken_in word) l2) h
lowest-has word l2 (Some first) h = any_below-from (2 ^ (5 - l2)) (is_free_run (is_taken_in word) l2) h.0 h.1 h.3

-- the greatest run, from the ones that there are
pub greatest_run-at : (taken : ℕ → Bool) (span top k : ℕ) → k ≤ top → has_free_run taken span k ≡ true → ((l : ℕ) → k < l → l ≤ top → has_free_run taken span l ≡ false) → greatest_run taken span top ≡ pos k
unfolding greatest_run
greatest_run-at taken span zero k h here above =
    let e : k ≡ 0 = omega arith in
    cond-true (has_free_run taken span 0) (pos 0) (negsuc 0) (rw e at here) ∙ ap pos (sym e)
greatest_run-at taken span (suc top) k h here above =
    elim (cases_eq k (suc top)) [
      | inl e ↦ cond-true (has_free_run taken span (suc top)) (pos (suc top)) (greatest_run taken span top) (rw e at here) ∙ ap pos (sym e)
      | inr n ↦ cond-false (has_free_run taken span (suc top)) (pos (suc top)) (greatest_run taken span top) (above (suc top) (omega arith) (omega arith))
          ∙ greatest_run-at taken span top k (omega arith) here (λ l a b. above l a (omega arith))
    ]

pub greatest_run-none : (taken : ℕ → Bool) (span top : ℕ) → ((l : ℕ) → l ≤ top → has_free_run taken span l ≡ false) → greatest_run taken span top ≡ negsuc 0
unfolding greatest_run
greatest_run-none taken span zero h = cond-false (has_free_run taken span 0) (pos 0) (negsuc 0) (h 0 (omega arith))
greatest_run-none taken span (suc top) h =
    cond-false (has_free_run taken span (suc top)) (pos (suc top)) (greatest_run taken span top) (h (suc top) (omega arith)) ∙ greatest_run-none taken span top (λ l k. h l (omega arith))
