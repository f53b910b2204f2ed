-- The greatest number that ends half a ring.
use Rattle.std.proofs.Common.{◌≡◌, ◌≤◌, ◌<◌, ◌+◌, ◌-◌, ◌%◌, ℕ, zero, suc, Bool, true, List, length, get_or, refl, sym, ap, ◌∙◌, ◌⊎◌, inl, inr, arith}
use Rattle.std.proofs.Math.Nat.{mod-lt}
use Rattle.std.proofs.lemmas.Bool.{cases_eq}
use Rattle.jfs_logpages.specs.Marks.{StandsIn, IsRunIn}

-- one more page
run-more : (marks : List ℕ) (half q : ℕ) → StandsIn marks (suc q) → IsRunIn marks half q → IsRunIn marks half (suc q)
run-more marks half q stands run = record { long = omega (arith, run.long); each = λ k h g. by k h g (cases_eq k (suc q)) }
  where
    by : (k : ℕ) → k ≤ suc q → suc q < k + half → (k ≡ suc q) ⊎ (k ≡ suc q → ⊥) → StandsIn marks k
    by k h g (inl same) = rw same stands
    by k h g (inr other) = run.each k (omega arith) (omega arith)

-- a run goes up to a page whose next one doesn't stand
pub record EndOf (marks : List ℕ) (half q : ℕ) : Type 0 where
  pub last : ℕ
  pub above : q ≤ last
  pub run : IsRunIn marks half last
  pub next : StandsIn marks (suc last) → ⊥

pub end-of : (marks : List ℕ) (half bound n q : ℕ) → ((p : ℕ) → get_or marks p 0 < bound) → bound ≤ q + n → IsRunIn marks half q → EndOf marks half q
end-of marks half bound zero q small h run = record { last = q; above = omega arith; run = run; next = λ e. omega (arith, e, small (suc q % length marks)) }
end-of marks half bound (suc n) q small h run = by (cases_eq (get_or marks (suc q % length marks) 0) (suc (suc q))) (λ on. end-of marks half bound n (suc q) small (omega arith) on)
  where
    by : (StandsIn marks (suc q)) ⊎ (StandsIn marks (suc q) → ⊥) → (IsRunIn marks half (suc q) → EndOf marks half (suc q)) → EndOf marks half q
    by (inl stands) on = let further = on (run-more marks half q stands run) in record { last = further.last; above = omega (arith, further.above); run = further.run; next = further.next }
    by (inr lost) on = record { last = q; above = omega arith; run = run; next = lost }

pub place-in : (marks : List ℕ) (q : ℕ) → 0 < length marks → q % length marks < length marks
place-in marks q some = mod-lt q {m = length marks} some

-- each run that ends at one of the first places is known
abbrev pub AreSeen : List ℕ → ℕ → ℕ → Bool → ℕ → Type 0
AreSeen marks half p found best = (q : ℕ) → q % length marks < p → IsRunIn marks half q → (StandsIn marks (suc q) → ⊥) → (found ≡ true) × (q ≤ best)

mark-of : (marks : List ℕ) (half p q : ℕ) → 0 < half → q % length marks ≡ p → IsRunIn marks half q → get_or marks p 0 ≡ suc q
mark-of marks half p q some same run = ap (λ (n : ℕ). get_or marks n 0) (sym same) ∙ run.each q (omega arith) (omega arith)

pub seen-better : (marks : List ℕ) (half p best : ℕ) (found : Bool) → 0 < half → (found ≡ true → best ≤ get_or marks p 0 - 1) → AreSeen marks half p found best → AreSeen marks half (p + 1) true (get_or marks p 0 - 1)
seen-better marks half p best found some better seen q h run next = (refl, by (cases_eq (q % length marks) p))
  where
    by : (q % length marks ≡ p) ⊎ (q % length marks ≡ p → ⊥) → q ≤ get_or marks p 0 - 1
    by (inl same) = omega (arith, mark-of marks half p q some same run)
    by (inr other) = let was = seen q (omega arith) run next in omega (arith, was.1, better was.0)

pub seen-same : (marks : List ℕ) (half p best : ℕ) (found : Bool) → 0 < half → ((q : ℕ) → get_or marks p 0 ≡ suc q → IsRunIn marks half q → (StandsIn marks (suc q) → ⊥) → (found ≡ true) × (q ≤ best))
    → AreSeen marks half p found best → AreSeen marks half (p + 1) found best
seen-same marks half p best found some none seen q h run next = by (cases_eq (q % length marks) p)
  where
    by : (q % length marks ≡ p) ⊎ (q % length marks ≡ p → ⊥) → (found ≡ true) × (q ≤ best)
    by (inl same) = none q (mark-of marks half p q some same run) run next
    by (inr other) = seen q (omega arith) run next
