-- Entries up to a number of transactions in the log.
use Rattle.std.proofs.Common.{◌≡◌, ◌⊎◌, inl, inr, ◌≤◌, ℕ, zero, suc, Bool, true, false, List, [], ◌∷◌, length, take, if◌then◌else◌, refl, sym, ap, ◌∙◌, arith}
use Rattle.std.proofs.lemmas.Bool.{cases_Bool}
use Rattle.std.proofs.Math.Seq.{take-nil}
use Rattle.jfs_ranges.specs.declared.edit.Edit.{Edit}
use Rattle.jfs_halves.specs.Entry.{Happened, edits}
use Rattle.jfs_log_window.specs.Window.{committed_in}

-- The longest front with k transactions, or with all where there are fewer.
pub record IsCut (hs : List Happened) (k n : ℕ) : Type 0 where
  pub within : n ≤ length hs
  pub are : committed_in (take n hs) ≡ take k (committed_in hs)
  pub longest : (m : ℕ) → m ≤ length hs → length (committed_in (take m hs)) ≤ k → m ≤ n

with_it : (h : Happened) (hs : List Happened) → h.logs ≡ true → committed_in (h ∷ hs) ≡ edits h ∷ committed_in hs
with_it h hs e = ap (λ (b : Bool). if b then edits h ∷ committed_in hs else committed_in hs) e

without : (h : Happened) (hs : List Happened) → h.logs ≡ false → committed_in (h ∷ hs) ≡ committed_in hs
without h hs e = ap (λ (b : Bool). if b then edits h ∷ committed_in hs else committed_in hs) e

passed : (h : Happened) (hs : List Happened) (k n : ℕ) → h.logs ≡ false → IsCut hs k n → IsCut (h ∷ hs) k (suc n)
passed h hs k n e c = record {
  within = omega (arith, c.within);
  are = without h (take n hs) e ∙ c.are ∙ ap (take k) (sym (without h hs e));
  longest = most;
}
  where
    most : (m : ℕ) → m ≤ length (h ∷ hs) → length (committed_in (take m (h ∷ hs))) ≤ k → m ≤ suc n
    most zero low few = omega arith
    most (suc m) low few = let l = c.longest m (omega (arith, low)) (omega (arith, few, ap length (without h (take m hs) e))) in omega (arith, l)

ended : (h : Happened) (hs : List Happened) → h.logs ≡ true → IsCut (h ∷ hs) 0 0
ended h hs e = record {
  within = omega arith;
  are = refl;
  longest = most;
}
  where
    most : (m : ℕ) → m ≤ length (h ∷ hs) → length (committed_in (take m (h ∷ hs))) ≤ 0 → m ≤ 0
    most zero low few = omega arith
    most (suc m) low few = absurd (omega (arith, few, ap length (with_it h (take m hs) e)))

more : (h : Happened) (hs : List Happened) (k n : ℕ) → h.logs ≡ true → IsCut hs k n → IsCut (h ∷ hs) (suc k) (suc n)
more h hs k n e c = record {
  within = omega (arith, c.within);
  are = with_it h (take n hs) e ∙ ap (λ (l : List (List Edit)). edits h ∷ l) c.are ∙ ap (take (suc k)) (sym (with_it h hs e));
  longest = most;
}
  where
    most : (m : ℕ) → m ≤ length (h ∷ hs) → length (committed_in (take m (h ∷ hs))) ≤ suc k → m ≤ suc n
    most zero low few = omega arith
    most (suc m) low few = let l = c.longest m (omega (arith, low)) (omega (arith, few, ap length (with_it h (take m hs) e))) in omega (arith, l)

pub cut : (hs : List Happened) (k : ℕ) → (n : ℕ) × IsCut hs k n
cut [] k = (0, record { within = omega arith; are = sym (take-nil k); longest = λ m low few. low })
cut (h ∷ hs) k = by k (cases_Bool h.logs) (λ j. cut hs j)
  where
    by : (k : ℕ) → (h.logs ≡ true) ⊎ (h.logs ≡ false) → ((j : ℕ) → (n : ℕ) × IsCut hs j n) → (n : ℕ) × IsCut (h ∷ hs) k n
    by zero (inl e) behind = (0, ended h hs e)
    by (suc k) (inl e) behind = (suc (behind k).0, more h hs k (behind k).0 e (behind k).1)
    by k (inr e) behind = (suc (behind k).0, passed h hs k (behind k).0 e (behind k).1)
