-- The numbers of entries that are told durable.
use Rattle.std.proofs.Common.{◌≡◌, ◌<◌, ◌≤◌, ◌+◌, ◌⊎◌, ℕ, zero, suc, Bool, true, false, if◌then◌else◌, List, [], ◌∷◌, take, refl, ap, ◌∙◌, inl, inr, arith, add-one}
use Rattle.std.specs.Prelude.{◌&&◌, nat_le}
use Rattle.std.specs.List.{AllByRecursion}
use Rattle.std.proofs.lemmas.Bool.{le-leb, lt-leb, leb-true, cases_lt}
use Rattle.jfs_script.specs.History.{IsRisingFrom}
use Rattle.jfs_run.specs.Calls.{waiting_from}
use Rattle.jfs_run.specs.Telling.{told_from}

-- ---- they rise

weaker : (least more : ℕ) (ns : List ℕ) → least ≤ more → IsRisingFrom more ns → IsRisingFrom least ns
weaker least more [] le rises = tt
weaker least more (m ∷ ms) le rises = let first = rises.0 in (omega (arith, first, le), rises.1)

rises_with : (n : ℕ) (ns : List ℕ) (w : Bool) → IsRisingFrom (n + 1) ns → IsRisingFrom n (if w then n ∷ ns else ns)
rises_with n ns true rest = (omega arith, rest)
rises_with n ns false rest = weaker n (n + 1) ns (omega arith) rest

waiting_rises : (n : ℕ) (ws : List Bool) → IsRisingFrom n (waiting_from n ws)
waiting_rises n [] = tt
waiting_rises n (w ∷ ws) = rises_with n (waiting_from (suc n) ws) w (rw add-one (waiting_rises (suc n) ws))

front_rises : (least k : ℕ) (ns : List ℕ) → IsRisingFrom least ns → IsRisingFrom least (take k ns)
front_rises least zero [] rises = tt
front_rises least (suc k) [] rises = tt
front_rises least zero (n ∷ ns) rises = tt
front_rises least (suc k) (n ∷ ns) rises = (rises.0, front_rises (n + 1) k ns rises.1)

-- what was told rises, from 1 on
pub told_rise : (k : ℕ) (ws : List Bool) → IsRisingFrom 1 (take k (waiting_from 1 ws))
told_rise k ws = front_rises 1 k (waiting_from 1 ws) (waiting_rises 1 ws)

-- ---- those among the first so many

-- each marked one is durable
abbrev pub AreReached : ℕ → ℕ → List Bool → Type 0
AreReached n durable [] = Unit {0}
AreReached n durable (m ∷ ms) = (m ≡ true → n ≤ durable) × AreReached (suc n) durable ms

abbrev step : ℕ → Bool → Bool → List ℕ → List ℕ
step n m in_time rest = if m && in_time then n ∷ rest else rest

step_past : (n : ℕ) (m in_time : Bool) (rest : List ℕ) → in_time ≡ false → step n m in_time rest ≡ rest
step_past n true in_time rest late = rw late refl
step_past n false in_time rest late = refl

step_in : (n : ℕ) (m in_time : Bool) (rest : List ℕ) → in_time ≡ true → step n m in_time rest ≡ (if m then n ∷ rest else rest)
step_in n true in_time rest early = rw early refl
step_in n false in_time rest early = refl

told_none : (n durable : ℕ) (ms : List Bool) → durable < n → told_from n durable ms ≡ []
told_none n durable [] past = refl
told_none n durable (m ∷ ms) past =
    step_past n m (nat_le n durable) (told_from (suc n) durable ms) (lt-leb n durable past) ∙ told_none (suc n) durable ms (omega (arith, past))

-- they are the first ones of all that are marked
front_by : (n : ℕ) (m : Bool) (k : ℕ) (told all : List ℕ) → told ≡ take k all → (j : ℕ) × ((if m then n ∷ told else told) ≡ take j (if m then n ∷ all else all))
front_by n true k told all is = (suc k, ap (λ (ns : List ℕ). n ∷ ns) is)
front_by n false k told all is = (k, is)

pub told_front : (n durable : ℕ) (ms : List Bool) → (k : ℕ) × (told_from n durable ms ≡ take k (waiting_from n ms))
told_front n durable [] = (0, refl)
told_front n durable (m ∷ ms) = by (told_front (suc n) durable ms) (cases_lt durable n)
  where
    by : (k : ℕ) × (told_from (suc n) durable ms ≡ take k (waiting_from (suc n) ms)) → (durable < n) ⊎ (n ≤ durable) → (k : ℕ) × (told_from n durable (m ∷ ms) ≡ take k (waiting_from n (m ∷ ms)))
    by rest (inl past) = (0, told_none n durable (m ∷ ms) past)
    by rest (inr within) =
        let f = front_by n m rest.0 (told_from (suc n) durable ms) (waiting_from (suc n) ms) rest.1 in
        (f.0, step_in n m (nat_le n durable) (told_from (suc n) durable ms) (le-leb n durable within) ∙ f.1)

-- and all of these, where each is durable
all_by : (n durable : ℕ) (m : Bool) (told all : List ℕ) → (m ≡ true → n ≤ durable) → told ≡ all → step n m (nat_le n durable) told ≡ (if m then n ∷ all else all)
all_by n durable true told all reached is = step_in n true (nat_le n durable) told (le-leb n durable (reached refl)) ∙ ap (λ (ns : List ℕ). n ∷ ns) is
all_by n durable false told all reached is = is

pub told_whole : (n durable : ℕ) (ms : List Bool) → AreReached n durable ms → told_from n durable ms ≡ waiting_from n ms
told_whole n durable [] reached = refl
told_whole n durable (m ∷ ms) reached = all_by n durable m (told_from (suc n) durable ms) (waiting_from (suc n) ms) reached.0 (told_whole (suc n) durable ms reached.1)

-- ---- each of them is one of the first so many

within_by : (n durable : ℕ) (m in_time : Bool) (rest : List ℕ) → (in_time ≡ true → n ≤ durable) → AllByRecursion (λ (k : ℕ). k ≤ durable) rest → AllByRecursion (λ (k : ℕ). k ≤ durable) (step n m in_time rest)
within_by n durable true true rest low all = (low refl, all)
within_by n durable true false rest low all = all
within_by n durable false in_time rest low all = all

pub told_within : (n durable : ℕ) (ms : List Bool) → AllByRecursion (λ (k : ℕ). k ≤ durable) (told_from n durable ms)
told_within n durable [] = tt
told_within n durable (m ∷ ms) = within_by n durable m (nat_le n durable) (told_from (suc n) durable ms) (λ e. leb-true n durable e) (told_within (suc n) durable ms)
