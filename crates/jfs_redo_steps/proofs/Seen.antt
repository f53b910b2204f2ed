-- All inodes, one after the other.
use Rattle.std.proofs.Common.{◌≡◌, ◌⊎◌, ◌<◌, ◌≤◌, ◌+◌, ◌*◌, ◌%◌, ◌&&◌, ◌||◌, nat_le, nat_lt, ℕ, suc, Bool, true, false, List, length, replicate, is_some, Option, Some, None, refl, sym, ap, ◌∙◌, inl, inr, arith}
use Rattle.std.proofs.lemmas.Bool.{cases_lt, lt-ltb, le-ltb, le-leb, lt-leb}
use Rattle.std.proofs.lemmas.List.{length-replicate}
use Rattle.jfs_bits.specs.Bits.{is_taken, is_in_run}
use Rattle.jfs_iag.proofs.Maps.{zeros-clear}
use Rattle.jfs_each.specs.Each.{Found, Step, Visits, found_at}
use Rattle.jfs_each.proofs.Visiting.{visits_keep}
use Rattle.jfs_redo_steps.specs.Inodes.{AreInodesInUse, SetsBit}

abbrev Marked : (ℕ → Option Found) → ℕ → ℕ → Bool
Marked f n b = nat_lt b n && is_some (f b)

before_it : (p q r s v : Bool) → p ≡ false → r ≡ true → s ≡ true → (p && q || r && v) ≡ (s && v)
before_it p q r s v a b c = rw (a, b, c) refl

behind_it : (p q r s v : Bool) → q ≡ false → r ≡ false → s ≡ false → (p && q || r && v) ≡ (s && v)
behind_it true q r s v a b c = rw (a, b, c) refl
behind_it false q r s v a b c = rw (b, c) refl

at_it : (p q r s v : Bool) → p ≡ true → q ≡ true → s ≡ true → v ≡ true → (p && q || r && v) ≡ (s && v)
at_it p q r s v a b c d = rw (a, b, c, d) refl

seen_too : (f : ℕ → Option Found) (n b : ℕ) → is_some (f n) ≡ true → (is_in_run n 1 b || Marked f n b) ≡ Marked f (suc n) b
seen_too f n b there = at (cases_lt b n) (cases_lt n b)
  where
    at : (b < n) ⊎ (n ≤ b) → (n < b) ⊎ (b ≤ n) → (is_in_run n 1 b || Marked f n b) ≡ Marked f (suc n) b
    at (inl l) x = before_it (nat_le n b) (nat_lt b (n + 1)) (nat_lt b n) (nat_lt b (suc n)) (is_some (f b)) (lt-leb n b l) (lt-ltb b n l) (lt-ltb b (suc n) (omega (arith, l)))
    at (inr l) (inl m) = behind_it (nat_le n b) (nat_lt b (n + 1)) (nat_lt b n) (nat_lt b (suc n)) (is_some (f b)) (le-ltb b (n + 1) (omega (arith, m))) (le-ltb b n l) (le-ltb b (suc n) (omega (arith, m)))
    at (inr l) (inr m) =
        let e : n ≡ b = omega (arith, l, m) in
        at_it (nat_le n b) (nat_lt b (n + 1)) (nat_lt b n) (nat_lt b (suc n)) (is_some (f b)) (le-leb n b l) (lt-ltb b (n + 1) (omega (arith, m))) (lt-ltb b (suc n) (omega (arith, m))) (ap (λ (k : ℕ). is_some (f k)) (sym e) ∙ there)

same_side : (r s v : Bool) → r ≡ s → (r && v) ≡ (s && v)
same_side r s v a = ap (λ (t : Bool). t && v) a

none_there : (r s v : Bool) → v ≡ false → (r && v) ≡ (s && v)
none_there true true v a = refl
none_there false false v a = refl
none_there true false v a = a
none_there false true v a = sym a

seen_not : (f : ℕ → Option Found) (n b : ℕ) → is_some (f n) ≡ false → Marked f n b ≡ Marked f (suc n) b
seen_not f n b gone = at (cases_lt b n) (cases_lt n b)
  where
    at : (b < n) ⊎ (n ≤ b) → (n < b) ⊎ (b ≤ n) → Marked f n b ≡ Marked f (suc n) b
    at (inl l) x = same_side (nat_lt b n) (nat_lt b (suc n)) (is_some (f b)) (lt-ltb b n l ∙ sym (lt-ltb b (suc n) (omega (arith, l))))
    at (inr l) (inl m) = same_side (nat_lt b n) (nat_lt b (suc n)) (is_some (f b)) (le-ltb b n l ∙ sym (le-ltb b (suc n) (omega (arith, m))))
    at (inr l) (inr m) =
        let e : n ≡ b = omega (arith, l, m) in
        none_there (nat_lt b n) (nat_lt b (suc n)) (is_some (f b)) (ap (λ (k : ℕ). is_some (f k)) (sym e) ∙ gone)

-- what is set once the first n were seen
abbrev AreSeen : (ℕ → Option Found) → ℕ → ℕ → List ℕ → Type 0
AreSeen f places n set = (length set ≡ 4 * places) × ((b : ℕ) → b < 32 * places → is_taken set b ≡ Marked f n b)

abbrev SetsIn : {W : Type 0} → (W → List ℕ) → W → ℕ → Found → W → Type 0
SetsIn g old n f new = SetsBit n (g old) (g new)

seen_step : {W : Type 0} (g : W → List ℕ) (f : ℕ → Option Found) (places n : ℕ) (old new : W) → (o : Option Found) → f n ≡ o → AreSeen f places n (g old) → Step (SetsIn g) n o old new → AreSeen f places (suc n) (g new)
seen_step g f places n old new None e before now = (ap (λ w. length (g w)) now ∙ before.0, λ b l. ap (λ w. is_taken (g w) b) now ∙ before.1 b l ∙ seen_not f n b (ap is_some e))
seen_step g f places n old new (Some found) e before now = (
  now.size ∙ before.0,
  λ b l.
      let words : length (g old) % 4 ≡ 0 = omega (arith, before.0) in
      now.bits words b (omega (arith, before.0, l)) ∙ ap (λ (t : Bool). is_in_run n 1 b || t) (before.1 b l) ∙ seen_too f n b (ap is_some e),
)

pub all_seen : {W : Type 0} (g : W → List ℕ) (page : ℕ → List ℕ) (places : List (Option ℕ)) (old new : W) → g old ≡ replicate (4 * length places) 0 → Visits (SetsIn g) (found_at page places) 0 (32 * length places) old new →
    AreInodesInUse page places (g new)
all_seen {W} g page places old new zeros visits =
    let f = found_at page places in
    let most = length places in
    let start : AreSeen f most 0 (g old) = (ap (λ (s : List ℕ). length s) zeros ∙ length-replicate {A = ℕ} (4 * most) 0, λ b l. ap (λ (s : List ℕ). is_taken s b) zeros ∙ zeros-clear (4 * most) b ∙ sym (ap (λ (t : Bool). t && is_some (f b)) (le-ltb b 0 (omega arith)))) in
    let all = visits_keep (SetsIn g) f (λ n w. AreSeen f most n (g w)) old start (32 * most) (λ n w u l before step. seen_step g f most n w u (f n) refl before step) new visits in
    record { size = all.0; bits = λ n l. all.1 n l ∙ ap (λ (t : Bool). t && is_some (f n)) (lt-ltb n (32 * most) l) }
