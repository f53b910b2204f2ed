-- Wholly free runs of leaves, and the ranks that they show.
use Rattle.std.proofs.Common.{◌≡◌, ◌≢◌, ◌<◌, ◌≤◌, ◌+◌, ◌-◌, ◌*◌, ◌/◌, ◌%◌, ◌^◌, ℕ, zero, suc, true, false, ◌⊎◌, inl, inr, refl, sym, ap, ◌∙◌, arith}
use Rattle.std.specs.Prelude.{◌==◌, if◌then◌else◌}
use Rattle.std.proofs.lemmas.Bool.{cases_eq, cases_Bool, eq-eqb, ne_eqb, eqb-true, cond-true, cond-false, false_from_ne_true, true≢false}
use Rattle.std.proofs.lemmas.Nat.{pow_pos, shr-shr, shr_split, div-mul-add, mod_below}
use Rattle.jfs_bits.proofs.Runs.{all_below-at, all_below-from}
use Rattle.jfs_buddy.specs.Buddy.{start_of, is_whole, joined, Level}

-- what a run of rank `rank` shows at `v`
abbrev pub shown : ℕ → ℕ → ℕ → ℕ
shown k v rank = if start_of k v == v then rank else 0

pub shown-first : (k v rank : ℕ) → start_of k v ≡ v → shown k v rank ≡ rank
shown-first k v rank e = cond-true (start_of k v == v) rank 0 (eq-eqb (start_of k v) v e)

pub shown-other : (k v rank : ℕ) → start_of k v ≢ v → shown k v rank ≡ 0
shown-other k v rank n = cond-false (start_of k v == v) rank 0 (ne_eqb (start_of k v) v n)

-- one run of a size lies within one of each greater size
pub same-coarser : (j k u v : ℕ) → j ≤ k → u / 2 ^ j ≡ v / 2 ^ j → u / 2 ^ k ≡ v / 2 ^ k
same-coarser j k u v h e =
    let m : j + (k - j) ≡ k = omega arith in
    rw (← m) (sym (shr-shr u j (k - j)) ∙ ap (λ (z : ℕ). z / 2 ^ (k - j)) e ∙ shr-shr v j (k - j))

pub start_of-same : (k v i : ℕ) → i < 2 ^ k → (start_of k v + i) / 2 ^ k ≡ v / 2 ^ k
start_of-same k v i h = div-mul-add (v / 2 ^ k) (2 ^ k) i h

pub start_of-start : (k v : ℕ) → (start_of k v / 2 ^ k ≡ v / 2 ^ k) × (start_of k (start_of k v) ≡ start_of k v)
start_of-start k v =
    let none : start_of k v + 0 ≡ start_of k v = omega arith in
    let e = rw none at (start_of-same k v 0 (pow_pos k)) in
    (e, ap (λ (z : ℕ). z * 2 ^ k) e)

-- each leaf of a whole run
pub is_whole-at : (own : ℕ → ℕ) (whole k v : ℕ) → is_whole own whole k v ≡ true → (u : ℕ) → u / 2 ^ k ≡ v / 2 ^ k → own u ≡ whole
unfolding is_whole
is_whole-at own whole k v h u e =
    let at_ : start_of k v + u % 2 ^ k ≡ u = ap (λ (z : ℕ). z * 2 ^ k + u % 2 ^ k) (sym e) ∙ shr_split u k in
    rw at_ at (eqb-true (own (start_of k v + u % 2 ^ k)) whole (all_below-at (2 ^ k) (λ i. own (start_of k v + i) == whole) h (u % 2 ^ k) (mod_below u (2 ^ k) (pow_pos k))))

pub is_whole-from : (own : ℕ → ℕ) (whole k v : ℕ) → ((u : ℕ) → u / 2 ^ k ≡ v / 2 ^ k → own u ≡ whole) → is_whole own whole k v ≡ true
unfolding is_whole
is_whole-from own whole k v h =
    all_below-from (2 ^ k) (λ i. own (start_of k v + i) == whole) (λ i b. eq-eqb (own (start_of k v + i)) whole (h (start_of k v + i) (start_of-same k v i b)))

-- a run that has a leaf that isn't wholly free
pub not_whole : (own : ℕ → ℕ) (whole k v u : ℕ) → u / 2 ^ k ≡ v / 2 ^ k → own u ≢ whole → is_whole own whole k v ≡ false
not_whole own whole k v u e n = false_from_ne_true (is_whole own whole k v) (λ h. n (is_whole-at own whole k v h u e))

-- a run that isn't whole makes no greater one whole
pub not_whole-coarser : (own : ℕ → ℕ) (whole j k v : ℕ) → j ≤ k → is_whole own whole j v ≡ false → is_whole own whole k v ≡ false
not_whole-coarser own whole j k v h f =
    false_from_ne_true (is_whole own whole k v) (λ t. true≢false (sym (is_whole-from own whole j v (λ u e. is_whole-at own whole k v t u (same-coarser j k u v h e))) ∙ f))

-- each run within a whole one is whole
pub is_whole-finer : (own : ℕ → ℕ) (whole j k v : ℕ) → j ≤ k → is_whole own whole k v ≡ true → is_whole own whole j v ≡ true
is_whole-finer own whole j k v h t = is_whole-from own whole j v (λ u e. is_whole-at own whole k v t u (same-coarser j k u v h e))

pub is_whole-same : (own : ℕ → ℕ) (whole k u v : ℕ) → u / 2 ^ k ≡ v / 2 ^ k → is_whole own whole k u ≡ is_whole own whole k v
unfolding is_whole
is_whole-same own whole k u v e = rw e refl

-- the greatest whole run that has a leaf shows its rank there
pub joined-level : (own : ℕ → ℕ) (whole k top v : ℕ) → k ≤ top → is_whole own whole k v ≡ true → (k < top → is_whole own whole (suc k) v ≡ false) → joined own whole top v ≡ shown k v (whole + k)
unfolding joined
joined-level own whole k zero v h t f =
    let e : k ≡ 0 = omega arith in
    let one : v / 2 ^ 0 * 2 ^ 0 ≡ v = omega arith in
    is_whole-at own whole k v t v refl ∙ sym (rw e (shown-first 0 v (whole + 0) one ∙ (omega arith)))
joined-level own whole k (suc top) v h t f =
    elim (cases_eq k (suc top)) [
      | inl e ↦ rw e (cond-true (is_whole own whole (suc top) v) (shown (suc top) v (whole + suc top)) (joined own whole top v) (rw e at t))
      | inr n ↦ cond-false (is_whole own whole (suc top) v) (shown (suc top) v (whole + suc top)) (joined own whole top v) (not_whole-coarser own whole (suc k) (suc top) v (omega arith) (f (omega arith)))
          ∙ joined-level own whole k top v (omega arith) t (λ b. f (omega arith))
    ]

-- a leaf that isn't wholly free keeps its own
pub joined-own : (own : ℕ → ℕ) (whole top v : ℕ) → own v ≢ whole → joined own whole top v ≡ own v
unfolding joined
joined-own own whole zero v n = refl
joined-own own whole (suc top) v n =
    cond-false (is_whole own whole (suc top) v) (shown (suc top) v (whole + suc top)) (joined own whole top v) (not_whole own whole (suc top) v v refl n) ∙ joined-own own whole top v n

-- what is joined depends on the runs that have the leaf alone
pub joined-agree : (own other : ℕ → ℕ) (whole top v : ℕ) → ((k : ℕ) → k ≤ top → is_whole own whole k v ≡ is_whole other whole k v) → own v ≡ other v → joined own whole top v ≡ joined other whole top v
unfolding joined
joined-agree own other whole zero v runs e = e
joined-agree own other whole (suc top) v runs e =
    rw (runs (suc top) (omega arith), joined-agree own other whole top v (λ k h. runs k (omega arith)) e) refl

-- the size of the greatest whole run that has a leaf
pub level-there : (own : ℕ → ℕ) (whole top v : ℕ) → own v ≡ whole → (k : ℕ) × Level own whole top v k
level-there own whole zero v e =
    (0, record { most = omega arith; run = is_whole-from own whole 0 v (λ u h. (let same : u ≡ v = omega arith in rw same e)); greatest = λ b. absurd (omega arith) })
level-there own whole (suc top) v e =
    elim (cases_Bool (is_whole own whole (suc top) v)) [
      | inl t ↦ (suc top, record { most = omega arith; run = t; greatest = λ b. absurd (omega arith) })
      | inr f ↦
          let below = level-there own whole top v e in
          (below.0, record { most = (let h = below.1.most in omega arith); run = below.1.run; greatest = λ b. up below.0 below.1 f (cases_eq below.0 top) })
    ]
  where
    up : (k : ℕ) → Level own whole top v k → is_whole own whole (suc top) v ≡ false → (k ≡ top) ⊎ (k ≡ top → ⊥) → is_whole own whole (suc k) v ≡ false
    up k l f (inl e) = rw e f
    up k l f (inr n) = let h = l.most in l.greatest (omega arith)

-- a leaf that shows a whole rank begins the run of that size
pub level-shown : (own : ℕ → ℕ) (whole top k v : ℕ) → 0 < whole → ((u : ℕ) → own u ≤ whole) → joined own whole top v ≡ whole + k → (start_of k v ≡ v) × Level own whole top v k
level-shown own whole top k v some bounded e =
    elim (cases_eq (own v) whole) [
      | inr n ↦ absurd (omega (arith, joined-own own whole top v n, e, bounded v, n))
      | inl full ↦
          let l = level-there own whole top v full in
          let value = joined-level own whole l.0 top v l.1.most l.1.run l.1.greatest in
          elim (cases_eq (start_of l.0 v) v) [
            | inr n ↦ absurd (omega (arith, value, shown-other l.0 v (whole + l.0) n))
            | inl first ↦
                let same : l.0 ≡ k = omega (arith, value, shown-first l.0 v (whole + l.0) first) in
                (rw same at first, rw same at l.1)
          ]
    ]
