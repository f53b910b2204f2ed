-- Which runs a reservation takes, and what they make of a map.
use Rattle.std.proofs.Common.{◌≡◌, ◌<◌, ◌≤◌, ◌+◌, ◌-◌, ◌*◌, ◌/◌, ◌^◌, ℕ, suc, Bool, true, false, not, ◌||◌, inl, inr, List, [], ◌∷◌, ◌++◌, length, refl, sym, ap, subst, ◌∙◌, append_assoc, arith}
use Rattle.std.specs.Prelude.{if◌then◌else◌, max, Some, None}
use Rattle.std.proofs.lemmas.Bool.{cases_lt, cases_eq, both_ways, or_cases, or_from, or_parts, eq-eqb, ne_eqb, false_from_ne_true, true_from_ne_false}
use Rattle.std.proofs.lemmas.Nat.{pow_pos}
use Rattle.std.proofs.Math.Pow.{pow_mono}
use Rattle.std.proofs.Math.Nat.{pow-suc}
use Rattle.std.proofs.lemmas.List.{append-nil}
use Rattle.jfs_bits.specs.Bits.{is_in_run, is_free, is_free_run, count_below}
use Rattle.jfs_bits.specs.declared.descriptor.Pxd.{Pxd}
use Rattle.jfs_bits.proofs.Runs.{is_free-at, is_free-from}
use Rattle.jfs_bits.proofs.Counts.{count_below-same, count_below-nothing, count-marked}
use Rattle.jfs_bmap.specs.Set.{IsLowest, IsFreeFront}
use Rattle.jfs_bmap.specs.States.{BlockState, Free, Owned, Reserved, Busy, is_free_state, Blocks, state_of, is_used, free_count, is_in_list, total_of, AreApart, put_state}
use Rattle.jfs_bmap.specs.Choice.{IsNextRun, with_run, AreNextRuns, with_front, IsReservation}
use Rattle.jfs_bmap.proofs.States.{free_run-at, empty_run, in_list-one}
use Rattle.jfs_bmap.proofs.Puts.{in_list-append, in_list-none, state-past, free-there, put-length, put-at, put-here, put-other, put-nowhere, put-append}

-- ---- the number of blocks

-- a next run has a block, and no more than are left
pub next-some : (taken : ℕ → Bool) (left : ℕ) (run : Pxd) → IsNextRun taken left run → 0 < left → 0 < run.len
next-some taken left run next some = omega (arith, next.len, pow_pos next.l2)

pub next-most : (taken : ℕ → Bool) (left : ℕ) (run : Pxd) → IsNextRun taken left run → run.len ≤ left
next-most taken left run next = omega (arith, next.len)

next-total : (taken : ℕ → Bool) (left : ℕ) (list : List Pxd) → AreNextRuns taken left list → total_of list ≡ left
unfolding AreNextRuns total_of
next-total taken left [] h = sym h
next-total taken left (run ∷ runs) h = omega (arith, next-most taken left run h.0, next-total (with_run taken run) (left - run.len) runs h.1)

front-total : (front : Pxd) (rest : List Pxd) → total_of (with_front front rest) ≡ front.len + total_of rest
unfolding total_of
front-total front rest = elim (cases_eq front.len 0) [
  | inl e ↦ rw (eq-eqb front.len 0 e) (omega arith)
  | inr n ↦ rw (ne_eqb front.len 0 n) refl
]

-- a reservation has as many blocks as were wanted
pub reservation-total : (taken : ℕ → Bool) (hint n : ℕ) (list : List Pxd) → IsReservation taken hint n list → total_of list ≡ n
reservation-total taken hint n list r =
    rw r.runs (omega (arith, front-total r.front r.rest, next-total (with_run taken r.front) (n - r.front.len) r.rest r.next, r.free.most))

-- ---- free runs

-- a found run is free, and so is its front
pub lowest-free : (taken : ℕ → Bool) (l2 first n : ℕ) → n ≤ 2 ^ l2 → IsLowest taken l2 (Some first) → is_free taken first n ≡ true
lowest-free taken l2 first n most h = is_free-from taken first n (λ i k. rw h.1 (is_free-at taken (h.0 * 2 ^ l2) (2 ^ l2) h.2 i (omega arith)))

pub next-free : (taken : ℕ → Bool) (left : ℕ) (run : Pxd) → IsNextRun taken left run → is_free taken run.addr run.len ≡ true
next-free taken left run next = lowest-free taken next.l2 run.addr run.len (omega (arith, next.len)) next.lowest

-- where no block is free alone, none is counted
pub none-free : (taken : ℕ → Bool) (n : ℕ) → IsLowest taken 0 None → count_below n (λ b. not (taken b)) ≡ 0
none-free taken n none = count_below-nothing n (λ b. not (taken b)) (λ b h. ap not (all_taken b))
  where
    all_taken : (b : ℕ) → taken b ≡ true
    all_taken b = true_from_ne_false (taken b) (λ free. both_ways (is_free_run taken 0 b) (none b) (is_free-from taken (b * 2 ^ 0) (2 ^ 0) (λ i k. (let e : b * 2 ^ 0 + i ≡ b = omega arith in rw e free))))

-- a free run with a block is within the volume
pub free-within : (m : Blocks) (first n : ℕ) → is_free (is_used m) first n ≡ true → 0 < n → first + n ≤ length m.states
free-within m first n free some = elim (cases_lt (first + (n - 1)) (length m.states)) [
  | inl h ↦ omega arith
  | inr h ↦ absurd (both_ways (is_used m (first + (n - 1))) (is_free-at (is_used m) first n free (n - 1) (omega arith)) (ap (λ (s : BlockState). not (is_free_state s)) (state-past m (first + (n - 1)) h)))
]

-- ---- a map with a run more reserved

not_used-free : (s : BlockState) → not (is_free_state s) ≡ false → s ≡ Free
not_used-free Free h = refl
not_used-free Owned h = absurd (cc)
not_used-free Reserved h = absurd (cc)
not_used-free (Busy entry) h = absurd (cc)

free-not_used : (s : BlockState) → is_free_state s ≡ not (not (is_free_state s))
free-not_used Free = refl
free-not_used Owned = refl
free-not_used Reserved = refl
free-not_used (Busy entry) = refl

used-at : (run : Pxd) (m : Blocks) (b : ℕ) → is_used (put_state Reserved (run ∷ []) m) b ≡ with_run (is_used m) run b
used-at run m b = elim (cases_lt b (length m.states)) [
  | inl h ↦ ap (λ (s : BlockState). not (is_free_state s)) (put-at Reserved (run ∷ []) m b h ∙ ap (λ (t : Bool). if t then Reserved else state_of m b) (in_list-one run b)) ∙ either (is_in_run run.addr run.len b) (state_of m b)
  | inr h ↦ ap (λ (s : BlockState). not (is_free_state s)) (state-past (put_state Reserved (run ∷ []) m) b (omega (arith, put-length Reserved (run ∷ []) m)))
      ∙ sym (ap (λ (s : BlockState). is_in_run run.addr run.len b || not (is_free_state s)) (state-past m b h) ∙ or_true (is_in_run run.addr run.len b))
]
  where
    either : (t : Bool) (s : BlockState) → not (is_free_state (if t then Reserved else s)) ≡ (t || not (is_free_state s))
    either true s = refl
    either false s = refl

    or_true : (t : Bool) → (t || true) ≡ true
    or_true true = refl
    or_true false = refl

pub used-put : (run : Pxd) (m : Blocks) → is_used (put_state Reserved (run ∷ []) m) ≡ with_run (is_used m) run
used-put run m = λ i b. used-at run m b i

-- its blocks are no longer free
pub free-put : (run : Pxd) (m : Blocks) → is_free (is_used m) run.addr run.len ≡ true → 0 < run.len → free_count (put_state Reserved (run ∷ []) m) + run.len ≡ free_count m
free-put run m free some =
    let now = put_state Reserved (run ∷ []) m in
    let n = length m.states in
    let after : free_count now ≡ count_below n (λ b. not (with_run (is_used m) run b)) =
    ap (λ (k : ℕ). count_below k (λ b. is_free_state (state_of now b))) (put-length Reserved (run ∷ []) m)
    ∙ count_below-same n (λ b. is_free_state (state_of now b)) (λ b. not (with_run (is_used m) run b)) (λ b h. free-not_used (state_of now b) ∙ ap not (used-at run m b)) in
    let before : free_count m ≡ count_below n (λ b. not (is_used m b)) = count_below-same n (λ b. is_free_state (state_of m b)) (λ b. not (is_used m b)) (λ b h. free-not_used (state_of m b)) in
    omega (arith, after, before, count-marked run.addr run.len n (is_used m) (free-within m run.addr run.len free some) free)

-- ---- the greatest run that may be next

-- the greatest power of two that is less than twice a number, and at least that number
pub greatest-size : (left p g x : ℕ) → 0 < left → p ≡ 2 ^ x → left ≤ p → p / 2 < max 1 left → 2 ^ g ≤ p → p < 2 * 2 ^ g → (2 ^ g < 2 * left) × (left ≤ 2 ^ g)
greatest-size left p g x some power above below most next = elim (cases_lt g x) [
  | inl b ↦ absurd (omega (arith, pow_mono {i = suc g} {j = x} b, pow-suc 2 g))
  | inr b ↦ (omega arith, omega (arith, pow_mono {i = x} {j = g} b))
]

-- none is greater
pub none-above : (left g k : ℕ) → left ≤ 2 ^ g → g < k → 2 ^ k < 2 * left → ⊥
none-above left g k most b less = omega (arith, pow_mono {i = suc g} {j = k} b, pow-suc 2 g)

pub within-23 : (left g : ℕ) → left ≤ 2 ^ 23 → 2 ^ g < 2 * left → g ≤ 23
within-23 left g most less = elim (cases_lt 23 g) [ inl b ↦ absurd (omega (arith, pow_mono {i = 24} {j = g} b)) | inr b ↦ b ]

-- ---- a reservation that goes on

AreApart-more : (list : List Pxd) (run : Pxd) → AreApart list → ((b : ℕ) → is_in_run run.addr run.len b ≡ true → is_in_list list b ≡ false) → AreApart (list ++ run ∷ [])
unfolding AreApart is_in_list
AreApart-more [] run a new = (λ b h. refl, tt)
AreApart-more (first ∷ rest) run a new = (
  λ b h. in_list-append rest (run ∷ []) b ∙ or_from (is_in_list rest b) (is_in_list (run ∷ []) b) (a.0 b h) (in_list-one run b ∙ false_from_ne_true (is_in_run run.addr run.len b) (λ t. both_ways (is_in_run first.addr first.len b) (or_parts (is_in_run first.addr first.len b) (is_in_list rest b) (new b t)).0 h)),
  AreApart-more rest run a.1 (λ b t. (or_parts (is_in_run first.addr first.len b) (is_in_list rest b) (new b t)).1),
)

-- what is reserved so far, where so many blocks are left
pub record Holding (initial now : Blocks) (left : ℕ) (list : List Pxd) : Type 0 where
  pub reserved : now ≡ put_state Reserved list initial
  pub free : (b : ℕ) → is_in_list list b ≡ true → state_of initial b ≡ Free
  pub once : AreApart list
  pub enough : left ≤ free_count now

-- these runs and any that come next are a reservation
pub record Reserving (initial now : Blocks) (hint n left : ℕ) (list : List Pxd) : Type 0 where
  pub chosen : (rest : List Pxd) → AreNextRuns (is_used now) left rest → IsReservation (is_used initial) hint n (list ++ rest)
  pub holds : Holding initial now left list

-- the blocks of a free run are free
free-run : (m : Blocks) (run : Pxd) → is_free (is_used m) run.addr run.len ≡ true → (b : ℕ) → is_in_list (run ∷ []) b ≡ true → state_of m b ≡ Free
free-run m run free b h = not_used-free (state_of m b) (free_run-at (is_used m) run.addr run.len b free (sym (in_list-one run b) ∙ h))

pub holding-none : (initial : Blocks) (left : ℕ) → left ≤ free_count initial → Holding initial initial left []
unfolding AreApart
holding-none initial left enough = record {
  reserved = sym (put-nowhere Reserved [] initial in_list-none);
  free = λ b h. absurd (both_ways (is_in_list [] b) (in_list-none b) h);
  once = tt;
  enough = enough;
}

-- a free run more is reserved
pub holding-next : (initial now : Blocks) (left : ℕ) (list : List Pxd) (run : Pxd) → 0 < run.len → run.len ≤ left → is_free (is_used now) run.addr run.len ≡ true → Holding initial now left list
    → Holding initial (put_state Reserved (run ∷ []) now) (left - run.len) (list ++ run ∷ [])
holding-next initial now left list run some most free h =
    let new : (b : ℕ) → is_in_run run.addr run.len b ≡ true → is_in_list list b ≡ false = λ b here.
    false_from_ne_true (is_in_list list b) (λ t. both_ways (is_used now b)
    (free_run-at (is_used now) run.addr run.len b free here)
    (ap (λ (s : BlockState). not (is_free_state s)) (ap (λ (m : Blocks). state_of m b) h.reserved ∙ put-here Reserved list initial b (free-there initial b (h.free b t)) t))) in
    record {
      reserved = ap (λ (m : Blocks). put_state Reserved (run ∷ []) m) h.reserved ∙ put-append Reserved list (run ∷ []) initial;
      free = λ b i. (elim (or_cases (is_in_list list b) (is_in_list (run ∷ []) b) (sym (in_list-append list (run ∷ []) b) ∙ i)) [
        | inl old ↦ h.free b old
        | inr here ↦ sym (ap (λ (m : Blocks). state_of m b) h.reserved ∙ put-other Reserved list initial b (new b (sym (in_list-one run b) ∙ here))) ∙ free-run now run free b here
      ]);
      once = AreApart-more list run h.once new;
      enough = omega (arith, h.enough, free-put run now free some);
    }

-- nothing at the front
reserving-zero : (initial : Blocks) (hint n : ℕ) → IsFreeFront (is_used initial) hint n 0 → n ≤ free_count initial → Reserving initial initial hint n (n - 0) []
reserving-zero initial hint n free enough =
    let front : Pxd = record { len = 0; addr = hint } in
    let same : with_run (is_used initial) front ≡ is_used initial = λ i b. ap (λ (t : Bool). t || is_used initial b) (empty_run hint 0 b refl) i in
    record {
      chosen = λ rest next. record {
        front = front;
        rest = rest;
        wanted = refl;
        free = free;
        next = subst (λ (taken : ℕ → Bool). AreNextRuns taken (n - 0) rest) (sym same) next;
        runs = refl;
      };
      holds = holding-none initial (n - 0) (omega arith);
    }

pub reserving-none : (initial : Blocks) (hint n front : ℕ) → front ≡ 0 → IsFreeFront (is_used initial) hint n front → n ≤ free_count initial → Reserving initial initial hint n (n - front) []
reserving-none initial hint n front none free enough =
    subst (λ (k : ℕ). Reserving initial initial hint n (n - k) []) (sym none) (reserving-zero initial hint n (subst (λ (k : ℕ). IsFreeFront (is_used initial) hint n k) none free) enough)

-- a front
pub reserving-front : (initial : Blocks) (hint n front : ℕ) → 0 < front → IsFreeFront (is_used initial) hint n front → n ≤ free_count initial → Reserving initial (put_state Reserved (record { len = front; addr = hint } ∷ []) initial) hint n (n - front) (record { len = front; addr = hint } ∷ [])
unfolding AreApart
reserving-front initial hint n front some free enough =
    let run : Pxd = record { len = front; addr = hint } in
    record {
      chosen = λ rest next. record {
        front = run;
        rest = rest;
        wanted = refl;
        free = free;
        next = subst (λ (taken : ℕ → Bool). AreNextRuns taken (n - front) rest) (used-put run initial) next;
        runs = rw (ne_eqb front 0 (λ e. omega arith)) refl;
      };
      holds = record {
        reserved = refl;
        free = free-run initial run free.free;
        once = (λ b h. in_list-none b, tt);
        enough = omega (arith, enough, free-put run initial free.free some, free.most);
      };
    }

-- a next run
pub reserving-next : (initial now : Blocks) (hint n left : ℕ) (list : List Pxd) (run : Pxd) → 0 < left → Reserving initial now hint n left list → IsNextRun (is_used now) left run → Reserving initial (put_state Reserved (run ∷ []) now) hint n (left - run.len) (list ++ run ∷ [])
unfolding AreNextRuns
reserving-next initial now hint n left list run some r next = record {
  chosen = λ rest h. subst (λ (runs : List Pxd). IsReservation (is_used initial) hint n runs) (sym (append_assoc list (run ∷ []) rest))
      (r.chosen (run ∷ rest) (next, subst (λ (taken : ℕ → Bool). AreNextRuns taken (left - run.len) rest) (used-put run now) h));
  holds = holding-next initial now left list run (next-some (is_used now) left run next some) (next-most (is_used now) left run next) (next-free (is_used now) left run next) r.holds;
}

-- nothing is left
pub reserving-all : (initial now : Blocks) (hint n left : ℕ) (list : List Pxd) → left ≡ 0 → Reserving initial now hint n left list → IsReservation (is_used initial) hint n list
unfolding AreNextRuns
reserving-all initial now hint n left list none r = rw append-nil at (r.chosen [] none)
