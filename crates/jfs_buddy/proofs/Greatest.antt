-- Which free runs a set has, by the rank of its greatest one.
use Rattle.std.proofs.Common.{◌≡◌, ◌≢◌, ◌<◌, ◌≤◌, ◌+◌, ◌-◌, ◌*◌, ◌^◌, ℕ, zero, suc, Bool, true, inl, inr, refl, sym, ap, ◌∙◌, arith}
use Rattle.std.specs.Prelude.{pos, negsuc}
use Rattle.std.proofs.lemmas.Bool.{cases_eq, cases_Bool, cond_both, cond-true, cond-false, true≢false}
use Rattle.std.proofs.lemmas.Nat.{pow_pos, pow-add, shl-shr, mul-le, div_below}
use Rattle.jfs_bits.specs.Bits.{is_free_run, has_free_run, greatest_run}
use Rattle.jfs_bits.proofs.Runs.{is_free-at, is_free-from, is_free-same}
use Rattle.jfs_bits.proofs.Buds.{any_below-at, any_below-from, any_below-same}
use Rattle.jfs_buddy.specs.Tree.{rank_of}
use Rattle.jfs_buddy.proofs.Halves.{twice}

-- a set with a free run has one of half its length
has-half : (taken : ℕ → Bool) (span k : ℕ) → suc k ≤ span → has_free_run taken span (suc k) ≡ true → has_free_run taken span k ≡ true
unfolding has_free_run
has-half taken span k h run =
    let r = any_below-at (2 ^ (span - suc k)) (is_free_run taken (suc k)) run in
    let j = r.0 in
    let within = r.1 in
    let size = twice k in
    let less : span - k ≡ suc (span - suc k) = omega arith in
    let more : 2 ^ (span - k) ≡ 2 * 2 ^ (span - suc k) = rw less (twice (span - suc k)) in
    let place : j * 2 ^ suc k ≡ 2 * j * 2 ^ k = omega (arith, ap (λ (z : ℕ). j * z) size) in
    any_below-from (2 ^ (span - k)) (is_free_run taken k) (2 * j) (omega arith) (is_free-from taken (2 * j * 2 ^ k) (2 ^ k) (λ i b. rw place at (is_free-at taken (j * 2 ^ suc k) (2 ^ suc k) r.2 i (omega arith))))

-- and one of each smaller length
has-smaller : (taken : ℕ → Bool) (span k l2 : ℕ) → k ≤ span → l2 ≤ k → has_free_run taken span k ≡ true → has_free_run taken span l2 ≡ true
has-smaller taken span zero l2 h m run = let e : l2 ≡ 0 = omega arith in rw e run
has-smaller taken span (suc k) l2 h m run = elim (cases_eq l2 (suc k)) [ inl e ↦ rw e run | inr n ↦ has-smaller taken span k l2 (omega arith) (omega arith) (has-half taken span k h run) ]

-- the rank of the greatest free run says which lengths have one
pub run-rank : (taken : ℕ → Bool) (span top l2 : ℕ) → l2 ≤ top → has_free_run taken span l2 ≡ true → suc l2 ≤ rank_of (greatest_run taken span top)
unfolding greatest_run
run-rank taken span zero l2 h run =
    let e : l2 ≡ 0 = omega arith in
    let value = cond-true (has_free_run taken span 0) (pos 0) (negsuc 0) (rw e at run) in
    omega (arith, ap rank_of value)
run-rank taken span (suc top) l2 h run = elim (cases_Bool (has_free_run taken span (suc top))) [
  | inl t ↦ omega (arith, ap rank_of (cond-true (has_free_run taken span (suc top)) (pos (suc top)) (greatest_run taken span top) t))
  | inr f ↦ (let less : l2 ≢ suc top = λ e. true≢false (sym run ∙ rw e f) in omega (arith, less, ap rank_of (cond-false (has_free_run taken span (suc top)) (pos (suc top)) (greatest_run taken span top) f), run-rank taken span top l2 (omega (arith, less)) run))
]

pub rank-run : (taken : ℕ → Bool) (span top l2 : ℕ) → top ≤ span → suc l2 ≤ rank_of (greatest_run taken span top) → has_free_run taken span l2 ≡ true
unfolding greatest_run
rank-run taken span zero l2 b h = elim (cases_Bool (has_free_run taken span 0)) [
  | inl t ↦ (let e : l2 ≡ 0 = omega (arith, ap rank_of (cond-true (has_free_run taken span 0) (pos 0) (negsuc 0) t)) in rw e t)
  | inr f ↦ absurd (omega (arith, ap rank_of (cond-false (has_free_run taken span 0) (pos 0) (negsuc 0) f)))
]
rank-run taken span (suc top) l2 b h = elim (cases_Bool (has_free_run taken span (suc top))) [
  | inl t ↦ has-smaller taken span (suc top) l2 b (omega (arith, ap rank_of (cond-true (has_free_run taken span (suc top)) (pos (suc top)) (greatest_run taken span top) t))) t
  | inr f ↦ rank-run taken span top l2 (omega arith) (omega (arith, ap rank_of (cond-false (has_free_run taken span (suc top)) (pos (suc top)) (greatest_run taken span top) f)))
]

pub run-most : (taken : ℕ → Bool) (span top : ℕ) → rank_of (greatest_run taken span top) ≤ suc top
unfolding greatest_run
run-most taken span zero = cond_both (has_free_run taken span 0) (pos 0) (negsuc 0) (λ z. rank_of z ≤ 1) (λ e. omega arith) (λ e. omega arith)
run-most taken span (suc top) =
    cond_both (has_free_run taken span (suc top)) (pos (suc top)) (greatest_run taken span top) (λ z. rank_of z ≤ suc (suc top)) (λ e. omega arith) (λ e. omega (arith, run-most taken span top))

-- the number of aligned runs of a length among the first 2 ^ span blocks
pub runs-in : (span l2 : ℕ) → l2 ≤ span → 2 ^ span ≡ 2 ^ (span - l2) * 2 ^ l2
runs-in span l2 h = let parts : (span - l2) + l2 ≡ span = omega arith in ap (λ (z : ℕ). 2 ^ z) (sym parts) ∙ pow-add 2 (span - l2) l2

-- a run's blocks lie among the first 2 ^ span
pub run-within : (span l2 j i : ℕ) → l2 ≤ span → j < 2 ^ (span - l2) → i < 2 ^ l2 → j * 2 ^ l2 + i < 2 ^ span
run-within span l2 j i h k b =
    omega (arith, runs-in span l2 h, mul-le (j + 1) (2 ^ l2) (2 ^ (span - l2)) (2 ^ l2) (omega arith) (omega arith))

-- a run that begins there is one of them
pub run-begin : (span l2 j : ℕ) → l2 ≤ span → j * 2 ^ l2 < 2 ^ span → j < 2 ^ (span - l2)
run-begin span l2 j h b = rw (shl-shr j l2) at (div_below (j * 2 ^ l2) (2 ^ l2) (2 ^ (span - l2)) (pow_pos l2) (omega (arith, runs-in span l2 h)))

-- two sets with the same first blocks have free runs of the same lengths
has-same : (one other : ℕ → Bool) (span l2 : ℕ) → l2 ≤ span → ((i : ℕ) → i < 2 ^ span → one i ≡ other i) → has_free_run one span l2 ≡ has_free_run other span l2
unfolding has_free_run
has-same one other span l2 h same =
    any_below-same (2 ^ (span - l2)) (is_free_run one l2) (is_free_run other l2) (λ j k.
    is_free-same one other (j * 2 ^ l2) (j * 2 ^ l2) (2 ^ l2) (λ i b. same (j * 2 ^ l2 + i) (run-within span l2 j i h k b)))

-- two sets with the same first blocks have the same greatest run among these
pub greatest_run-same : (one other : ℕ → Bool) (span top : ℕ) → top ≤ span → ((i : ℕ) → i < 2 ^ span → one i ≡ other i) → greatest_run one span top ≡ greatest_run other span top
unfolding greatest_run
greatest_run-same one other span zero h same = rw (has-same one other span 0 h same) refl
greatest_run-same one other span (suc top) h same = rw (has-same one other span (suc top) h same, greatest_run-same one other span top (omega arith) same) refl
