-- What becomes of the blocks of a run whose owners are taken.
use Rattle.std.proofs.Common.{◌≡◌, ◌<◌, ◌≤◌, ◌+◌, ◌-◌, ℕ, Bool, true, false, not, ◌&&◌, ◌||◌, List, length, refl, sym, ◌∙◌, arith}
use Rattle.std.specs.Prelude.{if◌then◌else◌}
use Rattle.std.proofs.lemmas.Bool.Decides.{nat_tests}
use Rattle.jfs_bits.specs.Bits.{is_in_run, is_full}
use Rattle.jfs_bits.proofs.Counts.{is_full-at}
use Rattle.jfs_bmap.specs.Set.{taken_at, cleared}
use Rattle.jfs_bmap.proofs.Views.{same_sets, length-cleared, taken_at-cleared}
use Rattle.jfs_bmap.proofs.Grows.{is_full-from}
use Rattle.jfs_bmap.proofs.States.{in_run-at, empty_run}

-- a run and the block behind it
pub run_next : (first k b : ℕ) → (is_in_run first k b || is_in_run (first + k) 1 b) ≡ is_in_run first (k + 1) b
run_next first k b = grind (arith, nat_tests)

-- a run of one block
pub run_one : (first b : ℕ) → is_in_run first 1 b ≡ true → b ≡ first
run_one first b h = grind (arith, nat_tests)

-- the block behind a run
pub run_end : (first n : ℕ) → is_in_run first n (first + n) ≡ false
run_end first n = grind (arith, nat_tests)

-- a taken block is a full run of one
pub full_one : (taken : ℕ → Bool) (b : ℕ) → taken b ≡ true → is_full taken b 1 ≡ true
full_one taken b h = is_full-from taken b 1 (λ i k. let e : b + i ≡ b = omega arith in rw e h)

-- each block of a full run, by its number
pub full_block : (taken : ℕ → Bool) (first n b : ℕ) → is_full taken first n ≡ true → is_in_run first n b ≡ true → taken b ≡ true
full_block taken first n b full h =
    let place = in_run-at first n b h in
    let e : first + (b - first) ≡ b = omega arith in
    rw e at (is_full-at taken first n full (b - first) (omega arith))

-- a block that is free
pub cleared-free : (b : ℕ) (set : List Bool) → b < length set → taken_at set b ≡ false → set ≡ cleared b 1 set
cleared-free b set within free =
    same_sets set (cleared b 1 set) (sym (length-cleared b 1 set)) (λ c k.
    sym (taken_at-cleared b 1 set c (omega arith) ∙ same (is_in_run b 1 c) (taken_at set c) (λ h. rw (run_one b c h) free)))
  where
    same : (x t : Bool) → (x ≡ true → t ≡ false) → (not x && t) ≡ t
    same true t h = sym (h refl)
    same false t h = refl

-- ---- the blocks that are still held

-- after the owner of a block more was taken
pub held-next : (first k : ℕ) (set : List Bool) (b : ℕ) (held : Bool) → first + (k + 1) ≤ length set → (not (is_in_run (first + k) 1 b && taken_at (cleared first k set) b) && (not (is_in_run first k b && taken_at set b) && held)) ≡ (not (is_in_run first (k + 1) b && taken_at set b) && held)
held-next first k set b held within =
    rw (taken_at-cleared first k set b (omega arith), ← run_next first k b) (both (is_in_run first k b) (is_in_run (first + k) 1 b) (taken_at set b))
  where
    both : (x y t : Bool) → (not (y && (not x && t)) && (not (x && t) && held)) ≡ (not ((x || y) && t) && held)
    both true true true = refl
    both true true false = refl
    both true false t = refl
    both false true true = refl
    both false true false = refl
    both false false t = refl

-- of a run all of which is taken
pub full_held : (taken : ℕ → Bool) (first n b : ℕ) (held : Bool) → is_full taken first n ≡ true → (not (is_in_run first n b) && held) ≡ (not (is_in_run first n b && taken b) && held)
full_held taken first n b held full = same (is_in_run first n b) (taken b) (λ h. full_block taken first n b full h)
  where
    same : (x t : Bool) → (x ≡ true → t ≡ true) → (not x && held) ≡ (not (x && t) && held)
    same true t h = rw (h refl) refl
    same false t h = refl

-- of an empty run
pub none_held : (first b : ℕ) (t held : Bool) → held ≡ (not (is_in_run first 0 b && t) && held)
none_held first b t held = rw (empty_run first 0 b refl) refl

-- a block that still has its owner
pub still_held : (first k : ℕ) (set : List Bool) (b : ℕ) (held : Bool) → first + k ≤ length set → (taken_at set b ≡ true → held ≡ true) → taken_at (cleared first k set) b ≡ true → (not (is_in_run first k b && taken_at set b) && held) ≡ true
still_held first k set b held within is_held owned = one (is_in_run first k b) (taken_at set b) is_held (sym (taken_at-cleared first k set b within) ∙ owned)
  where
    one : (x t : Bool) → (t ≡ true → held ≡ true) → (not x && t) ≡ true → (not (x && t) && held) ≡ true
    one true t h k = absurd (cc)
    one false t h k = h k

-- ---- and the entries that they wait for

-- after the owner of a block more was taken
pub entries-next : (first k : ℕ) (set : List Bool) (b entry other : ℕ) → first + (k + 1) ≤ length set → (if is_in_run (first + k) 1 b && taken_at (cleared first k set) b then entry else (if is_in_run first k b && taken_at set b then entry else other)) ≡ (if is_in_run first (k + 1) b && taken_at set b then entry else other)
entries-next first k set b entry other within =
    rw (taken_at-cleared first k set b (omega arith), ← run_next first k b) (both (is_in_run first k b) (is_in_run (first + k) 1 b) (taken_at set b))
  where
    both : (x y t : Bool) → (if y && (not x && t) then entry else (if x && t then entry else other)) ≡ (if (x || y) && t then entry else other)
    both true true true = refl
    both true true false = refl
    both true false true = refl
    both true false false = refl
    both false true true = refl
    both false true false = refl
    both false false t = refl

-- of a run all of which is taken
pub full_entries : (taken : ℕ → Bool) (first n b entry other : ℕ) → is_full taken first n ≡ true → (if is_in_run first n b then entry else other) ≡ (if is_in_run first n b && taken b then entry else other)
full_entries taken first n b entry other full = same (is_in_run first n b) (taken b) (λ h. full_block taken first n b full h)
  where
    same : (x t : Bool) → (x ≡ true → t ≡ true) → (if x then entry else other) ≡ (if x && t then entry else other)
    same true t h = rw (h refl) refl
    same false t h = refl

-- of an empty run
pub none_entries : (first b : ℕ) (t : Bool) (entry other : ℕ) → other ≡ (if is_in_run first 0 b && t then entry else other)
none_entries first b t entry other = rw (empty_run first 0 b refl) refl
