-- A run is taken or given back dmap by dmap.
use Rattle.std.proofs.Common.{◌≡◌, ◌<◌, ◌≤◌, ◌+◌, ◌-◌, ◌*◌, ◌/◌, ℕ, Bool, true, not, ◌&&◌, ◌||◌, List, length, sym, ◌∙◌, add_assoc, arith}
use Rattle.std.specs.Prelude.{min, max}
use Rattle.std.specs.Int.{div_ceil}
use Rattle.std.proofs.lemmas.Bool.Decides.{nat_tests}
use Rattle.jfs_bits.specs.Bits.{is_free, is_in_run, is_full}
use Rattle.jfs_bits.proofs.Runs.{is_free-at, is_free-from}
use Rattle.jfs_bits.proofs.Counts.{behind_run, is_full-at}
use Rattle.jfs_bmap.specs.Set.{taken_at, marked, cleared}
use Rattle.jfs_bmap.proofs.Views.{same_sets, length-marked, length-cleared, taken_at-marked, taken_at-cleared, taken_at-each_below}
use Rattle.jfs_bmap.proofs.Grows.{is_full-from}

-- how many blocks of the run from `first` to before `end` lie on the dmaps before `k`
abbrev pub covered : ℕ → ℕ → ℕ → ℕ
covered first end k = min end (max first (8192 * k)) - first

-- the part on dmap `k`, from block `from` to before `to`
pub record Part (first end k from to : ℕ) : Type 0 where
  pub begins : 8192 * k + (from - 8192 * k) ≡ first + covered first end k
  pub ends : first + covered first end k + (to - from) ≤ end
  pub there : 8192 * k < end
  pub next : covered first end (k + 1) ≡ covered first end k + (to - from)

-- the parts that the loop takes are these
pub part-of : (first end last k from to : ℕ) → first ≤ end → first / 8192 ≤ k → k < last → last ≡ div_ceil end 8192 → from ≡ max first (8192 * k) → to ≡ min end (8192 * (k + 1)) → Part first end k from to
part-of first end last k from to h low high l f t =
    let there : 8192 * k < end = omega arith in
    record {
      begins = omega arith;
      ends = omega arith;
      there = there;
      next = omega arith;
    }

-- before the first dmap of the run nothing is covered
pub covered-none : (first end : ℕ) → first ≤ end → covered first end (first / 8192) ≡ 0
covered-none first end h = omega arith

-- a block is taken after both parts as after the whole
taken-both : (first m n b : ℕ) (t : Bool) → (is_in_run (first + m) n b || (is_in_run first m b || t)) ≡ (is_in_run first (m + n) b || t)
taken-both first m n b t = grind (arith, nat_tests)

-- a run of no blocks leaves a set as it was
pub marked-none : (first : ℕ) (set : List Bool) → marked first 0 set ≡ set
marked-none first set = same_sets (marked first 0 set) set (length-marked first 0 set) (λ b h. taken_at-marked first 0 set b ∙ none b (taken_at set b))
  where
    none : (b : ℕ) (t : Bool) → (is_in_run first 0 b || t) ≡ t
    none b t = grind (arith, nat_tests)

-- a run and the run behind it are one run
pub marked-more : (first m n start : ℕ) (old now new : List Bool) → start ≡ first + m → now ≡ marked first m old → new ≡ marked start n now → new ≡ marked first (m + n) old
marked-more first m n start old now new s e f =
    f ∙ rw (s, e) (same_sets (marked (first + m) n (marked first m old)) (marked first (m + n) old) (length-marked (first + m) n (marked first m old) ∙ length-marked first m old ∙ sym (length-marked first (m + n) old)) (λ b h.
    taken_at-marked (first + m) n (marked first m old) b ∙ rw (taken_at-marked first m old b, taken_at-marked first (m + n) old b) (taken-both first m n b (taken_at old b))))

-- the rest of a free run is free after the first parts were taken
pub rest-free : (first m n total start : ℕ) (old now : List Bool) → start ≡ first + m → m + n ≤ total → now ≡ marked first m old → is_free (taken_at old) first total ≡ true → is_free (taken_at now) start n ≡ true
rest-free first m n total start old now s h e free =
    rw (s, e) (is_free-from (taken_at (marked first m old)) (first + m) n (λ i k.
    taken_at-marked first m old (first + m + i) ∙ rw (behind_run first m (first + m + i) (omega arith), add_assoc first m i) (is_free-at (taken_at old) first total free (m + i) (omega arith))))

-- a block is free after both parts as after the whole
free-both : (first m n b : ℕ) (t : Bool) → (not (is_in_run (first + m) n b) && (not (is_in_run first m b) && t)) ≡ (not (is_in_run first (m + n) b) && t)
free-both first m n b t = grind (arith, nat_tests)

-- a run of no blocks leaves a set as it was
pub cleared-none : (first : ℕ) (set : List Bool) → cleared first 0 set ≡ set
cleared-none first set = same_sets (cleared first 0 set) set (length-cleared first 0 set) (λ b h. taken_at-each_below (length set) (λ c. not (is_in_run first 0 c) && taken_at set c) b (rw (length-cleared first 0 set) at h) ∙ none b (taken_at set b))
  where
    none : (b : ℕ) (t : Bool) → (not (is_in_run first 0 b) && t) ≡ t
    none b t = grind (arith, nat_tests)

-- a run and the run behind it are one run
pub cleared-more : (first m n start : ℕ) (old now new : List Bool) → start ≡ first + m → first + m + n ≤ length old → now ≡ cleared first m old → new ≡ cleared start n now → new ≡ cleared first (m + n) old
cleared-more first m n start old now new s within e f =
    let size = length-cleared first m old in
    f ∙ rw (s, e) (same_sets (cleared (first + m) n (cleared first m old)) (cleared first (m + n) old) (length-cleared (first + m) n (cleared first m old) ∙ size ∙ sym (length-cleared first (m + n) old)) (λ b h.
    taken_at-cleared (first + m) n (cleared first m old) b (omega (arith, size)) ∙ rw (taken_at-cleared first m old b (omega arith), taken_at-cleared first (m + n) old b (omega arith)) (free-both first m n b (taken_at old b))))

-- the rest of a taken run is taken after the first parts were given back
pub rest-full : (first m n total start : ℕ) (old now : List Bool) → start ≡ first + m → m + n ≤ total → first + total ≤ length old → now ≡ cleared first m old → is_full (taken_at old) first total ≡ true → is_full (taken_at now) start n ≡ true
rest-full first m n total start old now s h within e full =
    rw (s, e) (is_full-from (taken_at (cleared first m old)) (first + m) n (λ i k.
    taken_at-cleared first m old (first + m + i) (omega arith) ∙ rw (behind_run first m (first + m + i) (omega arith), add_assoc first m i) (is_full-at (taken_at old) first total full (m + i) (omega arith))))
