-- The test of reserved runs: it holds exactly of runs whose blocks are reserved and stand there once.
use Rattle.std.proofs.Common.{◌≡◌, ◌<◌, ◌≤◌, ◌+◌, ◌-◌, ◌⊎◌, ℕ, Bool, true, false, not, ◌&&◌, ◌||◌, nat_lt, nat_le, inl, inr, List, [], ◌∷◌, length, refl, sym, ap, ◌∙◌, arith}
use Rattle.std.specs.List.{list_all}
use Rattle.std.proofs.lemmas.Bool.{false≢true, and_from, and_parts, or_cases, or_left, or_right, or_from, or_parts, both_ways, false_from_ne_true, ltb-true, lt-ltb, leb-true, cases_lt, not_from_false}
use Rattle.jfs_bits.specs.Bits.{is_in_run, is_full}
use Rattle.jfs_bits.specs.declared.descriptor.Pxd.{Pxd}
use Rattle.jfs_bits.proofs.Counts.{in_run, is_full-at}
use Rattle.jfs_bmap.specs.States.{BlockState, Free, Owned, Reserved, Busy, is_reserved_state, Blocks, state_of, is_reserved, is_in_list, AreApart, AreReserved}
use Rattle.jfs_bmap.specs.Overlap.{begins_before, overlap, overlaps_one, are_apart}
use Rattle.jfs_bmap.proofs.Grows.{is_full-from, is_full-not}
use Rattle.jfs_bmap.proofs.Puts.{state-past}

reserved-by : (s : BlockState) → is_reserved_state s ≡ true → s ≡ Reserved
reserved-by Free h = absurd (false≢true h)
reserved-by Owned h = absurd (false≢true h)
reserved-by Reserved h = refl
reserved-by (Busy entry) h = absurd (false≢true h)

in_bounds : (first n b : ℕ) → is_in_run first n b ≡ true → (first ≤ b) × (b < first + n)
in_bounds first n b h = let parts = and_parts (nat_le first b) (nat_lt b (first + n)) h in (leb-true first b parts.0, ltb-true b (first + n) parts.1)

-- ---- the blocks of each run

abbrev all_reserved : Blocks → List Pxd → Bool
all_reserved m runs = list_all (λ (run : Pxd). is_full (is_reserved m) run.addr run.len) runs

pub are-held : (m : Blocks) (runs : List Pxd) → all_reserved m runs ≡ true → (b : ℕ) → is_in_list runs b ≡ true → state_of m b ≡ Reserved
unfolding is_in_list
are-held m [] h b k = absurd (false≢true k)
are-held m (run ∷ runs) h b k =
    let parts = and_parts (is_full (is_reserved m) run.addr run.len) (all_reserved m runs) h in
    elim (or_cases (is_in_run run.addr run.len b) (is_in_list runs b) k) [
      | inl here ↦ let at = in_bounds run.addr run.len b here in
          reserved-by (state_of m b) (ap (is_reserved m) (omega (arith, at.0)) ∙ is_full-at (is_reserved m) run.addr run.len parts.0 (b - run.addr) (omega (arith, at.0, at.1)))
      | inr later ↦ are-held m runs parts.1 b later
    ]

pub held-are : (m : Blocks) (runs : List Pxd) → ((b : ℕ) → is_in_list runs b ≡ true → state_of m b ≡ Reserved) → all_reserved m runs ≡ true
unfolding is_in_list
held-are m [] h = refl
held-are m (run ∷ runs) h = and_from (is_full (is_reserved m) run.addr run.len) (all_reserved m runs)
    (is_full-from (is_reserved m) run.addr run.len (λ i low. ap is_reserved_state (h (run.addr + i) (or_left (is_in_run run.addr run.len (run.addr + i)) (is_in_list runs (run.addr + i)) (in_run run.addr run.len (run.addr + i) (omega arith) (omega (arith, low)))))))
    (held-are m runs (λ b k. h b (or_right (is_in_run run.addr run.len b) (is_in_list runs b) k)))

-- a run that ends past the volume isn't reserved
pub ends_past : (m : Blocks) (first n : ℕ) → ¬ (n ≡ 0) → length m.states < first + n → is_full (is_reserved m) first n ≡ false
ends_past m first n some past = is_full-not (is_reserved m) first n (n - 1) (omega (arith, some)) (ap is_reserved_state (state-past m (first + (n - 1)) (omega (arith, some, past))))

-- ---- blocks that two runs share

shared : (r s : Pxd) (b : ℕ) → is_in_run r.addr r.len b ≡ true → is_in_run s.addr s.len b ≡ true → overlap r s ≡ true
shared r s b h k =
    let at = in_bounds r.addr r.len b h in
    let of = in_bounds s.addr s.len b k in
    and_from (begins_before r s) (begins_before s r)
    (and_from (nat_lt 0 r.len) (nat_lt r.addr (s.addr + s.len)) (lt-ltb 0 r.len (omega (arith, at.0, at.1))) (lt-ltb r.addr (s.addr + s.len) (omega (arith, at.0, of.1))))
    (and_from (nat_lt 0 s.len) (nat_lt s.addr (r.addr + r.len)) (lt-ltb 0 s.len (omega (arith, of.0, of.1))) (lt-ltb s.addr (r.addr + r.len) (omega (arith, of.0, at.1))))

-- two runs that overlap share the later one's first block
sharing : (r s : Pxd) → overlap r s ≡ true → (b : ℕ) × (is_in_run r.addr r.len b ≡ true) × (is_in_run s.addr s.len b ≡ true)
sharing r s h =
    let both = and_parts (begins_before r s) (begins_before s r) h in
    let x = and_parts (nat_lt 0 r.len) (nat_lt r.addr (s.addr + s.len)) both.0 in
    let y = and_parts (nat_lt 0 s.len) (nat_lt s.addr (r.addr + r.len)) both.1 in
    let some = ltb-true 0 r.len x.0 in
    let thing = ltb-true 0 s.len y.0 in
    let before = ltb-true r.addr (s.addr + s.len) x.1 in
    let after = ltb-true s.addr (r.addr + r.len) y.1 in
    elim (cases_lt r.addr s.addr) [
      | inl low ↦ (s.addr, in_run r.addr r.len s.addr (omega (arith, low)) after, in_run s.addr s.len s.addr (omega arith) (omega (arith, thing)))
      | inr high ↦ (r.addr, in_run r.addr r.len r.addr (omega arith) (omega (arith, some)), in_run s.addr s.len r.addr high before)
    ]

none-shared : (run : Pxd) (runs : List Pxd) → overlaps_one run runs ≡ false → (b : ℕ) → is_in_run run.addr run.len b ≡ true → is_in_list runs b ≡ false
unfolding is_in_list
none-shared run [] h b k = refl
none-shared run (other ∷ others) h b k =
    let parts = or_parts (overlap run other) (overlaps_one run others) h in
    or_from (is_in_run other.addr other.len b) (is_in_list others b) (false_from_ne_true (is_in_run other.addr other.len b) (λ l. both_ways (overlap run other) parts.0 (shared run other b k l))) (none-shared run others parts.1 b k)

shared-none : (run : Pxd) (runs : List Pxd) → ((b : ℕ) → is_in_run run.addr run.len b ≡ true → is_in_list runs b ≡ false) → overlaps_one run runs ≡ false
unfolding is_in_list
shared-none run [] h = refl
shared-none run (other ∷ others) h = or_from (overlap run other) (overlaps_one run others)
    (false_from_ne_true (overlap run other) (λ l. let at = sharing run other l in both_ways (is_in_list (other ∷ others) at.0) (h at.0 at.1) (or_left (is_in_run other.addr other.len at.0) (is_in_list others at.0) at.2)))
    (shared-none run others (λ b k. (or_parts (is_in_run other.addr other.len b) (is_in_list others b) (h b k)).1))

pub apart-are : (runs : List Pxd) → are_apart runs ≡ true → AreApart runs
unfolding AreApart
apart-are [] h = tt
apart-are (run ∷ runs) h = let parts = and_parts (not (overlaps_one run runs)) (are_apart runs) h in (none-shared run runs (off (overlaps_one run runs) parts.0), apart-are runs parts.1)
  where
    off : (t : Bool) → not t ≡ true → t ≡ false
    off false k = refl
    off true k = absurd (false≢true k)

pub are-apart : (runs : List Pxd) → AreApart runs → are_apart runs ≡ true
unfolding AreApart
are-apart [] h = refl
are-apart (run ∷ runs) h = and_from (not (overlaps_one run runs)) (are_apart runs) (not_from_false (overlaps_one run runs) (shared-none run runs h.0)) (are-apart runs h.1)
