-- A reservation's runs lie within the volume.
use Rattle.std.proofs.Common.{◌≡◌, ◌<◌, ◌≤◌, ◌+◌, ◌-◌, ℕ, Bool, true, inl, inr, List, [], ◌∷◌, length, arith}
use Rattle.std.specs.List.{All}
use Rattle.std.proofs.lemmas.Bool.{cases_eq, both_ways, or_right, eq-eqb, ne_eqb, false_from_ne_true}
use Rattle.std.proofs.lemmas.Nat.{pow_pos}
use Rattle.std.proofs.lemmas.List.Elements.{All-nil, All-cons}
use Rattle.jfs_bits.specs.Bits.{is_in_run, is_free}
use Rattle.jfs_bits.specs.declared.descriptor.Pxd.{Pxd}
use Rattle.jfs_bmap.specs.States.{Blocks, is_used}
use Rattle.jfs_bmap.specs.Choice.{with_run, AreNextRuns, IsReservation}
use Rattle.jfs_bmap.proofs.States.{free_run-at, free_run-from}
use Rattle.jfs_bmap.proofs.Reservations.{next-some, next-free, free-within}

-- a run that ends within the volume
abbrev pub EndsWithin : Blocks → Pxd → Type 0
EndsWithin m run = run.addr + run.len ≤ length m.states

-- a run that is free in a set with more blocks taken
pub free-in_less : (m : Blocks) (taken : ℕ → Bool) (first n : ℕ) → ((b : ℕ) → is_used m b ≡ true → taken b ≡ true) → is_free taken first n ≡ true → is_free (is_used m) first n ≡ true
free-in_less m taken first n more free =
    free_run-from (is_used m) first n (λ b h. false_from_ne_true (is_used m b) (λ used. both_ways (taken b) (free_run-at taken first n b free h) (more b used)))

next-within : (m : Blocks) (taken : ℕ → Bool) (left : ℕ) (list : List Pxd) → ((b : ℕ) → is_used m b ≡ true → taken b ≡ true) → AreNextRuns taken left list → All (EndsWithin m) list
unfolding AreNextRuns
next-within m taken left [] more h = All-nil (EndsWithin m)
next-within m taken left (run ∷ runs) more h =
    let some : 0 < left = omega (arith, h.0.size, pow_pos h.0.l2) in
    All-cons (EndsWithin m) run runs
    (free-within m run.addr run.len (free-in_less m taken run.addr run.len more (next-free taken left run h.0)) (next-some taken left run h.0 some))
    (next-within m (with_run taken run) (left - run.len) runs (λ b used. or_right (is_in_run run.addr run.len b) (taken b) (more b used)) h.1)

pub reservation-within : (m : Blocks) (hint n : ℕ) (list : List Pxd) → IsReservation (is_used m) hint n list → All (EndsWithin m) list
reservation-within m hint n list r =
    let rest = next-within m (with_run (is_used m) r.front) (n - r.front.len) r.rest (λ b used. or_right (is_in_run r.front.addr r.front.len b) (is_used m b) used) r.next in
    rw r.runs (elim (cases_eq r.front.len 0) [
      | inl e ↦ rw (eq-eqb r.front.len 0 e) rest
      | inr o ↦ rw (ne_eqb r.front.len 0 o) (All-cons (EndsWithin m) r.front r.rest (free-within m r.front.addr r.front.len (rw r.wanted r.free.free) (omega arith)) rest)
    ])
