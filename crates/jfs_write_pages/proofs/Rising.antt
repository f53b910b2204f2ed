-- Blocks of a file in their order: each stands past those before it.
use Rattle.std.proofs.Common.{◌≡◌, ◌≤◌, ◌<◌, sym, subst, ℕ, zero, suc, ◌+◌, ◌-◌, Bool, true, false, if◌then◌else◌, List, [], ◌∷◌, ◌++◌, arith}
use Rattle.std.specs.Prelude.{min}
use Rattle.std.specs.List.{AllByRecursion as Each}
use Rattle.jfs_bits.specs.declared.extent.Xad.{Xad}
use Rattle.jfs_xtpage.specs.Page.{end_of, rises_from}
use Rattle.jfs_data_steps.specs.xtree.specs.Writing.{is_recorded, AllLong, place_in}
use Rattle.jfs_data_steps.specs.xtree.specs.Writing as writing
use Rattle.jfs_write_pages.specs.declared.spot.Spot.{Spot}
use Rattle.jfs_write_pages.specs.Spots.{run_spots, spots_in, spots_between}
use Rattle.jfs_write_pages.proofs.Places.{rises_parts, within_is}
use Rattle.jfs_write_pages.proofs.Blocks.{AreFrom}
use Rattle.jfs_write_pages.proofs.Spotted.{each_map, in_each}

abbrev pub Rises : ℕ → List Spot → Type 0
Rises k [] = Unit {0}
Rises k (s ∷ ss) = (k ≤ s.index) × Rises (suc s.index) ss

pub rises_lower : (k m : ℕ) (ss : List Spot) → m ≤ k → Rises k ss → Rises m ss
rises_lower k m [] l h = tt
rises_lower k m (s ∷ ss) l h = ((let a = h.0 in omega (arith, l, a)), h.1)

pub rises_each : (k : ℕ) (ss : List Spot) → Rises k ss → Each (λ s. k ≤ s.index) ss
rises_each k [] h = tt
rises_each k (s ∷ ss) h = (h.0, each_map (λ x. suc s.index ≤ x.index) (λ x. k ≤ x.index) (λ x l. let a = h.0 in omega (arith, a, l)) ss (rises_each (suc s.index) ss h.1))

pub rises_append : (k m : ℕ) (xs ys : List Spot) → Rises k xs → Each (λ s. s.index < m) xs → k ≤ m → Rises m ys → Rises k (xs ++ ys)
rises_append k m [] ys h t l r = rises_lower m k ys l r
rises_append k m (x ∷ xs) ys h t l r = (h.0, rises_append (suc x.index) m xs ys h.1 t.1 (let a = t.0 in omega (arith, a)) r)

pub from_rises : (k : ℕ) (ss : List Spot) → AreFrom k ss → Rises k ss
from_rises k [] h = tt
from_rises k (s ∷ ss) h = ((let a = h.0 in omega (arith, a)), subst (λ (i : ℕ). Rises (suc i) ss) (sym h.0) (from_rises (suc k) ss h.1))

run_rises : (k b n : ℕ) → Rises k (run_spots k b n)
unfolding run_spots
run_rises k b zero = tt
run_rises k b (suc n) = (omega arith, run_rises (suc k) (suc b) n)

module _ (from to : ℕ) where
  in_rises : (e : Xad) → Rises e.offset (spots_in from to e)
  in_rises e = by (is_recorded e)
    where
      by : (x : Bool) → Rises e.offset (if x then run_spots (e.offset + (from - e.offset)) (e.at.addr + (from - e.offset)) (min (to - e.offset) e.at.len - (from - e.offset)) else [])
      by true = rises_lower (e.offset + (from - e.offset)) e.offset (run_spots (e.offset + (from - e.offset)) (e.at.addr + (from - e.offset)) (min (to - e.offset) e.at.len - (from - e.offset))) (omega arith)
          (run_rises (e.offset + (from - e.offset)) (e.at.addr + (from - e.offset)) (min (to - e.offset) e.at.len - (from - e.offset)))
      by false = tt

  -- the recorded blocks of a range, as rising extents have them
  pub gap_rises : (low : ℕ) (es : List Xad) → rises_from low es ≡ true → AllLong es → Rises low (spots_between from to es)
  gap_rises low [] r long = tt
  gap_rises low (e ∷ es) r long =
      let p = rises_parts low e es r in
      rises_append low (end_of e) (spots_in from to e) (spots_between from to es) (rises_lower e.offset low (spots_in from to e) p.0 (in_rises e))
      (each_map (λ s. (writing.has_block e s.index ≡ true) × (place_in e s.index ≡ record { block = s.block; recorded = true }) × (s.recorded ≡ true) × (from ≤ s.index) × (s.index < to)) (λ s. s.index < end_of e)
      (λ s q. (within_is e.offset (end_of e) s.index q.0).1) (spots_in from to e) (in_each from to e long.0))
      (let f = p.0 in omega (arith, f)) (gap_rises (end_of e) es p.1 long.1)
