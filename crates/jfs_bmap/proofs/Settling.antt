-- Blocks that are due get free, run by run.
use Rattle.std.proofs.Common.{◌≡◌, ◌<◌, ◌≤◌, ◌+◌, ℕ, Bool, true, false, not, ◌&&◌, ◌||◌, inl, inr, List, ◌∷◌, length, refl, sym, ◌∙◌, arith}
use Rattle.std.specs.Prelude.{nat_le}
use Rattle.std.specs.List.{All}
use Rattle.std.specs.List.Sorted.{IsPermutation}
use Rattle.std.specs.declared.cmp.Reverse.{Reverse}
use Rattle.std.proofs.lemmas.Bool.{both_ways, and_parts, and_from, le-leb, lt-leb, not-true}
use Rattle.std.proofs.lemmas.List.Elements.{All-tail, All-head}
use Rattle.std.proofs.lemmas.List.Sorted.{All-permutation}
use Rattle.jfs_bits.specs.Bits.{is_in_run}
use Rattle.jfs_bmap.specs.declared.freed.Freed.{Freed}
use Rattle.jfs_bmap.specs.Set.{taken_at, cleared}
use Rattle.jfs_bmap.specs.Freed.{covers, runs_in, entry_at, is_due, IsInOrder}
use Rattle.jfs_bmap.specs.Kept.{ArePending}
use Rattle.jfs_bmap.proofs.Views.{taken_at-cleared}
use Rattle.jfs_bmap.proofs.Disowned.{run_next, run_one}
use Rattle.jfs_bmap.proofs.Covered.{covered-less, covered-later}

-- ---- the blocks of one run

-- those before block `first + k` that are due are free in a set that began as `used`
abbrev pub AreFreed : (ℕ → Bool) → (ℕ → Bool) → ℕ → ℕ → List Bool → Type 0
AreFreed used due first k now = (b : ℕ) → taken_at now b ≡ (used b && not (is_in_run first k b && due b))

pub none-freed : (x u d : Bool) → x ≡ false → u ≡ (u && not (x && d))
none-freed true u d h = absurd (cc)
none-freed false true d h = refl
none-freed false false d h = refl

-- a whole run that is due
pub all-freed : (x u d : Bool) → (x ≡ true → d ≡ true) → (not x && u) ≡ (u && not (x && d))
all-freed true true d h = rw (h refl) refl
all-freed true false d h = refl
all-freed false true d h = refl
all-freed false false d h = refl

module _ (used due : ℕ → Bool) (first k : ℕ) (now : List Bool) (freed : AreFreed used due first k now) where
  -- the next block is freed
  pub freed-next : first + (k + 1) ≤ length now → due (first + k) ≡ true → AreFreed used due first (k + 1) (cleared (first + k) 1 now)
  freed-next within h b =
      taken_at-cleared (first + k) 1 now b (omega arith) ∙ rw (freed b, ← run_next first k b) (one (is_in_run first k b) (is_in_run (first + k) 1 b) (used b) (due b) (λ r. rw (run_one (first + k) b r) h))
    where
      none : (x u : Bool) → false ≡ (u && not ((x || true) && true))
      none true true = refl
      none true false = refl
      none false true = refl
      none false false = refl

      one : (x y u d : Bool) → (y ≡ true → d ≡ true) → (not y && (u && not (x && d))) ≡ (u && not ((x || y) && d))
      one x true u d h = rw (h refl) (none x u)
      one true false u d h = refl
      one false false u d h = refl

  -- the next block isn't taken and due
  pub freed-not : (taken_at now (first + k) && due (first + k)) ≡ false → AreFreed used due first (k + 1) now
  freed-not h b =
      freed b ∙ rw (← run_next first k b) (one (is_in_run first k b) (is_in_run (first + k) 1 b) (used b) (due b) (λ r. rw (sym (freed b), run_one (first + k) b r) h))
    where
      one : (x y u d : Bool) → (y ≡ true → (u && not (x && d) && d) ≡ false) → (u && not (x && d)) ≡ (u && not ((x || y) && d))
      one x false u d h = grind (arith)
      one x true u false h = grind (arith)
      one true true u true h = refl
      one false true true true h = absurd (cc (h refl))
      one false true false true h = refl

-- ---- run by run

-- what stays of the runs after one was taken out whose entry is told
pub pending-less : {held used : List Bool} {entries : List (List ℕ)} {heap : List (Reverse Freed)} (run : Freed) (told : ℕ) (used_now : List Bool) (rest : List (Reverse Freed)) → ArePending held used entries heap → IsInOrder rest → run.entry ≤ told → IsPermutation (runs_in heap) (run ∷ runs_in rest) → length used_now ≡ length used → ((b : ℕ) → taken_at used_now b ≡ (taken_at used b && not (covers run b && is_due held entries told b))) → ArePending held used_now entries rest
pending-less {held} {used} {entries} {heap} run told used_now rest pending order most same size now = record {
  order = order;
  within = rw size (All-tail (λ r. r.first + r.blocks ≤ length used) run (runs_in rest) (All-permutation (λ r. r.first + r.blocks ≤ length used) (runs_in heap) (run ∷ runs_in rest) same pending.within));
  covered = λ b h u.
      let was = and_parts (taken_at used b) (not (covers run b && is_due held entries told b)) (sym (now b) ∙ u) in
      elim (covered-less run (runs_in rest) (runs_in heap) same (entry_at entries b) b (pending.covered b h was.0)) [
        | inl here ↦ absurd (both_ways (covers run b && is_due held entries told b) (not-true (covers run b && is_due held entries told b) was.1) (and_from (covers run b) (is_due held entries told b) here.0 (rw (h, le-leb (entry_at entries b) told (omega (arith, here.1))) refl)))
        | inr more ↦ more
      ];
}

-- a run within the volume
pub pending-within : {held used : List Bool} {entries : List (List ℕ)} {heap : List (Reverse Freed)} (run : Freed) (rest : List (Reverse Freed)) → ArePending held used entries heap → IsPermutation (runs_in heap) (run ∷ runs_in rest) → run.first + run.blocks ≤ length used
pending-within {used = used} {heap = heap} run rest pending same = All-head (λ r. r.first + r.blocks ≤ length used) run (runs_in rest) (All-permutation (λ r. r.first + r.blocks ≤ length used) (runs_in heap) (run ∷ runs_in rest) same pending.within)

-- what isn't due stays
pub freed-rest : (x u d : Bool) → (u && not (x && d) && not d) ≡ (u && not d)
freed-rest x false d = refl
freed-rest x true d = grind (arith)

-- where the runs that are left are all of later entries, no block is due
pub none-due : {held used : List Bool} {entries : List (List ℕ)} {heap : List (Reverse Freed)} (told b : ℕ) → ArePending held used entries heap → All (λ run. told < run.entry) (runs_in heap) → taken_at used b ≡ (taken_at used b && not (is_due held entries told b))
none-due {held} {used} {entries} {heap} told b pending later =
    one (taken_at held b) (taken_at used b) (λ h u. lt-leb (entry_at entries b) told (covered-later told (entry_at entries b) b (runs_in heap) later (pending.covered b h u)))
  where
    one : (h u : Bool) → (h ≡ false → u ≡ true → nat_le (entry_at entries b) told ≡ false) → u ≡ (u && not (not h && nat_le (entry_at entries b) told))
    one true true k = refl
    one true false k = refl
    one false true k = rw (k refl refl) refl
    one false false k = refl
