-- The runs that entries released, as one is added or taken out.
use Rattle.std.proofs.Common.{◌≡◌, ◌<◌, ℕ, zero, suc, true, ◌⊎◌, inl, inr, List, ◌∷◌, refl, arith}
use Rattle.std.specs.List.{All, Contains}
use Rattle.std.specs.List.Sorted.{IsPermutation}
use Rattle.std.proofs.lemmas.List.Elements.{All-contains}
use Rattle.std.proofs.lemmas.List.Sorted.{Contains-permutation}
use Rattle.jfs_bmap.specs.declared.freed.Freed.{Freed}
use Rattle.jfs_bmap.specs.Freed.{covers, IsCovered}

-- an element of a list with one more in front
contains-later : (run other : Freed) (runs : List Freed) → Contains runs run → Contains (other ∷ runs) run
contains-later run other runs (k, l, is) = (suc k, omega arith, is)

contains-cases : (run other : Freed) (runs : List Freed) → Contains (other ∷ runs) run → (other ≡ run) ⊎ Contains runs run
contains-cases run other runs (zero, l, is) = inl is
contains-cases run other runs (suc k, l, is) = inr (k, omega arith, is)

module _ (run : Freed) (runs others : List Freed) where
  -- a run is added: what was covered still is, and so is each block of the new one
  pub covered-more : IsPermutation (run ∷ runs) others → (entry b : ℕ) → IsCovered runs entry b → IsCovered others entry b
  covered-more same entry b (one, there, here, is) = (one, Contains-permutation (run ∷ runs) others one same (contains-later one run runs there), here, is)

  pub covered-new : IsPermutation (run ∷ runs) others → (b : ℕ) → covers run b ≡ true → IsCovered others run.entry b
  covered-new same b here = (run, Contains-permutation (run ∷ runs) others run same (zero, omega arith, refl), here, refl)

  -- a run is taken out: a covered block was in that one, or still is in another
  pub covered-less : IsPermutation others (run ∷ runs) → (entry b : ℕ) → IsCovered others entry b → ((covers run b ≡ true) × (run.entry ≡ entry)) ⊎ IsCovered runs entry b
  covered-less same entry b (one, there, here, is) = elim (contains-cases one run runs (Contains-permutation others (run ∷ runs) one same there)) [
    | inl e ↦ inl (rw e (here, is))
    | inr more ↦ inr (one, more, here, is)
  ]

-- where all runs are of entries after `told`, so is the entry of a covered block
pub covered-later : (told entry b : ℕ) (runs : List Freed) → All (λ run. told < run.entry) runs → IsCovered runs entry b → told < entry
covered-later told entry b runs later (one, there, here, is) = rw is at (All-contains (λ run. told < run.entry) runs one later there)
