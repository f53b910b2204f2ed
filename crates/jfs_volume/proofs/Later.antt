-- Pages that only later entries freed.
use Rattle.std.proofs.Common.{◌≡◌, ◌<◌, ◌≤◌, ◌⊎◌, ◌+◌, ℕ, inl, inr, List, [], ◌∷◌, ◌++◌, Some, slice_get, refl, ap, arith}
use Rattle.std.proofs.lemmas.Bool.{cases_lt, lt-ltb, le-ltb}
use Rattle.jfs_ranges.specs.declared.edit.Edit.{Edit}
use Rattle.jfs_halves.specs.declared.freed.FreedPage.{FreedPage}
use Rattle.jfs_volume.specs.Runs.{pages_freed}
use Rattle.jfs_volume.specs.Told.{AreLater, still_freed}
use Rattle.jfs_volume.proofs.Dropping.{item_at}
use Rattle.jfs_volume.proofs.Taken.{all_append, all_freed}

pub later_below : (k n : ℕ) (fs : List FreedPage) → k ≤ n → AreLater n fs → AreLater k fs
later_below k n [] few all = tt
later_below k n (f ∷ fs) few all = (let first = all.0 in omega (arith, few, first), later_below k n fs few all.1)

pub later_at : (n : ℕ) (fs : List FreedPage) (i : ℕ) (f : FreedPage) → AreLater n fs → slice_get fs i ≡ Some f → n < f.by_entry
later_at n fs i f all at = item_at (λ (g : FreedPage). n < g.by_entry) fs i f all at

-- what an entry frees is later than any count below its number
pub later_entered : (k n : ℕ) (fs : List FreedPage) (tx : List Edit) → k ≤ n → AreLater k fs → AreLater k (fs ++ pages_freed (n + 1) tx)
later_entered k n fs tx few all =
    all_append (λ (g : FreedPage). k < g.by_entry) fs (pages_freed (n + 1) tx) all (all_freed (λ (g : FreedPage). k < g.by_entry) (n + 1) tx (λ page freed. omega (arith, few)))

-- what is still kept is later
pub kept_later : (n : ℕ) (fs : List FreedPage) → AreLater n (still_freed n fs)
kept_later n [] = tt
kept_later n (f ∷ fs) = at (cases_lt n f.by_entry) (kept_later n fs)
  where
    at : (n < f.by_entry) ⊎ (f.by_entry ≤ n) → AreLater n (still_freed n fs) → AreLater n (still_freed n (f ∷ fs))
    at (inl h) rest = rw (lt-ltb n f.by_entry h) (h, rest)
    at (inr h) rest = rw (le-ltb n f.by_entry h) rest

-- where all are later, all stay
pub later_stay : (n : ℕ) (fs : List FreedPage) → AreLater n fs → still_freed n fs ≡ fs
later_stay n [] all = refl
later_stay n (f ∷ fs) all = rw (lt-ltb n f.by_entry all.0) (ap (λ (rest : List FreedPage). f ∷ rest) (later_stay n fs all.1))
