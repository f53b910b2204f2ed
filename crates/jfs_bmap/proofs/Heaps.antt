-- The run of the lowest entry stands first in a heap.
use Rattle.std.proofs.Common.{◌≡◌, ◌<◌, ◌≤◌, ℕ, false, inl, inr, List, [], ◌∷◌, arith}
use Rattle.std.specs.List.{All}
use Rattle.std.specs.Ordering.{is_lt}
use Rattle.std.specs.BinaryHeap.{IsUpperBound}
use Rattle.std.specs.declared.cmp.Reverse.{Reverse}
use Rattle.std.proofs.lemmas.Bool.{cases_lt, lt-ltb}
use Rattle.std.proofs.lemmas.List.Elements.{All-nil, All-cons}
use Rattle.jfs_bmap.specs.declared.freed.Freed.{Freed}
use Rattle.jfs_bmap.specs.Freed.{runs_in, compare}

-- a run that isn't below another in the heap's order has no later entry
not_below : (x y : Reverse Freed) → is_lt (compare x y) ≡ false → x.0.entry ≤ y.0.entry
not_below x y h = elim (cases_lt y.0.entry x.0.entry) [
  | inl l ↦ absurd (cc (rw (lt-ltb y.0.entry x.0.entry l) at h))
  | inr l ↦ l
]

-- where the first one's entry isn't acknowledged, none is
pub all-later : (told : ℕ) (x : Reverse Freed) (heap : List (Reverse Freed)) → told < x.0.entry → IsUpperBound compare x heap → All (λ run. told < run.entry) (runs_in heap)
all-later told x [] above h = All-nil (λ run. told < run.entry)
all-later told x (y ∷ heap) above h = All-cons (λ run. told < run.entry) y.0 (runs_in heap) (omega (arith, not_below x y h.0)) (all-later told x heap above h.1)
