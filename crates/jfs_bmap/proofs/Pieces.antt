-- The table of entries grows.
use Rattle.std.proofs.Common.{◌≡◌, ◌≤◌, ◌-◌, ◌/◌, ℕ, zero, suc, inl, inr, List, [], ◌∷◌, ◌++◌, length, get_or, take, replicate, refl, sym, ◌∙◌, arith}
use Rattle.std.proofs.lemmas.Bool.{cases_lt}
use Rattle.std.proofs.lemmas.List.{get_or_past, get_or-replicate, get_or_append_left, get_or-append_right, length-replicate, take_all}
use Rattle.jfs_bmap.specs.Freed.{entry_at}

-- one piece more
list-more : (pieces : List (List ℕ)) (k : ℕ) → get_or (pieces ++ [] ∷ []) k [] ≡ get_or pieces k []
list-more [] zero = refl
list-more [] (suc k) = refl
list-more (first ∷ pieces) zero = refl
list-more (first ∷ pieces) (suc k) = list-more pieces k

pub entry_at-more : (pieces : List (List ℕ)) (b : ℕ) → entry_at (pieces ++ [] ∷ []) b ≡ entry_at pieces b
entry_at-more pieces b = rw (list-more pieces (b / 8192)) refl

-- zeros behind what is there
zero-at : (n i : ℕ) → get_or {A = ℕ} (replicate n 0) i 0 ≡ 0
zero-at n i = elim (cases_lt i n) [ inl h ↦ get_or-replicate n i 0 0 h | inr h ↦ get_or_past (replicate n 0) i 0 (omega (arith, length-replicate {A = ℕ} n 0)) ]

pub filled-up : (entries : List ℕ) (size n i : ℕ) → length entries ≤ size → get_or (take size entries ++ replicate n 0) i 0 ≡ get_or entries i 0
filled-up entries size n i h = rw (take_all size entries h) (elim (cases_lt i (length entries)) [
  | inl l ↦ get_or_append_left entries (replicate n 0) 0 i l
  | inr l ↦ get_or-append_right entries (replicate n 0) (length entries) i 0 refl l ∙ zero-at n (i - length entries) ∙ sym (get_or_past entries i 0 l)
])
