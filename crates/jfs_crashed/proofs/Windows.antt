-- Lists of transactions none of which has a line of a page, and of inode extents none of which has a block.
use Rattle.std.proofs.Common.{◌≡◌, ◌⊎◌, inl, inr, ◌<◌, ◌≤◌, ◌+◌, ◌||◌, ℕ, zero, suc, Bool, true, false, true≢false, List, [], ◌∷◌, ◌++◌, map, take, drop, get_or, refl, ap, ◌∙◌, arith}
use Rattle.std.specs.Prelude.{Option}
use Rattle.std.proofs.lemmas.Bool.{cases_eq}
use Rattle.std.specs.List.{AllByRecursion, range_with_len}
use Rattle.jfs_ranges.specs.declared.edit.Edit.{Edit}
use Rattle.jfs_ranges.specs.Apply.{touches_edit, touches_tx}
use Rattle.jfs_recovery.specs.records.specs.Redo.{all_of}
use Rattle.jfs_recovery.specs.objects.specs.Owners.{extent_has, extents_have}
use Rattle.jfs_recovery.specs.Core.{Core, Done, nothing, entry}
use Rattle.jfs_recovery.specs.Sound.{window}

-- ---- transactions

abbrev IsOff : ℕ → List Edit → Type 0
IsOff p tx = touches_tx p tx ≡ false

clear_append : (p : ℕ) (es more : List Edit) → IsOff p es → IsOff p more → IsOff p (es ++ more)
clear_append p [] more h k = k
clear_append p (e ∷ es) more h k = at (touches_edit p e) h (clear_append p es more)
  where
    at : (t : Bool) → (t || touches_tx p es) ≡ false → (IsOff p es → IsOff p more → IsOff p (es ++ more)) → (t || touches_tx p (es ++ more)) ≡ false
    at true is rest = absurd (true≢false is)
    at false is rest = rest is k

clear_all : (p : ℕ) (txs : List (List Edit)) → AllByRecursion (IsOff p) txs → IsOff p (all_of txs)
clear_all p [] h = refl
clear_all p (tx ∷ txs) h = clear_append p tx (all_of txs) h.0 (clear_all p txs h.1)

of_history : (p : ℕ) (hs : List Done) → ((k : ℕ) → IsOff p (get_or hs k nothing).tx) → AllByRecursion (IsOff p) (map (λ d. d.tx) hs)
of_history p [] h = tt
of_history p (d ∷ hs) h = (h zero, of_history p hs (λ k. h (suc k)))

of_take : (p n : ℕ) (txs : List (List Edit)) → AllByRecursion (IsOff p) txs → AllByRecursion (IsOff p) (take n txs)
of_take p zero txs h = tt
of_take p (suc n) [] h = tt
of_take p (suc n) (tx ∷ txs) h = (h.0, of_take p n txs h.1)

of_drop : (p n : ℕ) (txs : List (List Edit)) → AllByRecursion (IsOff p) txs → AllByRecursion (IsOff p) (drop n txs)
of_drop p zero txs h = h
of_drop p (suc n) [] h = tt
of_drop p (suc n) (tx ∷ txs) h = of_drop p n txs h.1

-- a log image has none of a page of which no entry has one
pub window_clear : (core : Core) (c n p : ℕ) → ((k : ℕ) → touches_tx p (entry core k) ≡ false) → touches_tx p (all_of (window core c n)) ≡ false
window_clear core c n p h = clear_all p (window core c n) (of_drop p c (take n (map (λ d. d.tx) core.history)) (of_take p n (map (λ d. d.tx) core.history) (of_history p core.history h)))

-- ---- inode extents

pub have_none : (f : ℕ → Option ℕ) (b n a : ℕ) → ((e : ℕ) → e < a + n → extent_has (f e) b ≡ 0) → extents_have (map f (range_with_len a n)) b ≡ 0
have_none f b zero a h = refl
have_none f b (suc n) a h = let first = h a (omega arith) in let rest = have_none f b n (a + 1) (λ e low. h e (omega (arith, low))) in omega (arith, first, rest)

pub has_none : (f : ℕ → Option ℕ) (b n a e : ℕ) → extents_have (map f (range_with_len a n)) b ≡ 0 → a ≤ e → e < a + n → extent_has (f e) b ≡ 0
has_none f b zero a e none low high = absurd (omega (arith, low, high))
has_none f b (suc n) a e none low high = at (cases_eq e a) (λ past. has_none f b n (a + 1) e (omega (arith, none)) past (omega (arith, high)))
  where
    at : (e ≡ a) ⊎ (e ≡ a → ⊥) → (a + 1 ≤ e → extent_has (f e) b ≡ 0) → extent_has (f e) b ≡ 0
    at (inl same) rest = ap (λ (k : ℕ). extent_has (f k) b) same ∙ omega (arith, none)
    at (inr other) rest = rest (omega (arith, low, other))
