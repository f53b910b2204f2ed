-- Edits once more: what they leave of blocks in use and of inode extents stays.
use Rattle.std.proofs.Common.{◌≡◌, ◌⊎◌, ◌<◌, ℕ, Bool, true, false, not, ◌&&◌, ◌||◌, inl, inr, List, [], ◌∷◌, length, get_or, set, refl, sym, ap, ◌∙◌, arith}
use Rattle.std.specs.Prelude.{Option, Some, None, if◌then◌else◌}
use Rattle.std.proofs.lemmas.Bool.{cases_eq}
use Rattle.std.proofs.lemmas.List.{length-set, get_or-set_same, get_or-set_other, ext_get_or}
use Rattle.jfs_bits.specs.Bits.{is_in_run}
use Rattle.jfs_bits.specs.declared.descriptor.Pxd.{Pxd}
use Rattle.jfs_ranges.specs.declared.edit.Edit.{Edit}
use Rattle.jfs_ranges.specs.declared.edit.Edit.TheVariants.{Lines, NoRedo, Alloc, Free}
use Rattle.jfs_redo_steps.specs.steps.specs.After.{is_extent, place_in, extents_after, used_after, with_run, without_run, four_from}
use Rattle.jfs_redo.proofs.Places.{extents-number, used-alone}

-- ---- blocks in use

-- edits decide of a block whether it is in use, or they pass it over
abbrev Decides : List Edit → ℕ → Type 0
Decides es b = ((t : Bool) × ((used : ℕ → Bool) → used_after es used b ≡ t)) ⊎ ((used : ℕ → Bool) → used_after es used b ≡ used b)

-- one edit before others
before : (es : List Edit) (b : ℕ) (step : (ℕ → Bool) → ℕ → Bool) → ((t : Bool) × ((used : ℕ → Bool) → step used b ≡ t)) ⊎ ((used : ℕ → Bool) → step used b ≡ used b) → Decides es b
    → ((t : Bool) × ((used : ℕ → Bool) → used_after es (step used) b ≡ t)) ⊎ ((used : ℕ → Bool) → used_after es (step used) b ≡ used b)
before es b step one (inl (t, all)) = inl (t, λ used. all (step used))
before es b step (inl (t, now)) (inr passed) = inl (t, λ used. passed (step used) ∙ now used)
before es b step (inr stays) (inr passed) = inr (λ used. passed (step used) ∙ stays used)

taken : (run : Pxd) (b : ℕ) → ((t : Bool) × ((used : ℕ → Bool) → with_run run used b ≡ t)) ⊎ ((used : ℕ → Bool) → with_run run used b ≡ used b)
taken run b = by (is_in_run run.addr run.len b)
  where
    by : (has : Bool) → ((t : Bool) × ((used : ℕ → Bool) → (has || used b) ≡ t)) ⊎ ((used : ℕ → Bool) → (has || used b) ≡ used b)
    by true = inl (true, λ used. refl)
    by false = inr (λ used. refl)

freed : (run : Pxd) (b : ℕ) → ((t : Bool) × ((used : ℕ → Bool) → without_run run used b ≡ t)) ⊎ ((used : ℕ → Bool) → without_run run used b ≡ used b)
freed run b = by (is_in_run run.addr run.len b)
  where
    by : (has : Bool) → ((t : Bool) × ((used : ℕ → Bool) → (not has && used b) ≡ t)) ⊎ ((used : ℕ → Bool) → (not has && used b) ≡ used b)
    by true = inl (false, λ used. refl)
    by false = inr (λ used. refl)

decides : (es : List Edit) (b : ℕ) → Decides es b
decides [] b = inr (λ used. refl)
decides (Lines page kind first bytes ∷ es) b = by (is_extent kind first bytes) (decides es b)
  where
    by : (t : Bool) → Decides es b → ((u : Bool) × ((used : ℕ → Bool) → used_after es (if t then with_run (four_from page) used else used) b ≡ u)) ⊎ ((used : ℕ → Bool) → used_after es (if t then with_run (four_from page) used else used) b ≡ used b)
    by true rest = before es b (with_run (four_from page)) (taken (four_from page) b) rest
    by false rest = rest
decides (NoRedo page ∷ es) b = decides es b
decides (Alloc run ∷ es) b = before es b (with_run run) (taken run b) (decides es b)
decides (Free run ∷ es) b = before es b (without_run run) (freed run b) (decides es b)

-- a block that is as it was, or as edits leave it, is left the same by them
pub used_again : (es : List Edit) (old left : ℕ → Bool) (b : ℕ) → (left b ≡ old b) ⊎ (left b ≡ used_after es old b) → used_after es left b ≡ used_after es old b
used_again es old left b (inl same) = used-alone es left old b same
used_again es old left b (inr is) = used-alone es left (used_after es old) b is ∙ elim (decides es b) [
  | inl (t, all) ↦ all (used_after es old) ∙ sym (all old)
  | inr passed ↦ passed (used_after es old)
]

-- ---- inode extents

abbrev DecidesPlace : List Edit → ℕ → Type 0
DecidesPlace es e =
    ((o : Option ℕ) × ((xs : List (Option ℕ)) → e < length xs → get_or (extents_after es xs) e None ≡ o))
    ⊎ ((xs : List (Option ℕ)) → e < length xs → get_or (extents_after es xs) e None ≡ get_or xs e None)

decides_place : (es : List Edit) (e : ℕ) → DecidesPlace es e
decides_place [] e = inr (λ xs low. refl)
decides_place (Lines page kind first bytes ∷ es) e = by (is_extent kind first bytes) (decides_place es e) (cases_eq e (place_in bytes))
  where
    at : ℕ
    at = place_in bytes

    long : (xs : List (Option ℕ)) → e < length xs → e < length (set xs at (Some page))
    long xs low = omega (arith, low, length-set xs at (Some page))

    by : (t : Bool) → DecidesPlace es e → (e ≡ at) ⊎ (e ≡ at → ⊥)
        → ((o : Option ℕ) × ((xs : List (Option ℕ)) → e < length xs → get_or (extents_after es (if t then set xs at (Some page) else xs)) e None ≡ o))
        ⊎ ((xs : List (Option ℕ)) → e < length xs → get_or (extents_after es (if t then set xs at (Some page) else xs)) e None ≡ get_or xs e None)
    by false rest place = rest
    by true (inl (o, all)) place = inl (o, λ xs low. all (set xs at (Some page)) (long xs low))
    by true (inr passed) (inl same) = inl (
      Some page,
      λ xs low. passed (set xs at (Some page)) (long xs low) ∙ ap (λ (k : ℕ). get_or (set xs at (Some page)) k None) same ∙ get_or-set_same xs at (Some page) None (omega (arith, low, same)),
    )
    by true (inr passed) (inr other) = inr (λ xs low. passed (set xs at (Some page)) (long xs low) ∙ get_or-set_other xs at e (Some page) None other)
decides_place (NoRedo page ∷ es) e = decides_place es e
decides_place (Alloc run ∷ es) e = decides_place es e
decides_place (Free run ∷ es) e = decides_place es e

-- extents that are as they were, or as edits leave them, are left the same by them
pub extents_again : (es : List Edit) (old left : List (Option ℕ)) → length left ≡ length old
    → ((e : ℕ) → e < length old → (get_or left e None ≡ get_or old e None) ⊎ (get_or left e None ≡ get_or (extents_after es old) e None)) → extents_after es left ≡ extents_after es old
extents_again es old left size each = ext_get_or None (extents_after es left) (extents_after es old) (extents-number es left ∙ size ∙ sym (extents-number es old)) (λ e h.
    let there : e < length left = omega (arith, h, extents-number es left) in
    let low : e < length old = omega (arith, there, size) in
    by e there low (each e low) (decides_place es e))
  where
    by : (e : ℕ) → e < length left → e < length old → (get_or left e None ≡ get_or old e None) ⊎ (get_or left e None ≡ get_or (extents_after es old) e None) → DecidesPlace es e → get_or (extents_after es left) e None ≡ get_or (extents_after es old) e None
    by e there low is (inl (o, all)) = all left there ∙ sym (all old low)
    by e there low (inl same) (inr passed) = passed left there ∙ same ∙ sym (passed old low)
    by e there low (inr is) (inr passed) = passed left there ∙ is
