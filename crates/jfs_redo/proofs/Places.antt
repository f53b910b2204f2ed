-- Inode extents and blocks in use after edits.
use Rattle.std.proofs.Common.{◌≡◌, ◌≤◌, ◌+◌, ℕ, Bool, true, false, not, ◌&&◌, ◌||◌, inl, inr, List, [], ◌∷◌, length, get_or, set, refl, sym, ap, ◌∙◌, arith}
use Rattle.std.specs.Prelude.{Option, Some, None, if◌then◌else◌}
use Rattle.std.proofs.lemmas.Bool.{cases_eq, cases_lt}
use Rattle.std.proofs.lemmas.List.{length-set, get_or-set_same, get_or-set_other, set_past}
use Rattle.std.proofs.lemmas.Option.{same_Some}
use Rattle.jfs_bits.specs.Bits.{is_in_run}
use Rattle.jfs_ranges.specs.declared.edit.Edit.{Edit}
use Rattle.jfs_ranges.specs.declared.edit.Edit.TheVariants.{Lines, NoRedo, Alloc, Free}
use Rattle.jfs_redo_steps.specs.each.specs.Each.{AllFit}
use Rattle.jfs_redo_steps.specs.steps.specs.After.{is_extent, place_in, extents_after, used_after, with_run, four_from}
use Rattle.jfs_redo.specs.Log.{ExtentsLieWithin}

-- ---- inode extents

pub extents-number : (es : List Edit) (extents : List (Option ℕ)) → length (extents_after es extents) ≡ length extents
extents-number [] extents = refl
extents-number (Lines page kind first bytes ∷ es) extents = extents-number es _ ∙ one (is_extent kind first bytes)
  where
    one : (t : Bool) → length (if t then set extents (place_in bytes) (Some page) else extents) ≡ length extents
    one true = length-set extents (place_in bytes) (Some page)
    one false = refl
extents-number (NoRedo page ∷ es) extents = extents-number es extents
extents-number (Alloc run ∷ es) extents = extents-number es extents
extents-number (Free run ∷ es) extents = extents-number es extents

-- a place that is set to an extent within the volume
fits-set : (blocks e page : ℕ) (extents : List (Option ℕ)) → page + 4 ≤ blocks → AllFit blocks extents → AllFit blocks (set extents e (Some page))
fits-set blocks e page extents lies fit k first is = elim (cases_lt e (length extents)) [
  | inl low ↦ elim (cases_eq k e) [
    | inl same ↦ let at = rw same at is in omega (arith, lies, same_Some page first (sym (get_or-set_same extents e (Some page) None low) ∙ at))
    | inr other ↦ fit k first (sym (get_or-set_other extents e k (Some page) None other) ∙ is)
  ]
  | inr high ↦ fit k first (sym (ap (λ (xs : List (Option ℕ)). get_or xs k None) (set_past extents e (Some page) high)) ∙ is)
]

pub places-fit : (blocks : ℕ) (es : List Edit) (extents : List (Option ℕ)) → ExtentsLieWithin blocks es → AllFit blocks extents → AllFit blocks (extents_after es extents)
places-fit blocks [] extents lie fit = fit
places-fit blocks (Lines page kind first bytes ∷ es) extents lie fit = places-fit blocks es _ lie.1 (one (is_extent kind first bytes) lie.0)
  where
    one : (t : Bool) → (t ≡ true → page + 4 ≤ blocks) → AllFit blocks (if t then set extents (place_in bytes) (Some page) else extents)
    one true within = fits-set blocks (place_in bytes) page extents (within refl) fit
    one false within = fit
places-fit blocks (NoRedo page ∷ es) extents lie fit = places-fit blocks es extents lie.1 fit
places-fit blocks (Alloc run ∷ es) extents lie fit = places-fit blocks es extents lie.1 fit
places-fit blocks (Free run ∷ es) extents lie fit = places-fit blocks es extents lie.1 fit

-- ---- blocks in use

-- whether a block is in use after edits depends on that block alone
pub used-alone : (es : List Edit) (one other : ℕ → Bool) (b : ℕ) → one b ≡ other b → used_after es one b ≡ used_after es other b
used-alone [] one other b same = same
used-alone (Lines page kind first bytes ∷ es) one other b same = used-alone es _ _ b (by_kind (is_extent kind first bytes))
  where
    by_kind : (t : Bool) → (if t then with_run (four_from page) one else one) b ≡ (if t then with_run (four_from page) other else other) b
    by_kind true = ap (λ (t : Bool). is_in_run page 4 b || t) same
    by_kind false = same
used-alone (NoRedo page ∷ es) one other b same = used-alone es one other b same
used-alone (Alloc run ∷ es) one other b same = used-alone es _ _ b (ap (λ (t : Bool). is_in_run run.addr run.len b || t) same)
used-alone (Free run ∷ es) one other b same = used-alone es _ _ b (ap (λ (t : Bool). not (is_in_run run.addr run.len b) && t) same)
