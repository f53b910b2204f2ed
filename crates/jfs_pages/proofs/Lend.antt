-- A page that the cache lends.
use Rattle.std.proofs.Common.{◌≡◌, ℕ, List, [], ◌∷◌, map, Result, Ok, Err, IfOk, Bor, refl, ap, ◌∙◌}
use Rattle.std.specs.List.{range_with_len}
use Rattle.jfs_disk.specs.Image.{Image}
use Rattle.jfs_disk.specs.declared.disk.Fault.{Fault}
use Rattle.jfs_disk.specs.declared.disk.Part.TheVariants.{Low}
use Rattle.jfs_disk.specs.declared.page.Page.{Page}
use Rattle.jfs_ranges.specs.View.{CarriesCount}
use Rattle.jfs_ranges.specs.declared.view.ViewError.{ViewError}
use Rattle.jfs_ranges.specs.declared.view.ViewError.TheVariants.{Read, Memory}
use Rattle.jfs_pages.specs.declared.kept.Kept.{Kept}
use Rattle.jfs_pages.specs.Device.{HasReadFault}
use Rattle.jfs_pages.specs.Kept.{shown, image_in}

-- the same pages, one by one, are the same image
pub image-same : (blocks later : ℕ) (old new : Image) (kept kept_new : Kept) → later ≡ blocks → ((q : ℕ) → shown new kept_new q ≡ shown old kept q) → image_in later new kept_new ≡ image_in blocks old kept
image-same blocks later old new kept kept_new e same = ap (λ (n : ℕ). image_in n new kept_new) e ∙ each (range_with_len 0 blocks)
  where
    each : (xs : List ℕ) → map (λ n. shown new kept_new n) xs ≡ map (λ n. shown old kept n) xs
    each [] = refl
    each (x ∷ xs) = rw (same x, each xs) refl

-- the faults of the cache's disk, which is the low part
abbrev low_faults : ℕ → Fault
low_faults count = record { part = Low; count = count }

pub carries : {T : Type 0} (before now : ℕ) (result : Result T ViewError) → HasReadFault before now result → CarriesCount (low_faults before) (low_faults now) result
carries before now (Ok page) h = ap low_faults h
carries before now (Err (Read fault)) h = ((h.rose, refl), h.is)
carries before now (Err Memory) h = ap low_faults h

pub bytes-of : {E : Type 0} (result : Result (Bor Page) E) (tells : Type 0) (a b : List ℕ) → a ≡ b → IfOk result (λ page. tells → page.now.0 ≡ a) → IfOk result (λ page. tells → page.now.0 ≡ b)
bytes-of (Ok page) tells a b e h = λ t. h t ∙ e
bytes-of (Err error) tells a b e h = tt
