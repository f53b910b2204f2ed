-- A view's device that stays tells that the view holds the same loan of the same cache.
use Rattle.std.proofs.Common.{◌≡◌, ◌⊎◌, inl, inr, refl, sym, ap, ◌∙◌, ℕ, List, [], ◌∷◌, map, get_or, Err}
use Rattle.jfs_disk.specs.Image.{Image}
use Rattle.jfs_disk.specs.Crash.{PageHistory, no_page}
use Rattle.jfs_disk.specs.declared.disk.Disk.{Ghosts}
use Rattle.jfs_disk.specs.declared.disk.Fault.{Fault}
use Rattle.jfs_ranges.specs.declared.view.ViewError.{ViewError}
use Rattle.jfs_ranges.specs.declared.view.ViewError.TheVariants.{Read, Memory}
use Rattle.jfs_ranges.specs.View.{Device, Pending, CarriesCount}
use Rattle.jfs_pages.specs.declared.cache.PageCache.{PageCache}
use Rattle.jfs_pages.specs.declared.dirty.Dirty.{Dirty}
use Rattle.jfs_pages.specs.Kept.{dirty_in, image_in, pending_of}
use Rattle.jfs_volume.specs.Asked.{LeavesCache}
use Rattle.jfs_volume.specs.Lent.{held_as, lent}

-- an error carries its count, whatever was wanted
pub carries_on : (S T : Type 0) (before now : Fault) (error : ViewError) → CarriesCount {T = S} before now (Err error) → CarriesCount {T = T} before now (Err error)
carries_on S T before now (Read fault) h = h
carries_on S T before now Memory h = h

abbrev told_at : {crashes : Type 0} → ℕ → Device (Unit {0} ⊎ crashes) → ℕ
told_at k device = get_or (get_or (get_or (device.states (inl tt)) 0 []) 0 no_page).seen k 0

seen_back : (image : Image) → map (λ (page : PageHistory). page.seen) (map held_as image) ≡ image
seen_back [] = refl
seen_back (bytes ∷ image) = ap (λ (rest : Image). bytes ∷ rest) (seen_back image)

abbrev dirty_from : Pending → Dirty
dirty_from p = record { page = p.page; first = p.first; last = p.last }

dirty_back : (xs : List Dirty) → map dirty_from (map pending_of xs) ≡ xs
dirty_back [] = refl
dirty_back (x ∷ xs) = ap (λ (rest : List Dirty). x ∷ rest) (dirty_back xs)

module _ {D : Type 0} (d : Ghosts D) (old new : PageCache D d) (loan loan_new : ℕ) (same : lent d new loan_new ≡ lent d old loan) where
  pub same_loan : loan_new ≡ loan
  same_loan = ap (told_at 0) same

  pub leaves_cache : (d.tells → image_in new.blocks (d.image new.disk) new.kept ≡ image_in old.blocks (d.image old.disk) old.kept) → LeavesCache d old new
  leaves_cache image = record {
    blocks = ap (told_at 1) same;
    image = image;
    dirty = sym (dirty_back (dirty_in new.kept)) ∙ ap (λ (device : Device (Unit {0} ⊎ (d.tells ⊎ d.tells_crashes))). map dirty_from device.pending) same ∙ dirty_back (dirty_in old.kept);
    count = ap (λ (device : Device (Unit {0} ⊎ (d.tells ⊎ d.tells_crashes))). device.pages) same;
    room = ap (λ (device : Device (Unit {0} ⊎ (d.tells ⊎ d.tells_crashes))). device.room) same;
    disk = record {
      image = λ t. sym (seen_back (d.image new.disk)) ∙ ap (λ (device : Device (Unit {0} ⊎ (d.tells ⊎ d.tells_crashes))). map (λ (page : PageHistory). page.seen) (get_or (device.states (inr (inl t))) 0 [])) same ∙ seen_back (d.image old.disk);
      states = λ k. ap (λ (device : Device (Unit {0} ⊎ (d.tells ⊎ d.tells_crashes))). device.states (inr (inr k))) same;
    };
  }
