-- Pages that are dropped, one after the other.
use Rattle.std.proofs.Common.{◌≡◌, ◌<◌, ◌≤◌, ◌⊎◌, ◌+◌, ℕ, zero, suc, Bool, true, false, ◌==◌, ◌||◌, set, List, [], ◌∷◌, ◌++◌, length, Option, Some, None, slice_get, refl, sym, subst, inl, inr, arith}
use Rattle.std.proofs.lemmas.Bool.{cases_lt, eqb-false}
use Rattle.std.proofs.lemmas.List.{map-append, get_or-set_other}
use Rattle.std.specs.List.{AllByRecursion}
use Rattle.jfs_pages.specs.declared.dirty.Dirty.{Dirty}
use Rattle.jfs_pages.specs.Dirty.{dirty_of}
use Rattle.jfs_halves.specs.declared.freed.FreedPage.{FreedPage}
use Rattle.jfs_halves.specs.Half.{VolumeHalf}
use Rattle.jfs_halves.specs.Parts.{Parts, StandsFor, IsFreed}
use Rattle.jfs_halves.specs.Change.{Change, Tells, Drops, after}
use Rattle.jfs_halves.specs.Moves.{Moves}
use Rattle.jfs_halves.proofs.Joined.{join}
use Rattle.jfs_disk.specs.Image.{Image, page_of}
use Rattle.jfs_pages.specs.Kept.{image_in}
use Rattle.jfs_pages.specs.declared.kept.Kept.{Kept}
use Rattle.jfs_volume.specs.Settles.{is_freed}
use Rattle.jfs_volume.specs.Told.{drops, IsTold, IsDropped, AreDropped, MayBeDropped, StaysOrGoes}

or_left : (a b : Bool) → (a || b) ≡ false → a ≡ false
or_left true b h = cc (h)
or_left false b h = refl

or_right : (a b : Bool) → (a || b) ≡ false → b ≡ false
or_right true b h = absurd (cc (h))
or_right false b h = h

pub item_at : {A : Type 0} (P : A → Type 0) (xs : List A) (i : ℕ) (x : A) → AllByRecursion P xs → slice_get xs i ≡ Some x → P x
item_at P [] i x all e = absurd (cc)
item_at P (y ∷ xs) zero x all e = let same : y ≡ x = cc in subst P same all.0
item_at P (y ∷ xs) (suc i) x all e = item_at P xs i x all.1 e

-- what is freed at a place is freed, as the parts stand for a half
pub freed_in : (seen asked : Bool) (p : Parts) (half : VolumeHalf) (i : ℕ) (f : FreedPage) → StandsFor seen asked p half → slice_get p.freed i ≡ Some f → IsFreed half.history f
freed_in seen asked p half i f s e = item_at (IsFreed half.history) p.freed i f s.freed e

pub one_dropped : (seen asked : Bool) (p q : Parts) (half : VolumeHalf) (n : ℕ) → IsDropped seen asked n p q half → AreDropped seen asked p q half
one_dropped seen asked p q half n (inl m) = ([], m)
one_dropped seen asked p q half n (inr m) = (n ∷ [], m)

pub dropped_more : (seen asked : Bool) (old mid new : Parts) (half : VolumeHalf) (n : ℕ) (pages : List ℕ) → Moves seen asked old mid half (Tells n ∷ drops pages) → AreDropped seen asked mid new (after half (Tells n ∷ drops pages)) → IsTold seen asked n old new half
dropped_more seen asked old mid new half n pages a b =
    (pages ++ b.0, subst (λ (list : List Change). Moves seen asked old new half (Tells n ∷ list)) (sym (map-append Drops pages b.0)) (join seen asked old mid new half (Tells n ∷ drops pages) (drops b.0) a b.1))

-- a page that may not be dropped may not be dropped later
stays_so : (f : FreedPage) (old new : Option Dirty) → StaysOrGoes old new → (MayBeDropped f old → ⊥) → MayBeDropped f new → ⊥
stays_so f old new (inl e) kept may = kept (subst (λ (d : Option Dirty). MayBeDropped f d) e may)
stays_so f old None (inr e) kept may = let some = may.0 in absurd (cc)
stays_so f old (Some d) (inr e) kept may = absurd (cc)

pub stays_undropped : (freed : List FreedPage) (mid new : Parts) (n i j : ℕ) (f : FreedPage) →
    ((k : ℕ) (g : FreedPage) → k < i → slice_get freed k ≡ Some g → g.by_entry ≤ n → MayBeDropped g (dirty_of mid.dirty g.page) → ⊥) → ((q : ℕ) → StaysOrGoes (dirty_of mid.dirty q) (dirty_of new.dirty q)) →
    (slice_get freed i ≡ Some f → MayBeDropped f (dirty_of new.dirty f.page) → ⊥) → j < i + 1 → slice_get freed j ≡ Some f → f.by_entry ≤ n → MayBeDropped f (dirty_of new.dirty f.page) → ⊥
stays_undropped freed mid new n i j f before others gone h at early may = from (cases_lt j i)
  where
    from : (j < i) ⊎ (i ≤ j) → ⊥
    from (inl low) = stays_so f (dirty_of mid.dirty f.page) (dirty_of new.dirty f.page) (others f.page) (before j f low at early) may
    from (inr high) = let same : j ≡ i = omega (arith, h, high) in gone (subst (λ (k : ℕ). slice_get freed k ≡ Some f) same at) may

pub place_of : {A : Type 0} (xs : List A) (i : ℕ) (x : A) → slice_get xs i ≡ Some x → i < length xs
place_of [] i x e = absurd (cc)
place_of (y ∷ xs) zero x e = omega arith
place_of (y ∷ xs) (suc i) x e = let rest = place_of xs i x e in omega (arith, rest)

-- ---- pages that stay

-- a page that no entry freed is none of those that stand in the list
pub not_freed : (freed : List FreedPage) (i : ℕ) (f : FreedPage) (q : ℕ) → slice_get freed i ≡ Some f → is_freed freed q ≡ false → (f.page == q) ≡ false
not_freed [] i f q at none = absurd (cc (at))
not_freed (g ∷ gs) zero f q at none = let same : g ≡ f = cc (at) in subst (λ (h : FreedPage). (h.page == q) ≡ false) same (or_left (g.page == q) (is_freed gs q) none)
not_freed (g ∷ gs) (suc i) f q at none = not_freed gs i f q at (or_right (g.page == q) (is_freed gs q) none)

-- another page than the one that is set
pub other_page : (blocks : ℕ) (image : Image) (kept : Kept) (n q : ℕ) (bytes : List ℕ) → (n == q) ≡ false → page_of (set (image_in blocks image kept) n bytes) q ≡ page_of (image_in blocks image kept) q
other_page blocks image kept n q bytes other = get_or-set_other (image_in blocks image kept) n q bytes [] (λ same. eqb-false n q other (sym same))
