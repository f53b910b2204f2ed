-- The lowest dirty page comes first; and pages that went home, one after the other.
use Rattle.std.proofs.Common.{◌≡◌, ◌<◌, ◌≤◌, ◌⊎◌, ◌==◌, ℕ, suc, Bool, if◌then◌else◌, List, [], ◌∷◌, ◌++◌, length, slice_get, Option, Some, None, IsSome, refl, sym, ap, ◌∙◌, inl, inr, subst, arith}
use Rattle.std.proofs.lemmas.Bool.{cases_eq, cases_lt, eq-eqb, ne_eqb}
use Rattle.std.proofs.lemmas.List.{map-append, append-nil}
use Rattle.jfs_pages.specs.declared.dirty.Dirty.{Dirty}
use Rattle.jfs_pages.specs.Dirty.{dirty_of, IsDirty, IsRising, page_at}
use Rattle.jfs_disk.specs.declared.disk.Fault.{Fault}
use Rattle.jfs_halves.specs.Half.{VolumeHalf}
use Rattle.jfs_halves.specs.Parts.{Parts}
use Rattle.jfs_halves.specs.Change.{Change, GoesHome, Tears, Stops, after}
use Rattle.jfs_halves.specs.Moves.{Moves}
use Rattle.jfs_halves.proofs.Joined.{join}
use Rattle.jfs_volume.specs.Home.{FailsAt}
use Rattle.jfs_volume.specs.Settle.{go_home, StopsHome, stops, tears, KeepsCounts}

-- a dirty page has a place
place_of : (xs : List Dirty) (q : ℕ) → IsDirty xs q → (j : ℕ) × (j < length xs) × (page_at xs j ≡ q)
place_of [] q some = absurd (cc)
place_of (x ∷ xs) q some = at (cases_eq x.page q) (place_of xs q)
  where
    at : (x.page ≡ q) ⊎ ((x.page ≡ q) → ⊥) → (IsDirty xs q → (j : ℕ) × (j < length xs) × (page_at xs j ≡ q)) → (j : ℕ) × (j < length (x ∷ xs)) × (page_at (x ∷ xs) j ≡ q)
    at (inl e) rest = (0, omega arith, e)
    at (inr d) rest =
        let there : dirty_of (x ∷ xs) q ≡ dirty_of xs q = rw (ne_eqb x.page q d) refl in
        let w = rest (subst (λ (o : Option Dirty). IsSome o) there some) in
        (suc w.0, omega (arith, w.1), w.2)

-- nothing comes before the first one
pub first_is_lowest : (xs : List Dirty) (d : Dirty) (q : ℕ) → IsRising xs → slice_get xs 0 ≡ Some d → IsDirty xs q → d.page ≤ q
first_is_lowest [] d q rising e some = absurd (cc)
first_is_lowest (x ∷ xs) d q rising e some = at (place_of (x ∷ xs) q some)
  where
    page : x.page ≡ d.page
    page = let same : x ≡ d = cc in ap (λ (y : Dirty). y.page) same

    at : ((j : ℕ) × (j < length (x ∷ xs)) × (page_at (x ∷ xs) j ≡ q)) → d.page ≤ q
    at w = from (cases_lt 0 w.0)
      where
        from : (0 < w.0) ⊎ (w.0 ≤ 0) → d.page ≤ q
        from (inl h) = let low : x.page < page_at (x ∷ xs) w.0 = rising 0 w.0 h w.1 in omega (arith, low, w.2, page)
        from (inr h) = let zero_place : w.0 ≡ 0 = omega (arith, h) in let is : page_at (x ∷ xs) 0 ≡ q = subst (λ (k : ℕ). page_at (x ∷ xs) k ≡ q) zero_place w.2 in omega (arith, page, is)

pub none_first : (xs : List Dirty) (q : ℕ) → slice_get xs 0 ≡ None → dirty_of xs q ≡ None
none_first [] q e = refl
none_first (x ∷ xs) q e = absurd (cc)

-- one more page went home
pub homes_more : (seen asked : Bool) (old mid new : Parts) (half : VolumeHalf) (pages : List ℕ) (n : ℕ) → Moves seen asked old mid half (go_home pages) → Moves seen asked mid new (after half (go_home pages)) (GoesHome n ∷ [])
    → Moves seen asked old new half (go_home (pages ++ n ∷ []))
homes_more seen asked old mid new half pages n a b =
    subst (λ (list : List Change). Moves seen asked old new half list) (sym (map-append GoesHome pages (n ∷ []))) (join seen asked old mid new half (go_home pages) (GoesHome n ∷ []) a b)

pub homes_stop : (seen asked : Bool) (old mid new : Parts) (half : VolumeHalf) (pages : List ℕ) (n : ℕ) (fault : Fault) → Moves seen asked old mid half (go_home pages) → FailsAt seen asked n fault mid new (after half (go_home pages))
    → StopsHome seen asked old new half fault
homes_stop seen asked old mid new half pages n fault a (inl w) = record { pages = pages; last = Tears n w.0 fault; is = tears n w.0; moves = join seen asked old mid new half (go_home pages) (Tears n w.0 fault ∷ []) a w.1 }
homes_stop seen asked old mid new half pages n fault a (inr m) = record { pages = pages; last = Stops fault; is = stops; moves = join seen asked old mid new half (go_home pages) (Stops fault ∷ []) a m }

pub not_some : (o : Option Dirty) → o ≡ None → IsSome o → ⊥
not_some None e some = absurd (cc)
not_some (Some d) e some = absurd (cc)

pub lowest_gone : (old new : List Dirty) (d : Dirty) (n q : ℕ) → IsRising old → slice_get old 0 ≡ Some d → dirty_of old d.page ≡ Some d → dirty_of new q ≡ (if d.page == q then None else dirty_of old q) →
    ((m : ℕ) → IsDirty old m → n ≤ m) → IsDirty new q → n < q
lowest_gone old new d n q rising first found gone low some = at (cases_eq d.page q)
  where
    at : (d.page ≡ q) ⊎ ((d.page ≡ q) → ⊥) → n < q
    at (inl e) = absurd (not_some (dirty_of new q) (gone ∙ rw (eq-eqb d.page q e) refl) some)
    at (inr different) =
        let same : dirty_of new q ≡ dirty_of old q = gone ∙ rw (ne_eqb d.page q different) refl in
        let there : IsDirty old q = subst (λ (o : Option Dirty). IsSome o) same some in
        let upper : d.page ≤ q = first_is_lowest old d q rising first there in
        let lower : n ≤ d.page = low d.page (rw found refl) in
        strict upper lower (cases_lt d.page q)
      where
        strict : d.page ≤ q → n ≤ d.page → (d.page < q) ⊎ (q ≤ d.page) → n < q
        strict upper lower (inl h) = omega (arith, lower, h)
        strict upper lower (inr h) = absurd (different (omega (arith, upper, h)))

pub homes_on : (seen asked : Bool) (old mid new : Parts) (half : VolumeHalf) (pages : List ℕ) → Moves seen asked old mid half (go_home pages) →
    ((n : ℕ) × Moves seen asked mid new (after half (go_home pages)) (GoesHome n ∷ [])) ⊎ Moves seen asked mid new (after half (go_home pages)) [] → (more : List ℕ) × Moves seen asked old new half (go_home more)
homes_on seen asked old mid new half pages a (inl w) = (pages ++ w.0 ∷ [], homes_more seen asked old mid new half pages w.0 a w.1)
homes_on seen asked old mid new half pages a (inr m) =
    (pages, subst (λ (list : List Change). Moves seen asked old new half list) (append-nil (go_home pages)) (join seen asked old mid new half (go_home pages) [] a m))

pub never_dirty : (xs : List Dirty) (n : ℕ) → ((q : ℕ) → IsDirty xs q → n ≤ q) → ((q : ℕ) → IsDirty xs q → q < n) → (q : ℕ) → dirty_of xs q ≡ None
never_dirty xs n above below q = at (dirty_of xs q) refl
  where
    at : (o : Option Dirty) → dirty_of xs q ≡ o → dirty_of xs q ≡ None
    at None e = e
    at (Some d) e = let some : IsDirty xs q = rw e refl in absurd (omega (arith, above q some, below q some))

pub counts_join : (old mid new : Parts) → KeepsCounts old mid → KeepsCounts mid new → KeepsCounts old new
counts_join old mid new a b = record {
  blocks = b.blocks ∙ a.blocks;
  appended = b.appended ∙ a.appended;
  taken = b.taken ∙ a.taken;
  told = b.told ∙ a.told;
  points = b.points ∙ a.points;
  count = b.count ∙ a.count;
  room = b.room ∙ a.room;
  text = b.text ∙ a.text;
}
