-- What an acknowledgement changes.
use Rattle.std.specs.Prelude.{◌≡◌, ◌<◌, ◌≤◌, ◌⊎◌, ◌∷◌, [], ℕ, nat_lt, Bool, List, map, Option, None, IsSome}
use Rattle.std.specs.List.{AllByRecursion, filter}
use Rattle.jfs_pages.specs.declared.dirty.Dirty.{Dirty}
use Rattle.jfs_pages.specs.Dirty.{last_of}
use Rattle.jfs_halves.specs.declared.freed.FreedPage.{FreedPage}
use Rattle.jfs_halves.specs.Half.{VolumeHalf}
use Rattle.jfs_halves.specs.Parts.{Parts}
use Rattle.jfs_halves.specs.Change.{Change, Tells, Drops}
use Rattle.jfs_halves.specs.Moves.{Moves}

abbrev pub drops : List ℕ → List Change
drops pages = map Drops pages

-- the first n entries are acknowledged, and pages that they freed are dropped
abbrev pub IsTold : (seen asked : Bool) → ℕ → Parts → Parts → VolumeHalf → Type 0
IsTold seen asked n old new half = (pages : List ℕ) × Moves seen asked old new half (Tells n ∷ drops pages)

-- a page that an entry freed is dirty still, and no later entry changed it
abbrev pub MayBeDropped : FreedPage → Option Dirty → Type 0
MayBeDropped freed dirty = IsSome dirty × (last_of dirty ≤ freed.by_entry)

-- it is dropped, or stays as it was
abbrev pub IsDropped : (seen asked : Bool) → ℕ → Parts → Parts → VolumeHalf → Type 0
IsDropped seen asked p old new half = Moves seen asked old new half [] ⊎ Moves seen asked old new half (Drops p ∷ [])

-- pages are dropped, one after the other
abbrev pub AreDropped : (seen asked : Bool) → Parts → Parts → VolumeHalf → Type 0
AreDropped seen asked old new half = (pages : List ℕ) × Moves seen asked old new half (drops pages)

-- a page isn't dirty any more, or as it was
abbrev pub StaysOrGoes : Option Dirty → Option Dirty → Type 0
StaysOrGoes old new = (new ≡ old) ⊎ (new ≡ None)

-- pages that only entries past the first n freed
abbrev pub AreLater : ℕ → List FreedPage → Type 0
AreLater n freed = AllByRecursion (λ (f : FreedPage). n < f.by_entry) freed

-- pages whose entries aren't acknowledged
abbrev pub still_freed : ℕ → List FreedPage → List FreedPage
still_freed n freed = filter (λ f. nat_lt n f.by_entry) freed
