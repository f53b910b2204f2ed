-- Changes beside entries and beside the writes of the maps' pages: they dirty no page, and leave the maps' pages as dirty as they were.
use Rattle.std.specs.Prelude.{◌≡◌, ℕ, true, false, List, [], ◌∷◌, None, IsSome}
use Rattle.jfs_joined_held.specs.held.specs.survival.specs.face.specs.Places.{Places, is_map_page}
use Rattle.jfs_joined_held.specs.held.specs.survival.specs.recovery.specs.Core.{Core, count, image}
use Rattle.jfs_joined_held.specs.held.specs.Changes.{Made, after, AllMay}
use Rattle.jfs_joined_held.specs.held.specs.Held.{Mount, Held, IsHeld}
use Rattle.jfs_joined_held.specs.Held.{IsHeldAs}
use Rattle.jfs_joined_held.specs.volume.specs.data_steps.specs.objects.specs.Volume.{Volume}
use Rattle.jfs_joined_held.specs.volume.specs.halves.specs.Both.{BothChange, Changes}
use Rattle.jfs_joined_held.specs.volume.specs.halves.specs.Change.{Change, Enters, Writes, after as after_changes}
use Rattle.jfs_joined_held.specs.volume.specs.halves.specs.Half.{VolumeHalf, Halves, block_in}
use Rattle.jfs_joined_held.specs.volume.specs.halves.specs.Parts.{Parts}
use Rattle.jfs_pages_held.specs.Pages.{PagesKept}

-- The newest image stays, and so does which pages of the maps are dirty.
pub record MarksStay (pl : Places) (old new : Core) : Type 0 where
  pub image_is : image new (count new) ≡ image old (count old)
  pub marks : (q : ℕ) → is_map_page pl q ≡ true → (new.slots q).block.dirty ≡ (old.slots q).block.dirty

-- a page that is dirty was so
abbrev pub DirtyStays : VolumeHalf → VolumeHalf → Type 0
DirtyStays old new = (q : ℕ) → IsSome (block_in new q).dirty → IsSome (block_in old q).dirty

-- ---- changes

-- no entry joins
abbrev pub IsNoEntry : Change → Type 0
IsNoEntry (Enters h) = ⊥
IsNoEntry c = Unit {0}

abbrev pub NoEntries : List Change → Type 0
NoEntries [] = Unit {0}
NoEntries (c ∷ cs) = IsNoEntry c × NoEntries cs

-- nor is a page of a map written
abbrev pub IsBeside : Places → BothChange → Type 0
IsBeside pl (Changes (Enters h)) = ⊥
IsBeside pl (Changes (Writes p bytes)) = is_map_page pl p ≡ false
IsBeside pl c = Unit {0}

abbrev pub AreBeside : Places → List Made → Type 0
AreBeside pl [] = Unit {0}
AreBeside pl (d ∷ ds) = IsBeside pl d.change × AreBeside pl ds

-- Without entries no page gets dirty.
abbrev pub DirtyLaw : Type 0
DirtyLaw = (half : VolumeHalf) (list : List Change) → NoEntries list → DirtyStays half (after_changes half list)

-- Such changes leave the marks of both maps.
abbrev pub BesideLaw : Type 0
BesideLaw = (m : Mount) (x : Held) (ds : List Made) → IsHeld m x → AllMay m x ds → AreBeside m.places ds → MarksStay m.places x.core (after m x ds).core × DirtyStays x.both.volume (after m x ds).both.volume

-- ---- parts

-- The files of the maps, the inode map and the size of a group stay, and what has halted stays so.
pub record KeepsFiles (old new : Parts) : Type 0 where
  pub files : new.files ≡ old.files
  pub agsize : new.map.agsize ≡ old.map.agsize
  pub inodes : new.inodes ≡ old.inodes
  pub halted : new.halted ≡ None → old.halted ≡ None

-- So the pages are kept as they were.
abbrev pub StayLaw : Type 0
StayLaw = (m : Mount) (area : ℕ → ℕ) (old new : Parts) (both later : Halves) (core more : Core) (volumes others : ℕ → Volume) → IsHeldAs m area old both core volumes → IsHeldAs m area new later more others
    → KeepsFiles old new → MarksStay m.places core more → DirtyStays both.volume later.volume → PagesKept m area old both core → PagesKept m area new later more
