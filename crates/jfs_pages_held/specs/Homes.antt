-- Pages of the maps go home; and so may each dirty page, once all entries are acknowledged.
use Rattle.std.specs.Prelude.{◌≡◌, ℕ, true, false, List, [], ◌∷◌, length, map, slice_get, Some, None, IsSome}
use Rattle.jfs_bits.specs.Field.{AreBytes}
use Rattle.jfs_disk.specs.declared.disk.Fault.{Fault}
use Rattle.jfs_joined_held.specs.held.specs.survival.specs.Played.{IsMapHome}
use Rattle.jfs_joined_held.specs.held.specs.survival.specs.face.specs.Places.{Places, is_map_page}
use Rattle.jfs_joined_held.specs.held.specs.survival.specs.recovery.specs.Core.{Core}
use Rattle.jfs_joined_held.specs.held.specs.Changes.{MayLeave, MayChange, leaving, after, AllMay}
use Rattle.jfs_joined_held.specs.held.specs.Held.{Mount, Held, IsHeld, face_at, newest_image}
use Rattle.jfs_joined_held.specs.Held.{IsHeldAs}
use Rattle.jfs_joined_held.specs.volume.specs.Written.{writes}
use Rattle.jfs_joined_held.specs.volume.specs.bmap.specs.MapFile.{is_in_use, IsMapPage}
use Rattle.jfs_joined_held.specs.volume.specs.bmap.specs.States.{is_owned}
use Rattle.jfs_joined_held.specs.volume.specs.data_steps.specs.After.{is_put, EachOnce}
use Rattle.jfs_joined_held.specs.volume.specs.data_steps.specs.declared.pages.DataPage.{DataPage}
use Rattle.jfs_joined_held.specs.volume.specs.data_steps.specs.objects.specs.Volume.{Volume}
use Rattle.jfs_joined_held.specs.volume.specs.halves.specs.Both.{BothChange, Changes, FitAll}
use Rattle.jfs_joined_held.specs.volume.specs.halves.specs.Change.{WriteTears}
use Rattle.jfs_joined_held.specs.volume.specs.halves.specs.Half.{Halves, block_in}
use Rattle.jfs_joined_held.specs.volume.specs.halves.specs.Parts.{Parts}
use Rattle.jfs_joined_held.specs.volume.specs.map_files.specs.imap.specs.Inodes.{IsInodePage}
use Rattle.jfs_pages_held.specs.Pages.{HasHomes, PagesKept}

-- ---- dirty pages

-- all entries are acknowledged
abbrev pub AllTold : Halves → Type 0
AllTold both = both.volume.told ≡ length both.volume.history

-- So each dirty page may go home.
abbrev pub LeaveLaw : Type 0
LeaveLaw = (m : Mount) (x : Held) (q : ℕ) → AllTold x.both → HasHomes m.readers x.both.volume x.volume → IsSome (block_in x.both.volume q).dirty → MayLeave m x q

-- ---- pages of the maps

-- The block is the place of a page of a map that has changed, and these are its bytes, in their canonical form for the map in memory.
pub data IsStalePage (p : Parts) (b : ℕ) (bytes : List ℕ) : Type 0 where
  of_blocks : (k : ℕ) → p.files.blocks.stale ≡ true → is_in_use (length p.map.states) k ≡ true → slice_get p.files.blocks.places k ≡ Some b → IsMapPage (length p.map.states) p.map.agsize (is_owned p.map) k bytes → IsStalePage p b bytes
  of_inodes : (k : ℕ) → p.files.inodes.stale ≡ true → slice_get p.files.inodes.places k ≡ Some b → IsInodePage p.inodes k bytes → IsStalePage p b bytes

pub record IsStaleBytes (p : Parts) (d : DataPage) : Type 0 where
  pub is : IsStalePage p d.block d.page.0
  pub bytes : AreBytes d.page.0
  pub size : length d.page.0 ≡ 4096

-- While the volume runs and all is acknowledged, it is the page that the core has to write there.
abbrev pub MapHomeLaw : Type 0
MapHomeLaw = (m : Mount) (area : ℕ → ℕ) (p : Parts) (both : Halves) (core : Core) (volumes : ℕ → Volume) (d : DataPage) → IsHeldAs m area p both core volumes → PagesKept m area p both core → p.halted ≡ None → AllTold both
    → IsStaleBytes p d → IsMapHome (face_at m) core d.block d.page.0

-- ---- one after the other

-- the changes that write pages
abbrev pub homing : List DataPage → List BothChange
homing ds = map Changes (writes ds)

abbrev pub AreMapHomes : Mount → Core → List DataPage → Type 0
AreMapHomes m core [] = Unit {0}
AreMapHomes m core (d ∷ ds) = IsMapHome (face_at m) core d.block d.page.0 × AreMapHomes m core ds

-- Such pages may be written, one after the other, each once. Those that were aren't dirty any more; the others are as they were.
pub record GoesHomeAlong (m : Mount) (x : Held) (ds : List DataPage) : Type 0 where
  pub may : AllMay m x (leaving x.volume (homing ds))
  pub image_is : newest_image (after m x (leaving x.volume (homing ds))) ≡ newest_image x
  pub gone : (q : ℕ) → is_put q ds ≡ true → ((after m x (leaving x.volume (homing ds))).core.slots q).block.dirty ≡ None
  pub others : (q : ℕ) → is_put q ds ≡ false → ((after m x (leaving x.volume (homing ds))).core.slots q).block.dirty ≡ (x.core.slots q).block.dirty

abbrev pub HomingLaw : Type 0
HomingLaw = (m : Mount) (x : Held) (ds : List DataPage) → IsHeld m x → AreMapHomes m x.core ds → EachOnce ds → FitAll x.both (homing ds) → GoesHomeAlong m x ds

-- The next page may be written there too, where its write fails.
abbrev pub TearLaw : Type 0
TearLaw = (m : Mount) (x : Held) (ds : List DataPage) (d : DataPage) (sectors : ℕ) (fault : Fault) → IsHeld m x → AreMapHomes m x.core ds → EachOnce ds → FitAll x.both (homing ds) → IsMapHome (face_at m) x.core d.block d.page.0 → is_put d.block ds ≡ false
    → MayChange m (after m x (leaving x.volume (homing ds))) (Changes (WriteTears d.block d.page.0 sectors fault)) x.volume

-- ---- the volume then

-- It has the same sets, and the same pages but for those of the maps.
pub record SameButMaps (pl : Places) (v w : Volume) : Type 0 where
  pub extents : w.extents ≡ v.extents
  pub area : (b : ℕ) → w.area b ≡ v.area b
  pub used : (b : ℕ) → w.used b ≡ v.used b
  pub in_use : (n : ℕ) → w.in_use n ≡ v.in_use n
  pub pages : (b : ℕ) → is_map_page pl b ≡ false → w.page b ≡ v.page b

-- So a volume that is held is held as that one: no object is read from a page of a map.
abbrev pub MapsLaw : Type 0
MapsLaw = (m : Mount) (x : Held) (w : Volume) → IsHeld m x → SameButMaps m.places x.volume w → IsHeld m (record x { volume = w })
