-- When an entry of a volume may be appended, and its data written.
use Rattle.std.specs.Prelude.{◌≡◌, ◌⊎◌, ◌<◌, ℕ, Bool, true, false, List}
use Rattle.jfs_ranges.specs.declared.edit.Edit.{Edit}
use Rattle.jfs_face.specs.recovery.specs.objects.specs.Readers.{Readers}
use Rattle.jfs_face.specs.recovery.specs.objects.specs.Volume.{Volume}
use Rattle.jfs_face.specs.recovery.specs.objects.specs.Objects.{objects}
use Rattle.jfs_face.specs.recovery.specs.objects.specs.Owners.{Agrees, IsSound}
use Rattle.jfs_face.specs.recovery.specs.kinds.specs.Owner.{owner_of, has_data}
use Rattle.jfs_face.specs.recovery.specs.Face.{Pages, IsStep}
use Rattle.jfs_face.specs.recovery.specs.Core.{Core, count, image, owner_at, IsBusy, MayAppend}
use Rattle.jfs_face.specs.recovery.specs.Sound.{IsSound as IsSoundCore}
use Rattle.jfs_face.specs.Places.{Places, AreInAreas, is_map_page, is_fixed_page}
use Rattle.jfs_face.specs.Volume.{face_of, volume_with}
use Rattle.jfs_logged.specs.Logged.{logged_in, LogsWell}
use Rattle.jfs_survival.specs.Played.{IsFree}

-- ---- images and volumes

-- each block has the owner on the pages of an image that it has on the volume
abbrev pub IsSeenBy : Readers → Places → Pages → Volume → Type 0
IsSeenBy r pl s v = (b : ℕ) → owner_of r (volume_with pl s) b ≡ owner_of r v b

-- The image has the places of the volume, and its pages, but for those of the fixed areas, as far as the log keeps them safe.
pub record ShowsLogged (r : Readers) (pl : Places) (s : Pages) (v : Volume) : Type 0 where
  pub extents : (volume_with pl s).extents ≡ v.extents
  pub area : (b : ℕ) → pl.area b ≡ v.area b
  pub pages : (b : ℕ) → logged_in r v b ≡ true → v.area b ≡ 0 → s b ≡ v.page b

-- So it has the owners.
abbrev pub SeenLaw : Type 0
SeenLaw = (r : Readers) (pl : Places) (s : Pages) (v : Volume) → IsSound r v → ShowsLogged r pl s v → IsSeenBy r pl s v

-- ---- an entry

-- A volume before the entry and one after it, whose maps agree, and which have the owners of the images. The transaction logs what matters, takes no busy block, leaves the pages of the fixed areas, and changes no page of a map but those that it is told to change.
pub record IsEntry (r : Readers) (pl : Places) (changes : Pages → List Edit → ℕ → Bool) (core : Core) (tx : List Edit) (t : Pages) (v w : Volume) : Type 0 where
  pub follows : IsStep (face_of r pl changes) (image core (count core)) tx t
  pub before : IsSeenBy r pl (image core (count core)) v
  pub after : IsSeenBy r pl t w
  pub agrees : Agrees r v
  pub agrees_then : Agrees r w
  pub logs : LogsWell r v w tx
  pub fresh : (b : ℕ) → v.used b ≡ false → w.used b ≡ true → IsBusy (owner_at (face_of r pl changes) core b) core.told (count core) → ⊥
  pub fixed : (p : ℕ) → is_fixed_page pl p ≡ true → (v.page p ≡ image core (count core) p) × (w.page p ≡ v.page p)
  pub marked : (p : ℕ) → is_map_page pl p ≡ true → changes (image core (count core)) tx p ≡ false → t p ≡ image core (count core) p

-- The core allows it.
abbrev pub EntryLaw : Type 0
EntryLaw = (r : Readers) (pl : Places) (changes : Pages → List Edit → ℕ → Bool) (core : Core) (tx : List Edit) (t : Pages) (v w : Volume) → AreInAreas pl → IsSoundCore (face_of r pl changes) core
    → IsEntry r pl changes core tx t v w → MayAppend (face_of r pl changes) core tx t

-- ---- data

-- A block that is a regular file's data, or that isn't in use and isn't busy, may be written.
abbrev pub DataLaw : Type 0
DataLaw = (r : Readers) (pl : Places) (changes : Pages → List Edit → ℕ → Bool) (core : Core) (v : Volume) (n b : ℕ) → IsSeenBy r pl (image core (count core)) v → Agrees r v
    → (v.used b ≡ false → IsBusy (owner_at (face_of r pl changes) core b) core.told (count core) → ⊥) → (v.used b ≡ false) ⊎ (0 < has_data r (objects r v n) b) → IsFree (face_of r pl changes) core b
