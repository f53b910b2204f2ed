-- Where the maps of an image stand after an entry, and which volume it is.
use Rattle.std.specs.Prelude.{◌≡◌, ℕ, Bool, true, List, length}
use Rattle.jfs_bits.specs.declared.descriptor.Pxd.{Pxd}
use Rattle.jfs_ranges.specs.declared.edit.Edit.{Edit}
use Rattle.jfs_survival.specs.face.specs.steps.specs.After.{extents_after, used_after}
use Rattle.jfs_survival.specs.recovery.specs.objects.specs.Readers.{Readers}
use Rattle.jfs_survival.specs.recovery.specs.objects.specs.Volume.{Volume}
use Rattle.jfs_survival.specs.recovery.specs.objects.specs.Owners.{IsSound}
use Rattle.jfs_survival.specs.recovery.specs.objects.specs.Image.{volume_on}
use Rattle.jfs_survival.specs.recovery.specs.kinds.specs.Images.{HasWholeFiles, IsSameVolume}
use Rattle.jfs_survival.specs.recovery.specs.Face.{Pages, IsStep}
use Rattle.jfs_survival.specs.face.specs.Places.{Places, AreInAreas, is_fixed_page}
use Rattle.jfs_survival.specs.face.specs.Mounted.{places_on, HasMapPages}
use Rattle.jfs_survival.specs.face.specs.Recovered.{IsVolumeAt}
use Rattle.jfs_survival.specs.face.specs.Volume.{face_of}
use Rattle.jfs_survival.specs.logged.specs.Logged.{LogsWell}
use Rattle.jfs_survival.specs.Entry.{ShowsLogged}

-- ---- the places

-- The pages of the fixed areas beside the maps stay.
abbrev pub FixedStay : Places → Pages → Pages → Type 0
FixedStay pl s t = (p : ℕ) → is_fixed_page pl p ≡ true → t p ≡ s p

-- The maps' files are whole on these pages, have all of their pages, and have them at these places.
pub record MapsStandAt (r : Readers) (blocks agsize numag : ℕ) (table map : Pxd) (pl : Places) (page : Pages) : Type 0 where
  pub files : HasWholeFiles r page
  pub pages : HasMapPages r blocks page
  pub places : places_on r blocks agsize numag table map page ≡ pl

-- An entry leaves the maps where they are.
abbrev pub PlacesLaw : Type 0
PlacesLaw = (r : Readers) (blocks agsize numag : ℕ) (table map : Pxd) (pl : Places) (changes : Pages → List Edit → ℕ → Bool) (s t : Pages) (tx : List Edit) → IsVolumeAt r blocks agsize numag table map pl s
    → IsStep (face_of r pl changes) s tx t → FixedStay pl s t → MapsStandAt r blocks agsize numag table map pl t

-- ---- the volume

-- What an entry makes of a volume: it logs what matters, the fixed areas stay, and its edits say which inode extents there are.
pub record IsVolumeAfter (r : Readers) (v w : Volume) (tx : List Edit) : Type 0 where
  pub logs : LogsWell r v w tx
  pub area : (b : ℕ) → w.area b ≡ v.area b
  pub extents : w.extents ≡ extents_after tx v.extents

-- Where an image shows what the log keeps safe of a volume, the one after an entry shows it of the volume after it.
abbrev pub ShowsLaw : Type 0
ShowsLaw = (r : Readers) (pl : Places) (changes : Pages → List Edit → ℕ → Bool) (s t : Pages) (tx : List Edit) (v w : Volume) → AreInAreas pl → ((p : ℕ) → length (s p) ≡ 4096) → ShowsLogged r pl s v
    → IsStep (face_of r pl changes) s tx t → IsVolumeAfter r v w tx → ShowsLogged r pl t w

-- So the image after an entry, with its canonical map pages, is the volume after it, and its maps stand where they were. Of that volume it has the sets, the places, the objects and the owners.
pub record IsVolumeThen (r : Readers) (blocks agsize numag : ℕ) (table map : Pxd) (pl : Places) (t : Pages) (w : Volume) : Type 0 where
  pub same : IsSameVolume r w (volume_on r blocks table map t)
  pub stands : IsVolumeAt r blocks agsize numag table map pl t

abbrev pub VolumeLaw : Type 0
VolumeLaw = (r : Readers) (blocks agsize numag : ℕ) (table map : Pxd) (pl : Places) (changes : Pages → List Edit → ℕ → Bool) (s t : Pages) (tx : List Edit) (w : Volume) → IsVolumeAt r blocks agsize numag table map pl s
    → IsStep (face_of r pl changes) s tx t → FixedStay pl s t → IsSound r w → ShowsLogged r pl t w → ((b : ℕ) → w.used b ≡ used_after tx (volume_on r blocks table map s).used b)
    → IsVolumeThen r blocks agsize numag table map pl t w
