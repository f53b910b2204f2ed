-- One volume after another, and their images.
use Rattle.std.specs.Prelude.{◌≡◌, ℕ, Bool, true, List, [], ◌∷◌, length}
use Rattle.jfs_bits.specs.declared.descriptor.Pxd.{Pxd}
use Rattle.jfs_ranges.specs.declared.edit.Edit.{Edit}
use Rattle.jfs_survival.specs.face.specs.steps.specs.After.{used_after}
use Rattle.jfs_survival.specs.recovery.specs.objects.specs.Readers.{Readers}
use Rattle.jfs_survival.specs.recovery.specs.objects.specs.Volume.{Volume}
use Rattle.jfs_survival.specs.recovery.specs.objects.specs.Owners.{IsSound}
use Rattle.jfs_survival.specs.recovery.specs.objects.specs.Image.{volume_on}
use Rattle.jfs_survival.specs.recovery.specs.Face.{Pages, IsStart}
use Rattle.jfs_survival.specs.face.specs.Places.{Places, is_fixed_page}
use Rattle.jfs_survival.specs.face.specs.Recovered.{IsVolumeAt}
use Rattle.jfs_survival.specs.face.specs.Volume.{face_of}
use Rattle.jfs_survival.specs.Entry.{ShowsLogged}
use Rattle.jfs_canonical_maps.specs.Places.{FitMaps}
use Rattle.jfs_canonical_maps.specs.Images.{made_canonical, after_entry}
use Rattle.jfs_canonical_maps.specs.Laws.{HasMapBytes, StaysWithin, FollowsEntry}
use Rattle.jfs_image_volumes.specs.Stands.{IsVolumeAfter, IsVolumeThen}

-- An image is a volume's: it shows what the log keeps safe of it and the pages of the fixed areas beside the maps, and read as a volume is mounted it is that volume, with its maps at these places.
pub record IsImageOfVolume (r : Readers) (blocks agsize numag : ℕ) (table map : Pxd) (pl : Places) (s : Pages) (v : Volume) : Type 0 where
  pub sizes : (p : ℕ) → length (s p) ≡ 4096
  pub bytes : HasMapBytes pl s
  pub sound : IsSound r v
  pub shows : ShowsLogged r pl s v
  pub fixed : (p : ℕ) → is_fixed_page pl p ≡ true → s p ≡ v.page p
  pub is : IsVolumeThen r blocks agsize numag table map pl s v

-- What a transaction keeps that leads from one volume to the next: it logs what matters and stays within the volume, and the pages of the fixed areas beside the maps stay.
pub record MayFollow (r : Readers) (pl : Places) (v w : Volume) (tx : List Edit) : Type 0 where
  pub after : IsVolumeAfter r v w tx
  pub sound : IsSound r w
  pub used : (b : ℕ) → w.used b ≡ used_after tx v.used b
  pub within : StaysWithin pl tx
  pub fixed : (p : ℕ) → is_fixed_page pl p ≡ true → w.page p ≡ v.page p

-- So an image follows, and it is the next volume's.
pub record HasNext (r : Readers) (blocks agsize numag : ℕ) (table map : Pxd) (pl : Places) (changes : Pages → List Edit → ℕ → Bool) (s : Pages) (w : Volume) (tx : List Edit) : Type 0 where
  pub follows : FollowsEntry (face_of r pl changes) pl s tx
  pub image : IsImageOfVolume r blocks agsize numag table map pl (after_entry pl s tx) w

abbrev pub NextLaw : Type 0
NextLaw = (r : Readers) (blocks agsize numag : ℕ) (table map : Pxd) (pl : Places) (changes : Pages → List Edit → ℕ → Bool) (s : Pages) (v w : Volume) (tx : List Edit) → FitMaps pl → IsImageOfVolume r blocks agsize numag table map pl s v
    → MayFollow r pl v w tx → HasNext r blocks agsize numag table map pl changes s w tx

-- It begins where a volume is mounted: the image with canonical map pages is that volume's.
abbrev pub StartLaw : Type 0
StartLaw = (r : Readers) (blocks agsize numag : ℕ) (table map : Pxd) (pl : Places) (changes : Pages → List Edit → ℕ → Bool) (low : Pages) → FitMaps pl → IsVolumeAt r blocks agsize numag table map pl low → HasMapBytes pl low
    → ((p : ℕ) → length (low p) ≡ 4096) → IsStart (face_of r pl changes) low (made_canonical pl low) × IsImageOfVolume r blocks agsize numag table map pl (made_canonical pl low) (volume_on r blocks table map low)

-- ---- a run

-- a transaction, and the volume after it
pub record Then : Type 0 where
  pub tx : List Edit
  pub volume : Volume

abbrev pub AllFollow : Readers → Places → Volume → List Then → Type 0
AllFollow r pl v [] = Unit {0}
AllFollow r pl v (one ∷ rest) = MayFollow r pl v one.volume one.tx × AllFollow r pl one.volume rest

-- the image and the volume after all of them
abbrev pub image_after : Places → Pages → List Then → Pages
image_after pl s [] = s
image_after pl s (one ∷ rest) = image_after pl (after_entry pl s one.tx) rest

abbrev pub volume_after : Volume → List Then → Volume
volume_after v [] = v
volume_after v (one ∷ rest) = volume_after one.volume rest

-- So the image after a run is the last volume's.
abbrev pub RunLaw : Type 0
RunLaw = (r : Readers) (blocks agsize numag : ℕ) (table map : Pxd) (pl : Places) (s : Pages) (v : Volume) (run : List Then) → FitMaps pl → IsImageOfVolume r blocks agsize numag table map pl s v
    → AllFollow r pl v run → IsImageOfVolume r blocks agsize numag table map pl (image_after pl s run) (volume_after v run)
