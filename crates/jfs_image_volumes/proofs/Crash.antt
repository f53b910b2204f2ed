-- The images of a core's history are its volumes', and a crash leaves one of these.
use Rattle.std.proofs.Common.{◌≤◌, ℕ, zero, suc, Bool, List, ◌∙◌, arith}
use Rattle.jfs_bits.specs.declared.descriptor.Pxd.{Pxd}
use Rattle.jfs_ranges.specs.declared.edit.Edit.{Edit}
use Rattle.jfs_survival.specs.recovery.specs.objects.specs.Readers.{Readers}
use Rattle.jfs_survival.specs.recovery.specs.objects.specs.Volume.{Volume}
use Rattle.jfs_survival.specs.recovery.specs.kinds.specs.Images.{IsSameVolume}
use Rattle.jfs_survival.specs.recovery.specs.Face.{Face, IsFace, Pages}
use Rattle.jfs_survival.specs.recovery.specs.Core.{Core, count, entry, image, after_steps}
use Rattle.jfs_survival.specs.recovery.specs.Sound.{IsSound}
use Rattle.jfs_survival.specs.recovery.proofs.Images.{size_image, canonical_image}
use Rattle.jfs_survival.specs.face.specs.Places.{Places}
use Rattle.jfs_survival.specs.face.specs.Volume.{face_of}
use Rattle.jfs_survival.specs.face.proofs.Whole.{is_face}
use Rattle.jfs_survival.proofs.Crashes.{crash_law as crash_of_halves}
use Rattle.jfs_image_volumes.specs.Next.{IsImageOfVolume}
use Rattle.jfs_image_volumes.specs.Crash.{AreVolumesOf, HistoryLaw, CrashLaw}
use Rattle.jfs_image_volumes.proofs.Next.{in_areas, next_by}

-- ---- a history

module _ (r : Readers) (blocks agsize numag : ℕ) (table map : Pxd) (pl : Places) (changes : Pages → List Edit → ℕ → Bool) (core : Core) (volumes : ℕ → Volume) (sound : IsSound (face_of r pl changes) core)
    (are : AreVolumesOf r blocks agsize numag table map pl core volumes) where
  abbrev f : Face
  f = face_of r pl changes

  laws : IsFace f
  laws = is_face r pl changes (in_areas r blocks agsize numag table map pl core.mounted are.first.is.stands)

  pub images : (k : ℕ) → k ≤ count core → IsImageOfVolume r blocks agsize numag table map pl (image core k) (volumes k)
  images zero low = are.first
  images (suc k) low =
      next_by r blocks agsize numag table map pl changes (image core k) (image core (suc k)) (volumes k) (volumes (suc k)) (entry core k) (images k (omega arith)) (are.each k low) (sound.follows k low)
      (λ p e. (canonical_image f laws core sound (suc k) low p e).map.bytes) (size_image f laws core sound (suc k) low)

pub history_law : HistoryLaw
history_law = images

-- ---- a crash

joined : (r : Readers) (u v w : Volume) → IsSameVolume r u v → IsSameVolume r v w → IsSameVolume r u w
joined r u v w a b = record {
  extents = b.extents ∙ a.extents;
  area = λ c. b.area c ∙ a.area c;
  used = λ c. b.used c ∙ a.used c;
  in_use = λ n. b.in_use n ∙ a.in_use n;
  objects = λ n. b.objects n ∙ a.objects n;
  owners = λ c. b.owners c ∙ a.owners c;
  sound = b.sound;
}

pub crash_law : CrashLaw
crash_law r blocks agsize numag table map pl changes both core list steps volumes is run are low crash c n log redone is_redone =
    let f : Face = face_of r pl changes in
    let later : Core = after_steps f core steps in
    let some = log.taken in
    let counts = run.core_is.sound.counts.taken_appended in
    let image_is = images r blocks agsize numag table map pl changes later volumes run.core_is.sound are n (omega (arith, some, counts)) in
    let prefix = crash_of_halves r blocks agsize numag table map pl changes both core list steps is run low crash c n log redone is_redone image_is.is.stands in
    record { prefix = prefix; volume = joined r (volumes n) _ _ image_is.is.same prefix.volume }
