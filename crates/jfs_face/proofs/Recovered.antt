-- After a crash and redo a volume is the one after a front of its history.
use Rattle.std.proofs.Common.{◌≡◌, ℕ, Bool, List, Option, sym, ap, ◌∙◌, subst}
use Rattle.jfs_bits.specs.declared.descriptor.Pxd.{Pxd}
use Rattle.jfs_ranges.specs.declared.edit.Edit.{Edit}
use Rattle.jfs_steps.specs.objects.specs.Readers.{Readers}
use Rattle.jfs_steps.specs.objects.specs.Image.{volume_on}
use Rattle.jfs_recovery.specs.kinds.specs.Owner.{Owner, owner_of, is_logged}
use Rattle.jfs_recovery.specs.kinds.specs.Laws.{KeepsLogged}
use Rattle.jfs_recovery.specs.kinds.proofs.Images.{image_law}
use Rattle.jfs_recovery.specs.Face.{IsFace, Pages}
use Rattle.jfs_recovery.specs.Core.{Core, image, after_steps}
use Rattle.jfs_recovery.specs.Sound.{Recovers}
use Rattle.jfs_recovery.proofs.Grown.{survives}
use Rattle.jfs_face.specs.Places.{Places, AreInAreas}
use Rattle.jfs_face.specs.Volume.{face_of, volume_with}
use Rattle.jfs_face.specs.Recovered.{IsVolumeAt, RecoveredLaw}
use Rattle.jfs_face.proofs.Whole.{is_face}
use Rattle.jfs_face.proofs.Mounted.{seen_as_it_is}

in_areas : (r : Readers) (blocks agsize numag : ℕ) (table map : Pxd) (pl : Places) (page : Pages) → IsVolumeAt r blocks agsize numag table map pl page → AreInAreas pl
in_areas r blocks agsize numag table map pl page at = subst (λ (x : Places). AreInAreas x) at.places (seen_as_it_is r blocks agsize numag table map page at.pages).areas

same_owner : (r : Readers) (blocks agsize numag : ℕ) (table map : Pxd) (pl : Places) (page : Pages) → IsVolumeAt r blocks agsize numag table map pl page → (b : ℕ) →
    owner_of r (volume_with pl page) b ≡ owner_of r (volume_on r blocks table map page) b
same_owner r blocks agsize numag table map pl page at b =
    ap (λ (x : Places). owner_of r (volume_with x page) b) (sym at.places) ∙ (seen_as_it_is r blocks agsize numag table map page at.pages).owners b

keeps_logged : (r : Readers) (blocks agsize numag : ℕ) (table map : Pxd) (pl : Places) (changes : Pages → List Edit → ℕ → Bool) (core : Core) (low : Pages) (n : ℕ) (redone : Pages) →
    IsVolumeAt r blocks agsize numag table map pl (image core n) → Recovers (face_of r pl changes) core low n redone →
    KeepsLogged r (volume_on r blocks table map (image core n)) (volume_on r blocks table map redone)
keeps_logged r blocks agsize numag table map pl changes core low n redone at recovers b logged =
    recovers.gives b (ap (λ (o : Option Owner). is_logged o) (same_owner r blocks agsize numag table map pl (image core n) at b) ∙ logged)

pub recovered : RecoveredLaw
recovered r blocks agsize numag table map pl changes core steps sound allowed low c n redone left log is_redone at =
    let laws : IsFace (face_of r pl changes) = is_face r pl changes (in_areas r blocks agsize numag table map pl (image (after_steps (face_of r pl changes) core steps) n) at) in
    let s = survives (face_of r pl changes) laws core steps sound allowed low c n redone left log is_redone in
    let later = after_steps (face_of r pl changes) core steps in
    record {
      told = s.told;
      within = s.within;
      grown = s.grown;
      volume = image_law r blocks table map (image later n) redone at.sound at.files
          (keeps_logged r blocks agsize numag table map pl changes later low n redone at s.recovers);
    }
