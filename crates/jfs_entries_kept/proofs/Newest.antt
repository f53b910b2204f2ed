-- The volume after all entries is the volume now.
use Rattle.std.proofs.Common.{ℕ, refl, sym, ◌∙◌, subst, arith}
use Rattle.jfs_kept_volumes.specs.volume_calls.specs.volume.specs.data_steps.specs.objects.specs.Readers.{Readers}
use Rattle.jfs_kept_volumes.specs.volume_calls.specs.volume.specs.data_steps.specs.objects.specs.Volume.{Volume}
use Rattle.jfs_kept_volumes.specs.joined_held.specs.held.specs.survival.specs.recovery.specs.Core.{count}
use Rattle.jfs_kept_volumes.specs.joined_held.specs.held.specs.survival.specs.recovery.specs.kinds.specs.Images.{IsSameVolume}
use Rattle.jfs_kept_volumes.specs.joined_held.specs.held.specs.survival.proofs.Changes.{counted}
use Rattle.jfs_kept_volumes.specs.joined_held.specs.held.specs.Held.{face_at}
use Rattle.jfs_kept_volumes.specs.joined_held.specs.Held.{volume_at}
use Rattle.jfs_entries_kept.specs.Entries.{NewestLaw}

-- two volumes that are the same as a third one
either : (r : Readers) (u v w : Volume) → IsSameVolume r u w → IsSameVolume r v w → (v_is : IsSameVolume r v v) → IsSameVolume r u v
either r u v w a b itself = record {
  extents = sym b.extents ∙ a.extents;
  area = λ c. sym (b.area c) ∙ a.area c;
  used = λ c. sym (b.used c) ∙ a.used c;
  in_use = λ n. sym (b.in_use n) ∙ a.in_use n;
  objects = λ n. sym (b.objects n) ∙ a.objects n;
  owners = λ c. sym (b.owners c) ∙ a.owners c;
  sound = itself.sound;
}

pub newest_law : NewestLaw
newest_law m area p x is =
    let held = is.held.held in
    let number = counted (face_at m) x.both x.core held.core_is in
    let last = held.images (count x.core) (omega arith) in
    subst (λ (n : ℕ). IsSameVolume m.readers (x.volumes n) (volume_at area p)) number
    (either m.readers (x.volumes (count x.core)) (volume_at area p) _ last.is.same held.now.is.same
    (record { extents = refl; area = λ c. refl; used = λ c. refl; in_use = λ n. refl; objects = λ n. refl; owners = λ c. refl; sound = held.now.sound }))
