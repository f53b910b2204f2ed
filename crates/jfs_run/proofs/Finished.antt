-- A run from the disk handed in to the disk handed back.
use Rattle.std.proofs.Common.{◌≡◌, [], refl, ◌∙◌, ℕ, Bool, List, inl, inr, Some}
use Rattle.jfs_bits.specs.Count.{Rose}
use Rattle.jfs_disk.specs.Image.{page_of}
use Rattle.jfs_super.specs.declared.fields.Super.{Super}
use Rattle.jfs_mount.specs.Subject.{subject_of}
use Rattle.jfs_mount.specs.Mount.{broken_mount}
use Rattle.jfs_mount.specs.declared.bad.BadMount.{BadMount}
use Rattle.jfs_plain.specs.declared.call.Line.{Line}
use Rattle.jfs_run.specs.Calls.{Calls}
use Rattle.jfs_run.specs.Run.{Seen, MayMount, StayBeside, IsUncalled, IsUnmounted, RunIs}
use Rattle.jfs_server.specs.shared.specs.legal.specs.served.specs.mounted.specs.Mount.{IsMountCause, IsRefusal, IsBeforeCut}
use Rattle.jfs_server.specs.shared.specs.legal.specs.served.specs.mounted.specs.declared.mounted.MountError.{MountError}
use Rattle.jfs_server.specs.shared.specs.legal.specs.served.specs.mounted.specs.declared.mounted.MountError.TheVariants as mounts
use Rattle.jfs_run.specs.Ending.{RunSince, end_of}
use Rattle.jfs_run.specs.declared.run.RunEnd.{RunEnd}
use Rattle.jfs_run.specs.declared.run.RunEnd.TheVariants as ends

abbrev pub nothing : Calls
nothing = record { history = []; told = [] }

module _ (tells crashes : Type 0) (s : Super) (plan : List (List Line)) (is_left : Bool) (old new : Seen) where
  -- nothing was called
  pub refused : (bad : BadMount) → new.faults ≡ old.faults → (tells → broken_mount (subject_of s (page_of old.image)) ≡ Some bad) → (tells → new.image ≡ old.image) → (crashes → new.past ≡ old.past)
      → RunIs tells crashes s plan is_left old new nothing (ends.BadImage bad)
  refused bad faults rule image past = record { calls = (refl, refl); faults = faults; rule = rule; image = image; past = past }

  uncalled : (tells → StayBeside s old.image new.image) → IsUncalled tells s old new nothing
  uncalled pages = record { calls = (refl, refl); pages = pages }

  pub unread : Rose old.faults new.faults → (tells → StayBeside s old.image new.image) → RunIs tells crashes s plan is_left old new nothing ends.Disk
  unread rose pages = record { rose = rose; done = inl (uncalled pages) }

  pub unbegun : (tells → StayBeside s old.image new.image) → RunIs tells crashes s plan is_left old new nothing ends.Memory
  unbegun pages = record { done = inl (uncalled pages); told = inr (record { waiting = []; are = tt; told_is = refl }); calm = inr refl }

  -- the mount was refused
  pub unmounted : (why : MountError) → (tells → IsRefusal s old.image why) → IsMountCause old.faults new.faults why → (tells → StayBeside s old.image new.image) → (tells → IsBeforeCut why → new.image ≡ old.image) → (crashes → IsBeforeCut why → new.past ≡ old.past)
      → RunIs tells crashes s plan is_left old new nothing (end_of why)
  unmounted (mounts.BadImage bad) refusal cause pages image past = refused bad cause refusal (λ t. image t tt) (λ k. past k tt)
  unmounted (mounts.Disk fault) refusal cause pages image past = unread cause.0 pages
  unmounted mounts.Memory refusal cause pages image past = unbegun pages

  -- the volume was mounted
  module _ (superblock : List ℕ) (took : tells → superblock ≡ page_of old.image 8) (unbroken : MayMount tells s old) (c : Calls) where
    as_it_was : IsUnmounted tells crashes superblock new → IsUnmounted tells crashes (page_of old.image 8) new
    as_it_was u = record { superblock = λ t. u.superblock t ∙ took t; resting = u.resting }

    pub ran : (end : RunEnd) → RunSince tells crashes superblock plan is_left old.faults new c end → RunIs tells crashes s plan is_left old new c end
    ran ends.Done is = record { entries = is.entries; told = is.told; calm = is.calm; faults = is.faults_are; ended = λ left. as_it_was (is.ended left); mounts = unbroken }
    ran (ends.BadImage bad) is = absurd is
    ran ends.Disk (rose, all) = record { rose = rose; done = inr (all, unbroken) }
    ran ends.Memory (some, told, calm) = record { done = inr (some, unbroken); told = told; calm = calm }
