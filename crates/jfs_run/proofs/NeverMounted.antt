-- What a crash leaves of a run whose volume wasn't mounted.
use Rattle.std.proofs.Common.{◌≡◌, ◌∙◌, ℕ, Bool, inl, inr, refl, sym, ap, subst}
use Rattle.jfs_bits.specs.declared.descriptor.Moment.{Moment}
use Rattle.jfs_disk.specs.Crash.{DiskState, IsCrashImage, Leaves, seen_of}
use Rattle.jfs_disk.specs.Image.{Image, page_of}
use Rattle.jfs_disk.specs.Moment.{IsResting}
use Rattle.jfs_disk.proofs.Flow.{crash-resting}
use Rattle.jfs_super.specs.declared.fields.Super.{Super}
use Rattle.jfs_server.specs.shared.specs.kept_history.specs.Keepable.{IsKeepableImage}
use Rattle.jfs_server.specs.shared.specs.kept_history.proofs.Failed.{failed_law, as_it_was}
use Rattle.jfs_server.specs.shared.specs.legal.specs.served.specs.mounted.specs.Mount.{LeavesLog, LeavesUntouched, WasCut, FoundOn}
use Rattle.jfs_server.specs.shared.specs.legal.specs.served.specs.mounted.specs.declared.mounted.MountError.{MountError}
use Rattle.jfs_server.specs.shared.specs.legal.specs.served.specs.mounted.specs.declared.mounted.MountError.TheVariants as mounts
use Rattle.jfs_server.specs.shared.specs.legal.specs.served.specs.mounted.specs.mount_disk.specs.Begun.{LeavesLow}
use Rattle.jfs_run.specs.Calls.{Calls}
use Rattle.jfs_run.specs.Ending.{end_of, FailsToTake}
use Rattle.jfs_run.specs.Left.{LeavesRun, IsLeftNeverMounted}
use Rattle.jfs_run.specs.Run.{StayBeside}
use Rattle.jfs_run.specs.declared.run.RunEnd.{RunEnd}
use Rattle.jfs_run.specs.declared.run.RunEnd.TheVariants as ends
use Rattle.jfs_run.proofs.Finished.{nothing}

-- a volume that was mounted leaves no such thing
pub mounted_anyway : (A : Type 0) (s : Super) (image : Image) (now : Moment) (is_left : Bool) (c : Calls) (state : DiskState) (end : RunEnd) → LeavesRun ⊥ s image now is_left c state end → LeavesRun A s image now is_left c state end
mounted_anyway A s image now is_left c state ends.Done l = l
mounted_anyway A s image now is_left c state ends.Disk (inl none) = absurd none.1
mounted_anyway A s image now is_left c state ends.Disk (inr l) = inr l
mounted_anyway A s image now is_left c state ends.Memory (inl none) = absurd none.1
mounted_anyway A s image now is_left c state ends.Memory (inr l) = inr l
mounted_anyway A s image now is_left c state (ends.BadImage bad) none = absurd none.1

-- what the clauses of a mount say of what a crash leaves
abbrev pub LeavesMounts : Super → Image → MountError → Image → Type 0
LeavesMounts s image why left = LeavesLow s image left × LeavesUntouched s image why left × LeavesLog s image why left

pub refused_mount : (s : Super) (image new : Image) (before state : DiskState) (now : Moment) (is_left : Bool) (why : MountError) → IsKeepableImage s image → StayBeside s image new → (WasCut why → FoundOn s image) → (IsResting before → Leaves (LeavesMounts s image why) state)
    → LeavesRun (IsLeftNeverMounted s image new (IsResting before) state) s image now is_left nothing state (end_of why)
refused_mount s image new before state now is_left why checked stays found leaves = by why
  where
    left : IsLeftNeverMounted s image new (IsResting before) state
    left = record { pages = stays; left = λ rests crashed crash. (let l = leaves rests crashed crash in failed_law s image why crashed checked found l.0 l.1 l.2) }

    by : (e : MountError) → LeavesRun (IsLeftNeverMounted s image new (IsResting before) state) s image now is_left nothing state (end_of e)
    by (mounts.BadImage bad) = ((refl, refl), left)
    by (mounts.Disk fault) = inl ((refl, refl), left)
    by mounts.Memory = inl ((refl, refl), left)

-- the disk was read, if at all
pub taken_nothing : (s : Super) (image new : Image) (before state : DiskState) (now : Moment) (is_left : Bool) (end : RunEnd) → IsKeepableImage s image → new ≡ image → state ≡ before → image ≡ seen_of before → (end ≡ ends.Done → ⊥)
    → LeavesRun (IsLeftNeverMounted s image new (IsResting before) state) s image now is_left nothing state end
taken_nothing s image new before state now is_left end checked still same seen other = by end refl
  where
    left : IsLeftNeverMounted s image new (IsResting before) state
    left = record {
      pages = λ n _ _. ap (λ (im : Image). page_of im n) still;
      left = λ rests crashed crash. inl (as_it_was s image crashed checked (crash-resting before crashed rests (subst (λ (st : DiskState). IsCrashImage st crashed) same crash) ∙ sym seen));
    }

    by : (e : RunEnd) → end ≡ e → LeavesRun (IsLeftNeverMounted s image new (IsResting before) state) s image now is_left nothing state e
    by ends.Done is = absurd (other is)
    by (ends.BadImage bad) is = ((refl, refl), left)
    by ends.Disk is = inl ((refl, refl), left)
    by ends.Memory is = inl ((refl, refl), left)

pub not_done : (before now : ℕ) (end : RunEnd) → FailsToTake before now end → end ≡ ends.Done → ⊥
not_done before now ends.Done cause done = cause
not_done before now (ends.BadImage bad) cause done = cause
not_done before now ends.Disk cause done = absurd (cc (done))
not_done before now ends.Memory cause done = absurd (cc (done))
