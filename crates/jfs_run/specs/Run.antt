-- What a run did to its disk: what became of its calls, and how it ended.
use Rattle.std.specs.Prelude.{◌≡◌, ◌⊎◌, ◌<◌, ◌+◌, ℕ, Bool, false, List, Some, None}
use Rattle.jfs_bits.specs.Count.{Rose}
use Rattle.jfs_disk.specs.Image.{Image, page_of}
use Rattle.jfs_disk.specs.Crash.{DiskState, last_of}
use Rattle.jfs_disk.specs.Moment.{IsResting}
use Rattle.jfs_disk.specs.declared.disk.Disk.{Ghosts}
use Rattle.jfs_super.specs.declared.fields.Super.{Super}
use Rattle.jfs_plain.specs.declared.call.Line.{Line}
use Rattle.jfs_mount.specs.Subject.{subject_of}
use Rattle.jfs_mount.specs.Mount.{broken_mount}
use Rattle.jfs_mount.specs.declared.bad.BadMount.{BadMount}
use Rattle.jfs_run.specs.Calls.{Calls, HaveEntries, AllTold, NoCalls, AllCalled, SomeCalled, any_failed}
use Rattle.jfs_run.specs.declared.run.RunEnd.{RunEnd}
use Rattle.jfs_run.specs.declared.run.RunEnd.TheVariants as ends

-- a disk before a run, or after it
pub record Seen : Type 0 where
  pub image : Image
  pub past : List DiskState
  pub faults : ℕ

abbrev pub seen : {D : Type 0} → Ghosts D → D → Seen
seen d disk = record { image = d.image disk; past = d.past disk; faults = d.fault_count disk }

-- no rule of a mount is broken
abbrev pub MayMount : (tells : Type 0) → Super → Seen → Type 0
MayMount tells s old = tells → broken_mount (subject_of s (page_of old.image)) ≡ None

-- all pages but page 8 and the log's stay
abbrev pub StayBeside : Super → Image → Image → Type 0
StayBeside s old new = (n : ℕ) → (n ≡ 8 → ⊥) → (s.logpxd.addr < n → n < s.logpxd.addr + s.logpxd.len → ⊥) → page_of new n ≡ page_of old n

-- Nothing was called.
pub record IsUncalled (tells : Type 0) (s : Super) (old new : Seen) (c : Calls) : Type 0 where
  pub calls : NoCalls c
  pub pages : tells → StayBeside s old.image new.image

-- Its superblock's page is this one, and a crash leaves what a read gives.
pub record IsUnmounted (tells crashes : Type 0) (page : List ℕ) (new : Seen) : Type 0 where
  pub superblock : tells → page_of new.image 8 ≡ page
  pub resting : crashes → IsResting (last_of new.past)

-- Each line has its entry, each entry that waits was told, and no call on the disk failed, so that none was refused for a fault. The volume was unmounted, unless it was to be left: its superblock's page is the one that it had.
pub record IsWhole (tells crashes : Type 0) (s : Super) (plan : List (List Line)) (is_left : Bool) (old new : Seen) (c : Calls) : Type 0 where
  pub entries : HaveEntries plan c.history
  pub told : AllTold c
  pub calm : any_failed c.history ≡ false
  pub faults : new.faults ≡ old.faults
  pub ended : is_left ≡ false → IsUnmounted tells crashes (page_of old.image 8) new
  pub mounts : MayMount tells s old

-- The first broken rule of a mount is this one: nothing was called, and nothing was written.
pub record IsRefused (tells crashes : Type 0) (s : Super) (bad : BadMount) (old new : Seen) (c : Calls) : Type 0 where
  pub calls : NoCalls c
  pub faults : new.faults ≡ old.faults
  pub rule : tells → broken_mount (subject_of s (page_of old.image)) ≡ Some bad
  pub image : tells → new.image ≡ old.image
  pub past : crashes → new.past ≡ old.past

-- A call on the disk failed: before the mount was done, or later, and then each line has its entry.
pub record IsFaulty (tells : Type 0) (s : Super) (plan : List (List Line)) (old new : Seen) (c : Calls) : Type 0 where
  pub rose : Rose old.faults new.faults
  pub done : IsUncalled tells s old new c ⊎ (AllCalled plan c × MayMount tells s old)

-- A front of each client's lines has its entries, and unless a call on the disk failed each of these that waits was told, and none was refused for a fault.
pub record IsShort (tells : Type 0) (s : Super) (plan : List (List Line)) (old new : Seen) (c : Calls) : Type 0 where
  pub done : IsUncalled tells s old new c ⊎ (SomeCalled plan c × MayMount tells s old)
  pub told : Rose old.faults new.faults ⊎ AllTold c
  pub calm : Rose old.faults new.faults ⊎ (any_failed c.history ≡ false)

abbrev pub RunIs : (tells crashes : Type 0) → Super → List (List Line) → Bool → Seen → Seen → Calls → RunEnd → Type 0
RunIs tells crashes s plan is_left old new c ends.Done = IsWhole tells crashes s plan is_left old new c
RunIs tells crashes s plan is_left old new c (ends.BadImage bad) = IsRefused tells crashes s bad old new c
RunIs tells crashes s plan is_left old new c ends.Disk = IsFaulty tells s plan old new c
RunIs tells crashes s plan is_left old new c ends.Memory = IsShort tells s plan old new c
