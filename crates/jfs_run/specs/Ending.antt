-- The end of a mounted volume, and of its run.
use Rattle.std.specs.Prelude.{◌≡◌, ◌⊎◌, ◌==◌, ◌||◌, ◌&&◌, ◌-◌, ◌^◌, not, if◌then◌else◌, ℕ, Bool, true, false, List, Result, Ok, Err}
use Rattle.jfs_bits.specs.Count.{Rose}
use Rattle.jfs_plain.specs.declared.call.Line.{Line}
use Rattle.jfs_server.specs.declared.stopping.Ending.{Ending}
use Rattle.jfs_server.specs.declared.stopping.Ending.TheVariants.{Home, Left, Full}
use Rattle.jfs_server.specs.declared.stopping.Last.{Last}
use Rattle.jfs_server.specs.declared.stopping.Last.TheVariants.{Nothing, Commit, Syncpoint}
use Rattle.jfs_server.specs.shared.specs.legal.specs.served.specs.mounted.specs.declared.mounted.MountError.{MountError}
use Rattle.jfs_server.specs.shared.specs.legal.specs.served.specs.mounted.specs.declared.mounted.MountError.TheVariants as mounts
use Rattle.jfs_run.specs.Calls.{Calls, HaveEntries, AllTold, AllCalled, SomeCalled, any_failed}
use Rattle.jfs_run.specs.Run.{Seen, IsUnmounted}
use Rattle.jfs_run.specs.declared.run.RunEnd.{RunEnd}
use Rattle.jfs_run.specs.declared.run.RunEnd.TheVariants as ends

-- no call failed, and it was unmounted
pub record IsEnded (tells crashes : Type 0) (superblock : List ℕ) (faults : ℕ) (new : Seen) : Type 0 where
  pub faults_are : new.faults ≡ faults
  pub unmounted : IsUnmounted tells crashes superblock new

-- A run on a mounted volume whose superblock's page was this one, and whose disk had had so many faults.
pub record IsWholeSince (tells crashes : Type 0) (superblock : List ℕ) (plan : List (List Line)) (is_left : Bool) (faults : ℕ) (new : Seen) (c : Calls) : Type 0 where
  pub entries : HaveEntries plan c.history
  pub told : AllTold c
  pub calm : any_failed c.history ≡ false
  pub faults_are : new.faults ≡ faults
  pub ended : is_left ≡ false → IsUnmounted tells crashes superblock new

abbrev pub RunSince : (tells crashes : Type 0) → List ℕ → List (List Line) → Bool → ℕ → Seen → Calls → RunEnd → Type 0
RunSince tells crashes superblock plan is_left faults new c ends.Done = IsWholeSince tells crashes superblock plan is_left faults new c
RunSince tells crashes superblock plan is_left faults new c (ends.BadImage bad) = ⊥
RunSince tells crashes superblock plan is_left faults new c ends.Disk = Rose faults new.faults × AllCalled plan c
RunSince tells crashes superblock plan is_left faults new c ends.Memory = SomeCalled plan c × (Rose faults new.faults ⊎ AllTold c) × (Rose faults new.faults ⊎ (any_failed c.history ≡ false))

-- ---- before the mount

abbrev pub end_of : MountError → RunEnd
end_of (mounts.BadImage bad) = ends.BadImage bad
end_of (mounts.Disk fault) = ends.Disk
end_of mounts.Memory = ends.Memory

-- a read of the disk failed, or memory ran out
abbrev pub FailsToTake : ℕ → ℕ → RunEnd → Type 0
FailsToTake before now ends.Done = ⊥
FailsToTake before now (ends.BadImage bad) = ⊥
FailsToTake before now ends.Disk = Rose before now
FailsToTake before now ends.Memory = now ≡ before

abbrev pub TakesBy : {T : Type 0} → ℕ → ℕ → Result T RunEnd → Type 0
TakesBy before now (Ok taken) = now ≡ before
TakesBy before now (Err end) = FailsToTake before now end

-- ---- how it ends

-- Behind a mount alone all pages are home.
abbrev pub unbegun : Bool → Ending
unbegun true = Left
unbegun false = Home

-- what a run's server does last
abbrev pub last_for : Bool → Bool → Last
last_for false failed = Syncpoint
last_for true true = Commit
last_for true false = Nothing

abbrev pub is_home : Ending → Bool
is_home Home = true
is_home _ = false

abbrev pub is_full : Ending → Bool
is_full Full = true
is_full _ = false

-- Each line has its entry, and the history goes on.
abbrev pub are_through : Bool → Bool → Bool
are_through is_whole is_broken_off = is_whole && not is_broken_off

abbrev pub end_after : Bool → Bool → ℕ → ℕ → RunEnd
end_after is_through is_full before now =
    if not is_through then ends.Memory else (if not (now == before) || now == 2 ^ 64 - 1 then ends.Disk else (if is_full then ends.Memory else ends.Done))
