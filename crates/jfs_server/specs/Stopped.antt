-- What a server leaves once all its passes are back.
use Rattle.std.specs.Prelude.{◌≡◌, ◌⊎◌, ◌≤◌, ◌++◌, ℕ, suc, true, false, is_some, List, [], length, Option, Some, None}
use mathlib.Core.Option.{some}
use lib.ListN.{get_elem?}
use Rattle.jfs_bits.specs.Count.{Rose}
use Rattle.jfs_disk.specs.Crash.{last_of}
use Rattle.jfs_disk.specs.Image.{page_of}
use Rattle.jfs_disk.specs.Moment.{IsResting}
use Rattle.jfs_disk.specs.declared.disk.Disk.{Ghosts}
use Rattle.jfs_disk.specs.declared.disk.Fault.{Fault}
use Rattle.jfs_disk.specs.declared.disk.Part.TheVariants.{High}
use Rattle.jfs_groups.specs.Start.{Grows}
use Rattle.jfs_groups.specs.declared.log.SharedLog.{SharedLog}
use Rattle.jfs_shared.specs.legal.specs.served.specs.crash_core.specs.Step.{halted_by}
use Rattle.jfs_shared.specs.legal.specs.served.specs.halves.specs.Parts.{Parts}
use Rattle.jfs_shared.specs.legal.specs.served.specs.unmount.specs.Unmount.{IsAllHome}
use Rattle.jfs_shared.specs.kept_history.specs.Unmounted.{LeavesKeepable}
use Rattle.jfs_shared.specs.Base.{MountStart, start_of}
use Rattle.jfs_shared.specs.Both.{Seen, AreOf}
use Rattle.jfs_shared.specs.Entries.{Recorded}
use Rattle.jfs_shared.specs.Faults.{any_failed}
use Rattle.jfs_shared.specs.Left.{IsLeft}
use Rattle.jfs_shared.specs.Shared.{IsServed, IfConsistent, IfKeepable, entries_in}
use Rattle.jfs_shared.specs.Shared as shared
use Rattle.jfs_shared.specs.declared.shared.SharedVolume.{SharedVolume}
use Rattle.jfs_turns.specs.Lists.{Base, HasOwn, AreOfClients}
use Rattle.jfs_turns.specs.declared.turns.Pass.{Pass}
use Rattle.jfs_server.specs.Served.{client_of}
use Rattle.jfs_server.specs.declared.served.ServedVolume.{ServedVolume}
use Rattle.jfs_server.specs.declared.stopping.Ending.TheVariants.{Home, Left, Full}
use Rattle.jfs_server.specs.declared.stopping.Last.{Last}
use Rattle.jfs_server.specs.declared.stopping.Last.TheVariants.{Nothing, Syncpoint}
use Rattle.jfs_server.specs.declared.stopping.Stopped.{Stopped}

-- A log halts by its part's last fault, whose count rose since the mount.
abbrev pub HaltsLog : MountStart → ℕ → Fault → Type 0
HaltsLog m log_faults fault = (fault ≡ record { part = High; count = log_faults }) × Rose m.log.faults log_faults

-- a count of one of the parts rose since the mount
abbrev pub AnyRose : MountStart → Parts → ℕ → Type 0
AnyRose m volume log_faults = Rose m.faults volume.faults ⊎ Rose m.log.faults log_faults

-- A syncpoint was asked for: all pages are home, and the volume runs.
pub record IsAtHome (last : Last) (p : Parts) : Type 0 where
  pub asked : last ≡ Syncpoint
  pub home : IsAllHome p
  pub runs : p.halted ≡ None

-- The list goes on each pass's, with no entry of its client; and what a pass knows to be durable is.
pub record GoesOn {D : Type 0} (d : Ghosts D) (list : List Recorded) (durable : ℕ) (p : Pass (ServedVolume D) (SharedLog D d) Recorded) : Type 0 where
  pub own : HasOwn client_of p.client p.seat.me.0.list list
  pub reached : p.seat.me.0.durable ≤ durable

-- The parts of the disk are those of the mount, and may be joined again. The volume runs as long as no count of faults rose, and no call was refused for a fault then.
pub record IsEndOf {D : Type 0} (d : Ghosts D) (m : MountStart) (x : Stopped D d) : Type 0 where
  pub pages : x.mounted.volume.count ≡ m.pages
  pub room : x.mounted.volume.room ≡ m.room
  pub log_pages : d.page_count x.mounted.log.part ≡ m.log.pages
  pub faults : Grows m.faults x.mounted.volume.faults
  pub log_faults : Grows m.log.faults (d.fault_count x.mounted.log.part)
  pub runs : (x.mounted.volume.halted ≡ None) ⊎ AnyRose m x.mounted.volume (d.fault_count x.mounted.log.part)
  pub calm : (any_failed x.history.items ≡ false) ⊎ AnyRose m x.mounted.volume (d.fault_count x.mounted.log.part)
  -- where the log has halted, so has the volume
  pub halts : (fault : Fault) → x.mounted.log.halted ≡ Some fault → HaltsLog m (d.fault_count x.mounted.log.part) fault × (is_some x.mounted.volume.halted ≡ true)

-- One list of entries goes on all that the passes know. The history is the list's entries, in its order, and none waits in the volume. Of a disk that tells its contents, and whose base is consistent, they are a legal history from that image on, which goes on from this volume, or has broken off there, as it is told where memory ran out for a call.
pub record IsStopped {D : Type 0} (d : Ghosts D) (last : Last) (passes : List (Pass (ServedVolume D) (SharedLog D d) Recorded)) (x : Stopped D d) : Type 0 where
  pub base : Base
  pub list : List Recorded
  pub history : x.history.items ≡ entries_in list
  pub all : x.mounted.volume.appended ≡ length list
  pub none : x.mounted.volume.entries ≡ []
  pub durable_within : x.mounted.log.durable ≤ length list
  -- each entry is one of a pass's client
  pub clients : AreOfClients client_of (length passes) list
  pub passes_go_on : (i : ℕ) (p : Pass (ServedVolume D) (SharedLog D d) Recorded) → get_elem? passes i ≡ some p → GoesOn d list x.mounted.log.durable p
  -- that of the last pass
  pub base_is : (i : ℕ) (p : Pass (ServedVolume D) (SharedLog D d) Recorded) → get_elem? passes i ≡ some p → suc i ≡ length passes → p.seat.me.0.base ≡ base
  pub ends : IsEndOf d (start_of base) x
  pub served : d.tells → IfConsistent base (λ s page. IsServed s page x.is_broken_off list x.mounted.volume)
  -- whatever a crash leaves of both parts of the disk is redone to that history, with all durable entries
  pub left : d.tells → d.tells_crashes → IfKeepable base (λ s image. IsLeft s image list x.mounted.log.durable (last_of x.mounted.volume.past ++ last_of (d.past x.mounted.log.part)))
  -- and where all pages are home, an image that the volume leaves when it is unmounted is keepable again
  pub again : d.tells → d.tells_crashes → IfKeepable base (λ s image. LeavesKeepable s (page_of image) x.mounted.volume)
  -- what was done last: a syncpoint, behind which nothing of the volume's part is pending, unless a count rose
  pub home : x.ending ≡ Home → IsAtHome last x.mounted.volume
  pub rests : x.ending ≡ Home → d.tells → d.tells_crashes → IfKeepable base (λ s image. IsResting (last_of x.mounted.volume.past))
  pub left_for : x.ending ≡ Left → (last ≡ Syncpoint) → AnyRose (start_of base) x.mounted.volume (d.fault_count x.mounted.log.part)
  -- the log had no page numbers for the SYNCPT that was asked for
  pub full : x.ending ≡ Full → last ≡ Syncpoint
  -- where anything was asked for, all entries are durable, unless a count rose
  pub reached : (last ≡ Nothing → ⊥) → (x.mounted.log.durable ≡ length list) ⊎ AnyRose (start_of base) x.mounted.volume (d.fault_count x.mounted.log.part)

-- ---- for the prover

-- Both stand for the same list of the same base, and no less of it is durable.
abbrev pub StandsStill : {D : Type 0} (d : Ghosts D) → Seen → SharedVolume D → SharedLog D d → Type 0
StandsStill d n x y = n.durable ≤ length n.list → (m : Seen) × AreOf (shared.standing d) (shared.log_standing d) m x y × (m.base ≡ n.base) × (m.list ≡ n.list) × (n.durable ≤ m.durable) × (m.durable ≤ length m.list)

-- it or its log has halted
abbrev pub HasHalted : Parts → Option Fault → Type 0
HasHalted volume log = (is_some volume.halted ≡ true) ⊎ (is_some log ≡ true)

-- where a syncpoint was asked for, it has halted
abbrev pub IsLeftFor : Last → Parts → Option Fault → Type 0
IsLeftFor last volume log = last ≡ Syncpoint → HasHalted volume log

abbrev pub IsDurableOr : Parts → ℕ → Option Fault → Type 0
IsDurableOr volume durable log = (durable ≡ volume.appended) ⊎ HasHalted volume log

-- all entries are durable, where that was asked for
abbrev pub IsDurableFor : Last → Parts → ℕ → Option Fault → Type 0
IsDurableFor last volume durable log = (last ≡ Nothing → ⊥) → IsDurableOr volume durable log

-- where the log has halted, so does the volume
abbrev pub HaltsAs : Option Fault → Parts → Parts → Type 0
HaltsAs None old new = new ≡ old
HaltsAs (Some fault) old new = new ≡ record old { halted = halted_by fault old.halted }
