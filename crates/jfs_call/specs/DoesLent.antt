-- What a call does that is lent the log.
use Rattle.std.specs.Prelude.{◌≡◌, ◌⊎◌, ◌<◌, ◌+◌, ◌*◌, ◌^◌, false, length, IsSome, OnOk, IfErr, Result, Ok, Err}
use Rattle.jfs_bits.specs.declared.descriptor.Moment.{Moment}
use Rattle.jfs_disk.specs.declared.disk.Fault.{Fault}
use Rattle.jfs_disk.specs.declared.disk.Part.TheVariants.{High}
use Rattle.jfs_logpages.specs.declared.fault.LogFault.{LogFault}
use Rattle.jfs_plain.specs.declared.call.Request.{Request}
use Rattle.jfs_plain.specs.declared.refusal.Refusal.TheVariants.{IoFault}
use Rattle.jfs_plain.specs.declared.reply.Reply.TheVariants.{Refused}
use Rattle.jfs_volume_calls.specs.halves.specs.Parts.{Parts}
use Rattle.jfs_volume_calls.specs.halves.specs.Log.{LogParts}
use Rattle.jfs_volume_calls.specs.pages.specs.Device.{IsFault}
use Rattle.jfs_volume_calls.specs.volume.specs.Settles.{Settles, StaysShown, HaltsAt}
use Rattle.jfs_volume_calls.specs.Halts.{CommitHalts}
use Rattle.jfs_volume_calls.specs.Commit.{CommitIs}
use Rattle.jfs_volume_calls.specs.Syncpoint.{SyncpointIs}
use Rattle.jfs_volume_calls.specs.Together.{OfBothHalves}
use Rattle.jfs_volume_calls.specs.Written.{KeepsPages, LeavesMaps, WritesMaps}
use Rattle.jfs_call.specs.Does.{Does}
use Rattle.jfs_call.specs.Replied.{IsReplied}
use Rattle.jfs_call.specs.declared.outcome.Outcome.{Outcome}
use Rattle.jfs_call.specs.declared.outcome.Outcome.TheVariants.{NeedsLog, NoMemory}
use Rattle.jfs_call.specs.declared.reply.Caller.{Caller}

-- a volume and its log
pub record Both : Type 0 where
  pub volume : Parts
  pub log : LogParts

-- who calls, for what, and when
pub record Asking : Type 0 where
  pub caller : Caller
  pub request : Request
  pub now : Moment

-- how it ends: what is so then, and how the call is answered
pub record End : Type 0 where
  pub both : Both
  pub outcome : Outcome

abbrev pub asks : Caller → Request → Moment → Asking
asks caller request now = record { caller = caller; request = request; now = now }

abbrev pub with_log : Parts → LogParts → Both
with_log volume log = record { volume = volume; log = log }

abbrev pub ends_with : Parts → LogParts → Outcome → End
ends_with volume log outcome = record { both = record { volume = volume; log = log }; outcome = outcome }

-- ---- a commit, and a syncpoint

-- All entries so far are durable. Entries and maps stay, but for busy blocks, and so do the pages, but for those that entries freed; a commit that fails halts the volume.
pub record Commits (tells crashes : Type 0) (old new : Both) (result : Result (Unit {0}) LogFault) : Type 0 where
  pub commit : OfBothHalves tells crashes old.volume old.log (λ seen asked both. CommitIs seen asked old.volume new.volume new.log both result)
  pub told : OnOk result (new.volume.told ≡ new.volume.appended)
  pub settles : Settles old.volume new.volume
  pub files : KeepsPages tells old.volume new.volume
  pub halts : CommitHalts old.volume.halted new.volume.halted result
  pub cause : IfErr result (λ (why : LogFault). why.fault.part ≡ High)

-- The same, and all pages are home and synced: each map that had changed is shown by its pages. Where it fails, pages stay but for those that entries freed, and those of the maps, of which some may be written; and the fault is the low part's, whose count rose, or the log's.
pub record Points (tells crashes : Type 0) (old new : Both) (result : Result (Unit {0}) Fault) : Type 0 where
  pub syncpoint : OfBothHalves tells crashes old.volume old.log (λ seen asked both. SyncpointIs seen asked old.volume new.volume new.log both result)
  pub told : OnOk result (new.volume.told ≡ new.volume.appended)
  pub settles : Settles old.volume new.volume
  pub shown : StaysShown tells old.volume new.volume
  pub leaves : tells → LeavesMaps old.volume new.volume
  pub maps : OnOk result (tells → WritesMaps old.volume new.volume)
  pub halts : HaltsAt old.volume.halted new.volume.halted result
  pub cause : IfErr result (λ fault. IsFault old.volume.faults new.volume.faults fault ⊎ (fault.part ≡ High))

-- ---- what follows where the call needs the log

-- it does what it does without the log
abbrev pub DoesAlone : (tells crashes : Type 0) → Asking → Both → End → Type 0
DoesAlone tells crashes a old end = Does tells crashes a.caller a.request a.now old.volume end.both.volume end.outcome × (end.both.log ≡ old.log)

-- it is asked and needs the log; then this
abbrev pub NeedsThen : (tells crashes : Type 0) → Asking → (Both → End → Type 0) → Both → End → Type 0
NeedsThen tells crashes a follows old end = (asked : Parts) × Does tells crashes a.caller a.request a.now old.volume asked NeedsLog × follows (record old { volume = asked }) end

-- it isn't asked again
abbrev pub GivesUp : Both → End → Type 0
GivesUp old end = (end.both ≡ old) × (end.outcome ≡ NoMemory)

-- it is refused for a fault of the log or of the low part
abbrev pub IsRefusedFor : Asking → Fault → Both → End → Type 0
IsRefusedFor a fault old end = IsReplied a.caller a.request (Refused (IoFault fault)) false old.volume end.both.volume end.outcome × (end.both.log ≡ old.log)

-- A commit, and then this; where it fails, the call is refused for its fault.
abbrev pub AfterCommit : Asking → (Both → End → Type 0) → Both → End → Result (Unit {0}) LogFault → Type 0
AfterCommit a follows old end (Ok done) = follows old end
AfterCommit a follows old end (Err why) = IsRefusedFor a why.fault old end

pub record CommitsThen (tells crashes : Type 0) (a : Asking) (follows : Both → End → Type 0) (old : Both) (end : End) : Type 0 where
  pub mid : Both
  pub result : Result (Unit {0}) LogFault
  pub commits : Commits tells crashes old mid result
  pub ends : AfterCommit a follows mid end result

-- A syncpoint, and then this; where it fails, the call is refused for its fault.
abbrev pub AfterPoint : Asking → (Both → End → Type 0) → Both → End → Result (Unit {0}) Fault → Type 0
AfterPoint a follows old end (Ok done) = follows old end
AfterPoint a follows old end (Err fault) = IsRefusedFor a fault old end

pub record PointsThen (tells crashes : Type 0) (a : Asking) (follows : Both → End → Type 0) (old : Both) (end : End) : Type 0 where
  pub mid : Both
  pub result : Result (Unit {0}) Fault
  pub points : Points tells crashes old mid result
  pub ends : AfterPoint a follows mid end result

-- ---- the call

-- It is asked for the last time. One that needs the log behind a syncpoint too is answered as where memory lacks.
abbrev pub DoesLast : (tells crashes : Type 0) → Asking → Both → End → Type 0
DoesLast tells crashes a old end = DoesAlone tells crashes a old end ⊎ NeedsThen tells crashes a GivesUp old end

-- A commit wasn't enough: a syncpoint, where the numbers of the log's pages have room for one.
abbrev pub DoesPointed : (tells crashes : Type 0) → Asking → Both → End → Type 0
DoesPointed tells crashes a old end =
    ((4080 * 2 ^ 32 < old.volume.text.place + length old.volume.text.bytes + 72) × GivesUp old end) ⊎ PointsThen tells crashes a (DoesLast tells crashes a) old end

abbrev pub DoesCommitted : (tells crashes : Type 0) → Asking → Both → End → Type 0
DoesCommitted tells crashes a old end = CommitsThen tells crashes a (λ mid last. DoesAlone tells crashes a mid last ⊎ NeedsThen tells crashes a (DoesPointed tells crashes a) mid last) old end

-- It needs the log: a commit, where the volume hasn't halted. A halted one can't write its log.
abbrev pub DoesAgain : (tells crashes : Type 0) → Asking → Both → End → Type 0
DoesAgain tells crashes a old end = (IsSome old.volume.halted × GivesUp old end) ⊎ DoesCommitted tells crashes a old end
