-- What a call does: how it ends, and what becomes of the volume.
use Rattle.std.specs.Prelude.{◌≡◌, Bool, true, false, List, Option, Some, None, Result, Ok, Err}
use Rattle.jfs_bits.specs.declared.descriptor.Moment.{Moment}
use Rattle.jfs_disk.specs.declared.disk.Fault.{Fault}
use Rattle.jfs_ranges.specs.declared.edit.Edit.{Edit}
use Rattle.jfs_files.specs.declared.outcome.FileOutcome.{FileOutcome}
use Rattle.jfs_files.specs.declared.outcome.FileOutcome.TheVariants.{Changed, Same, NeedsLog as Awaits}
use Rattle.jfs_files.specs.data_steps.specs.declared.pages.DataPage.{DataPage}
use Rattle.jfs_plain.specs.Call.{is_changing}
use Rattle.jfs_plain.specs.CallStep.{is_sync}
use Rattle.jfs_plain.specs.declared.call.Request.{Request}
use Rattle.jfs_plain.specs.declared.refusal.Refusal.TheVariants.{ReadOnly, IoFault}
use Rattle.jfs_plain.specs.declared.reply.Reply.TheVariants.{Done, Refused}
use Rattle.jfs_volume_calls.specs.halves.specs.Parts.{Parts, OfEachHalf}
use Rattle.jfs_volume_calls.specs.pages.specs.Device.{HasFault}
use Rattle.jfs_volume_calls.specs.volume.specs.Asked.{IsAskedOf}
use Rattle.jfs_volume_calls.specs.volume.specs.Settle.{SyncIs}
use Rattle.jfs_volume_calls.specs.volume.specs.Settles.{HomesAlone, HaltsAt}
use Rattle.jfs_call.specs.Answer.{held}
use Rattle.jfs_call.specs.Changed.{IsChangedBy}
use Rattle.jfs_call.specs.Needs.{AnswersOf}
use Rattle.jfs_call.specs.Replied.{IsReplied, TellsSame}
use Rattle.jfs_call.specs.declared.outcome.Outcome.{Outcome}
use Rattle.jfs_call.specs.declared.outcome.Outcome.TheVariants.{NeedsLog, NoMemory}
use Rattle.jfs_call.specs.declared.reply.Caller.{Caller}

-- ---- `sync`

-- the low part was synced; a sync that failed halts the volume
pub record IsSynced (tells crashes : Type 0) (old new : Parts) (synced : Result (Unit {0}) Fault) : Type 0 where
  pub sync : OfEachHalf tells crashes old (λ seen asked half. SyncIs seen asked old new half synced)
  pub alone : HomesAlone tells old new
  pub kept : new.dirty ≡ old.dirty
  pub halts : HaltsAt old.halted new.halted synced
  pub cause : HasFault old.faults new.faults synced

-- It is done, and waits until all entries so far are durable; or it is refused for the fault.
abbrev pub TellsSynced : Caller → Request → Result (Unit {0}) Fault → Parts → Parts → Outcome → Type 0
TellsSynced caller request (Ok done) old new outcome = IsReplied caller request Done true old new outcome
TellsSynced caller request (Err fault) old new outcome = IsReplied caller request (Refused (IoFault fault)) false old new outcome

pub record Syncs (tells crashes : Type 0) (caller : Caller) (request : Request) (old new : Parts) (outcome : Outcome) : Type 0 where
  pub mid : Parts
  pub synced : Result (Unit {0}) Fault
  pub is : IsSynced tells crashes old mid synced
  pub told : TellsSynced caller request synced mid new outcome

-- ---- file calls

-- no call but a changing one changes anything
abbrev pub ChangesWhere : (changing : Bool) (tells crashes : Type 0) → Caller → Request → List Edit → List DataPage → Parts → Parts → Outcome → Type 0
ChangesWhere true tells crashes caller request tx put old new outcome = IsChangedBy tells crashes caller request tx put old new outcome
ChangesWhere false tells crashes caller request tx put old new outcome = (outcome ≡ NoMemory) × (new ≡ old)

-- The transaction joins, or is given back; or nothing changes, and this is the reply; or busy blocks stand between the call and its blocks.
abbrev pub EndsBy : (tells crashes : Type 0) → Caller → Request → FileOutcome → Parts → Parts → Outcome → Type 0
EndsBy tells crashes caller request (Changed tx put) old new outcome = ChangesWhere (is_changing request.call) tells crashes caller request tx put old new outcome
EndsBy tells crashes caller request (Same reply) old new outcome = TellsSame caller request reply old new outcome
EndsBy tells crashes caller request Awaits old new outcome = (outcome ≡ NeedsLog) × (new ≡ old)

-- The volume is asked what the call does to it at this moment, and the call ends by that answer alone.
pub record AsksFile (tells crashes : Type 0) (caller : Caller) (request : Request) (now : Moment) (old new : Parts) (outcome : Outcome) : Type 0 where
  pub mid : Parts
  pub answer : FileOutcome
  pub answers : AnswersOf tells request now old mid answer
  pub asked : IsAskedOf tells crashes old mid
  pub ends : EndsBy tells crashes caller request answer mid new outcome

-- ---- any call

abbrev pub DoesWhere : (refused : Option Fault) (syncs : Bool) (tells crashes : Type 0) → Caller → Request → Moment → Parts → Parts → Outcome → Type 0
DoesWhere (Some fault) syncs tells crashes caller request now old new outcome = IsReplied caller request (Refused (ReadOnly fault)) false old new outcome
DoesWhere None true tells crashes caller request now old new outcome = Syncs tells crashes caller request old new outcome
DoesWhere None false tells crashes caller request now old new outcome = AsksFile tells crashes caller request now old new outcome

-- One that a halted volume refuses is told the fault that halted it, and nothing but the list of entries changes; `sync` syncs; and every other call is a file call.
abbrev pub Does : (tells crashes : Type 0) → Caller → Request → Moment → Parts → Parts → Outcome → Type 0
Does tells crashes caller request now old new outcome = DoesWhere (held old.halted request.call) (is_sync request.call) tells crashes caller request now old new outcome
