-- What the log has of a call's entry.
use Rattle.std.specs.Prelude.{◌≡◌, ◌⊎◌, ℕ, Bool, true, false, List, Option, Some, None}
use Rattle.std.proofs.Common.{inl, inr}
use Rattle.jfs_bits.specs.declared.descriptor.Moment.{Moment}
use Rattle.jfs_disk.specs.declared.disk.Fault.{Fault}
use Rattle.jfs_ranges.specs.declared.edit.Edit.{Edit}
use Rattle.jfs_files.specs.declared.outcome.FileOutcome.{FileOutcome}
use Rattle.jfs_files.specs.declared.outcome.FileOutcome.TheVariants.{Changed, Same, NeedsLog as Awaits}
use Rattle.jfs_files.specs.data_steps.specs.declared.pages.DataPage.{DataPage}
use Rattle.jfs_plain.specs.Call.{is_changing}
use Rattle.jfs_plain.specs.CallStep.{is_sync}
use Rattle.jfs_plain.specs.declared.call.Request.{Request}
use Rattle.jfs_volume_calls.specs.halves.specs.Parts.{Parts}
use Rattle.jfs_volume_calls.specs.records.specs.Records.{Noted, noted}
use Rattle.jfs_call.specs.Answer.{held}
use Rattle.jfs_call.specs.Changed.{IsChangedBy}
use Rattle.jfs_call.specs.Does.{ChangesWhere, EndsBy, DoesWhere, Does}
use Rattle.jfs_call.specs.declared.outcome.Outcome.{Outcome}
use Rattle.jfs_call.specs.declared.outcome.Outcome.TheVariants.{Replied, NeedsLog, NoMemory}
use Rattle.jfs_call.specs.declared.reply.Caller.{Caller}

-- Of a call that is done, and whose transaction joined, the edits with what their records name beside them. Any other call has no record in the log, or no entry.
abbrev pub noted_in : (tells crashes : Type 0) (caller : Caller) (request : Request) (tx : List Edit) (put : List DataPage) (old new : Parts) (outcome : Outcome) → IsChangedBy tells crashes caller request tx put old new outcome → Option (List Noted)
noted_in tells crashes caller request tx put old new (Replied reply number waits) (inl done) = Some (noted tx done.joins.joins.notes)
noted_in tells crashes caller request tx put old new (Replied reply number waits) (inr failed) = None
noted_in tells crashes caller request tx put old new NeedsLog ended = None
noted_in tells crashes caller request tx put old new NoMemory ended = None

abbrev pub noted_where : (tells crashes : Type 0) (changing : Bool) (caller : Caller) (request : Request) (tx : List Edit) (put : List DataPage) (old new : Parts) (outcome : Outcome) → ChangesWhere changing tells crashes caller request tx put old new outcome → Option (List Noted)
noted_where tells crashes true caller request tx put old new outcome changes = noted_in tells crashes caller request tx put old new outcome changes
noted_where tells crashes false caller request tx put old new outcome none = None

abbrev pub noted_at : (tells crashes : Type 0) (caller : Caller) (request : Request) (answer : FileOutcome) (old new : Parts) (outcome : Outcome) → EndsBy tells crashes caller request answer old new outcome → Option (List Noted)
noted_at tells crashes caller request (Changed tx put) old new outcome ends = noted_where tells crashes (is_changing request.call) caller request tx put old new outcome ends
noted_at tells crashes caller request (Same reply) old new outcome ends = None
noted_at tells crashes caller request Awaits old new outcome ends = None

abbrev pub noted_of : (tells crashes : Type 0) (refused : Option Fault) (syncs : Bool) (caller : Caller) (request : Request) (now : Moment) (old new : Parts) (outcome : Outcome) → DoesWhere refused syncs tells crashes caller request now old new outcome → Option (List Noted)
noted_of tells crashes (Some fault) syncs caller request now old new outcome does = None
noted_of tells crashes None true caller request now old new outcome does = None
noted_of tells crashes None false caller request now old new outcome does = noted_at tells crashes caller request does.answer does.mid new outcome does.ends

abbrev pub noted_by : (tells crashes : Type 0) (caller : Caller) (request : Request) (now : Moment) (old new : Parts) (outcome : Outcome) → Does tells crashes caller request now old new outcome → Option (List Noted)
noted_by tells crashes caller request now old new outcome does = noted_of tells crashes (held old.halted request.call) (is_sync request.call) caller request now old new outcome does
