-- A call with a transaction.
use Rattle.std.specs.Prelude.{◌≡◌, ◌⊎◌, ℕ, Bool, false, not, List}
use Rattle.jfs_disk.specs.declared.disk.Fault.{Fault}
use Rattle.jfs_ranges.specs.declared.edit.Edit.{Edit}
use Rattle.jfs_files.specs.data_steps.specs.declared.pages.DataPage.{DataPage}
use Rattle.jfs_plain.specs.declared.call.Request.{Request}
use Rattle.jfs_plain.specs.declared.refusal.Refusal.TheVariants.{IoFault}
use Rattle.jfs_plain.specs.declared.reply.Reply.{Reply}
use Rattle.jfs_plain.specs.declared.reply.Reply.TheVariants.{Done, Refused}
use Rattle.jfs_volume_calls.specs.halves.specs.Parts.{Parts}
use Rattle.jfs_volume_calls.specs.volume.specs.Join.{entry_with, with_entry}
use Rattle.jfs_volume_calls.specs.volume.specs.Called.{CallIs, IsJoined, GivesBack, MayGiveBack, GoesOn, FailsBy, LacksRoom}
use Rattle.jfs_volume_calls.specs.volume.specs.declared.calling.Called.{Called}
use Rattle.jfs_volume_calls.specs.volume.specs.declared.calling.Called.TheVariants as calling
use Rattle.jfs_call.specs.declared.outcome.Outcome.{Outcome}
use Rattle.jfs_call.specs.declared.outcome.Outcome.TheVariants.{Replied, NeedsLog, NoMemory}
use Rattle.jfs_call.specs.declared.reply.Caller.{Caller}

-- its entry joins so, or memory lacks for its copy and nothing changes
abbrev pub EntersAs : (tells crashes : Type 0) → Caller → Request → List Edit → List DataPage → Parts → Parts → Called → Type 0
EntersAs tells crashes caller request tx put old new called = CallIs tells crashes (entry_with caller.client caller.line request Done) tx put old new called ⊎ ((called ≡ calling.NoMemory) × (new ≡ old))

-- it joins, done
pub record IsDoneBy (tells crashes : Type 0) (caller : Caller) (request : Request) (tx : List Edit) (put : List DataPage) (old new : Parts) (reply : Reply) (number : ℕ) (waits : Bool) : Type 0 where
  pub reply_is : reply ≡ Done
  pub waits_is : waits ≡ not request.lazy
  pub joins : IsJoined tells crashes (entry_with caller.client caller.line request Done) tx put number old new

-- it failed, and its refusal joins, or memory lacks for that
pub record IsFailedBy (tells crashes : Type 0) (caller : Caller) (request : Request) (tx : List Edit) (put : List DataPage) (fault : Fault) (old new : Parts) (reply : Reply) (number : ℕ) (waits : Bool) : Type 0 where
  pub mid : Parts
  pub given_back : GivesBack tx old mid
  pub fails : FailsBy tells crashes tx put fault old mid
  pub reply_is : reply ≡ Refused (IoFault fault)
  pub number_is : number ≡ new.appended
  pub waits_not : waits ≡ false
  pub parts : new ≡ with_entry (entry_with caller.client caller.line request (Refused (IoFault fault))) mid

pub record FailsUnsaid (tells crashes : Type 0) (tx : List Edit) (put : List DataPage) (old new : Parts) : Type 0 where
  pub fault : Fault
  pub given_back : GivesBack tx old new
  pub fails : FailsBy tells crashes tx put fault old new

abbrev pub IsChangedBy : (tells crashes : Type 0) → Caller → Request → List Edit → List DataPage → Parts → Parts → Outcome → Type 0
IsChangedBy tells crashes caller request tx put old new (Replied reply entry waits) = IsDoneBy tells crashes caller request tx put old new reply entry waits ⊎ ((fault : Fault) × IsFailedBy tells crashes caller request tx put fault old new reply entry waits)
IsChangedBy tells crashes caller request tx put old new NeedsLog = GivesBack tx old new × GoesOn tells crashes old new × LacksRoom tells tx old
IsChangedBy tells crashes caller request tx put old new NoMemory = (MayGiveBack tx old new × GoesOn tells crashes old new) ⊎ ((new ≡ old) ⊎ FailsUnsaid tells crashes tx put old new)
