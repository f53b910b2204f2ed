-- What is left of the tree where the write of a call's data failed.
use Rattle.std.specs.Prelude.{◌≡◌, ℕ, List}
use Rattle.jfs_bits.specs.declared.descriptor.Moment.{Moment}
use Rattle.jfs_disk.specs.declared.disk.Fault.{Fault}
use Rattle.jfs_ranges.specs.declared.edit.Edit.{Edit}
use Rattle.jfs_call.specs.files.specs.declared.outcome.FileOutcome.TheVariants.{Changed}
use Rattle.jfs_call.specs.volume.specs.Called.{GivesBack}
use Rattle.jfs_call.specs.volume.specs.Data.{IsPartlyPut}
use Rattle.jfs_call.specs.volume.specs.Join.{with_entry}
use Rattle.jfs_call.specs.volume.specs.data_steps.specs.After.{EachOnce}
use Rattle.jfs_call.specs.volume.specs.data_steps.specs.declared.pages.DataPage.{DataPage}
use Rattle.jfs_call.specs.halves.specs.Parts.{Parts}
use Rattle.jfs_call.specs.volume.specs.pages.specs.Device.{IsFault}
use Rattle.jfs_call.specs.plain.specs.declared.call.Entry.{Entry}
use Rattle.jfs_call.specs.plain.specs.declared.call.Request.{Request}
use Rattle.jfs_call.specs.plain.specs.declared.refusal.Refusal.TheVariants.{IoFault}
use Rattle.jfs_call.specs.plain.specs.declared.reply.Reply.TheVariants.{Refused}
use Rattle.jfs_served.specs.Holds.{MayServe}
use Rattle.jfs_served.specs.Step.{IsAsked, IsAnswer, TakesStep}

-- It was put in part, and what was reserved is free again. So the call, whose refusal for the fault joins, leaves all objects, and all bytes but those that it writes over.
abbrev pub TornLaw : Type 0
TornLaw = (area : ℕ → ℕ) (log_pages : ℕ) (request : Request) (now : Moment) (tx : List Edit) (put : List DataPage) (fault : Fault) (entry : Entry) (old mid torn new : Parts)
    → MayServe area log_pages old → IsAsked old mid → IsAnswer request now old mid (Changed tx put)
    → GivesBack tx mid torn → (EachOnce put → IsPartlyPut put mid.view torn.view) → IsFault old.faults torn.faults fault → new ≡ with_entry entry torn → TakesStep area log_pages request.call now (Refused (IoFault fault)) old new
