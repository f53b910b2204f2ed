-- Why a call needs the log.
use Rattle.std.specs.Prelude.{◌⊎◌, length, List}
use Rattle.jfs_bits.specs.declared.descriptor.Moment.{Moment}
use Rattle.jfs_disk.specs.Image.{page_of}
use Rattle.jfs_disk.specs.declared.disk.Part.TheVariants.{Low}
use Rattle.jfs_ranges.specs.declared.edit.Edit.{Edit}
use Rattle.jfs_files.specs.data_steps.specs.declared.pages.DataPage.{DataPage}
use Rattle.jfs_plain.specs.declared.call.Request.{Request}
use Rattle.jfs_volume_calls.specs.halves.specs.Parts.{Parts}
use Rattle.jfs_files.specs.declared.outcome.FileOutcome.{FileOutcome}
use Rattle.jfs_files.specs.declared.outcome.FileOutcome.TheVariants.{Changed, NeedsLog as Awaits}
use Rattle.jfs_volume_calls.specs.volume.specs.Asked.{maps_in}
use Rattle.jfs_volume_calls.specs.volume.specs.Called.{LacksRoom}
use Rattle.jfs_call.specs.Asked.{AnswersFile}

-- what a file call answers of a volume, whose parts are these then
abbrev pub AnswersOf : (tells : Type 0) → Request → Moment → Parts → Parts → FileOutcome → Type 0
AnswersOf tells request now old mid answer = AnswersFile tells (length old.map.states) (page_of old.view) request now (maps_in old) (maps_in mid) (record { part = Low; count = old.faults }) (record { part = Low; count = mid.faults }) answer

-- it has a transaction, and the log has no room for its records with all that waits
pub record LacksLog (tells : Type 0) (request : Request) (now : Moment) (old : Parts) : Type 0 where
  pub mid : Parts
  pub tx : List Edit
  pub put : List DataPage
  pub answers : AnswersOf tells request now old mid (Changed tx put)
  pub full : LacksRoom tells tx old

-- or busy blocks stand between the call and its blocks
abbrev pub AwaitsBlocks : (tells : Type 0) → Request → Moment → Parts → Type 0
AwaitsBlocks tells request now old = (mid : Parts) × AnswersOf tells request now old mid Awaits

abbrev pub NeedsFor : (tells : Type 0) → Request → Moment → Parts → Type 0
NeedsFor tells request now old = LacksLog tells request now old ⊎ AwaitsBlocks tells request now old
