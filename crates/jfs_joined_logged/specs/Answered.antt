-- A file call that a mounted volume answers with a transaction and data, and what it logs.
use Rattle.std.specs.Prelude.{◌≡◌, ℕ, List}
use Rattle.jfs_bits.specs.declared.descriptor.Moment.{Moment}
use Rattle.jfs_disk.specs.Image.{page_of}
use Rattle.jfs_ranges.specs.View.{AreWhole}
use Rattle.jfs_ranges.specs.declared.edit.Edit.{Edit}
use Rattle.jfs_plain.specs.Limits.{FitsCall}
use Rattle.jfs_plain.specs.declared.call.Call.{Call}
use Rattle.jfs_files_logged.specs.files.specs.Meets.{Meets}
use Rattle.jfs_files_logged.specs.files.specs.data_steps.specs.After.{AreWholePages, with_data}
use Rattle.jfs_files_logged.specs.files.specs.data_steps.specs.declared.pages.DataPage.{DataPage}
use Rattle.jfs_files_logged.specs.files.specs.data_steps.specs.meaning.specs.Consistent.{IsConsistent}
use Rattle.jfs_files_logged.specs.files.specs.data_steps.specs.meaning.specs.Readers.{readers}
use Rattle.jfs_files_logged.specs.files.specs.declared.outcome.FileOutcome.TheVariants.{Changed}
use Rattle.jfs_joined_held.specs.volume.specs.Asked.{maps_in}
use Rattle.jfs_joined_held.specs.volume.specs.halves.specs.Parts.{Parts}
use Rattle.jfs_joined_held.specs.Held.{blocks_at, volume_at}
use Rattle.jfs_joined_held.specs.Called.{volume_then, LogsCall}
use Rattle.jfs_joined_held.specs.held.specs.Held.{Mount}
use Rattle.jfs_joined_held.specs.held.specs.survival.specs.logged.specs.Own.{LogsItsOwn}

-- The volume is consistent, and the pages of its file system part are whole. The call is within the limits; it is answered with this transaction and whole pages of this data, as the clause `meets` of a file call says. (What the volume's view shows past the part may be anything.)
pub record IsAnsweredCall (area : ℕ → ℕ) (old : Parts) (call : Call) (now : Moment) (tx : List Edit) (put : List DataPage) : Type 0 where
  pub consistent : IsConsistent (readers (blocks_at old)) (volume_at area old)
  pub whole : AreWhole (blocks_at old) old.view
  pub fits : FitsCall call
  pub put_whole : AreWholePages put
  pub meets : Meets (blocks_at old) (page_of old.view) (maps_in old) call now (Changed tx put)

-- So its transaction logs what matters behind the data, and keeps to its own pages. And where the volume reads as it did when it was mounted, it logs what is asked of a call that joins.
pub record AnsweredLaw : Type 0 where
  pub own : (area : ℕ → ℕ) (old : Parts) (call : Call) (now : Moment) (tx : List Edit) (put : List DataPage) → IsAnsweredCall area old call now tx put → LogsItsOwn (readers (blocks_at old)) (with_data put (volume_at area old)) (volume_then area old tx put) tx
  pub logs : (m : Mount) (area : ℕ → ℕ) (old : Parts) (call : Call) (now : Moment) (tx : List Edit) (put : List DataPage) → readers (blocks_at old) ≡ m.readers → IsAnsweredCall area old call now tx put → LogsCall m area old tx put
