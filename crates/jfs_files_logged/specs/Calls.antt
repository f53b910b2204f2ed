-- What a file call logs where it is done, by what it answers of the pages on its ways.
use Rattle.std.specs.Prelude.{◌≡◌, ℕ, List, length}
use Rattle.jfs_bits.specs.declared.descriptor.Moment.{Moment}
use Rattle.jfs_ranges.specs.declared.edit.Edit.{Edit}
use Rattle.jfs_plain.specs.Limits.{FitsCall}
use Rattle.jfs_plain.specs.declared.call.Call.{Call}
use Rattle.jfs_map_files.specs.declared.maps.Maps.{Maps}
use Rattle.jfs_files.specs.Meets.{Meets}
use Rattle.jfs_files.specs.data_steps.specs.After.{AreWholePages}
use Rattle.jfs_files.specs.data_steps.specs.declared.pages.DataPage.{DataPage}
use Rattle.jfs_files.specs.declared.outcome.FileOutcome.TheVariants.{Changed}
use Rattle.jfs_writes_logged.specs.contents_logged.specs.Calls.{IsLoggedAfter}
use Rattle.jfs_writes_logged.specs.contents_logged.specs.calls_logged.specs.Calls.{IsReady}

-- A call within the limits on a consistent volume, whose block map has as many blocks as the file system part: where it is done, its data is written, and then its transaction logs what the log keeps safe.
abbrev pub FilesLaw : Type 0
FilesLaw = (blocks : ℕ) (pages : ℕ → List ℕ) (area : ℕ → ℕ) (maps : Maps) (call : Call) (now : Moment) (tx : List Edit) (written : List DataPage) → IsReady blocks pages area maps.blocks maps.inodes → length maps.blocks.states ≡ blocks → FitsCall call
    → AreWholePages written → Meets blocks pages maps call now (Changed tx written) → IsLoggedAfter blocks pages area maps.blocks maps.inodes written tx
