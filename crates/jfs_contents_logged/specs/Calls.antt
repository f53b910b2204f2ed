-- What the transactions log that change what a file holds, on a consistent volume.
use Rattle.std.specs.Prelude.{◌≡◌, ℕ, List, length}
use Rattle.jfs_bits.specs.declared.descriptor.Moment.{Moment}
use Rattle.jfs_imap.specs.Inodes.{Inodes}
use Rattle.jfs_ranges.specs.declared.edit.Edit.{Edit}
use Rattle.jfs_truncate.specs.Call.{Truncates}
use Rattle.jfs_truncate.specs.declared.change.Truncated.{Truncated}
use Rattle.jfs_truncate.specs.data_steps.specs.After.{AreWholePages, with_data, after_writes}
use Rattle.jfs_truncate.specs.data_steps.specs.declared.pages.DataPage.{DataPage}
use Rattle.jfs_truncate.specs.data_steps.specs.meaning.specs.Readers.{readers}
use Rattle.jfs_truncate.specs.data_steps.specs.way.specs.Volume.{volume_of}
use Rattle.jfs_truncate.specs.read.specs.bmap.specs.States.{Blocks}
use Rattle.jfs_names_logged.specs.calls_logged.specs.Calls.{IsReady}
use Rattle.jfs_names_logged.specs.calls_logged.specs.logged.specs.Own.{LogsItsOwn}

-- The call's data is written first, past the log; then its transaction logs what the log keeps safe of the volume with that data.
abbrev pub IsLoggedAfter : ℕ → (ℕ → List ℕ) → (ℕ → ℕ) → Blocks → Inodes → List DataPage → List Edit → Type 0
IsLoggedAfter blocks pages area map inodes ds tx = LogsItsOwn (readers blocks) (with_data ds (volume_of pages area map inodes)) (after_writes blocks ds tx (volume_of pages area map inodes)) tx

-- A file gets a size. The block map has as many blocks as the file system part.
abbrev pub TruncateLaw : Type 0
TruncateLaw = (blocks : ℕ) (pages : ℕ → List ℕ) (area : ℕ → ℕ) (map : Blocks) (inodes : Inodes) (path : List (List ℕ)) (size limit : ℕ) (now : Moment) (out : Truncated) → IsReady blocks pages area map inodes → length map.states ≡ blocks
    → AreWholePages out.blocks → Truncates blocks pages inodes path size limit now out → IsLoggedAfter blocks pages area map inodes out.blocks out.tx
