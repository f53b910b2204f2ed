-- What the transactions of write and fill log, on a consistent volume.
use Rattle.std.specs.Prelude.{◌≡◌, ◌<◌, ◌≤◌, ℕ, List, length}
use Rattle.jfs_bits.specs.declared.descriptor.Moment.{Moment}
use Rattle.jfs_bmap.specs.States.{Blocks}
use Rattle.jfs_imap.specs.Inodes.{Inodes}
use Rattle.jfs_write.specs.Call.{IsWritten}
use Rattle.jfs_write.specs.declared.make.Written.{Written}
use Rattle.jfs_write_pages.specs.data_steps.specs.After.{AreWholePages}
use Rattle.jfs_contents_logged.specs.Calls.{IsLoggedAfter}
use Rattle.jfs_contents_logged.specs.calls_logged.specs.Calls.{IsReady}

-- Bytes are put into a file, from 1 to 65,536; those of a fill are one byte so many times. The block map has as many blocks as the file system part, and each page of the data is whole.
abbrev pub WriteLaw : Type 0
WriteLaw = (blocks : ℕ) (pages : ℕ → List ℕ) (area : ℕ → ℕ) (map : Blocks) (inodes : Inodes) (path : List (List ℕ)) (offset : ℕ) (bytes : List ℕ) (limit : ℕ) (now : Moment) (after : Blocks) (out : Written) → IsReady blocks pages area map inodes → length map.states ≡ blocks
    → 0 < length bytes → length bytes ≤ 65536 → AreWholePages out.blocks → IsWritten blocks pages inodes path offset bytes limit now map after out → IsLoggedAfter blocks pages area map inodes out.blocks out.tx
