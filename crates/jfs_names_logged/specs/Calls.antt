-- What the transactions of unlink and rmdir log, on a consistent volume.
use Rattle.std.specs.Prelude.{◌≡◌, ℕ, List, length}
use Rattle.jfs_bits.specs.declared.descriptor.Moment.{Moment}
use Rattle.jfs_imap.specs.Inodes.{Inodes}
use Rattle.jfs_ranges.specs.declared.edit.Edit.{Edit}
use Rattle.jfs_unlink.specs.Call.{Unlinks, Removes}
use Rattle.jfs_unlink.specs.loss.specs.bmap.specs.States.{Blocks}
use Rattle.jfs_calls_logged.specs.Calls.{IsReady, IsLogged}

-- A name goes, and its object has one link less or goes with all that it has; or an empty directory goes. The block map has as many blocks as the file system part.
pub record LossLaw : Type 0 where
  pub unlinks : (blocks : ℕ) (pages : ℕ → List ℕ) (area : ℕ → ℕ) (map : Blocks) (inodes : Inodes) (path : List (List ℕ)) (limit : ℕ) (now : Moment) (tx : List Edit) → IsReady blocks pages area map inodes → length map.states ≡ blocks
      → Unlinks blocks pages inodes path limit now tx → IsLogged blocks pages area map inodes tx
  pub removes : (blocks : ℕ) (pages : ℕ → List ℕ) (area : ℕ → ℕ) (map : Blocks) (inodes : Inodes) (path : List (List ℕ)) (now : Moment) (tx : List Edit) → IsReady blocks pages area map inodes → length map.states ≡ blocks
      → Removes blocks pages inodes path now tx → IsLogged blocks pages area map inodes tx
