-- What the transaction of a file call logs, on a consistent volume.
use Rattle.std.specs.Prelude.{◌≡◌, ◌<◌, ℕ, List, length}
use Rattle.jfs_bits.specs.declared.descriptor.Moment.{Moment}
use Rattle.jfs_imap.specs.Inodes.{Inodes}
use Rattle.jfs_ranges.specs.declared.edit.Edit.{Edit}
use Rattle.jfs_chmod.specs.Call.{SetsMode}
use Rattle.jfs_chmod.specs.steps.specs.After.{after_call}
use Rattle.jfs_chmod.specs.steps.specs.bmap.specs.States.{Blocks}
use Rattle.jfs_chmod.specs.steps.specs.meaning.specs.Readers.{readers}
use Rattle.jfs_chmod.specs.steps.specs.meaning.specs.Consistent.{IsConsistent}
use Rattle.jfs_chmod.specs.steps.specs.way.specs.Volume.{volume_of}
use Rattle.jfs_logged.specs.Own.{LogsItsOwn}

-- The pages of a file system part of so many blocks have 4,096 bytes each. What stands behind them may be anything.
pub record ArePages (blocks : ℕ) (pages : ℕ → List ℕ) : Type 0 where
  pub sizes : (b : ℕ) → b < blocks → length (pages b) ≡ 4096

-- A volume on which calls may be done: its pages and both maps.
pub record IsReady (blocks : ℕ) (pages : ℕ → List ℕ) (area : ℕ → ℕ) (map : Blocks) (inodes : Inodes) : Type 0 where
  pub are_pages : ArePages blocks pages
  pub consistent : IsConsistent (readers blocks) (volume_of pages area map inodes)

-- A call's transaction logs what the log keeps safe, and keeps to its own pages.
abbrev pub IsLogged : ℕ → (ℕ → List ℕ) → (ℕ → ℕ) → Blocks → Inodes → List Edit → Type 0
IsLogged blocks pages area map inodes tx = LogsItsOwn (readers blocks) (volume_of pages area map inodes) (after_call blocks tx (volume_of pages area map inodes)) tx

-- A change of a mode. The block map has as many blocks as the file system part.
abbrev pub ModeLaw : Type 0
ModeLaw = (blocks : ℕ) (pages : ℕ → List ℕ) (area : ℕ → ℕ) (map : Blocks) (inodes : Inodes) (path : List (List ℕ)) (mode : ℕ) (now : Moment) (tx : List Edit) → IsReady blocks pages area map inodes → length map.states ≡ blocks → mode < 4096
    → SetsMode blocks pages inodes path mode now tx → IsLogged blocks pages area map inodes tx
