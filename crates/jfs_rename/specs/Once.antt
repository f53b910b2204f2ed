-- How often a rename takes and frees a block of a consistent volume.
use Rattle.std.specs.Prelude.{◌≡◌, ◌⊎◌, ◌<◌, ◌≤◌, ℕ, Bool, true, false, List, Result, Ok, Err}
use Rattle.jfs_imap.specs.Inodes.{Inodes}
use Rattle.jfs_bmap.specs.States.{Blocks}
use Rattle.jfs_ranges.specs.declared.edit.Edit.{Edit}
use Rattle.jfs_plain.specs.declared.refusal.Refusal.{Refusal}
use Rattle.jfs_link.specs.meaning.specs.Readers.{readers}
use Rattle.jfs_link.specs.meaning.specs.Consistent.{IsConsistent}
use Rattle.jfs_link.specs.way.specs.Volume.{volume_of, PlacesWithin}
use Rattle.jfs_link.specs.steps.specs.After.{takes, frees}
use Rattle.jfs_rename.specs.Done.{room_in}
use Rattle.jfs_rename.specs.declared.renaming.Renamed.{Renamed}
use Rattle.jfs_rename.specs.declared.renaming.Renamed.TheVariants as renamed

-- Blocks that weren't in use are taken, each once. Blocks in use are freed, or such as were taken, each once.
pub record IsOrderly (tx : List Edit) (used : ℕ → Bool) : Type 0 where
  pub fresh : (b : ℕ) → 0 < takes tx b → used b ≡ false
  pub taken_once : (b : ℕ) → takes tx b ≤ 1
  pub owned : (b : ℕ) → 0 < frees tx b → (used b ≡ true) ⊎ (0 < takes tx b)
  pub freed_once : (b : ℕ) → frees tx b ≤ 1

-- the transaction does, on a consistent volume with this greatest size of a file
abbrev pub FreesOnce : ℕ → (ℕ → List ℕ) → Blocks → Inodes → ℕ → Result Renamed Refusal → Type 0
FreesOnce blocks pages map inodes limit (Ok (renamed.Done tx)) = PlacesWithin blocks inodes → (area : ℕ → ℕ) → IsConsistent (readers blocks) (volume_of pages area map inodes) → (log_pages : ℕ) → (room_in blocks pages area map inodes log_pages).limit ≡ limit
    → IsOrderly tx (volume_of pages area map inodes).used
FreesOnce blocks pages map inodes limit (Ok renamed.Same) = Unit {0}
FreesOnce blocks pages map inodes limit (Ok renamed.NeedsLog) = Unit {0}
FreesOnce blocks pages map inodes limit (Err why) = Unit {0}
