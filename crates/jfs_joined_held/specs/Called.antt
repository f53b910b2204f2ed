-- A call with a transaction that is done.
use Rattle.std.specs.Bool.{⊤}
use Rattle.std.specs.Prelude.{◌≡◌, ◌⊎◌, ◌<◌, ◌≤◌, [], ℕ, Bool, true, false, List}
use Rattle.jfs_bits.specs.declared.descriptor.Moment.{Moment}
use Rattle.jfs_ranges.specs.declared.edit.Edit.{Edit}
use Rattle.jfs_ranges.specs.Apply.{touches_tx}
use Rattle.jfs_volume.specs.Append.{unreserved}
use Rattle.jfs_volume.specs.Called.{IsJoined, happened}
use Rattle.jfs_volume.specs.data_steps.specs.After.{AreWholePages, LieWithin, with_data, after_writes}
use Rattle.jfs_volume.specs.data_steps.specs.Laws.{PutsOwn}
use Rattle.jfs_volume.specs.data_steps.specs.declared.pages.DataPage.{DataPage}
use Rattle.jfs_volume.specs.data_steps.specs.meaning.specs.Consistent.{IsConsistent}
use Rattle.jfs_volume.specs.data_steps.specs.meaning.specs.Readers.{readers}
use Rattle.jfs_volume.specs.data_steps.specs.objects.specs.Volume.{Volume}
use Rattle.jfs_volume.specs.data_steps.specs.steps.specs.Call.{LeavesAreas}
use Rattle.jfs_volume.specs.data_steps.specs.way.specs.Volume.{PlacesWithin}
use Rattle.jfs_volume.specs.halves.specs.Entry.{Happened}
use Rattle.jfs_volume.specs.halves.specs.Half.{Halves}
use Rattle.jfs_volume.specs.halves.specs.Parts.{Parts, StandsFor}
use Rattle.jfs_volume.specs.plain.specs.declared.call.Entry.{Entry}
use Rattle.jfs_entries_within.specs.entered.specs.Laws.{IsReserved}
use Rattle.jfs_entries_within.specs.entered.specs.Marked.{HasBits}
use Rattle.jfs_held_calls.specs.held.specs.survival.specs.recovery.specs.Core.{Core}
use Rattle.jfs_held_calls.specs.held.specs.survival.specs.logged.specs.Logged.{LogsWell}
use Rattle.jfs_held_calls.specs.held.specs.Held.{Mount}
use Rattle.jfs_held_calls.specs.held.specs.Changes.{AllMay, after}
use Rattle.jfs_held_calls.specs.Calls.{made_by}
use Rattle.jfs_joined_held.specs.Held.{blocks_at, volume_at, held_at, IsHeldAs}

-- the volume after it
abbrev pub volume_then : (ℕ → ℕ) → Parts → List Edit → List DataPage → Volume
volume_then area old tx put = after_writes (blocks_at old) put tx (volume_at area old)

-- ---- what is known of it

-- A file call was asked of a volume, and answered with a transaction and data: blocks were reserved that were free, the volume is consistent before the data, behind it and behind the transaction, and the fixed areas stay. Whole pages of data go into a file's own blocks, or into such as aren't in use.
pub record IsAnswered (area : ℕ → ℕ) (old mid : Parts) (tx : List Edit) (put : List DataPage) : Type 0 where
  pub view : mid.view ≡ old.view
  pub inodes : mid.inodes ≡ old.inodes
  pub part : mid.blocks ≡ old.blocks
  pub reserved : IsReserved old.map mid.map tx
  pub before : IsConsistent (readers (blocks_at old)) (volume_at area old)
  pub behind_data : IsConsistent (readers (blocks_at old)) (with_data put (volume_at area old))
  pub behind_all : IsConsistent (readers (blocks_at old)) (volume_then area old tx put)
  pub areas : LeavesAreas (volume_at area old) (volume_then area old tx put)
  pub own : (put ≡ []) ⊎ PutsOwn (blocks_at old) (volume_at area old) put
  pub lies : LieWithin (blocks_at old) put
  pub whole : AreWholePages put
  pub within : blocks_at old ≤ old.blocks
  pub places : PlacesWithin (blocks_at old) old.inodes
  pub bits : HasBits old.inodes

-- Its transaction logs what matters, behind the data; and it has no line of a page of a fixed area. (Both are to be proved of each file call, by what it meets.)
pub record LogsCall (m : Mount) (area : ℕ → ℕ) (old : Parts) (tx : List Edit) (put : List DataPage) : Type 0 where
  pub logs : LogsWell m.readers (with_data put (volume_at area old)) (volume_then area old tx put) tx
  pub untold : (p : ℕ) → 0 < area p → touches_tx p tx ≡ false

-- ---- what follows

-- Each of its changes may be made, one after the other, and the volume is held by the parts after them.
pub record IsRunOfCall (m : Mount) (area : ℕ → ℕ) (old new : Parts) (both : Halves) (core : Core) (volumes : ℕ → Volume) (put : List DataPage) (h : Happened) (w : Volume) : Type 0 where
  pub may : AllMay m (held_at both core volumes area old) (made_by (volume_at area old) put h w)
  pub held : IsHeldAs m area new (after m (held_at both core volumes area old) (made_by (volume_at area old) put h w)).both (after m (held_at both core volumes area old) (made_by (volume_at area old) put h w)).core
      (after m (held_at both core volumes area old) (made_by (volume_at area old) put h w)).volumes

-- Its entry joins, as the code says of an append. The parts from which it was asked stand for the halves, once what was reserved for it is free again.
abbrev pub CalledLaw : Type 0
CalledLaw = (m : Mount) (area : ℕ → ℕ) (now : Moment) (tx : List Edit) (put : List DataPage) (entry : Entry) (number : ℕ) (asked : Bool) (old mid new : Parts) (both : Halves) (core : Core) (volumes : ℕ → Volume)
    → IsHeldAs m area old both core volumes → IsAnswered area old mid tx put → (joined : IsJoined ⊤ ⊤ entry tx put number mid new) → StandsFor true asked (unreserved tx mid) both.volume → LogsCall m area old tx put
    → IsRunOfCall m area old new both core volumes put (happened entry now tx joined.joins.notes put new.inodes both.volume) (volume_then area old tx put)
