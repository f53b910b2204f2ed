-- What the parts of a volume are once an entry with a transaction has joined.
use Rattle.std.specs.Prelude.{◌≡◌, ◌<◌, ℕ, ◌&&◌, Bool, true, false, nat_lt, if◌then◌else◌, List, length}
use Rattle.jfs_bits.specs.declared.descriptor.Pxd.{Pxd}
use Rattle.jfs_disk.specs.Image.{Image, page_of}
use Rattle.jfs_marks.specs.imap.specs.Inodes.{Inodes}
use Rattle.jfs_room.specs.bmap.specs.States.{Blocks, Free, Reserved, state_of, is_owned, is_in_list, changed, put_state}
use Rattle.jfs_ranges.specs.declared.edit.Edit.{Edit}
use Rattle.jfs_ranges.specs.Laid.{put_tx}
use Rattle.jfs_marks.specs.records.specs.declared.note.Note.{Note}
use Rattle.jfs_halves.specs.crash_core.specs.Image.{pages_after}
use Rattle.jfs_halves.specs.Marks.{takes as takes_block, map_after}
use Rattle.jfs_halves.specs.Change.{SameStates}
use Rattle.jfs_room.specs.way.specs.Volume.{volume_of}
use Rattle.jfs_room.specs.Laws.{NoneReserved}
use Rattle.jfs_marks.specs.steps.specs.After.{takes, frees, used_after}
use Rattle.jfs_marks.specs.data_steps.specs.After.{put_data, after_writes}
use Rattle.jfs_marks.specs.data_steps.specs.declared.pages.DataPage.{DataPage}
use Rattle.jfs_marks.specs.declared.marks.InodeMarks.{InodeMarks}
use Rattle.jfs_marks.specs.Marks.{AreMarked}
use Rattle.jfs_marks.specs.Behind.{frees_behind}
use Rattle.jfs_entered.specs.Marked.{AreLoggable, HasMarks}

-- ---- the block map

abbrev pub used_in : Blocks → ℕ → Bool
used_in map b = nat_lt b (length map.states) && is_owned map b

-- What a transaction takes was free, and it alone is reserved beside what was before. (`reserved_by` of jfs_files.)
pub record IsReserved (old mid : Blocks) (tx : List Edit) : Type 0 where
  pub free : (b : ℕ) → 0 < takes tx b → state_of old b ≡ Free
  pub states : mid.states ≡ (changed (λ b s. if nat_lt 0 (takes tx b) then Reserved else s) old).states

-- Where a transaction frees a block that it took, it does so behind the take. (A transaction that frees blocks in use alone frees none that it took.)
abbrev pub FreesBehind : List Edit → Type 0
FreesBehind tx = (b : ℕ) → 0 < takes tx b → 0 < frees tx b → (used : ℕ → Bool) → used_after tx used b ≡ false

-- which a transaction that passes the test does
abbrev pub BehindLaw : Type 0
BehindLaw = (tx : List Edit) → frees_behind tx ≡ true → FreesBehind tx

-- The map of an entry: the runs that it takes are its reserved blocks.
pub record IsEnteredMap (blocks n : ℕ) (tx : List Edit) (notes : List Note) (list : List Pxd) (old mid new : Blocks) : Type 0 where
  pub loggable : AreLoggable blocks tx notes
  pub reserved : IsReserved old mid tx
  pub behind : FreesBehind tx
  pub list_is : (b : ℕ) → takes_block b tx ≡ is_in_list list b
  pub entered : SameStates new (map_after n tx (put_state Free list mid))

pub record AreBlocksAfter (tx : List Edit) (old new : Blocks) : Type 0 where
  pub used : (b : ℕ) → used_in new b ≡ used_after tx (used_in old) b
  pub size : length new.states ≡ length old.states
  pub rest : NoneReserved old → NoneReserved new

abbrev pub BlocksLaw : Type 0
BlocksLaw = (blocks n : ℕ) (tx : List Edit) (notes : List Note) (list : List Pxd) (old mid new : Blocks) → IsEnteredMap blocks n tx notes list old mid new → AreBlocksAfter tx old new

-- ---- the pages

abbrev pub PagesLaw : Type 0
PagesLaw = (blocks : ℕ) (tx : List Edit) (notes : List Note) (image : Image) (b : ℕ) → AreLoggable blocks tx notes → b < blocks → page_of (pages_after 0 tx image) b ≡ put_tx blocks tx (page_of image) b

-- ---- the volume

-- Both maps are an entry's, and the transaction keeps a consistent volume consistent: pages after data and transaction, with these maps, are the volume after the call.
abbrev pub VolumeLaw : Type 0
VolumeLaw = (blocks n : ℕ) (pages : ℕ → List ℕ) (area : ℕ → ℕ) (old mid new : Blocks) (inodes inodes_new : Inodes) (ds : List DataPage) (tx : List Edit) (notes : List Note) (marks : InodeMarks) (list : List Pxd)
    → HasMarks blocks pages area old inodes ds tx notes marks → IsEnteredMap blocks n tx notes list old mid new → AreMarked inodes marks inodes_new
    → volume_of (put_tx blocks tx (put_data ds pages)) area new inodes_new ≡ after_writes blocks ds tx (volume_of pages area old inodes)
