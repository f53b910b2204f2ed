-- What a mounted volume holds in memory, and when it stands for a half.
use Rattle.std.specs.Prelude.{◌≡◌, ◌<◌, ◌≤◌, ℕ, suc, true, Bool, List, length, map, drop, slice_get, Option, Some, None}
use Rattle.std.specs.List.{AllByRecursion}
use Rattle.jfs_disk.specs.Image.{Image, page_of}
use Rattle.jfs_disk.specs.Crash.{DiskState, last_of}
use Rattle.jfs_disk.specs.declared.disk.Fault.{Fault}
use Rattle.jfs_map_files.specs.bmap.specs.States.{Blocks}
use Rattle.jfs_map_files.specs.imap.specs.Inodes.{Inodes}
use Rattle.jfs_map_files.specs.declared.map_file.MapFiles.{MapFiles}
use Rattle.jfs_pages.specs.declared.dirty.Dirty.{Dirty}
use Rattle.jfs_pages.specs.Dirty.{dirty_of}
use Rattle.jfs_plain.specs.declared.call.Entry.{Entry}
use Rattle.jfs_records.specs.logpages.specs.Records.{log_text, ends_of}
use Rattle.jfs_records.specs.Entries.{log_records}
use Rattle.jfs_core.specs.declared.block.Span.{Span}
use Rattle.jfs_halves.specs.declared.freed.FreedPage.{FreedPage}
use Rattle.jfs_halves.specs.Entry.{Happened, edits, entry_of}
use Rattle.jfs_halves.specs.Marks.{frees_page}
use Rattle.jfs_halves.specs.Half.{VolumeHalf, Waiting, block_in, low_in}
use Rattle.jfs_halves.specs.Change.{SameStates}

-- the records that no group has taken, as bytes
pub record Text : Type 0 where
  pub ring : ℕ
  pub place : ℕ
  pub sync : ℕ
  pub bytes : List ℕ
  -- where each record ends in them, and the number of the last entry
  pub ends : List ℕ
  pub last : ℕ

-- The parts of a volume: its cache over the low part of a disk, its maps, its counts, and the text that no group has taken.
pub record Parts : Type 0 where
  -- the number of blocks, what the cache gives of each page, and the dirty pages
  pub blocks : ℕ
  pub view : Image
  pub dirty : List Dirty
  -- what a read of the low part gives, and the states that it has had
  pub disk : Image
  pub past : List DiskState
  -- how often a call of it failed, how many pages it has, and how many it can have when another part is joined to it
  pub faults : ℕ
  pub count : ℕ
  pub room : ℕ
  pub map : Blocks
  pub inodes : Inodes
  -- the most bytes that a file may have
  pub limit : ℕ
  -- where the pages of the maps' files lie, and which map has changed since they were written
  pub files : MapFiles
  pub appended : ℕ
  pub taken : ℕ
  pub told : ℕ
  pub points : ℕ
  pub known : ℕ
  -- the entries that weren't handed out
  pub entries : List Entry
  pub text : Text
  -- pages that entries freed which aren't acknowledged
  pub freed : List FreedPage
  pub halted : Option Fault

-- which entries a dirty page holds in memory alone
abbrev pub span_of : Option Dirty → Option Span
span_of None = None
span_of (Some dirty) = Some (record { first = dirty.first; last = dirty.last })

-- The text is that of what waits, where it will stand, and its last entry is the history's.
pub record IsTextOf (number : ℕ) (waiting : Waiting) (text : Text) : Type 0 where
  pub ring : text.ring ≡ waiting.ring
  pub place : text.place ≡ waiting.place
  pub sync : text.sync ≡ waiting.sync
  pub bytes : text.bytes ≡ log_text (log_records waiting.ring waiting.place waiting.items)
  pub ends : text.ends ≡ ends_of 0 (log_records waiting.ring waiting.place waiting.items)
  pub last : text.last ≡ number

-- the entry with this number freed the page
abbrev pub IsFreed : List Happened → FreedPage → Type 0
IsFreed history freed = (before : ℕ) × (h : Happened) × (freed.by_entry ≡ suc before) × (slice_get history before ≡ Some h) × (frees_page freed.page (edits h) ≡ true)

-- These parts stand for a half: its pages where they are seen, and what a crash may leave where that is asked.
pub record StandsFor (seen asked : Bool) (parts : Parts) (half : VolumeHalf) : Type 0 where
  pub appended : parts.appended ≡ length half.history
  pub taken : parts.taken ≡ half.taken
  pub told : parts.told ≡ half.told
  pub points : parts.points ≡ length half.points
  pub known : parts.known ≡ half.known
  pub number : length half.blocks ≡ parts.blocks
  pub halted : parts.halted ≡ half.halted
  -- a page is dirty by the same entries
  pub dirty : (p : ℕ) → span_of (dirty_of parts.dirty p) ≡ (block_in half p).dirty
  pub block_map : SameStates parts.map half.shown.map
  pub inodes : parts.inodes ≡ half.shown.inodes
  pub handed : half.handed ≤ length half.history
  pub entries : parts.entries ≡ map entry_of (drop half.handed half.history)
  pub text : IsTextOf (length half.history) half.waiting parts.text
  pub freed : AllByRecursion (IsFreed half.history) parts.freed
  -- the cache gives what the volume shows, and a read of the disk what its blocks show
  pub view : seen ≡ true → parts.view ≡ half.shown.pages
  pub disk : seen ≡ true → (p : ℕ) → p < length half.blocks → page_of parts.disk p ≡ (block_in half p).pages.seen
  -- what a crash may leave now
  pub low : seen ≡ true → asked ≡ true → last_of parts.past ≡ low_in half

-- ---- A disk tells its pages, or not, and what a crash may leave, or not. What a write that failed left behind is known of one that tells it alone; so each clause is said of pages that are seen, or not, and of crashes that are asked for, or not.

abbrev pub Asked : Bool → Type 0 → Type 0
Asked asked told = asked ≡ true → told

-- what is said of each half that parts stand for, as far as their disk tells
abbrev pub OfEachHalf : (tells crashes : Type 0) → Parts → (Bool → Bool → VolumeHalf → Type 0) → Type 0
OfEachHalf tells crashes parts fact = (seen asked : Bool) → Asked seen tells → Asked asked crashes → (half : VolumeHalf) → StandsFor seen asked parts half → fact seen asked half
