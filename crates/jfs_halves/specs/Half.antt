-- What a mounted volume has done so far, as plain data: the half that lies beside the pages before the log, and the half beside the log.
use Rattle.std.specs.Prelude.{◌&&◌, ◌==◌, ℕ, suc, ◌+◌, Bool, not, List, [], ◌∷◌, ◌++◌, length, map, set, get_or, Option, None}
use Rattle.jfs_disk.specs.Image.{Image, page_of}
use Rattle.jfs_disk.specs.Crash.{DiskState, torn}
use Rattle.jfs_disk.specs.declared.disk.Fault.{Fault}
use Rattle.jfs_ranges.specs.Apply.{touches_tx}
use Rattle.jfs_map_files.specs.bmap.specs.States.{blocks_settled}
use Rattle.jfs_records.specs.Entries.{Item, point, text_size}
use Rattle.jfs_core.specs.Core.{Block, Core, no_block}
use Rattle.jfs_core.specs.Step.{marked, sent_home, failed_home, synced, halted_by}
use Rattle.jfs_halves.specs.Entry.{Shown, Happened, edits, logged, items_of}

-- ---- the volume's half

-- What no group has taken yet of the log's text: its entries and SYNCPTs, and where it will stand, in bytes from page number 0 of the ring on.
pub record Waiting : Type 0 where
  -- the number of ring pages
  pub ring : ℕ
  pub place : ℕ
  pub items : List Item
  -- where the newest SYNCPT begins: redo needs nothing before it
  pub sync : ℕ

pub record VolumeHalf : Type 0 where
  -- the low part as it was mounted
  pub mounted : Image
  pub history : List Happened
  -- how many entries groups have taken, how many are acknowledged, and how many were handed out
  pub taken : ℕ
  pub told : ℕ
  pub handed : ℕ
  -- the sync counts, the mount's 0 in front, and how many of them are known to be stable in the log
  pub points : List ℕ
  pub known : ℕ
  -- each block of the low part: its page, what it holds in memory alone, what isn't synced
  pub blocks : List Block
  pub shown : Shown
  pub waiting : Waiting
  -- the first fault that halted the low part, and the first of either part that the volume knows
  pub low_halted : Option Fault
  pub halted : Option Fault

abbrev pub block_in : VolumeHalf → ℕ → Block
block_in half p = get_or half.blocks p no_block

-- page p, as the volume shows it
abbrev pub page_in : VolumeHalf → ℕ → List ℕ
page_in half p = page_of half.shown.pages p

-- the low part, as a disk
abbrev pub low_in : VolumeHalf → DiskState
low_in half = map (λ block. block.pages) half.blocks

-- where the text ends, once all that waits is written
abbrev pub text_end : Waiting → ℕ
text_end w = w.place + text_size w.items

-- ---- the log's half

pub record LogHalf : Type 0 where
  -- how many entries and sync counts are stable in the log
  pub durable : ℕ
  pub stable : ℕ
  -- how many sync counts groups have taken
  pub points_taken : ℕ
  -- where the log's text since the mount begins, what stands there, and what a group has taken and isn't written yet
  pub start : ℕ
  pub items : List Item
  pub group : List Item
  pub log_halted : Option Fault

-- both halves
pub record Halves : Type 0 where
  pub volume : VolumeHalf
  pub log : LogHalf

-- A group is open where something was taken that isn't stable.
abbrev pub is_open : Halves → Bool
is_open both = not (both.log.durable == both.volume.taken && both.log.stable == both.log.points_taken)

-- both halves as one core
abbrev pub core_of : Halves → Core
core_of both = record {
  mounted = both.volume.mounted;
  history = map logged both.volume.history;
  taken = both.volume.taken;
  durable = both.log.durable;
  told = both.volume.told;
  grouped = is_open both;
  syncpoints = both.volume.points;
  points_taken = both.log.points_taken;
  points_stable = both.log.stable;
  blocks = both.volume.blocks;
  low_halted = both.volume.low_halted;
  log_halted = both.log.log_halted;
}

-- ---- what calls change of the volume's half

-- an entry joins: the pages that it changes are dirty, and its records wait
abbrev pub appended : Happened → VolumeHalf → VolumeHalf
appended h half = let n = suc (length half.history) in record half {
  history = half.history ++ h ∷ [];
  blocks = marked (λ p. touches_tx p (edits h)) n 0 half.blocks;
  shown = h.after;
  waiting = record half.waiting { items = half.waiting.items ++ items_of n h };
}

-- a group takes all that waits
abbrev pub all_taken : VolumeHalf → VolumeHalf
all_taken half = record half { taken = length half.history; waiting = record half.waiting { place = text_end half.waiting; items = [] } }

-- the first n entries are acknowledged, and what they freed isn't busy any more
abbrev pub told_upto : ℕ → VolumeHalf → VolumeHalf
told_upto n half = record half { told = n; shown = record half.shown { map = blocks_settled n half.shown.map } }

-- all entries were handed out
abbrev pub all_handed : VolumeHalf → VolumeHalf
all_handed half = record half { handed = length half.history }

-- page p goes home as it is now
abbrev pub page_home : ℕ → VolumeHalf → VolumeHalf
page_home p half = record half { blocks = set half.blocks p (sent_home (page_in half p) (block_in half p)) }

-- both parts that the volume knows of keep the first fault
abbrev pub low_stopped : Fault → VolumeHalf → VolumeHalf
low_stopped fault half = record half { low_halted = halted_by fault half.low_halted; halted = halted_by fault half.halted }

-- its write failed: so many front sectors of it are read
abbrev pub page_torn : ℕ → ℕ → Fault → VolumeHalf → VolumeHalf
page_torn p sectors fault half = record (low_stopped fault half) { blocks = set half.blocks p (failed_home (page_in half p) sectors (block_in half p)) }

-- a dirty page is dropped with its changes: it shows what a read of the disk gives
abbrev pub page_dropped : ℕ → VolumeHalf → VolumeHalf
page_dropped p half = let block = block_in half p in record half {
  blocks = set half.blocks p (record block { dirty = None });
  shown = record half.shown { pages = set half.shown.pages p block.pages.seen };
}

-- a block of a file is written past the log
abbrev pub data_written : ℕ → List ℕ → VolumeHalf → VolumeHalf
data_written p bytes half = record half {
  blocks = set half.blocks p (sent_home bytes (block_in half p));
  shown = record half.shown { pages = set half.shown.pages p bytes };
}

-- that write failed: so many front sectors of it are read, and the rest of what was there
abbrev pub data_torn : ℕ → List ℕ → ℕ → Fault → VolumeHalf → VolumeHalf
data_torn p bytes sectors fault half = record (low_stopped fault half) {
  blocks = set half.blocks p (failed_home bytes sectors (block_in half p));
  shown = record half.shown { pages = set half.shown.pages p (torn sectors bytes (block_in half p).pages.seen) };
}

-- the log part halted, as the volume comes to know
abbrev pub log_stopped : Fault → VolumeHalf → VolumeHalf
log_stopped fault half = record half { halted = halted_by fault half.halted }

-- what a read gives is stable
abbrev pub all_synced : VolumeHalf → VolumeHalf
all_synced half = record half { blocks = map synced half.blocks }

-- redo begins behind all entries so far: a SYNCPT that gives itself waits behind all that does
abbrev pub point_made : VolumeHalf → VolumeHalf
point_made half = record half {
  points = half.points ++ length half.history ∷ [];
  waiting = record half.waiting { items = half.waiting.items ++ point 0 ∷ []; sync = text_end half.waiting };
}

-- all sync counts are known to be stable
abbrev pub points_known : VolumeHalf → VolumeHalf
points_known half = record half { known = length half.points }
