-- The core's state.
use Rattle.std.specs.Prelude.{◌≡◌, ◌<◌, ◌≤◌, ◌^◌, ℕ, ◌-◌, Bool, false, List, [], ◌∷◌, map, get_or, length, take, Option, None}
use Rattle.jfs_disk.specs.Image.{Image}
use Rattle.jfs_disk.specs.Crash.{PageHistory, DiskState, no_page, resting}
use Rattle.jfs_disk.specs.declared.disk.Fault.{Fault}
use Rattle.jfs_core.specs.declared.block.Span.{Span}
use Rattle.jfs_core.specs.Image.{History, image_after}

-- A block of the low part: its content and pending writes; the entries that it holds in memory alone; and those that it
-- was written back with since the last sync that succeeded.
pub record Block : Type 0 where
  pub pages : PageHistory
  pub dirty : Option Span
  pub unsynced : Option Span

-- The core: what a mounted volume has done so far, its log as counts, and its low part.
pub record Core : Type 0 where
  -- the low part as it was mounted
  pub mounted : Image
  pub history : History
  -- how many entries a group has taken, how many are stable in the log, and how many are acknowledged
  pub taken : ℕ
  pub durable : ℕ
  pub told : ℕ
  -- whether a group is open
  pub grouped : Bool
  -- The sync counts, the mount's 0 in front: how many entries needn't be redone. How many of the counts a group has taken,
  -- and how many are stable in the log.
  pub syncpoints : List ℕ
  pub points_taken : ℕ
  pub points_stable : ℕ
  pub blocks : List Block
  -- the fault that halted a part
  pub low_halted : Option Fault
  pub log_halted : Option Fault

-- no block, where a number has none
abbrev pub no_block : Block
no_block = record { pages = no_page; dirty = None; unsynced = None }

-- the block with a number
abbrev pub block_of : Core → ℕ → Block
block_of core p = get_or core.blocks p no_block

-- the low part, as a disk
abbrev pub low_of : Core → DiskState
low_of core = map (λ block. block.pages) core.blocks

-- the image after the first n entries
abbrev pub core_image : Core → ℕ → Image
core_image core n = image_after (take n core.history) core.mounted

-- the newest sync count
abbrev pub newest_of : Core → ℕ
newest_of core = get_or core.syncpoints (length core.syncpoints - 1) 0

-- ---- its bounds

-- each of the counts of entries is at most the next: acknowledged, stable in the log, taken by a group, appended
pub record AreOrdered (told durable taken appended : ℕ) : Type 0 where
  pub told_durable : told ≤ durable
  pub durable_taken : durable ≤ taken
  pub taken_appended : taken ≤ appended

-- The mount's sync count is stable, the stable ones are among the taken ones, and these among all; each counts acknowledged
-- entries.
pub record ArePlaced (told stable taken : ℕ) (syncpoints : List ℕ) : Type 0 where
  pub mounted : 1 ≤ stable
  pub stable_taken : stable ≤ taken
  pub taken_there : taken ≤ length syncpoints
  pub acknowledged : (j : ℕ) → j < length syncpoints → get_or syncpoints j 0 ≤ told

-- every core has these, sound or not: no count passes what it counts, each block was mounted, and a page has a u32 number
pub record IsInBounds (core : Core) : Type 0 where
  pub counts : AreOrdered core.told core.durable core.taken (length core.history)
  pub points : ArePlaced core.told core.points_stable core.points_taken core.syncpoints
  pub number : length core.mounted ≡ length core.blocks
  pub few : length core.blocks < 2 ^ 32

-- ---- the start

-- a block as it was mounted
abbrev pub fresh_block : List ℕ → Block
fresh_block bytes = record { pages = resting bytes; dirty = None; unsynced = None }

-- the core of a volume that was just mounted
abbrev pub fresh_core : Image → Core
fresh_core image = record {
  mounted = image;
  history = [];
  taken = 0;
  durable = 0;
  told = 0;
  grouped = false;
  syncpoints = 0 ∷ [];
  points_taken = 1;
  points_stable = 1;
  blocks = map fresh_block image;
  low_halted = None;
  log_halted = None;
}
