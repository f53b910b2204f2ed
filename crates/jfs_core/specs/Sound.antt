-- The sound core, and what a crash leaves of it.
use Rattle.std.specs.Prelude.{◌≡◌, ◌<◌, ◌≤◌, ◌⊎◌, ℕ, suc, ◌+◌, ◌*◌, false, List, length, get_or, take, drop, Option, Some, None}
use Rattle.jfs_disk.specs.Image.{Image, page_of}
use Rattle.jfs_disk.specs.Crash.{IsCrashImage, content_of}
use Rattle.jfs_core.specs.declared.block.Span.{Span}
use Rattle.jfs_core.specs.Image.{image_after, IsMeta, AgreesOnMeta}
use Rattle.jfs_core.specs.Core.{Core, Block, block_of, low_of, core_image, newest_of, IsInBounds}
use Rattle.jfs_core.specs.Step.{BeginsPast, IsSynced}

-- ---- one block

-- two contents have the same bytes in a cell of 16
abbrev pub SameCell : List ℕ → List ℕ → ℕ → Type 0
SameCell a b cell = (i : ℕ) → i < 16 → get_or a (16 * cell + i) 0 ≡ get_or b (16 * cell + i) 0

-- each cell that matters is the one that the block had after some entry from m to told
pub record IsBetween (cares : ℕ → Type 0) (v : ℕ → List ℕ) (m told : ℕ) (content : List ℕ) : Type 0 where
  pub each : (cell : ℕ) → cell < 256 → cares cell → (k : ℕ) × (m ≤ k) × (k ≤ told) × SameCell content (v k) cell

-- an entry lies in a span
abbrev pub LiesIn : ℕ → Option Span → Type 0
LiesIn k None = ⊥
LiesIn k (Some span) = (span.first ≤ k) × (k ≤ span.last)

-- a span is one of the first n entries
abbrev pub SpansWithin : ℕ → Option Span → Type 0
SpansWithin n None = Unit {0}
SpansWithin n (Some span) = (1 ≤ span.first) × (span.first ≤ n) × (span.last ≤ n)

-- what is unsynced doesn't begin after what is dirty
abbrev pub BeginInOrder : Option Span → Option Span → Type 0
BeginInOrder (Some unsynced) (Some dirty) = unsynced.first ≤ dirty.first
BeginInOrder (Some unsynced) None = Unit {0}
BeginInOrder None dirty = Unit {0}

-- a fact of every count from m to n
abbrev pub Throughout : (ℕ → Type 0) → ℕ → ℕ → Type 0
Throughout fact m n = (k : ℕ) → m ≤ k → k ≤ n → fact k

-- A block whose content after k entries is `v k`, and which after them holds an inode or a page of a tree where `meta k`;
-- `cares` are its cells that matter. There are n entries, of which told are acknowledged.
pub record BlockOk (meta : ℕ → Type 0) (cares : ℕ → Type 0) (v : ℕ → List ℕ) (n told : ℕ) (block : Block) : Type 0 where
  pub seen_size : length block.pages.seen ≡ 4096
  pub sizes : (j : ℕ) → j ≤ length block.pages.writes → length (content_of block.pages j) ≡ 4096
  -- a read gives one of the contents that a crash may leave
  pub readable : (j : ℕ) × (j ≤ length block.pages.writes) × (block.pages.seen ≡ content_of block.pages j)
  -- a read gives what the block had after entries from m on, where it holds the first m entries
  pub shown : (m : ℕ) → m ≤ told → Throughout meta m told → BeginsPast m block.dirty → IsBetween cares v m told block.pages.seen
  -- and so does each content that a crash may leave, where it holds them stable
  pub pending : (m : ℕ) → m ≤ told → Throughout meta m told → BeginsPast m block.dirty → BeginsPast m block.unsynced →
      (j : ℕ) → j ≤ length block.pages.writes → IsBetween cares v m told (content_of block.pages j)
  -- an entry that isn't acknowledged changes the block only where it is dirty since
  pub later : (k : ℕ) → told ≤ k → k < n → LiesIn (suc k) block.dirty ⊎ ((v (suc k) ≡ v k) × (meta (suc k) → meta k))
  pub in_order : BeginInOrder block.unsynced block.dirty
  pub dirty_within : SpansWithin n block.dirty
  pub unsynced_within : SpansWithin n block.unsynced

-- ---- the whole core

-- page p after k entries
abbrev pub page_at : Core → ℕ → ℕ → List ℕ
page_at core p k = page_of (core_image core k) p

-- whether page p matters after k entries
abbrev pub meta_at : Core → ℕ → ℕ → Type 0
meta_at core p k = IsMeta (core_image core k) p

-- c is a sync count from the newest stable one on, of those before place `end`
abbrev pub IsSyncCount : Core → ℕ → ℕ → Type 0
IsSyncCount core end c = (j : ℕ) × (core.points_stable ≤ j + 1) × (j < end) × (c ≡ get_or core.syncpoints j 0)

-- of a page that matters every cell does
abbrev pub every_cell : ℕ → Type 0
every_cell k = Unit {0}

-- what is known of block p of a core
abbrev pub IsOk : Core → ℕ → Block → Type 0
IsOk core p block = BlockOk (meta_at core p) every_cell (page_at core p) (length core.history) core.told block

-- the parts that each step keeps
pub record IsKept (core : Core) : Type 0 where
  pub bounds : IsInBounds core
  -- the sync counts never fall, and the mount's is 0
  pub rising : (i j : ℕ) → i ≤ j → j < length core.syncpoints → get_or core.syncpoints i 0 ≤ get_or core.syncpoints j 0
  pub front : get_or core.syncpoints 0 0 ≡ 0
  -- where no group is open, each log image has all that was taken
  pub closed : core.grouped ≡ false → (core.taken ≡ core.durable) × (core.points_taken ≡ core.points_stable)
  pub sizes : (p : ℕ) → p < length core.blocks → length (page_of core.mounted p) ≡ 4096
  -- The two parts that make the whole inductive: what each block holds, and that the newest sync count passes no page
  -- that isn't stable.
  pub blocks : (p : ℕ) → p < length core.blocks → IsOk core p (block_of core p)
  pub passed : (p : ℕ) → p < length core.blocks → IsSynced (newest_of core) (block_of core p)

-- In each low image, each cell of a page that matters from the sync count to the acknowledged entries has the value that it
-- has after some entry of these.
abbrev pub HasKnownCells : Core → Type 0
HasKnownCells core = (c : ℕ) → IsSyncCount core (length core.syncpoints) c → (low : Image) → IsCrashImage (low_of core) low →
    (p : ℕ) → p < length core.blocks → Throughout (meta_at core p) c core.told → IsBetween every_cell (page_at core p) c core.told (page_of low p)

-- The sound core: the parts that each step keeps, and what they give.
pub record IsSound (core : Core) : Type 0 where
  pub kept : IsKept core
  pub cells : HasKnownCells core

-- A log image: a sync count from the newest stable one to the newest taken one, and a number of entries from the durable
-- to the taken ones. It holds the transactions of the entries after that count up to that number.
pub record IsLogImage (core : Core) (c n : ℕ) : Type 0 where
  pub count : IsSyncCount core core.points_taken c
  pub durable : core.durable ≤ n
  pub taken : n ≤ core.taken

-- a low image, redone by a log image
abbrev pub redone_image : Core → Image → ℕ → ℕ → Image
redone_image core low c n = image_after (drop c (take n core.history)) low

-- redo of a low image by a log image agrees with the image after the first n entries
abbrev pub Recovered : Core → Image → ℕ → ℕ → Type 0
Recovered core low c n = AgreesOnMeta (redone_image core low c n) (core_image core n)

-- whatever a crash leaves is recovered
abbrev pub AlwaysRecovers : Core → Type 0
AlwaysRecovers core = (low : Image) (c n : ℕ) → IsCrashImage (low_of core) low → IsLogImage core c n → Recovered core low c n

-- ---- the law

-- From one state of the core to a later one: what was acknowledged is in the later history's first n entries, and redo
-- of what a crash then leaves gives the image after these.
pub record Survives (core later : Core) (low : Image) (c n : ℕ) : Type 0 where
  pub acknowledged : core.told ≤ n
  pub history : take (length core.history) later.history ≡ core.history
  pub recovered : Recovered later low c n
