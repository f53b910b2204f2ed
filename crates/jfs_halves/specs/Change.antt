-- What a volume's calls change of its half, one after another.
use Rattle.std.specs.Prelude.{◌≡◌, ◌<◌, ◌≤◌, ◌⊎◌, ◌++◌, ◌∷◌, [], ℕ, suc, true, false, List, length, slice_get, IsSome, Some, None}
use Rattle.jfs_disk.specs.Crash.{DiskState}
use Rattle.jfs_disk.specs.declared.disk.Fault.{Fault}
use Rattle.jfs_map_files.specs.bmap.specs.States.{Blocks, state_of, is_busy_state}
use Rattle.jfs_core.specs.Image.{pages_after}
use Rattle.jfs_core.specs.Step.{EndsBy}
use Rattle.jfs_halves.specs.Entry.{Happened, edits}
use Rattle.jfs_halves.specs.Marks.{map_after, TakeFree, frees_page}
use Rattle.jfs_halves.specs.Half.{VolumeHalf, block_in, low_in, appended, all_taken, told_upto, all_handed, page_home, page_torn, page_dropped, data_written, data_torn, low_stopped, log_stopped, all_synced, point_made, points_known}

pub data Change : Type 0 where
  -- an entry joins the history
  Enters : Happened → Change
  -- a group takes all that waits
  Takes : Change
  -- the first n entries are acknowledged
  Tells : ℕ → Change
  -- all entries are handed out
  HandsOut : Change
  -- a dirty page goes home; or its write fails, and so many front sectors of it are read
  GoesHome : ℕ → Change
  Tears : ℕ → ℕ → Fault → Change
  -- a dirty page that an acknowledged entry freed is dropped
  Drops : ℕ → Change
  -- a block of a file is written past the log; or that fails
  Writes : ℕ → List ℕ → Change
  WriteTears : ℕ → List ℕ → ℕ → Fault → Change
  -- a call on the low part failed, and left it as it was; the log's part failed
  Stops : Fault → Change
  LogStops : Fault → Change
  -- the low part is synced
  Syncs : Change
  -- redo begins behind all entries so far; all sync counts are known to be stable
  Points : Change
  Knows : Change

abbrev pub changed : VolumeHalf → Change → VolumeHalf
changed half (Enters h) = appended h half
changed half Takes = all_taken half
changed half (Tells n) = told_upto n half
changed half HandsOut = all_handed half
changed half (GoesHome p) = page_home p half
changed half (Tears p sectors fault) = page_torn p sectors fault half
changed half (Drops p) = page_dropped p half
changed half (Writes p bytes) = data_written p bytes half
changed half (WriteTears p bytes sectors fault) = data_torn p bytes sectors fault half
changed half (Stops fault) = low_stopped fault half
changed half (LogStops fault) = log_stopped fault half
changed half Syncs = all_synced half
changed half Points = point_made half
changed half Knows = points_known half

-- ---- when a change may be made

-- two maps have the same states, whatever memory they have
pub record SameStates (a b : Blocks) : Type 0 where
  pub states : a.states ≡ b.states
  pub agsize : a.agsize ≡ b.agsize

-- What an entry leaves follows from its transaction. The blocks that it takes were free: an entry that freed one is acknowledged before another uses it.
pub record MayEnter (half : VolumeHalf) (h : Happened) : Type 0 where
  pub runs : (edits h ≡ []) ⊎ (half.halted ≡ None)
  pub pages : h.after.pages ≡ pages_after 0 (edits h) half.shown.pages
  pub map : SameStates h.after.map (map_after (suc (length half.history)) (edits h) half.shown.map)
  pub takes_free : TakeFree half.shown.map (edits h)
  pub logged : h.logs ≡ false → h.noted ≡ []

-- a dirty page whose entries are all acknowledged
abbrev pub MayGoHome : VolumeHalf → ℕ → Type 0
MayGoHome half p = (p < length half.blocks) × IsSome (block_in half p).dirty × EndsBy half.told (block_in half p).dirty

-- A dirty page that an acknowledged entry freed, and that no entry after that one changed.
pub record MayDrop (half : VolumeHalf) (p : ℕ) : Type 0 where
  pub there : p < length half.blocks
  pub dirty : IsSome (block_in half p).dirty
  pub before : ℕ
  pub by_entry : Happened
  pub is : slice_get half.history before ≡ Some by_entry
  pub told : before < half.told
  pub frees : frees_page p (edits by_entry) ≡ true
  pub last : EndsBy (suc before) (block_in half p).dirty

-- a block that isn't busy and holds no page in memory alone, while nothing has halted
pub record MayWrite (half : VolumeHalf) (p : ℕ) : Type 0 where
  pub there : p < length half.blocks
  pub not_busy : is_busy_state (state_of half.shown.map p) ≡ false
  pub clean : (block_in half p).dirty ≡ None
  pub runs : half.halted ≡ None

-- all entries are acknowledged, and no page is dirty or unsynced
abbrev pub MayPoint : VolumeHalf → Type 0
MayPoint half = (half.told ≡ length half.history) × ((p : ℕ) → p < length half.blocks → ((block_in half p).dirty ≡ None) × ((block_in half p).unsynced ≡ None))

abbrev pub Fits : VolumeHalf → Change → Type 0
Fits half (Enters h) = MayEnter half h
Fits half Takes = Unit {0}
Fits half (Tells n) = (half.told ≤ n) × (n ≤ half.taken)
Fits half HandsOut = Unit {0}
Fits half (GoesHome p) = MayGoHome half p
Fits half (Tears p sectors fault) = (sectors ≤ 8) × MayGoHome half p
Fits half (Drops p) = MayDrop half p
Fits half (Writes p bytes) = MayWrite half p
Fits half (WriteTears p bytes sectors fault) = (sectors ≤ 8) × MayWrite half p
Fits half (Stops fault) = Unit {0}
Fits half (LogStops fault) = Unit {0}
Fits half Syncs = Unit {0}
Fits half Points = MayPoint half
Fits half Knows = Unit {0}

-- ---- the states of the low part that a change leads to: one for each call on it

abbrev pub states_of : VolumeHalf → Change → List DiskState
states_of half (GoesHome p) = low_in (page_home p half) ∷ []
states_of half (Tears p sectors fault) = low_in (page_torn p sectors fault half) ∷ []
states_of half (Writes p bytes) = low_in (data_written p bytes half) ∷ []
states_of half (WriteTears p bytes sectors fault) = low_in (data_torn p bytes sectors fault half) ∷ []
states_of half Syncs = low_in (all_synced half) ∷ []
states_of half (Enters h) = []
states_of half Takes = []
states_of half (Tells n) = []
states_of half HandsOut = []
states_of half (Drops p) = []
states_of half (Stops fault) = []
states_of half (LogStops fault) = []
states_of half Points = []
states_of half Knows = []

-- ---- lists of changes

abbrev pub after : VolumeHalf → List Change → VolumeHalf
after half [] = half
after half (c ∷ cs) = after (changed half c) cs

abbrev pub FitAll : VolumeHalf → List Change → Type 0
FitAll half [] = Unit {0}
FitAll half (c ∷ cs) = Fits half c × FitAll (changed half c) cs

abbrev pub states_after : VolumeHalf → List Change → List DiskState
states_after half [] = []
states_after half (c ∷ cs) = states_of half c ++ states_after (changed half c) cs
