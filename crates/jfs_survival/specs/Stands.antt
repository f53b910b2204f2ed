-- When a core of log redo is the one of a mounted volume's halves.
use Rattle.std.specs.Prelude.{◌≡◌, ◌<◌, ◌≤◌, ℕ, Bool, true, false, List, length, map, Some, None, IsSome}
use Rattle.jfs_face.specs.recovery.specs.crash_core.specs.declared.block.Span.{Span}
use Rattle.jfs_face.specs.recovery.specs.crash_core.specs.Core.{Block}
use Rattle.jfs_ranges.specs.Apply.{touches_tx}
use Rattle.jfs_logged.specs.halves.specs.Entry.{edits}
use Rattle.jfs_logged.specs.halves.specs.Half.{Halves, block_in, page_in, is_open}
use Rattle.jfs_face.specs.recovery.specs.Face.{Face}
use Rattle.jfs_face.specs.recovery.specs.Core.{Core, Slot, count, entry, image, matters_at}
use Rattle.jfs_face.specs.recovery.specs.Sound.{IsSound}

-- One block of both: the core's, which matters after k entries where `m k`, and the half's, with what is shown of it. There are n entries, of which those from 0 on have lines of it where `lines` says so, and after them the page has these bytes.
-- A page of a map is dirty in the core since an entry changed that map; the half writes it whole, and never holds it as dirty.
pub record IsBlockOf (is_map : Bool) (m lines : ℕ → Bool) (n : ℕ) (page : List ℕ) (slot : Slot) (block : Block) (shown : List ℕ) : Type 0 where
  -- the same was written to it
  pub written : slot.block.pages ≡ block.pages
  pub map_clean : is_map ≡ true → block.dirty ≡ None
  -- what isn't unsynced in the half isn't in the core
  pub synced : is_map ≡ false → block.unsynced ≡ None → slot.block.unsynced ≡ None
  pub size : is_map ≡ false → length shown ≡ 4096
  -- a page that matters is shown as it is
  pub shown_is : is_map ≡ false → m n ≡ true → shown ≡ page
  -- and where the half holds changes of it in memory alone, so does the core
  pub dirty : is_map ≡ false → m n ≡ true → IsSome block.dirty → IsSome slot.block.dirty
  -- the core has no later change of it than the half, but for an entry that freed it
  pub later : is_map ≡ false → (span : Span) → slot.block.dirty ≡ Some span → m span.last ≡ true → (own : Span) × (block.dirty ≡ Some own) × (span.last ≤ own.last)
  -- no entry behind the half's last change has lines of it
  pub quiet : (own : Span) → block.dirty ≡ Some own → (k : ℕ) → own.last ≤ k → k < n → lines k ≡ false

-- whether the k-th entry, from 0, has lines of a page
abbrev pub lines_at : Core → ℕ → ℕ → Bool
lines_at core p k = touches_tx p (entry core k)

-- nothing was ever changed of it
pub record IsUntouched (block : Block) : Type 0 where
  pub dirty : block.dirty ≡ None
  pub unsynced : block.unsynced ≡ None

-- The core has the transactions, the counts and the blocks of both halves, and is sound. What lies past the volume's part of the disk nobody changes.
pub record IsCoreOf (f : Face) (both : Halves) (core : Core) : Type 0 where
  pub sound : IsSound f core
  pub history : map (λ d. d.tx) core.history ≡ map edits both.volume.history
  pub taken : core.taken ≡ both.volume.taken
  pub durable : core.durable ≡ both.log.durable
  pub told : core.told ≡ both.volume.told
  pub grouped : core.grouped ≡ is_open both
  pub syncpoints : core.syncpoints ≡ both.volume.points
  pub points_taken : core.points_taken ≡ both.log.points_taken
  pub points_stable : core.points_stable ≡ both.log.stable
  pub number : length both.volume.shown.pages ≡ length both.volume.blocks
  pub each : (p : ℕ) → p < length both.volume.blocks → IsBlockOf (f.is_map p) (matters_at f core p) (lines_at core p) (count core) (image core (count core) p) (core.slots p) (block_in both.volume p) (page_in both.volume p)
  pub past : (p : ℕ) → length both.volume.blocks ≤ p → IsUntouched (core.slots p).block
