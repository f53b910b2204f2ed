-- Which blocks of the volume extents have that are cut or written, by counting.
use Rattle.std.specs.Prelude.{◌≡◌, ◌≤◌, ◌+◌, ℕ, true, List, [], ◌∷◌, ◌++◌, map}
use Rattle.jfs_bits.specs.declared.extent.Xad.{Xad}
use Rattle.jfs_objects.specs.Owners.{covers}
use Rattle.jfs_xtpage.specs.Page.{end_of, rises_from}
use Rattle.jfs_xtree.specs.Cutting.{kept_below, gone_past}
use Rattle.jfs_xtree.specs.Writing.{kept_from, with_written, AllLong}
use Rattle.jfs_written.specs.Range.{with_range}

-- how many blocks extents have
abbrev pub block_count : List Xad → ℕ
block_count [] = 0
block_count (x ∷ xs) = x.at.len + block_count xs

-- Two lists of extents have together what one has: each block of the volume as often, and as many blocks.
pub record ShareBlocks (one other whole : List Xad) : Type 0 where
  pub each : (b : ℕ) → covers b one + covers b other ≡ covers b whole
  pub count : block_count one + block_count other ≡ block_count whole

-- what entries have of an extent's blocks of the file
abbrev pub had_by : List Xad → Xad → List Xad
had_by es x = kept_below (end_of x) (kept_from x.offset es)

-- and of those of several extents
abbrev pub had_of : List Xad → List Xad → List Xad
had_of [] es = []
had_of (x ∷ xs) es = had_by es x ++ had_of xs es

-- What extents have below a block of the file, and what they have from it on, are all blocks that they have.
abbrev pub CutShares : ℕ → List Xad → Type 0
CutShares bound es = AllLong es → ShareBlocks (kept_below bound es) (kept_from bound es) es

-- What a cut gives back are the blocks that the extents have from there on.
abbrev pub GoneIsCut : ℕ → List Xad → Type 0
GoneIsCut bound es = gone_past bound es ≡ map (λ x. x.at) (kept_from bound es)

-- The entries once an extent is written, and what they had of its blocks of the file, are the entries as they were, and the extent.
abbrev pub WrittenShares : Xad → List Xad → Type 0
WrittenShares x es = AllLong es → ShareBlocks (with_written x es) (had_by es x) (es ++ x ∷ [])

-- And so of a range.
abbrev pub RangeShares : List Xad → List Xad → Type 0
RangeShares xs es = AllLong xs → rises_from 0 xs ≡ true → AllLong es → rises_from 0 es ≡ true → ShareBlocks (with_range xs es) (had_of xs es) (es ++ xs)
