-- The laws of a range that is written.
use Rattle.std.specs.Prelude.{◌≡◌, ◌⊎◌, ◌<◌, ◌≤◌, ◌+◌, ◌^◌, ℕ, true, List, [], ◌∷◌, ◌++◌, length, Option, Some, None}
use Rattle.std.specs.List.{All}
use Rattle.jfs_bits.specs.declared.extent.Xad.{Xad}
use Rattle.jfs_xtpage.specs.Page.{end_of, rises_from}
use Rattle.jfs_xtree.specs.Cutting.{kept_below}
use Rattle.jfs_xtree.specs.CutParts.{AllFrom}
use Rattle.jfs_xtree.specs.Node.{IsGood, BeginsAt}
use Rattle.jfs_xtree.specs.Writing.{is_recorded, kept_from, with_written, AllLong, AllTo, Place, place_at}
use Rattle.jfs_written.specs.Range.{parts_of, with_range}

-- the first of two places, where there is one
abbrev pub or_else : Option Place → Option Place → Option Place
or_else (Some p) q = Some p
or_else None q = q

-- A block that the range has is where the range has it. Each other block of the file is where it was, recorded or not as before.
abbrev pub WritesBlockByBlock : List Xad → List Xad → Type 0
WritesBlockByBlock xs es = All (λ x. is_recorded x ≡ true) xs → AllLong xs → rises_from 0 xs ≡ true → rises_from 0 es ≡ true → AllLong es → (k : ℕ) → place_at (with_range xs es) k ≡ or_else (place_at xs k) (place_at es k)

-- No entry begins or ends inside the extent: it lies in one, or in a hole.
abbrev pub IsUncut : Xad → List Xad → Type 0
IsUncut x [] = Unit {0}
IsUncut x (e ∷ es) = ((end_of x ≤ e.offset) ⊎ ((end_of e ≤ x.offset) ⊎ ((e.offset ≤ x.offset) × (end_of x ≤ end_of e)))) × IsUncut x es

-- So it is with each part into which entries that rise cut a range.
abbrev pub CutsAtBorders : List Xad → List Xad → Type 0
CutsAtBorders xs es = rises_from 0 es ≡ true → All (λ p. IsUncut p es) (parts_of es xs)

-- And a range of one extent that no entry cuts is written as an extent alone is.
abbrev pub IsOneWritten : Xad → List Xad → Type 0
IsOneWritten x es = IsUncut x es → with_range (x ∷ []) es ≡ with_written x es

-- Where the entries before a block of the file end at or before it, and one begins there: what the range has below the block is written into those before it, and what it has
-- from the block on into the others. So a range is written child by child.
abbrev pub WritesEachSide : List Xad → Type 0
WritesEachSide xs = (bound : ℕ) (a b : List Xad) → AllTo bound a → rises_from bound b ≡ true → BeginsAt bound b → with_range xs (a ++ b) ≡ with_range (kept_below bound xs) a ++ with_range (kept_from bound xs) b

-- And a range that lies on one side leaves the other side as it is.
abbrev pub LeavesOtherSide : List Xad → Type 0
LeavesOtherSide xs = (bound : ℕ) (a b : List Xad) → AllTo bound a → rises_from bound b ≡ true → BeginsAt bound b
    → (AllTo bound xs → with_range xs (a ++ b) ≡ with_range xs a ++ b) × (AllFrom bound xs → with_range xs (a ++ b) ≡ a ++ with_range xs b)

-- extents that can be written: they rise, are recorded, have places in entries, and end below the greatest offset
pub record IsRange (blocks : ℕ) (xs : List Xad) : Type 0 where
  pub rises : rises_from 0 xs ≡ true
  pub recorded : All (λ x. is_recorded x ≡ true) xs
  pub good : All (IsGood blocks) xs
  pub ends : All (λ x. end_of x < 2 ^ 40) xs

-- What a range has below a block of the file, and what it has from it on, can be written too, and lies on that side of the block.
abbrev pub IsCutToRanges : List Xad → Type 0
IsCutToRanges xs = (blocks bound : ℕ) → blocks ≤ 2 ^ 40 → IsRange blocks xs → IsRange blocks (kept_below bound xs) × AllTo bound (kept_below bound xs) × IsRange blocks (kept_from bound xs) × AllFrom bound (kept_from bound xs)

-- The entries rise still, from wherever they and the range lie.
abbrev pub RisesStill : List Xad → List Xad → Type 0
RisesStill xs es = (low : ℕ) → AllFrom low xs → rises_from low es ≡ true → rises_from low (with_range xs es) ≡ true

-- The first entry begins where it did, where the range doesn't begin before it.
abbrev pub BeginsStill : List Xad → List Xad → Type 0
BeginsStill xs es = (key : ℕ) → AllFrom key xs → rises_from key es ≡ true → BeginsAt key es → BeginsAt key (with_range xs es)

-- Each has still a place in an entry, and lies within the blocks.
abbrev pub IsGoodStill : List Xad → List Xad → Type 0
IsGoodStill xs es = (blocks : ℕ) → blocks ≤ 2 ^ 40 → All (IsGood blocks) xs → All (λ x. end_of x < 2 ^ 40) xs → All (IsGood blocks) es → All (IsGood blocks) (with_range xs es)

-- There are at least as many entries as before.
abbrev pub LosesNone : List Xad → List Xad → Type 0
LosesNone xs es = rises_from 0 xs ≡ true → rises_from 0 es ≡ true → length es ≤ length (with_range xs es)

-- There are at most as many entries more as the range's blocks, and one: what the last entry has behind the range.
abbrev pub AddsFew : List Xad → List Xad → Type 0
AddsFew xs es = (first blocks : ℕ) → AllFrom first xs → AllTo (first + blocks) xs → rises_from 0 es ≡ true → length (with_range xs es) ≤ length es + blocks + 1
