-- What is reserved for a write to a file: blocks for what it holds, and blocks for pages of its tree.
use Rattle.std.specs.Prelude.{◌≡◌, ◌≤◌, ◌<◌, ℕ, ◌+◌, List, ◌++◌, length, None, Result, Ok, Err}
use Rattle.jfs_bmap.specs.Choice.{IsReservation, AreLowestBlocks}
use Rattle.jfs_bmap.specs.States.{Blocks, Reserved, is_used, free_count, unowned_count, all_settled, put_state}
use Rattle.jfs_claim.specs.page_tree.specs.Fresh.{blocks_of}
use Rattle.jfs_claim.specs.room.specs.Laws.{NoneReserved}
use Rattle.jfs_claim.specs.Take.{Reserves}
use Rattle.jfs_claim.specs.declared.reserve.ClaimError.{ClaimError}
use Rattle.jfs_claim.specs.declared.reserve.ClaimError.TheVariants.{NeedsLog, Memory}
use Rattle.jfs_file_blocks.specs.declared.reserve.FileWant.{FileWant}
use Rattle.jfs_file_blocks.specs.declared.reserve.FileBlocks.{FileBlocks}

-- Both kinds of blocks were free and are reserved, each once, and nothing else has changed. No run of four is among them.
pub record IsReservedFor (before now : Blocks) (blocks : FileBlocks) : Type 0 where
  pub none : blocks.claim.run ≡ None
  pub all : Reserves before now (blocks.runs ++ blocks.claim.blocks)

-- The file's blocks are chosen first, by the rule of a reservation; then those for pages, each the lowest that is free then. All of these are still to be had.
pub record TakesBlocks (before now : Blocks) (want : FileWant) (blocks : FileBlocks) : Type 0 where
  pub chosen : IsReservation (is_used before) want.hint want.blocks blocks.runs
  pub pages : AreLowestBlocks (is_used (put_state Reserved blocks.runs before)) blocks.claim.blocks
  pub number : length blocks.claim.blocks ≡ want.pages
  pub all_left : blocks.claim.fresh ≡ blocks.claim.blocks
  pub reserved : IsReservedFor before now blocks

-- how many blocks are wanted together
abbrev pub total : FileWant → ℕ
total want = want.blocks + want.pages

-- A commit is due exactly where fewer are free, but for memory that runs out for the blocks of the tree's pages.
abbrev pub AnswersByFree : Blocks → FileWant → Result FileBlocks ClaimError → Type 0
AnswersByFree map want (Ok blocks) = total want ≤ free_count map
AnswersByFree map want (Err NeedsLog) = free_count map < total want
AnswersByFree map want (Err Memory) = want.blocks ≤ free_count map

-- Of the blocks for pages some were taken, from the front, and the others are still to be had.
pub record IsPartlyTaken (before now : Blocks) (blocks : FileBlocks) (taken : List ℕ) : Type 0 where
  pub reserved : IsReservedFor before now blocks
  pub parts : blocks_of blocks.claim.blocks ≡ taken ++ blocks_of blocks.claim.fresh

-- Where no block is reserved: if as many blocks have no owner as are wanted, as many are free once all busy blocks are settled.
abbrev pub SettledIsEnough : Type 0
SettledIsEnough = (map : Blocks) (want : FileWant) → NoneReserved map → total want ≤ unowned_count map → total want ≤ free_count (all_settled map)
