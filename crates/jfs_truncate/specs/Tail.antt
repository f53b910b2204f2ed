-- The block in which bytes of a file end.
use Rattle.std.specs.Prelude.{◌≡◌, ℕ, ◌+◌, ◌-◌, ◌/◌, ◌%◌, ◌==◌, if◌then◌else◌, List, [], ◌∷◌, ◌++◌, take, replicate, Option, Some, None}
use Rattle.jfs_bits.specs.declared.rule.Rule.{Rule}
use Rattle.jfs_inode.specs.declared.fields.Dinode.{Dinode}
use Rattle.jfs_xtree.specs.Spells.{broken_for, found_for}
use Rattle.jfs_read.specs.meaning.specs.Readers.{root_of}
use Rattle.jfs_read.specs.Read.{block_by}
use Rattle.jfs_data_steps.specs.declared.pages.DataPage.{DataPage}

-- how many blocks so many bytes take
abbrev pub blocks_for : ℕ → ℕ
blocks_for bytes = if bytes % 4096 == 0 then bytes / 4096 else bytes / 4096 + 1

-- the first broken rule on the way to the block in which so many bytes end, where they end within one
abbrev pub tail_way : ℕ → (ℕ → List ℕ) → Dinode → ℕ → Option (ℕ × Rule)
tail_way blocks pages d kept = if kept % 4096 == 0 then None else broken_for blocks pages (root_of d) (kept / 4096)

-- That block on the volume, as the leaf at the end of its way tells it. There is none where the file reads as zeros.
abbrev pub tail_block : ℕ → (ℕ → List ℕ) → Dinode → ℕ → Option ℕ
tail_block blocks pages d kept = if kept % 4096 == 0 then None else block_by (found_for blocks pages (root_of d) (kept / 4096)) (kept / 4096)

-- a page with zeros from a place on
abbrev pub zeroed : ℕ → List ℕ → List ℕ
zeroed from page = take from page ++ replicate (4096 - from) 0

-- one block, with what it holds up to the end and zeros behind it; or none
abbrev pub IsTail : (ℕ → List ℕ) → ℕ → Option ℕ → List DataPage → Type 0
IsTail pages kept None ds = ds ≡ []
IsTail pages kept (Some b) ds = (d : DataPage) × (ds ≡ d ∷ []) × (d.block ≡ b) × (d.page.0 ≡ zeroed (kept % 4096) (pages b))
