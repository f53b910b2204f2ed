-- Blocks that stay reserved.
use Rattle.std.specs.Prelude.{◌≡◌, ℕ}
use Rattle.jfs_bmap.specs.States.{Blocks, Reserved, state_of}

-- each block that was reserved still is
abbrev pub StaysReserved : Blocks → Blocks → Type 0
StaysReserved before after = (b : ℕ) → state_of before b ≡ Reserved → state_of after b ≡ Reserved
