-- Which entries busy blocks wait for.
use Rattle.std.specs.Prelude.{◌≡◌, ◌⊎◌, ◌<◌, ◌≤◌, ℕ}
use Rattle.jfs_bmap.specs.States.{Blocks, Free, Owned, Busy, state_of}

-- each for one that isn't acknowledged, of those that joined
abbrev pub BusyBetween : ℕ → ℕ → Blocks → Type 0
BusyBetween told appended m = (b entry : ℕ) → state_of m b ≡ Busy entry → (told < entry) × (entry ≤ appended)

-- each block has an owner or is free
abbrev pub IsIdle : Blocks → Type 0
IsIdle m = (b : ℕ) → (state_of m b ≡ Free) ⊎ (state_of m b ≡ Owned)
