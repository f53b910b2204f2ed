-- A volume that was just mounted.
use Rattle.std.specs.Prelude.{ℕ, Bool}
use Rattle.jfs_disk.specs.Image.{Image}
use Rattle.jfs_bmap.specs.States.{Blocks}
use Rattle.jfs_imap.specs.Inodes.{Inodes}
use Rattle.jfs_halves.specs.Laws.{fresh_halves}
use Rattle.jfs_halves.specs.Parts.{Parts, StandsFor, Asked}

-- the parts stand for the volume's half as it is at the mount
abbrev pub StandsFresh : (tells crashes : Type 0) → ℕ → Image → Blocks → Inodes → Parts → Type 0
StandsFresh tells crashes ring pages map inodes parts = (seen asked : Bool) → Asked seen tells → Asked asked crashes →
    StandsFor seen asked parts (fresh_halves ring (record { pages = pages; map = map; inodes = inodes })).volume
