-- A mounted volume's parts, and the halves and the core that hold its volume.
use Rattle.std.specs.Prelude.{◌≡◌, ◌≤◌, ℕ, length}
use Rattle.jfs_disk.specs.Image.{page_of}
use Rattle.jfs_volume.specs.halves.specs.Half.{Halves}
use Rattle.jfs_volume.specs.halves.specs.Parts.{Parts}
use Rattle.jfs_volume.specs.data_steps.specs.meaning.specs.Readers.{readers}
use Rattle.jfs_volume.specs.data_steps.specs.objects.specs.Volume.{Volume}
use Rattle.jfs_volume.specs.data_steps.specs.way.specs.Volume.{volume_of}
use Rattle.jfs_held_calls.specs.held.specs.survival.specs.recovery.specs.Core.{Core}
use Rattle.jfs_held_calls.specs.held.specs.survival.specs.face.specs.Items.{places}
use Rattle.jfs_held_calls.specs.held.specs.Held.{Mount, Held, IsHeld}

-- the number of blocks of its file system part, and the volume that its pages and maps are
abbrev pub blocks_at : Parts → ℕ
blocks_at p = length p.map.states

abbrev pub volume_at : (ℕ → ℕ) → Parts → Volume
volume_at area p = volume_of (page_of p.view) area p.map p.inodes

-- that volume, with the halves and the core
abbrev pub held_at : Halves → Core → (ℕ → Volume) → (ℕ → ℕ) → Parts → Held
held_at both core volumes area p = record { both = both; core = core; volume = volume_at area p; volumes = volumes }

-- It is held, and is of the size that the mount found: so many blocks, and so many places for inode extents.
pub record IsHeldAs (m : Mount) (area : ℕ → ℕ) (p : Parts) (both : Halves) (core : Core) (volumes : ℕ → Volume) : Type 0 where
  pub held : IsHeld m (held_at both core volumes area p)
  pub readers_are : readers (blocks_at p) ≡ m.readers
  pub blocks : m.places.blocks ≡ blocks_at p
  pub extents : length p.inodes.extents ≡ places m.places
  pub within : blocks_at p ≤ length both.volume.blocks
