-- What the pages of a volume's maps say of their sizes.
use Rattle.std.specs.Prelude.{◌≡◌, ◌≤◌, ◌<◌, ◌+◌, ◌*◌, ℕ, suc, Bool, true, List, length}
use Rattle.jfs_bits.specs.Bits.{is_taken}
use Rattle.jfs_bits.specs.Field.{field_of, range_of}
use Rattle.jfs_disk.specs.Crash.{PageHistory, content_of}
use Rattle.jfs_ranges.specs.declared.edit.Edit.{Edit}
use Rattle.jfs_steps.specs.bmap.specs.MapFile.{pages_of, is_in_use}
use Rattle.jfs_recovery.specs.objects.specs.Readers.{Readers}
use Rattle.jfs_recovery.specs.Face.{Pages}
use Rattle.jfs_recovery.specs.Core.{Core, Step, AreAllowed, after_steps}
use Rattle.jfs_recovery.specs.Mount.{fresh}
use Rattle.jfs_recovery.specs.Sound.{IsSound, IsLeft}
use Rattle.jfs_face.specs.Places.{Places, AreInAreas}
use Rattle.jfs_face.specs.Volume.{face_of}

-- The block map's control page says how many blocks the volume has, the inode map's how many inode allocation groups (IAGs). On dmap `k`, which is page k + 4 of its file, the bits of blocks past the volume's end are set.
pub record SaysSizes (pl : Places) (p : ℕ) (bytes : List ℕ) : Type 0 where
  pub blocks : pl.block_map 0 ≡ p → field_of bytes 0 8 ≡ pl.blocks
  pub iags : pl.inode_map 0 ≡ p → field_of bytes 4 4 ≡ pl.iags
  pub past : (k i : ℕ) → suc (suc (suc (suc k))) < pages_of pl.blocks → is_in_use pl.blocks (suc (suc (suc (suc k)))) ≡ true → pl.block_map (suc (suc (suc (suc k)))) ≡ p → pl.blocks ≤ 8192 * k + i → i < 8192 → is_taken (range_of bytes 3072 1024) i ≡ true

-- of what a read gives of a page, and of each content that a crash may leave
pub record OfAllContents (P : List ℕ → Type 0) (page : PageHistory) : Type 0 where
  pub seen : P page.seen
  pub each : (j : ℕ) → j ≤ length page.writes → P (content_of page j)

abbrev pub KeepsSizes : Places → Core → Type 0
KeepsSizes pl core = (p : ℕ) → OfAllContents (SaysSizes pl p) (core.slots p).block.pages

pub record SizesLaw : Type 0 where
  -- So it is when a volume is mounted whose maps say that.
  pub start : (r : Readers) (pl : Places) (changes : Pages → List Edit → ℕ → Bool) (low image : Pages) → ((p : ℕ) → SaysSizes pl p (low p)) → KeepsSizes pl (fresh (face_of r pl changes) low image)
  -- Steps that the core allows keep it: a page of the maps is written as it is after some entry.
  pub steps : (r : Readers) (pl : Places) (changes : Pages → List Edit → ℕ → Bool) (core : Core) (steps : List Step) → AreInAreas pl → IsSound (face_of r pl changes) core → AreAllowed (face_of r pl changes) core steps
      → KeepsSizes pl core → KeepsSizes pl (after_steps (face_of r pl changes) core steps)
  -- And whatever a crash leaves of the pages says that.
  pub left : (r : Readers) (pl : Places) (changes : Pages → List Edit → ℕ → Bool) (core : Core) (low : Pages) → IsSound (face_of r pl changes) core → KeepsSizes pl core → IsLeft core low → (p : ℕ) → SaysSizes pl p (low p)
