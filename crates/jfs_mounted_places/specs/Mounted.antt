-- A volume that was just mounted is held.
use Rattle.std.specs.Prelude.{◌≡◌, ◌≤◌, ◌<◌, ◌+◌, ◌*◌, ◌^◌, ℕ, suc, true, false, length}
use Rattle.jfs_bits.specs.Bits.{is_taken}
use Rattle.jfs_bits.specs.Field.{range_of}
use Rattle.jfs_disk.specs.Image.{page_of}
use Rattle.jfs_super.specs.Rules.{blocks_of, IsAccepted}
use Rattle.jfs_super.specs.declared.fields.Super.{Super}
use Rattle.jfs_shown.specs.bmap.specs.MapFile.{is_in_use}
use Rattle.jfs_shown.specs.map_files.specs.declared.map_file.MapFiles.{MapFiles}
use Rattle.jfs_shown.specs.meaning.specs.Readers.{readers}
use Rattle.jfs_shown.specs.meaning.specs.Consistent.{IsConsistent}
use Rattle.jfs_shown.specs.way.specs.Volume.{volume_of}
use Rattle.jfs_shown.specs.Files.{KnowsFiles}
use Rattle.jfs_held_volumes.specs.survival.specs.halves.specs.Entry.{Shown}
use Rattle.jfs_held_volumes.specs.survival.specs.halves.specs.Laws.{fresh_halves}
use Rattle.jfs_held_volumes.specs.survival.specs.recovery.specs.Face.{Pages}
use Rattle.jfs_held_volumes.specs.survival.specs.recovery.specs.Mount.{fresh}
use Rattle.jfs_held_volumes.specs.survival.specs.face.specs.Places.{Places}
use Rattle.jfs_held_volumes.specs.canonical_maps.specs.Images.{made_canonical}
use Rattle.jfs_held_volumes.specs.canonical_maps.specs.Laws.{HasMapBytes}
use Rattle.jfs_held_volumes.specs.Held.{Mount, Held, IsHeld, face_at}
use Rattle.jfs_mounted_places.specs.Places.{groups_of, places_of}

-- ---- what was found

-- On the last dmap of a volume the bits of blocks past its end are set, as a check asks for. No rule of a mount looks at that.
abbrev pub SetsPast : Places → Pages → Type 0
SetsPast pl low = (k i : ℕ) → is_in_use pl.blocks (suc (suc (suc (suc k)))) ≡ true → pl.blocks ≤ 8192 * k + i → i < 8192 → is_taken (range_of (low (pl.block_map (suc (suc (suc (suc k)))))) 3072 1024) i ≡ true

-- What a mount leaves: the volume shows these pages, and past them a disk has some; their maps, of an accepted superblock, are as their files. The maps' pages are of bytes.
pub record IsMounted (s : Super) (pages : ℕ) (low : Pages) (shown : Shown) (area : ℕ → ℕ) (files : MapFiles) : Type 0 where
  pub accepted : IsAccepted s pages
  pub group : s.agsize < 2 ^ 32
  pub some : 1 ≤ shown.inodes.iags
  pub few : shown.inodes.iags ≤ 65536
  pub room : blocks_of s ≤ length shown.pages
  pub sizes : (p : ℕ) → length (low p) ≡ 4096
  pub shows : (p : ℕ) → p < length shown.pages → low p ≡ page_of shown.pages p
  pub knows : KnowsFiles s low area shown.map shown.inodes files
  pub blocks_fresh : files.blocks.stale ≡ false
  pub inodes_fresh : files.inodes.stale ≡ false
  pub consistent : IsConsistent (readers (blocks_of s)) (volume_of low area shown.map shown.inodes)
  pub bytes : HasMapBytes (places_of s low) low
  pub past : SetsPast (places_of s low) low

-- ---- the volume

abbrev pub mount_of : Super → Pages → Mount
mount_of s low = record { readers = readers (blocks_of s); blocks = blocks_of s; agsize = s.agsize; numag = groups_of s; table = s.ait2; map = s.aim2; places = places_of s low }

-- its halves and their core, with no entry, and a fresh log of so many ring pages
abbrev pub held_from : Super → ℕ → Pages → Shown → (ℕ → ℕ) → Held
held_from s ring low shown area = record {
  both = fresh_halves ring shown;
  core = fresh (face_at (mount_of s low)) low (made_canonical (places_of s low) low);
  volume = volume_of low area shown.map shown.inodes;
  volumes = λ k. volume_of low area shown.map shown.inodes;
}

abbrev pub MountedLaw : Type 0
MountedLaw = (s : Super) (pages ring : ℕ) (low : Pages) (shown : Shown) (area : ℕ → ℕ) (files : MapFiles) → IsMounted s pages low shown area files → IsHeld (mount_of s low) (held_from s ring low shown area)
