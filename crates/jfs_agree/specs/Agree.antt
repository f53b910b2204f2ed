-- When the maps of a volume agree with its inodes.
use Rattle.std.specs.Prelude.{◌≡◌, ◌<◌, ℕ, suc, true, is_some, Some, List}
use Rattle.jfs_disk.specs.Image.{Image, page_of}
use Rattle.jfs_super.specs.Rules.{IsAccepted}
use Rattle.jfs_super.specs.declared.fields.Super.{Super}
use Rattle.jfs_findings_new.specs.bmap.specs.MapFile.{is_in_use}
use Rattle.jfs_findings_new.specs.format.specs.Layout.{IsLayout}
use Rattle.jfs_findings_new.specs.format.specs.Superblock.{new_super}
use Rattle.jfs_findings_new.specs.format.specs.Volume.{IsNewVolume}
use Rattle.jfs_findings_new.specs.format.specs.declared.volume.NewVolume.{NewVolume}
use Rattle.jfs_findings_new.specs.objects.specs.Owners.{Agrees}
use Rattle.jfs_kinds.specs.Owner.{Owner, has, owner_of}
use Rattle.jfs_findings_new.specs.mount_rules.specs.Subject.{Subject, subject_of, blocks, volume}
use Rattle.jfs_findings_new.specs.mount_rules.specs.Mount.{iags}
use Rattle.jfs_findings_new.specs.findings.specs.Maps.{IsBlockMapPage, IsInodeMapPage}
use Rattle.jfs_findings_new.specs.findings.specs.Clean.{HasNoFinding, IsSoundVolume}

-- The set of blocks is that of the blocks with owners, each of which has one; the set of inodes is that of the inodes that are linked; and each page of both maps that is in use
-- is the canonical one of these sets, in what is compared.
pub record MapsAgree (s : Subject) : Type 0 where
  pub sets : Agrees s.readers (volume s)
  pub block_map : (j : ℕ) → is_in_use (blocks s) j ≡ true → IsBlockMapPage s j
  pub inode_map : (j : ℕ) → j < suc (iags s) → IsInodeMapPage s j

-- ---- where they do

pub record SoundLaw : Type 0 where
  pub sound : (s : Subject) → IsSoundVolume s → MapsAgree s
  pub clean : (super : Super) (pages : ℕ) (page : ℕ → List ℕ) → IsAccepted super pages → HasNoFinding (subject_of super page) → MapsAgree (subject_of super page)

abbrev pub NewLaw : Type 0
NewLaw = (pages : ℕ) (v : NewVolume) (image : Image) → IsLayout pages v.layout → IsNewVolume v image → MapsAgree (subject_of (new_super v) (page_of image))

-- ---- what it says

-- a block is in use exactly where it has an owner, and no other owner has it
pub record IsOwned (s : Subject) (b : ℕ) : Type 0 where
  pub used : (volume s).used b ≡ is_some (owner_of s.readers (volume s) b)
  pub alone : (x : Owner) → 0 < has s.readers (volume s) x b → owner_of s.readers (volume s) b ≡ Some x

abbrev pub OwnedLaw : Type 0
OwnedLaw = (s : Subject) → MapsAgree s → (b : ℕ) → IsOwned s b
