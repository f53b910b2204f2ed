-- What a crash leaves of the superblock's page while a volume is mounted, and of the tree.
use Rattle.std.specs.Prelude.{◌≡◌, ◌⊎◌, ◌≤◌, length, take, None}
use Rattle.jfs_disk.specs.Image.{Image, page_of}
use Rattle.jfs_super.specs.Rules.{blocks_of}
use Rattle.jfs_super.specs.declared.fields.Super.{Super}
use Rattle.jfs_volume.specs.plain.specs.Moves.{Same}
use Rattle.jfs_findings.specs.meaning.specs.Image.{tree_of, IsConsistentImage}
use Rattle.jfs_findings.specs.mount_rules.specs.Subject.{subject_of}
use Rattle.jfs_findings.specs.mount_rules.specs.Mount.{broken_mount}
use Rattle.jfs_mount_disk.specs.Begun.{marked, IsPartlyMarked}

-- the arrays of a superblock have their lengths
pub record HasArrays (s : Super) : Type 0 where
  pub fpack : length s.fpack ≡ 11
  pub uuid : length s.uuid ≡ 16
  pub label : length s.label ≡ 16
  pub loguuid : length s.loguuid ≡ 16

-- All fields of a superblock stand in the first sector of its page: a crash leaves the old page, or the new one.
abbrev pub WholeLaw : Type 0
WholeLaw = (s : Super) (old left : Image) → HasArrays s → length (page_of old 8) ≡ 4096 → IsPartlyMarked s old left → (left ≡ old) ⊎ (left ≡ marked s old)

-- Whatever it leaves of that page, a consistent image that a mount takes keeps its tree, read from the pages before the log alone.
abbrev pub CrashLaw : Type 0
CrashLaw = (s : Super) (old left : Image) → broken_mount (subject_of s (page_of old)) ≡ None → IsConsistentImage s (page_of old) → blocks_of s ≤ s.logpxd.addr
    → IsPartlyMarked s (take s.logpxd.addr old) left → Same (tree_of s (page_of old)) (tree_of s (page_of left))
