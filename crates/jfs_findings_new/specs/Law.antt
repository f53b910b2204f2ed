-- What a check finds on a new volume.
use Rattle.std.specs.Prelude.{ℕ}
use Rattle.jfs_disk.specs.Image.{Image, page_of}
use Rattle.jfs_new_volume.specs.format.specs.Layout.{IsLayout}
use Rattle.jfs_new_volume.specs.format.specs.Superblock.{new_super}
use Rattle.jfs_new_volume.specs.format.specs.Volume.{IsNewVolume}
use Rattle.jfs_new_volume.specs.format.specs.declared.volume.NewVolume.{NewVolume}
use Rattle.jfs_findings.specs.Clean.{IsSoundVolume, HasNoFinding}
use Rattle.jfs_findings.specs.mount_rules.specs.Subject.{subject_of}

-- A new volume is sound, and has no finding.
abbrev pub NewCleanLaw : Type 0
NewCleanLaw = (pages : ℕ) (v : NewVolume) (image : Image) → IsLayout pages v.layout → IsNewVolume v image
    → IsSoundVolume (subject_of (new_super v) (page_of image)) × HasNoFinding (subject_of (new_super v) (page_of image))
