-- An image whose runs can be redone behind a crash; and one on which a check finds nothing.
use Rattle.std.specs.Prelude.{◌≡◌, ℕ, length}
use Rattle.jfs_bits.specs.Field.{AreBytes}
use Rattle.jfs_disk.specs.Image.{Image, page_of, ArePages}
use Rattle.jfs_super.specs.Rules.{IsAccepted}
use Rattle.jfs_super.specs.Super.{super_of}
use Rattle.jfs_super.specs.declared.fields.Super.{Super}
use Rattle.jfs_findings_new.specs.findings.specs.Clean.{HasNoFinding}
use Rattle.jfs_findings_new.specs.mount_rules.specs.Subject.{subject_of}
use Rattle.jfs_legal.specs.served.specs.halves.specs.Log.{LogParts}
use Rattle.jfs_legal.specs.served.specs.halves.specs.Parts.{Parts}
use Rattle.jfs_legal.specs.served.specs.mounted.specs.Mount.{IsMountOf}
use Rattle.jfs_mounted_maps.specs.Keepable.{IsKeepable, IsKeepableMount}

-- Pages of bytes that are a keepable volume, with an accepted superblock on page 8.
pub record IsKeepableImage (s : Super) (old : Image) : Type 0 where
  pub superblock : super_of (page_of old 8) ≡ s
  pub accepted : IsAccepted s (length old)
  pub pages : ArePages (length old) old
  pub bytes : (p : ℕ) → AreBytes (page_of old p)
  pub keepable : IsKeepable s (page_of old)

-- Pages of bytes on which a check finds nothing, with an accepted superblock on page 8.
pub record IsCheckedImage (s : Super) (old : Image) : Type 0 where
  pub superblock : super_of (page_of old 8) ≡ s
  pub accepted : IsAccepted s (length old)
  pub pages : ArePages (length old) old
  pub bytes : (p : ℕ) → AreBytes (page_of old p)
  pub clean : HasNoFinding (subject_of s (page_of old))

-- Such an image is keepable.
abbrev pub CheckedLaw : Type 0
CheckedLaw = (s : Super) (old : Image) → IsCheckedImage s old → IsKeepableImage s old

-- A mount of a keepable image leaves whole pages.
abbrev pub MountLaw : (tells crashes : Type 0) → Type 0
MountLaw tells crashes = tells → (s : Super) (old : Image) (p : Parts) (log : LogParts) → (m : IsMountOf tells crashes s old p log) → IsKeepableImage s old → IsKeepableMount s old m.pages
