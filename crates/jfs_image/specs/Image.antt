-- An image that has a file tree. (This project's profile: what a mount would take, and no inode in use that breaks a rule.)
use Rattle.std.specs.Prelude.{◌≡◌, ◌<◌, ◌^◌, ℕ, length, Some, None}
use Rattle.jfs_bits.specs.Broken.{first_broken}
use Rattle.jfs_disk.specs.Image.{Image, page_of}
use Rattle.jfs_inode.specs.Rules.{rows}
use Rattle.jfs_super.specs.Super.{super_of}
use Rattle.jfs_super.specs.Rules.{IsAccepted}
use Rattle.jfs_super.specs.declared.fields.Super.{Super}
use Rattle.jfs_reader.specs.objects.specs.Objects.{Object, IsWhole}
use Rattle.jfs_owners.specs.mount_rules.specs.Subject.{Subject, subject_of, object}
use Rattle.jfs_owners.specs.mount_rules.specs.Mount.{broken_mount}

-- Page 8 has the superblock.
abbrev pub super_on : Image → Super
super_on image = super_of (page_of image 8)

abbrev pub subject_on : Image → Subject
subject_on image = subject_of (super_on image) (page_of image)

-- An image with no more pages than a disk may have, whose superblock breaks no rule and on which a mount finds none broken; and no inode in use breaks a rule, nor does a tree of one.
pub record HasTree (image : Image) : Type 0 where
  pub pages : length image < 2 ^ 32
  pub super : IsAccepted (super_on image) (length image)
  pub mount : broken_mount (subject_on image) ≡ None
  pub inodes : (n : ℕ) (o : Object) → object (subject_on image) n ≡ Some o → first_broken (rows o.inode n) ≡ None
  pub trees : (n : ℕ) (o : Object) → object (subject_on image) n ≡ Some o → IsWhole (subject_on image).readers o
