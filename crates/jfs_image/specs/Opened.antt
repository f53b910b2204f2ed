-- An image that was opened.
use Rattle.std.specs.Prelude.{◌≡◌, ◌<◌, ◌≤◌, ◌^◌, length, Option, Some, None}
use Rattle.jfs_disk.specs.Image.{Image}
use Rattle.jfs_super.specs.Rules.{IsAccepted}
use Rattle.jfs_super.specs.Geometry.{file_limit_of}
use Rattle.jfs_super.specs.declared.fields.Super.{Super}
use Rattle.jfs_owners.specs.mount_rules.specs.Mount.{broken_mount}
use Rattle.jfs_image.specs.View.{image_of, blocks_in}
use Rattle.jfs_image.specs.Image.{HasTree, super_on, subject_on}
use Rattle.jfs_image.specs.Standing.{IsReady}
use Rattle.jfs_image.specs.declared.opened.Opened.{Opened}

-- a superblock that breaks no rule
pub record IsSuper (image : Image) (s : Super) : Type 0 where
  pub pages : length image < 2 ^ 32
  pub is : s ≡ super_on image
  pub accepted : IsAccepted s (length image)

abbrev pub SuperIs : Image → Option Super → Type 0
SuperIs image None = HasTree image → ⊥
SuperIs image (Some s) = IsSuper image s

-- the view, the superblock and the map are the image's, and a mount finds no rule broken
pub record IsOpened (image : Image) (opened : Opened) : Type 0 where
  pub image_is : image_of opened.view ≡ image
  pub super : IsSuper image opened.superblock
  pub size : 15 ≤ blocks_in opened.view
  pub ready : IsReady opened.view opened.map
  pub mount : broken_mount (subject_on image) ≡ None
  pub limit_is : opened.limit ≡ file_limit_of (super_on image).logpxd.len

abbrev pub OpenedIs : Image → Option Opened → Type 0
OpenedIs image None = HasTree image → ⊥
OpenedIs image (Some opened) = IsOpened image opened
