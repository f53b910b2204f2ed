-- What a crash leaves of a disk on which no volume was mounted.
use Rattle.std.specs.Prelude.{◌≡◌, ◌⊎◌, [], None}
use Rattle.jfs_disk.specs.Image.{Image, page_of}
use Rattle.jfs_super.specs.Super.{super_of}
use Rattle.jfs_super.specs.declared.fields.Super.{Super}
use Rattle.jfs_legal.specs.served.specs.Laws.{HoldsImage}
use Rattle.jfs_legal.specs.served.specs.halves.specs.Parts.{Parts}
use Rattle.jfs_legal.specs.served.specs.mounted.specs.Mount.{LeavesLog, LeavesUntouched, WasCut, FoundOn}
use Rattle.jfs_legal.specs.served.specs.mounted.specs.declared.mounted.MountError.{MountError}
use Rattle.jfs_legal.specs.served.specs.mounted.specs.mount_disk.specs.Begun.{LeavesLow}
use Rattle.jfs_legal.specs.served.specs.plain.specs.Moves.{Same}
use Rattle.jfs_legal.specs.served.specs.shown.specs.meaning.specs.Image.{tree_of}
use Rattle.jfs_mounted_maps.specs.Keepable.{IsKeepable}
use Rattle.jfs_kept_history.specs.Keepable.{IsKeepableImage}
use Rattle.jfs_kept_history.specs.Crash.{IsRedoneToHistory}

-- The superblock is the image's own, and the pages are a keepable volume with its tree.
pub record IsAsBefore (s : Super) (image left : Image) : Type 0 where
  pub superblock : super_of (page_of left 8) ≡ s
  pub keepable : IsKeepable s (page_of left)
  pub tree : Same (tree_of s (page_of image)) (tree_of s (page_of left))

-- The superblock says that the volume is mounted, and its log says nothing: the disk is redone to a volume that holds the image, with no entry since.
pub record IsRedoneToImage (s : Super) (image left : Image) : Type 0 where
  pub start : Parts
  pub holds : HoldsImage s (page_of image) start
  pub runs : start.halted ≡ None
  pub redone : IsRedoneToHistory s (page_of image) start [] 0 left

abbrev pub LeavesNeverMounted : Super → Image → Image → Type 0
LeavesNeverMounted s image left = IsAsBefore s image left ⊎ IsRedoneToImage s image left

-- One of them is left, by what the clauses of a mount say of one that failed for this cause, of a keepable image.
abbrev pub FailedLaw : Type 0
FailedLaw = (s : Super) (image : Image) (why : MountError) (left : Image) → IsKeepableImage s image → (WasCut why → FoundOn s image)
    → LeavesLow s image left → LeavesUntouched s image why left → LeavesLog s image why left → LeavesNeverMounted s image left
