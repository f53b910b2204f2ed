-- What a mounted volume was made from.
use Rattle.std.specs.Prelude.{ℕ, ◌+◌, List, [], ◌∷◌}
use Rattle.jfs_disk.specs.Image.{Image, page_of}
use Rattle.jfs_super.specs.Super.{super_of}
use Rattle.jfs_logpages.specs.Fresh.{super_page}
use Rattle.jfs_groups.specs.Start.{LogStart}
use Rattle.jfs_turns.specs.Lists.{Base}

-- What a mount gave of both parts of the disk: of the log's part the pages of its ring, its pages, and how often a call of it had failed; of the volume's part its pages, how many it can have when the log's is joined to it, and its faults.
pub record MountStart : Type 0 where
  pub log : LogStart
  pub pages : ℕ
  pub room : ℕ
  pub faults : ℕ

-- An image, and these numbers before it: of a disk that doesn't tell its contents no image says them.
abbrev pub base_of : MountStart → Image → Base
base_of m image = (m.log.ring ∷ m.log.pages ∷ m.log.faults ∷ m.pages ∷ m.room ∷ m.faults ∷ []) ∷ image

abbrev pub start_in : List ℕ → MountStart
start_in (ring ∷ log_pages ∷ log_faults ∷ pages ∷ room ∷ faults ∷ []) = record { log = record { ring = ring; pages = log_pages; faults = log_faults; super = [] }; pages = pages; room = room; faults = faults }
start_in _ = record { log = record { ring = 0; pages = 0; faults = 0; super = [] }; pages = 0; room = 0; faults = 0 }

abbrev pub start_of : Base → MountStart
start_of [] = start_in []
start_of (numbers ∷ image) = start_in numbers

abbrev pub image_of : Base → Image
image_of [] = []
image_of (first ∷ image) = image

-- what the log was made from: it is a fresh one of the image's volume
abbrev pub log_start_of : Base → LogStart
log_start_of base = record (start_of base).log { super = super_page ((start_of base).log.ring + 2) (super_of (page_of (image_of base) 8)).uuid }
