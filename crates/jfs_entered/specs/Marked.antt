-- What the maps and the pages are once a transaction is appended with its marks.
use Rattle.std.specs.Prelude.{◌≡◌, ◌<◌, ℕ, ◌*◌, List, length, map}
use Rattle.std.specs.List.{AllByRecursion}
use Rattle.jfs_marks.specs.imap.specs.Inodes.{Inodes, is_used}
use Rattle.jfs_room.specs.bmap.specs.States.{Blocks}
use Rattle.jfs_ranges.specs.declared.edit.Edit.{Edit}
use Rattle.jfs_marks.specs.records.specs.declared.note.Note.{Note}
use Rattle.jfs_marks.specs.records.specs.Records.{noted}
use Rattle.jfs_marks.specs.records.specs.Limits.{IsLoggable}
use Rattle.jfs_marks.specs.objects.specs.Image.{extent_place}
use Rattle.jfs_marks.specs.objects.specs.Volume.{Volume}
use Rattle.jfs_room.specs.meaning.specs.Readers.{readers}
use Rattle.jfs_room.specs.meaning.specs.Consistent.{IsConsistent}
use Rattle.jfs_room.specs.way.specs.Volume.{volume_of, PlacesWithin}
use Rattle.jfs_marks.specs.steps.specs.After.{extents_after}
use Rattle.jfs_marks.specs.data_steps.specs.After.{AreWholePages, with_data, after_writes}
use Rattle.jfs_marks.specs.data_steps.specs.declared.pages.DataPage.{DataPage}
use Rattle.jfs_marks.specs.declared.marks.InodeMarks.{InodeMarks}
use Rattle.jfs_marks.specs.declared.marking.Marking.TheVariants.{Fits}
use Rattle.jfs_marks.specs.Marks.{AreMarked}
use Rattle.jfs_marks.specs.Marking.{AreMarksOf}

-- the map has a bit for each number that its places stand for
abbrev pub HasBits : Inodes → Type 0
HasBits m = length m.taken ≡ 32 * length m.extents

-- a note for each edit, and each can be logged
pub record AreLoggable (blocks : ℕ) (tx : List Edit) (notes : List Note) : Type 0 where
  pub each : length tx ≡ length notes
  pub all : AllByRecursion (IsLoggable blocks) (noted tx notes)

-- ---- the inode map

-- A call's data, in whole pages, and its transaction keep a consistent volume consistent, the transaction can be logged, and these are its marks.
pub record HasMarks (blocks : ℕ) (pages : ℕ → List ℕ) (area : ℕ → ℕ) (bm : Blocks) (inodes : Inodes) (ds : List DataPage) (tx : List Edit) (notes : List Note) (marks : InodeMarks) : Type 0 where
  pub before : IsConsistent (readers blocks) (volume_of pages area bm inodes)
  pub put : IsConsistent (readers blocks) (with_data ds (volume_of pages area bm inodes))
  pub after : IsConsistent (readers blocks) (after_writes blocks ds tx (volume_of pages area bm inodes))
  pub whole : (b : ℕ) → b < blocks → length (pages b) ≡ 4096
  pub put_whole : AreWholePages ds
  pub within : PlacesWithin blocks inodes
  pub bits : HasBits inodes
  pub loggable : AreLoggable blocks tx notes
  pub are : AreMarksOf blocks pages inodes tx ds (Fits marks)

-- So the map with these marks has the extents and the inodes in use of the volume after both.
pub record IsMapAfter (blocks : ℕ) (inodes new : Inodes) (tx : List Edit) (w : Volume) : Type 0 where
  pub extents : map extent_place new.extents ≡ extents_after tx (map extent_place inodes.extents)
  pub in_use : (n : ℕ) → is_used new n ≡ w.in_use n
  pub places : length new.extents ≡ length inodes.extents
  pub within : PlacesWithin blocks new
  pub bits : HasBits new

abbrev pub InodesLaw : Type 0
InodesLaw = (blocks : ℕ) (pages : ℕ → List ℕ) (area : ℕ → ℕ) (bm : Blocks) (inodes new : Inodes) (ds : List DataPage) (tx : List Edit) (notes : List Note) (marks : InodeMarks)
    → HasMarks blocks pages area bm inodes ds tx notes marks → AreMarked inodes marks new → IsMapAfter blocks inodes new tx (after_writes blocks ds tx (volume_of pages area bm inodes))
