-- Where the edits of an entry that can be logged lie.
use Rattle.std.specs.Prelude.{◌≡◌, ◌≤◌, ℕ, false, List, length}
use Rattle.jfs_ranges.specs.declared.edit.Edit.{Edit}
use Rattle.jfs_ranges.specs.Apply.{touches_tx}
use Rattle.jfs_entered.specs.marks.specs.imap.specs.Inodes.{Inodes}
use Rattle.jfs_entered.specs.marks.specs.records.specs.Redo.{closes_in}
use Rattle.jfs_entered.specs.marks.specs.records.specs.declared.note.Note.{Note}
use Rattle.jfs_entered.specs.marks.specs.data_steps.specs.declared.pages.DataPage.{DataPage}
use Rattle.jfs_entered.specs.marks.specs.declared.marks.InodeMarks.{InodeMarks}
use Rattle.jfs_entered.specs.marks.specs.declared.marking.Marking.TheVariants.{Fits}
use Rattle.jfs_entered.specs.marks.specs.Marking.{AreMarksOf}
use Rattle.jfs_entered.specs.Marked.{AreLoggable}
use Rattle.jfs_canonical_maps.specs.face.specs.Places.{Places}
use Rattle.jfs_canonical_maps.specs.face.specs.Items.{places}
use Rattle.jfs_canonical_maps.specs.Laws.{StaysWithin}

-- no page from the end of the file system part on
abbrev pub PartLaw : Type 0
PartLaw = (blocks : ℕ) (tx : List Edit) (notes : List Note) (p : ℕ) → AreLoggable blocks tx notes → blocks ≤ p → (touches_tx p tx ≡ false) × (closes_in p tx ≡ false)

-- The maps of the volume have the same places as the inode map in memory.
abbrev pub WithinLaw : Type 0
WithinLaw = (pl : Places) (pages : ℕ → List ℕ) (inodes : Inodes) (tx : List Edit) (notes : List Note) (ds : List DataPage) (marks : InodeMarks) → length inodes.extents ≡ places pl → AreLoggable pl.blocks tx notes
    → AreMarksOf pl.blocks pages inodes tx ds (Fits marks) → StaysWithin pl tx
