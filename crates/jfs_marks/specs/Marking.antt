-- What a transaction makes of the inode map.
use Rattle.std.specs.Prelude.{◌≡◌, ℕ, ◌/◌, ◌==◌, if◌then◌else◌, List, Option, Some, None}
use Rattle.jfs_bits.specs.declared.descriptor.Pxd.{Pxd}
use Rattle.jfs_imap.specs.Inodes.{Inodes, IsPick}
use Rattle.jfs_imap.specs.declared.inode_map.Pick.{Pick}
use Rattle.jfs_imap.specs.declared.inode_map.Pick.TheVariants.{Number, NeedsExtent, NoInodes}
use Rattle.jfs_ranges.specs.declared.edit.Edit.{Edit}
use Rattle.jfs_data_steps.specs.steps.specs.After.{four_from}
use Rattle.jfs_data_steps.specs.declared.pages.DataPage.{DataPage}
use Rattle.jfs_marks.specs.Marks.{FitsMarks}
use Rattle.jfs_marks.specs.declared.founded.Founded.{Founded}
use Rattle.jfs_marks.specs.declared.founded.Founded.TheVariants as founded
use Rattle.jfs_marks.specs.declared.founded.NewExtent.{NewExtent}
use Rattle.jfs_marks.specs.declared.changes.Met.{Met}
use Rattle.jfs_marks.specs.declared.changes.Met.TheVariants as met
use Rattle.jfs_marks.specs.declared.changes.Changes.{Changes}
use Rattle.jfs_marks.specs.declared.marking.Marking.{Marking}
use Rattle.jfs_marks.specs.declared.marking.Marking.TheVariants.{Fits, Unfit}
use Rattle.jfs_marks.specs.Founded.{founded_in}
use Rattle.jfs_marks.specs.Changes.{tx_changes}

abbrev pub marks : Option Pxd → Option ℕ → Option ℕ → Marking
marks extent taken freed = Fits (record { extent = extent; taken = taken; freed = freed })

-- An inode that comes into use is the lowest free one;
abbrev pub if_picked : Pick → ℕ → Option ℕ → Marking
if_picked (Number m) n freed = if n == m then marks None (Some n) freed else Unfit
if_picked (NeedsExtent place) n freed = Unfit
if_picked NoInodes n freed = Unfit

abbrev pub without_extent : Pick → Met → Option ℕ → Marking
without_extent pick met.Nothing freed = marks None None freed
without_extent pick (met.One n) freed = if_picked pick n freed
without_extent pick met.Several freed = Unfit

-- or one of a new extent.
abbrev pub in_extent : NewExtent → Met → Option ℕ → Marking
in_extent extent met.Nothing freed = marks (Some (four_from extent.first)) None freed
in_extent extent (met.One n) freed = if n / 32 == extent.place then marks (Some (four_from extent.first)) (Some n) freed else Unfit
in_extent extent met.Several freed = Unfit

-- An extent is added where no inode is free, in the lowest place.
abbrev pub with_extent : Pick → NewExtent → Met → Option ℕ → Marking
with_extent (Number m) extent taken freed = Unfit
with_extent (NeedsExtent place) extent taken freed = if place == extent.place then in_extent extent taken freed else Unfit
with_extent NoInodes extent taken freed = Unfit

abbrev pub with_freed : Pick → Founded → Met → Option ℕ → Marking
with_freed pick founded.Nothing taken freed = without_extent pick taken freed
with_freed pick (founded.One extent) taken freed = with_extent pick extent taken freed
with_freed pick founded.Several taken freed = Unfit

abbrev pub marking_for : Pick → Founded → Met → Met → Marking
marking_for pick f taken met.Nothing = with_freed pick f taken None
marking_for pick f taken (met.One n) = with_freed pick f taken (Some n)
marking_for pick f taken met.Several = Unfit

abbrev pub marking_by : Pick → Founded → Changes → Marking
marking_by pick f c = marking_for pick f c.taken c.freed

-- what a transaction makes of a map that picks this, where the pages hold this before the data and the transaction
abbrev pub marking_of : ℕ → (ℕ → List ℕ) → Inodes → List Edit → List DataPage → Pick → Marking
marking_of blocks pages inodes tx ds pick = marking_by pick (founded_in tx) (tx_changes blocks pages inodes (founded_in tx) tx ds)

abbrev pub AreMarksOf : ℕ → (ℕ → List ℕ) → Inodes → List Edit → List DataPage → Marking → Type 0
AreMarksOf blocks pages inodes tx ds marking = (pick : Pick) × IsPick inodes pick × (marking ≡ marking_of blocks pages inodes tx ds pick)

-- the marks may be made
abbrev pub FitsMarking : Inodes → Marking → Type 0
FitsMarking inodes (Fits marks) = FitsMarks inodes marks
FitsMarking inodes Unfit = Unit {0}
