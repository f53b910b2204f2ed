-- The committed transactions of a volume's log, or why it wasn't read.
use Rattle.std.specs.Prelude.{◌≡◌, ◌≤◌, ℕ, ⊤, true, ◌+◌, List, ◌∷◌, map, Result, Ok, Err}
use Rattle.std.specs.List.{AllByRecursion}
use Rattle.jfs_bits.specs.Count.{Rose}
use Rattle.jfs_disk.specs.Image.{Image}
use Rattle.jfs_disk.specs.declared.disk.Part.TheVariants.{Whole}
use Rattle.jfs_ranges.specs.declared.edit.Edit.{Edit}
use Rattle.jfs_ranges.specs.declared.edit.Edit.TheVariants.{Lines, NoRedo, Alloc, Free}
use Rattle.jfs_logfmt.specs.declared.log_record.Record.{Record}
use Rattle.jfs_logpages.specs.Back.{Met}
use Rattle.jfs_logpages.specs.ReadLog.{IsReadAs, IsNotOwn, BreaksLog}
use Rattle.jfs_logpages.specs.declared.ring_text.RingText.{RingText}
use Rattle.jfs_logpages.specs.declared.error.RingError.{RingError}
use Rattle.jfs_logpages.specs.declared.error.RingError.TheVariants as ring
use Rattle.jfs_records.specs.Committed.{committed}
use Rattle.jfs_redo_steps.specs.steps.specs.After.{is_extent}
use Rattle.jfs_redo.specs.declared.error.RedoError.{RedoError}
use Rattle.jfs_redo.specs.declared.error.RedoError.TheVariants.{Disk, ForeignLog, BadLog, BadImage, Memory}

-- The records are those of the log's text, the oldest first, from the place on that its newest SYNCPT gives.
pub record AreLogRecords (pages blocks : ℕ) (log : Image) (records : List Record) : Type 0 where
  pub read : RingText
  pub reads : IsReadAs pages blocks log read
  pub are : records ≡ map (λ (m : Met). m.is) (reads.m ∷ reads.ms)

-- The transactions are those that the records of the log's text commit, from the place on that its newest SYNCPT gives.
pub record AreCommitted (pages blocks : ℕ) (log : Image) (txs : List (List Edit)) : Type 0 where
  pub read : RingText
  pub reads : IsReadAs pages blocks log read
  pub are : txs ≡ committed (map (λ (m : Met). m.is) (reads.m ∷ reads.ms))

-- what a log of so many pages gives, on a volume of so many blocks: transactions, or the first rule that it breaks
abbrev pub IsLogOf : ℕ → ℕ → Image → Result (List (List Edit)) RedoError → Type 0
IsLogOf pages blocks log (Ok txs) = AreCommitted pages blocks log txs
IsLogOf pages blocks log (Err (ForeignLog label)) = IsNotOwn pages log (ring.ForeignLog label)
IsLogOf pages blocks log (Err (BadLog address rule)) = BreaksLog pages blocks log address rule
IsLogOf pages blocks log (Err (BadImage bad)) = ⊥
IsLogOf pages blocks log (Err (Disk fault)) = ⊤
IsLogOf pages blocks log (Err Memory) = ⊤

-- a fault is the whole disk's, whose count rose; a refusal comes where it stands
abbrev pub IsLogCause : {T : Type 0} → ℕ → ℕ → Result T RedoError → Type 0
IsLogCause before now (Ok it) = now ≡ before
IsLogCause before now (Err (Disk fault)) = Rose before now × (fault ≡ record { part = Whole; count = now })
IsLogCause before now (Err (ForeignLog label)) = now ≡ before
IsLogCause before now (Err (BadLog address rule)) = now ≡ before
IsLogCause before now (Err (BadImage bad)) = now ≡ before
IsLogCause before now (Err Memory) = ⊤

abbrev pub refusal_of : RingError → RedoError
refusal_of (ring.Read fault) = Disk fault
refusal_of (ring.ForeignLog label) = ForeignLog label
refusal_of (ring.BadLog address rule) = BadLog address rule
refusal_of ring.Memory = Memory

-- ---- a new inode extent lies within a volume of so many blocks

abbrev pub ExtentLies : ℕ → Edit → Type 0
ExtentLies blocks (Lines page kind first bytes) = is_extent kind first bytes ≡ true → page + 4 ≤ blocks
ExtentLies blocks (NoRedo page) = ⊤
ExtentLies blocks (Alloc run) = ⊤
ExtentLies blocks (Free run) = ⊤

abbrev pub ExtentsLieWithin : ℕ → List Edit → Type 0
ExtentsLieWithin blocks tx = AllByRecursion (ExtentLies blocks) tx
