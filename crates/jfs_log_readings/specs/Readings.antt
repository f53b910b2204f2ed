-- Whoever reads a log that a crash left finds the window of the history that it commits.
use Rattle.std.specs.Prelude.{◌≡◌, ◌≤◌, ◌<◌, ◌-◌, ◌^◌, ℕ, List, ◌∷◌, map}
use Rattle.jfs_bits.specs.Field.{AreBytes}
use Rattle.jfs_bits.specs.declared.rule.Rule.{Rule}
use Rattle.jfs_disk.specs.Image.{Image, page_of}
use Rattle.jfs_ranges.specs.declared.edit.Edit.{Edit}
use Rattle.jfs_records.specs.logpages.specs.Fresh.{own_label}
use Rattle.jfs_records.specs.logpages.specs.ReadLog.{HasSuper, label_of, IsReadAs, IsNotOwn, BreaksLog}
use Rattle.jfs_records.specs.logpages.specs.declared.ring_text.RingText.{RingText}
use Rattle.jfs_records.specs.logpages.specs.declared.error.RingError.TheVariants as errors
use Rattle.jfs_records.specs.Committed.{committed}
use Rattle.jfs_halves.specs.Half.{Halves}
use Rattle.jfs_log_window.specs.Window.{CommitsWindow}

-- the transactions of a log that is read so
abbrev pub read_by : {pages blocks : ℕ} {log : Image} {read : RingText} → IsReadAs pages blocks log read → List (List Edit)
read_by is = committed (map (λ m. m.is) (is.m ∷ is.ms))

-- those of a window of the history
abbrev pub committed_by : {ring blocks : ℕ} {log : Image} {both : Halves} → CommitsWindow ring blocks log both → List (List Edit)
committed_by w = committed (map (λ m. m.is) (w.m ∷ w.ms))

-- Each reading of a log of so many pages has the transactions of the window that it commits.
abbrev pub ReadingLaw : Type 0
ReadingLaw = (pages blocks : ℕ) (log : Image) (both : Halves) (read : RingText) → 2 < pages → (w : CommitsWindow (pages - 2) blocks log both) → (is : IsReadAs pages blocks log read) → read_by is ≡ committed_by w

-- A log with a right superblock and its own label isn't refused.
pub record IsUnbroken (pages blocks : ℕ) (log : Image) : Type 0 where
  pub own : (label : List ℕ) → IsNotOwn pages log (errors.ForeignLog label) → ⊥
  pub whole : (address : ℕ) (rule : Rule) → BreaksLog pages blocks log address rule → ⊥

abbrev pub UnbrokenLaw : Type 0
UnbrokenLaw = (pages blocks : ℕ) (log : Image) (both : Halves) → 2 < pages → CommitsWindow (pages - 2) blocks log both → HasSuper pages log → label_of log ≡ own_label → IsUnbroken pages blocks log

-- It reads, where its pages are of bytes, as those of a disk are.
abbrev pub FoundLaw : Type 0
FoundLaw = (pages blocks : ℕ) (log : Image) (both : Halves) → 2 ≤ pages - 2 → pages - 2 < 2 ^ 16 → ((p : ℕ) → AreBytes (page_of log p)) → CommitsWindow (pages - 2) blocks log both → HasSuper pages log → label_of log ≡ own_label
    → (read : RingText) × IsReadAs pages blocks log read
