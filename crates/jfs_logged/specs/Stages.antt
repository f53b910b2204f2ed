-- What one part of a call's transaction tells, which changes one object, or adds an inode extent.
use Rattle.std.specs.Prelude.{◌≡◌, ◌≢◌, ◌<◌, ℕ, true, false, List, length}
use Rattle.jfs_bits.specs.declared.rule.PageKind.{PageKind}
use Rattle.jfs_ranges.specs.declared.edit.Edit.{Edit}
use Rattle.jfs_ranges.specs.Apply.{apply_tx, touches_tx}
use Rattle.jfs_tree.specs.Tell.{IsRuns}
use Rattle.jfs_recovery.specs.records.specs.Redo.{closes_in}
use Rattle.jfs_recovery.specs.objects.specs.Readers.{Readers}
use Rattle.jfs_recovery.specs.objects.specs.Volume.{Volume}
use Rattle.jfs_recovery.specs.objects.specs.Owners.{Agrees}
use Rattle.jfs_recovery.specs.kinds.specs.Laws.{OwnersStay}
use Rattle.jfs_halves.specs.Marks.{frees_page}
use Rattle.jfs_logged.specs.Logged.{logged_in, LeavesPage}
use Rattle.jfs_logged.specs.Own.{IsKeptOrData, LogsPart}

-- Areas stay, and pages that stay in use are those that the edits make. A page that has a NoRedo is freed by them, was kept safe by the log, and isn't in use then. Of the others they leave those that the log doesn't keep safe then, none of which it did before; and a block that comes into use as one that it does is told whole. No page of a fixed area is told, and what comes
-- into use is kept safe, or is data of a regular file.
pub record TellsStage (r : Readers) (v w : Volume) (tx : List Edit) : Type 0 where
  pub areas : (p : ℕ) → w.area p ≡ v.area p
  pub pages : (p : ℕ) → v.used p ≡ true → w.used p ≡ true → w.page p ≡ apply_tx p tx (v.page p)
  pub freed : (p : ℕ) → closes_in p tx ≡ true → (frees_page p tx ≡ true) × (logged_in r v p ≡ true) × (w.used p ≡ false)
  pub others : (p : ℕ) → closes_in p tx ≡ false → logged_in r w p ≡ false → LeavesPage p tx × (logged_in r v p ≡ false)
  pub whole : (p : ℕ) → v.used p ≡ false → w.used p ≡ true → logged_in r w p ≡ true → (a : List ℕ) → length a ≡ 4096 → apply_tx p tx a ≡ w.page p
  pub untold : (p : ℕ) → 0 < v.area p → LeavesPage p tx
  pub comes : (p : ℕ) → v.used p ≡ false → w.used p ≡ true → IsKeptOrData r w p

-- So it logs what matters, where maps agree before and after and blocks that stay in use keep their owners.
abbrev pub StageLaw : Type 0
StageLaw = (r : Readers) (v w : Volume) (tx : List Edit) → Agrees r v → Agrees r w → OwnersStay r v w → TellsStage r v w tx → LogsPart r v w tx

-- ---- the runs of one page

-- Edits that are the runs of lines of one page that changed have no NoRedo, and neither put a byte into another page nor change it.
pub record ArePageRuns (n : ℕ) (tx : List Edit) : Type 0 where
  pub closes_none : (p : ℕ) → closes_in p tx ≡ false
  pub quiet : (p : ℕ) → p ≢ n → touches_tx p tx ≡ false
  pub others : (p : ℕ) → p ≢ n → LeavesPage p tx

abbrev pub RunsLaw : Type 0
RunsLaw = (n : ℕ) (kind : PageKind) (old new : List ℕ) (first : ℕ) (tx : List Edit) → IsRuns n kind old new first tx → ArePageRuns n tx
