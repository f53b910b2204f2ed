-- The turn of a page, on a disk whose state tells what a read gives.
use Rattle.std.proofs.Common.{◌≡◌, ◌<◌, ◌+◌, ℕ, List, length, sym, ap, ◌∙◌}
use Rattle.jfs_disk.specs.Image.{Image, page_of}
use Rattle.jfs_disk.specs.Crash.{DiskState, seen_of, last_of}
use Rattle.jfs_disk.specs.Seen.{page_of-seen_of}
use Rattle.jfs_disk.proofs.Flow.{length-seen_of}
use Rattle.jfs_ranges.specs.declared.edit.Edit.{Edit}
use Rattle.jfs_records.specs.Redo.{redone}
use Rattle.jfs_redo_steps.specs.Pages.{ArePagesRedone, AreOnTheWay, WritesPage}
use Rattle.jfs_redo_steps.proofs.DiskPages.{before_turn}
use Rattle.jfs_redo_steps.proofs.Moments.{turn_moment}

pub turn_on : (p : ℕ) (es : List Edit) (old mid : Image) (t : ℕ) (past new : List DiskState) → p < length old → length (page_of old p) ≡ 4096 → ArePagesRedone p es old mid → mid ≡ seen_of (last_of past) → AreOnTheWay p es old t past
    → WritesPage p (redone p (page_of old p) (page_of old p) es) past new → AreOnTheWay (p + 1) es old t new
turn_on p es old mid t past new within size before seen way writes =
    turn_moment p es old t past new within size (sym (length-seen_of (last_of past)) ∙ ap (λ (i : Image). length i) (sym seen) ∙ before.number)
    (sym (page_of-seen_of (last_of past) p) ∙ ap (λ (i : Image). page_of i p) (sym seen) ∙ before_turn es old mid p before) way writes
