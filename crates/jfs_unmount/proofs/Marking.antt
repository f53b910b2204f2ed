-- The superblock's page is written and synced, moment by moment.
use Rattle.std.proofs.Common.{◌≡◌, ◌<◌, ◌≤◌, ◌∷◌, [], ◌++◌, ℕ, List, length, set, inl, inr, sym, ap, ◌∙◌, arith}
use Rattle.std.proofs.lemmas.List.{length-append}
use Rattle.jfs_disk.specs.Image.{Image, ArePages, page_of}
use Rattle.jfs_disk.specs.Crash.{DiskState, LeavesTorn, TearsPage, failed, last_of}
use Rattle.jfs_disk.specs.Moment.{now_of}
use Rattle.jfs_disk.proofs.Tearing.{torn-whole}

-- a page that was written is torn behind its last sector
pub tears_all : (count n : ℕ) (bytes : List ℕ) (old new : Image) → ArePages count old → n < count → length bytes ≡ 4096 → new ≡ set old n bytes → TearsPage n bytes old new
tears_all count n bytes old new pages there size is = (8, omega arith, is ∙ sym (ap (λ (page : List ℕ). set old n page) (torn-whole bytes (page_of old n) size (pages.sizes n there))))

-- ---- the past goes on

pub later_same : (past new : List DiskState) → new ≡ past → now_of past ≤ now_of new
later_same past new e = omega (arith, ap (λ (p : List DiskState). length p) e)

pub later_push : (past new : List DiskState) (state : DiskState) → new ≡ past ++ state ∷ [] → now_of past ≤ now_of new
later_push past new state e = omega (arith, ap (λ (p : List DiskState). length p) e, length-append past (state ∷ []))

pub later_torn : (n : ℕ) (bytes : List ℕ) (past new : List DiskState) → LeavesTorn n bytes past new → now_of past ≤ now_of new
later_torn n bytes past new (inl same) = later_same past new same
later_torn n bytes past new (inr torn) = later_push past new (failed n bytes torn.0 (last_of past)) torn.2
