-- Page 8 of the low part is written and synced, moment by moment.
use Rattle.std.proofs.Common.{◌≡◌, ◌<◌, ◌≤◌, ◌++◌, ◌∷◌, [], ℕ, List, length, inl, inr, sym, ap, subst, ◌∙◌, arith}
use Rattle.std.proofs.lemmas.List.{length-append}
use Rattle.jfs_disk.specs.Image.{Image, page_of}
use Rattle.jfs_disk.specs.Crash.{DiskState, AllSince, IsCrashImage, LeavesTorn, last_of, seen_of, written, failed, settled}
use Rattle.jfs_disk.specs.Moment.{IsResting, IsLawful, now_of}
use Rattle.jfs_disk.proofs.WriteThenSync.{AllTorn, starts-torn, all-failed, all-written, all-synced}
use Rattle.jfs_super.specs.declared.fields.Super.{Super}
use Rattle.jfs_mount_disk.specs.Begun.{marked_page, IsPartlyMarked}

module _ (s : Super) (count : ℕ) (image : Image) (past : List DiskState) (laws : IsLawful count image past) (rests : IsResting (last_of past)) where
  marked : (bytes : List ℕ) (new : List DiskState) → bytes ≡ marked_page s (page_of image 8) → AllTorn 8 bytes image new (now_of past) → AllSince (IsPartlyMarked s image) new (now_of past)
  marked bytes new is all = subst (λ (b : List ℕ). AllTorn 8 b image new (now_of past)) is all

  -- nothing was written
  pub still_since : (new : List DiskState) → new ≡ past → AllSince (IsPartlyMarked s image) new (now_of past)
  still_since new same =
      subst (λ (states : List DiskState). AllSince (IsPartlyMarked s image) states (now_of past)) (sym same)
      (subst (λ (im : Image). AllTorn 8 (marked_page s (page_of image 8)) im past (now_of past)) (sym laws.now) (starts-torn 8 (marked_page s (page_of image 8)) past laws.state rests))

  module _ (there : 8 < count) (bytes : List ℕ) (size : length bytes ≡ 4096) (is : bytes ≡ marked_page s (page_of image 8)) (read : List DiskState) (same : read ≡ past) where
    pub failed_since : (new : List DiskState) → LeavesTorn 8 bytes read new → AllSince (IsPartlyMarked s image) new (now_of past)
    failed_since new leaves = marked bytes new is (all-failed count 8 bytes image past new (record { laws = laws; there = there; size = size }) (subst (λ (p : List DiskState). LeavesTorn 8 bytes p new) same leaves) rests)

    once : (new : List DiskState) → new ≡ read ++ written 8 bytes (last_of read) ∷ [] → new ≡ past ++ written 8 bytes (last_of past) ∷ []
    once new e = e ∙ ap (λ (p : List DiskState). p ++ written 8 bytes (last_of p) ∷ []) same

    pub written_since : (new : List DiskState) → new ≡ read ++ written 8 bytes (last_of read) ∷ [] → AllSince (IsPartlyMarked s image) new (now_of past)
    written_since new e = marked bytes new is (all-written count 8 bytes image past new (record { laws = laws; there = there; size = size }) (once new e) rests)

    pub synced_since : (seen : Image) (mid new : List DiskState) → mid ≡ read ++ written 8 bytes (last_of read) ∷ [] → IsCrashImage (last_of mid) seen → seen ≡ seen_of (last_of mid) → new ≡ mid ++ settled (last_of mid) ∷ []
        → AllSince (IsPartlyMarked s image) new (now_of past)
    synced_since seen mid new e crash now synced =
        marked bytes new is (all-synced count 8 bytes image seen past mid new (record { laws = laws; there = there; size = size }) (once mid e) rests crash now synced)

-- ---- the past goes on

pub later_same : (past new : List DiskState) → new ≡ past → now_of past ≤ now_of new
later_same past new e = omega (arith, ap (λ (p : List DiskState). length p) e)

pub later_push : (past new : List DiskState) (state : DiskState) → new ≡ past ++ state ∷ [] → now_of past ≤ now_of new
later_push past new state e = omega (arith, ap (λ (p : List DiskState). length p) e, length-append past (state ∷ []))

pub later_torn : (n : ℕ) (bytes : List ℕ) (past new : List DiskState) → LeavesTorn n bytes past new → now_of past ≤ now_of new
later_torn n bytes past new (inl same) = later_same past new same
later_torn n bytes past new (inr torn) = later_push past new (failed n bytes torn.0 (last_of past)) torn.2
