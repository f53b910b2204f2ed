-- The room that held pages have among the dirty ones.
use Rattle.std.proofs.Common.{◌≡◌, ◌≤◌, ◌+◌, ℕ, eqb, Bool, true, false, not, ◌&&◌, List, [], ◌∷◌, length, if◌then◌else◌, Option, Some, None, is_some, filter, refl, arith}
use Rattle.std.proofs.lemmas.Bool.Decides.{nat_tests}
use Rattle.jfs_pages.specs.declared.dirty.Dirty.{Dirty}
use Rattle.std.specs.List.{insert}
use Rattle.std.proofs.lemmas.List.Edits.{length-insert}
use Rattle.jfs_pages.specs.Dirty.{dirty_of, is_among, IsRising}
use Rattle.jfs_pages.specs.Room.{waiting, IsGapFor}
use Rattle.jfs_pages.proofs.Place.{FindsAfter, found_after_insert, absent_in_gap, rising_insert}

pub waiting-le : (held : List ℕ) (dirty : List Dirty) → waiting held dirty ≤ length held
waiting-le [] dirty = omega arith
waiting-le (page ∷ held) dirty = grind (arith, waiting-le held dirty)

-- a page that isn't held matters to none that is
waiting_apart : (held : List ℕ) (old new : List Dirty) (n : ℕ) (found : Option Dirty) → FindsAfter old new n found → is_among n held ≡ false → waiting held new ≡ waiting held old
waiting_apart [] old new n found finds none = refl
waiting_apart (page ∷ held) old new n found finds none = grind (arith, nat_tests, finds page, waiting_apart held old new n found finds)

-- a held page that becomes dirty doesn't wait any more
pub waiting-marked : (held : List ℕ) (old new : List Dirty) (n : ℕ) (d : Dirty) → FindsAfter old new n (Some d) → dirty_of old n ≡ None → is_among n held ≡ true → waiting held new + 1 ≡ waiting held old
waiting-marked [] old new n d finds clean there = absurd (grind (arith, there))
waiting-marked (page ∷ held) old new n d finds clean there = grind (arith, nat_tests, finds page, waiting-marked held old new n d finds clean, waiting_apart held old new n (Some d) finds)

-- a page that was dirty may wait again
pub waiting-cleaned : (held : List ℕ) (old new : List Dirty) (n : ℕ) → FindsAfter old new n None → waiting held new ≤ waiting held old + 1
waiting-cleaned [] old new n finds = omega arith
waiting-cleaned (page ∷ held) old new n finds = grind (arith, nat_tests, finds page, waiting-cleaned held old new n finds, waiting_apart held old new n None finds)

-- a page that was dirty stays so
pub waiting-kept : (held : List ℕ) (old new : List Dirty) (n : ℕ) (d : Dirty) → FindsAfter old new n (Some d) → is_some (dirty_of old n) ≡ true → waiting held new ≡ waiting held old
waiting-kept [] old new n d finds dirty = refl
waiting-kept (page ∷ held) old new n d finds dirty = grind (arith, nat_tests, finds page, waiting-kept held old new n d finds dirty)

-- a held page goes to its place, or finds none and all is as it was
pub inserted : (ok : Bool) (held : List ℕ) (old new : List Dirty) (at : ℕ) (d : Dirty) (room more : ℕ) → IsGapFor old d.page at → is_among d.page held ≡ true → IsRising old → length old + waiting held old ≤ room →
    new ≡ (if ok then insert old at d else old) → room ≤ more → IsRising new × (length new + waiting held new ≤ more)
inserted true held old new at d room more gap there rising fits e grows =
    let finds = found_after_insert old d.page at gap d refl in
    let fewer = waiting-marked held old (insert old at d) d.page d finds (absent_in_gap old d.page at gap) there in
    rw e (rising_insert old d.page at gap d refl rising, omega (arith, fewer, length-insert old at d gap.in_range))
inserted false held old new at d room more gap there rising fits e grows = rw e (rising, omega arith)

-- ---- a page is held no more

pub is_among-filter : (n page : ℕ) (held : List ℕ) → is_among n (filter (λ h. not (eqb h page)) held) ≡ (not (eqb page n) && is_among n held)
is_among-filter n page [] = grind arith
is_among-filter n page (h ∷ held) = grind (arith, nat_tests, is_among-filter n page held)

pub waiting-filter : (held : List ℕ) (dirty : List Dirty) (page : ℕ) → waiting (filter (λ h. not (eqb h page)) held) dirty ≤ waiting held dirty
waiting-filter [] dirty page = omega arith
waiting-filter (h ∷ held) dirty page = grind (arith, nat_tests, is_among-filter h page held, waiting-filter held dirty page)
