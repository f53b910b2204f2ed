-- What a crash leaves at the moments of formatting.
use Rattle.std.proofs.Common.{◌≡◌, ◌≤◌, ◌<◌, ◌-◌, ℕ, List, [], ◌∷◌, ◌++◌, length, get_or, sym, ap, subst, ◌∙◌, ◌⊎◌, inl, inr, arith}
use Rattle.std.proofs.lemmas.Bool.{cases_lt}
use Rattle.std.proofs.lemmas.List.{get_or_past, length-append}
use Rattle.jfs_disk.specs.Image.{Image, page_of}
use Rattle.jfs_disk.specs.Crash.{DiskState, IsCrashPage, IsCrashImage, PageHistory, history_of, resting, seen_of, written, failed, settled, torn, last_of, AllSince, TearsPage, LeavesTorn}
use Rattle.jfs_disk.specs.Moment.{now_of, IsResting}
use Rattle.jfs_disk.specs.Seen.{page_of-seen_of}
use Rattle.jfs_disk.proofs.Tearing.{torn-same}
use Rattle.jfs_disk.proofs.Flow.{goes_on, crash-resting, crash-resting-written, crash-resting-failed, history-settled, length-seen_of}
use Rattle.jfs_disk.proofs.WriteThenSync.{Writes, synced-goes_on, there-of, page-of}
use Rattle.jfs_logpages.specs.Fresh.{HistoriesStay}

-- ---- pages that aren't written

rested-page : (bytes left : List ℕ) → IsCrashPage (resting bytes) left → left ≡ bytes
rested-page bytes left crash =
    let top : crash.top ≡ 0 = omega (arith, crash.there) in
    let base : crash.base ≡ 0 = omega (arith, crash.older, crash.there) in
    crash.content
    ∙ ap (λ (k : ℕ). torn crash.sectors (get_or (bytes ∷ []) k []) (get_or (bytes ∷ []) crash.base [])) top
    ∙ ap (λ (k : ℕ). torn crash.sectors bytes (get_or (bytes ∷ []) k [])) base
    ∙ torn-same crash.sectors bytes

-- a page whose history is that of a state with nothing pending
page-kept : (old state : DiskState) (n : ℕ) (left : Image) → IsResting old → length state ≡ length old → history_of state n ≡ history_of old n → IsCrashImage state left → page_of left n ≡ page_of (seen_of old) n
page-kept old state n left rests size same crash = by (cases_lt n (length old))
  where
    by : (n < length old) ⊎ (length old ≤ n) → page_of left n ≡ page_of (seen_of old) n
    by (inl there) =
        let settles : history_of old n ≡ resting (history_of old n).seen = ap (λ (s : DiskState). history_of s n) rests ∙ history-settled old n there in
        rested-page (history_of old n).seen (page_of left n) (subst (λ (page : PageHistory). IsCrashPage page (page_of left n)) (same ∙ settles) (crash.each n (omega (arith, size))))
        ∙ sym (page_of-seen_of old n)
    by (inr past) = get_or_past left n [] (omega (arith, crash.number, size)) ∙ sym (get_or_past (seen_of old) n [] (omega (arith, length-seen_of old)))

pub kept-since : (kept : ℕ → Type 0) (old new : List DiskState) → 0 < length old → IsResting (last_of old) → HistoriesStay kept old new → AllSince (λ left. (n : ℕ) → kept n → page_of left n ≡ page_of (seen_of (last_of old)) n) new (now_of old)
kept-since kept old new some rests stay left since n keeps = by (cases_lt since.moment (length old))
  where
    by : (since.moment < length old) ⊎ (length old ≤ since.moment) → page_of left n ≡ page_of (seen_of (last_of old)) n
    by (inl before) =
        let here : since.moment ≡ length old - 1 = omega (arith, since.since) in
        ap (λ (im : Image). page_of im n) (crash-resting (last_of old) left rests (subst (λ (s : DiskState). IsCrashImage s left) (stay.before since.moment before ∙ ap (λ (k : ℕ). get_or old k []) here) since.crash))
    by (inr after) = page-kept (last_of old) (get_or new since.moment []) n left rests (stay.sizes since.moment after since.reached) (stay.pages since.moment after since.reached n keeps) since.crash

-- ---- one page is written on a disk with nothing pending

pub since-failed : (P : Image → Type 0) (count n : ℕ) (bytes : List ℕ) (image : Image) (past new : List DiskState) (t : ℕ) → Writes count n bytes image past → IsResting (last_of past) → AllSince P past t
    → ((left : Image) → TearsPage n bytes image left → P left) → LeavesTorn n bytes past new → AllSince P new t
since-failed P count n bytes image past new t reads rests all each (inl same) = subst (λ (states : List DiskState). AllSince P states t) (sym same) all
since-failed P count n bytes image past new t reads rests all each (inr torn_write) =
    subst (λ (states : List DiskState). AllSince P states t) (sym torn_write.2)
    (goes_on P past (failed n bytes torn_write.0 (last_of past)) t all
    (λ left crash. each left (subst (λ (im : Image). TearsPage n bytes im left) (sym reads.laws.now)
    (crash-resting-failed n bytes torn_write.0 (last_of past) left torn_write.1 rests (there-of count n image past reads.laws reads.there) reads.size (page-of count n image past reads.laws reads.there) crash))))

pub since-written : (P : Image → Type 0) (count n : ℕ) (bytes : List ℕ) (image : Image) (past new : List DiskState) (t : ℕ) → Writes count n bytes image past → IsResting (last_of past) → AllSince P past t
    → ((left : Image) → TearsPage n bytes image left → P left) → new ≡ past ++ written n bytes (last_of past) ∷ [] → AllSince P new t
since-written P count n bytes image past new t reads rests all each e =
    subst (λ (states : List DiskState). AllSince P states t) (sym e)
    (goes_on P past (written n bytes (last_of past)) t all
    (λ left crash. each left (subst (λ (im : Image). TearsPage n bytes im left) (sym reads.laws.now)
    (crash-resting-written n bytes (last_of past) left rests (there-of count n image past reads.laws reads.there) reads.size (page-of count n image past reads.laws reads.there) crash))))

-- a sync
pub since-synced : (P : Image → Type 0) (seen : Image) (past new : List DiskState) (t : ℕ) → 0 < length past → t < length past → IsCrashImage (last_of past) seen → seen ≡ seen_of (last_of past) → AllSince P past t → new ≡ past ++ settled (last_of past) ∷ [] → AllSince P new t
since-synced P seen past new t some before crash now all e = synced-goes_on P past new t some before (subst (λ (im : Image). IsCrashImage (last_of past) im) now crash) all e

-- a moment stays in the past
pub longer : (past new : List DiskState) (state : DiskState) (t : ℕ) → t < length past → new ≡ past ++ state ∷ [] → t < length new
longer past new state t h e = omega (arith, h, ap (λ (p : List DiskState). length p) e, length-append past (state ∷ []))
