-- A write and then a sync, moment by moment.
use Rattle.std.proofs.Common.{◌≡◌, ◌<◌, ◌+◌, ◌-◌, ℕ, List, [], ◌∷◌, ◌++◌, length, refl, sym, ap, subst, ◌∙◌, inl, inr, arith}
use Rattle.std.proofs.lemmas.List.{length-append}
use Rattle.jfs_disk.specs.Image.{Image, page_of}
use Rattle.jfs_disk.specs.Crash.{DiskState, IsCrashImage, seen_of, written, failed, settled, last_of, AllSince, TearsPage, LeavesTorn}
use Rattle.jfs_disk.specs.Moment.{now_of, IsResting, IsLawful}
use Rattle.jfs_disk.proofs.Outcomes.{last_of-push, tears_nothing}
use Rattle.jfs_disk.proofs.Flow.{starts, goes_on, crash-settled, crash-resting, crash-resting-written, crash-resting-failed, length-seen_of}

-- A call that begins with nothing pending, and writes one page and syncs: at each moment since its start a crash leaves the
-- old image with that page torn.
abbrev pub AllTorn : ℕ → List ℕ → Image → List DiskState → ℕ → Type 0
AllTorn n bytes image past t = AllSince (λ left. TearsPage n bytes image left) past t

pub starts-torn : (n : ℕ) (bytes : List ℕ) (past : List DiskState) → 0 < length past → IsResting (last_of past) → AllTorn n bytes (seen_of (last_of past)) past (now_of past)
starts-torn n bytes past h rests = starts (λ left. TearsPage n bytes (seen_of (last_of past)) left) past h
    (λ left crash. tears_nothing n bytes (seen_of (last_of past)) left (crash-resting (last_of past) left rests crash))

pub written-torn : (n : ℕ) (bytes : List ℕ) (past new : List DiskState) → 0 < length past → IsResting (last_of past) → n < length (last_of past) → length bytes ≡ 4096 → length (page_of (seen_of (last_of past)) n) ≡ 4096
    → new ≡ past ++ written n bytes (last_of past) ∷ [] → AllTorn n bytes (seen_of (last_of past)) new (now_of past)
written-torn n bytes past new h rests there size long e =
    subst (λ (states : List DiskState). AllTorn n bytes (seen_of (last_of past)) states (now_of past)) (sym e)
    (goes_on (λ left. TearsPage n bytes (seen_of (last_of past)) left) past (written n bytes (last_of past)) (now_of past) (starts-torn n bytes past h rests)
    (λ left crash. crash-resting-written n bytes (last_of past) left rests there size long crash))

pub failed-torn : (n : ℕ) (bytes : List ℕ) (past new : List DiskState) → 0 < length past → IsResting (last_of past) → n < length (last_of past) → length bytes ≡ 4096 → length (page_of (seen_of (last_of past)) n) ≡ 4096
    → LeavesTorn n bytes past new → AllTorn n bytes (seen_of (last_of past)) new (now_of past)
failed-torn n bytes past new h rests there size long (inl same) =
    subst (λ (states : List DiskState). AllTorn n bytes (seen_of (last_of past)) states (now_of past)) (sym same) (starts-torn n bytes past h rests)
failed-torn n bytes past new h rests there size long (inr torn_write) =
    subst (λ (states : List DiskState). AllTorn n bytes (seen_of (last_of past)) states (now_of past)) (sym torn_write.2)
    (goes_on (λ left. TearsPage n bytes (seen_of (last_of past)) left) past (failed n bytes torn_write.0 (last_of past)) (now_of past) (starts-torn n bytes past h rests)
    (λ left crash. crash-resting-failed n bytes torn_write.0 (last_of past) left torn_write.1 rests there size long crash))

-- a sync adds no other image
pub synced-goes_on : (P : Image → Type 0) (past new : List DiskState) (t : ℕ) → 0 < length past → t < length past → IsCrashImage (last_of past) (seen_of (last_of past)) → AllSince P past t → new ≡ past ++ settled (last_of past) ∷ [] → AllSince P new t
synced-goes_on P past new t h before seen all e =
    subst (λ (states : List DiskState). AllSince P states t) (sym e)
    (goes_on P past (settled (last_of past)) t all
    (λ left crash. subst P (sym (crash-settled (last_of past) left crash))
    (all (seen_of (last_of past)) (record { moment = length past - 1; since = omega arith; reached = omega arith; crash = seen }))))

-- a page of a disk has its place in the state, and 4,096 bytes
pub there-of : (count n : ℕ) (image : Image) (past : List DiskState) → IsLawful count image past → n < count → n < length (last_of past)
there-of count n image past laws there =
    omega (arith, there, laws.pages.number, ap (λ (im : Image). length im) laws.now, length-seen_of (last_of past))

pub page-of : (count n : ℕ) (image : Image) (past : List DiskState) → IsLawful count image past → n < count → length (page_of (seen_of (last_of past)) n) ≡ 4096
page-of count n image past laws there =
    ap (λ (im : Image). length (page_of im n)) (sym laws.now) ∙ laws.pages.sizes n there

-- the same of a disk that tells all, and of a page that is written
pub record Writes (count n : ℕ) (bytes : List ℕ) (image : Image) (past : List DiskState) : Type 0 where
  pub laws : IsLawful count image past
  pub there : n < count
  pub size : length bytes ≡ 4096

pub all-failed : (count n : ℕ) (bytes : List ℕ) (image : Image) (past new : List DiskState) → Writes count n bytes image past → LeavesTorn n bytes past new → IsResting (last_of past) → AllTorn n bytes image new (now_of past)
all-failed count n bytes image past new reads leaves rests =
    subst (λ (im : Image). AllTorn n bytes im new (now_of past)) (sym reads.laws.now)
    (failed-torn n bytes past new reads.laws.state rests (there-of count n image past reads.laws reads.there) reads.size (page-of count n image past reads.laws reads.there) leaves)

pub all-written : (count n : ℕ) (bytes : List ℕ) (image : Image) (past new : List DiskState) → Writes count n bytes image past → new ≡ past ++ written n bytes (last_of past) ∷ [] → IsResting (last_of past) → AllTorn n bytes image new (now_of past)
all-written count n bytes image past new reads e rests =
    subst (λ (im : Image). AllTorn n bytes im new (now_of past)) (sym reads.laws.now)
    (written-torn n bytes past new reads.laws.state rests (there-of count n image past reads.laws reads.there) reads.size (page-of count n image past reads.laws reads.there) e)

pub all-synced : (count n : ℕ) (bytes : List ℕ) (image seen : Image) (past mid new : List DiskState) → Writes count n bytes image past → mid ≡ past ++ written n bytes (last_of past) ∷ [] → IsResting (last_of past) → IsCrashImage (last_of mid) seen → seen ≡ seen_of (last_of mid) → new ≡ mid ++ settled (last_of mid) ∷ [] → AllTorn n bytes image new (now_of past)
all-synced count n bytes image seen past mid new reads e rests crash now synced =
    let long : length mid ≡ length past + 1 = ap (λ (p : List DiskState). length p) e ∙ length-append past (written n bytes (last_of past) ∷ []) in
    synced-goes_on (λ left. TearsPage n bytes image left) mid new (now_of past) (omega arith) (omega (arith, reads.laws.state))
    (subst (λ (im : Image). IsCrashImage (last_of mid) im) now crash) (all-written count n bytes image past mid reads e rests) synced

pub stable-synced : (mid new : List DiskState) (seen left : Image) → new ≡ mid ++ settled (last_of mid) ∷ [] → seen ≡ seen_of (last_of mid) → IsCrashImage (last_of new) left → left ≡ seen
stable-synced mid new seen left e now crash =
    crash-settled (last_of mid) left (subst (λ (state : DiskState). IsCrashImage state left) (ap (λ (p : List DiskState). last_of p) e ∙ last_of-push mid (settled (last_of mid))) crash)
    ∙ sym now

-- the past goes on by the write and the sync
pub past-synced : (past mid new : List DiskState) (after : DiskState) → mid ≡ past ++ after ∷ [] → new ≡ mid ++ settled (last_of mid) ∷ [] → new ≡ (past ++ after ∷ []) ++ settled after ∷ []
past-synced past mid new after e synced =
    synced ∙ ap (λ (states : List DiskState). states ++ settled (last_of states) ∷ []) e
    ∙ ap (λ (state : DiskState). (past ++ after ∷ []) ++ settled state ∷ []) (last_of-push past after)

settled-settled : (state : DiskState) → settled state ≡ settled (settled state)
unfolding settled
settled-settled [] = refl
settled-settled (page ∷ pages) = ap (λ (rest : DiskState). record { seen = page.seen; stable = page.seen; writes = [] } ∷ rest) (settled-settled pages)

-- after a sync nothing is pending
pub resting-synced : (mid new : List DiskState) → new ≡ mid ++ settled (last_of mid) ∷ [] → IsResting (last_of new)
resting-synced mid new e =
    let last : last_of new ≡ settled (last_of mid) = ap (λ (states : List DiskState). last_of states) e ∙ last_of-push mid (settled (last_of mid)) in
    last ∙ settled-settled (last_of mid) ∙ ap settled (sym last)
