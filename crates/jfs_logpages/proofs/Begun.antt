-- A log while it is made, moment by moment.
use Rattle.std.proofs.Common.{◌≡◌, ◌≤◌, ◌<◌, ◌+◌, ◌-◌, ℕ, List, [], ◌∷◌, ◌++◌, length, refl, sym, ap, subst, ◌∙◌, ◌⊎◌, inl, inr, arith}
use Rattle.std.proofs.lemmas.Bool.{cases_eq}
use Rattle.std.proofs.lemmas.List.{length-append, get_or-set_same, get_or-set_other}
use Rattle.jfs_disk.specs.Image.{Image, page_of, ArePages}
use Rattle.jfs_disk.specs.Crash.{DiskState, IsCrashImage, seen_of, history_of, written, failed, torn, last_of, AllSince, LeavesTorn, Leaves}
use Rattle.jfs_disk.specs.Moment.{now_of, IsResting, IsLawful}
use Rattle.jfs_disk.specs.Seen.{page_of-seen_of}
use Rattle.jfs_disk.proofs.Outcomes.{last_of-push}
use Rattle.jfs_disk.proofs.Tearing.{IsTorn, torn-none, torn-whole, torn-over, torn-under}
use Rattle.jfs_disk.proofs.Flow.{starts, goes_on, crash-written, crash-failed, crash-resting, TakesPage, length-written}
use Rattle.jfs_logfmt.specs.Written.{text_of}
use Rattle.jfs_logpages.specs.Ring.{IsWritten, fresh_text, fresh_ends}
use Rattle.jfs_logpages.specs.Fresh.{first_record, IsFreshPage, IsPartlyFresh, IsBegun}

-- ---- one page is written over what was there

-- front sectors of the bytes on this page, and all others as they were
record IsPut (n : ℕ) (bytes : List ℕ) (old before left : Image) : Type 0 where
  pub page : IsTorn bytes (page_of old n) (page_of left n)
  pub others : (m : ℕ) → (m ≡ n → ⊥) → page_of left m ≡ page_of before m

untorn : (bytes rest page : List ℕ) → page ≡ rest → IsTorn bytes rest page
untorn bytes rest page e = record { sectors = 0; within = omega arith; bytes = e ∙ sym (torn-none bytes rest) }

torn-is : (front rest page other : List ℕ) → page ≡ other → IsTorn front rest other → IsTorn front rest page
torn-is front rest page other e t = record { sectors = t.sectors; within = t.within; bytes = e ∙ t.bytes }

-- what a page takes of the bytes, or of front sectors of them, over a page that has some already
over : (bytes rest page : List ℕ) (k : ℕ) → k ≤ 8 → length bytes ≡ 4096 → IsTorn bytes rest page → IsTorn bytes rest (torn k bytes page)
over bytes rest page k h size t =
    torn-is bytes rest (torn k bytes page) (torn k bytes (torn t.sectors bytes rest)) (ap (λ (p : List ℕ). torn k bytes p) t.bytes) (torn-over k t.sectors bytes rest h t.within size)

puts-page : (n : ℕ) (bytes : List ℕ) (old before left : Image) → n < length before → length bytes ≡ 4096 → length (page_of old n) ≡ 4096 → IsTorn bytes (page_of old n) (page_of before n)
    → (left ≡ before) ⊎ (TakesPage n bytes before left) → IsPut n bytes old before left
puts-page n bytes old before left h size long t (inl same) = record {
  page = torn-is bytes (page_of old n) (page_of left n) (page_of before n) (ap (λ (im : Image). page_of im n) same) t;
  others = λ m apart. ap (λ (im : Image). page_of im m) same;
}
puts-page n bytes old before left h size long t (inr (inl tears)) = record {
  page = torn-is bytes (page_of old n) (page_of left n) (torn tears.0 bytes (page_of before n))
      (ap (λ (im : Image). page_of im n) tears.2 ∙ get_or-set_same before n (torn tears.0 bytes (page_of before n)) [] h) (over bytes (page_of old n) (page_of before n) tears.0 tears.1 size t);
  others = λ m apart. ap (λ (im : Image). page_of im m) tears.2 ∙ get_or-set_other before n m (torn tears.0 bytes (page_of before n)) [] apart;
}
puts-page n bytes old before left h size long t (inr (inr whole)) = record {
  page = record {
    sectors = 8;
    within = omega arith;
    bytes = ap (λ (im : Image). page_of im n) whole ∙ get_or-set_same before n bytes [] h ∙ sym (torn-whole bytes (page_of old n) size long);
  };
  others = λ m apart. ap (λ (im : Image). page_of im m) whole ∙ get_or-set_other before n m bytes [] apart;
}

-- front sectors of the bytes that a failed write left
puts-torn : (n : ℕ) (bytes : List ℕ) (k : ℕ) (old before left : Image) → k ≤ 8 → n < length before → length bytes ≡ 4096 → page_of before n ≡ page_of old n
    → (left ≡ before) ⊎ (TakesPage n (torn k bytes (page_of old n)) before left) → IsPut n bytes old before left
puts-torn n bytes k old before left h fits size here (inl same) = record {
  page = untorn bytes (page_of old n) (page_of left n) (ap (λ (im : Image). page_of im n) same ∙ here);
  others = λ m apart. ap (λ (im : Image). page_of im m) same;
}
puts-torn n bytes k old before left h fits size here (inr (inl tears)) = record {
  page = torn-is bytes (page_of old n) (page_of left n) (torn tears.0 (torn k bytes (page_of old n)) (page_of old n))
      (ap (λ (im : Image). page_of im n) tears.2 ∙ get_or-set_same before n (torn tears.0 (torn k bytes (page_of old n)) (page_of before n)) [] fits ∙ ap (λ (p : List ℕ). torn tears.0 (torn k bytes (page_of old n)) p) here)
      (torn-under tears.0 k bytes (page_of old n) tears.1 h size);
  others = λ m apart. ap (λ (im : Image). page_of im m) tears.2 ∙ get_or-set_other before n m (torn tears.0 (torn k bytes (page_of old n)) (page_of before n)) [] apart;
}
puts-torn n bytes k old before left h fits size here (inr (inr whole)) = record {
  page = record { sectors = k; within = h; bytes = ap (λ (im : Image). page_of im n) whole ∙ get_or-set_same before n (torn k bytes (page_of old n)) [] fits };
  others = λ m apart. ap (λ (im : Image). page_of im m) whole ∙ get_or-set_other before n m (torn k bytes (page_of old n)) [] apart;
}

-- ---- what a crash leaves of a state after such a write

-- a crash leaves what it might have left before, but for this page
abbrev Puts : ℕ → List ℕ → Image → DiskState → DiskState → Type 0
Puts n bytes old state new = (left : Image) → IsCrashImage new left → (before : Image) × IsCrashImage state before × IsPut n bytes old before left

puts-written : (n : ℕ) (bytes : List ℕ) (old : Image) (state : DiskState) → n < length state → length bytes ≡ 4096 → length (page_of old n) ≡ 4096 → Leaves (λ left. page_of left n ≡ page_of old n) state
    → Puts n bytes old state (written n bytes state)
puts-written n bytes old state h size long still left crash =
    let found = crash-written n bytes state left h crash in
    (found.0, found.1, puts-page n bytes old found.0 left (omega (arith, found.1.number, h)) size long (untorn bytes (page_of old n) (page_of found.0 n) (still found.0 found.1)) found.2)

puts-failed : (n : ℕ) (bytes : List ℕ) (k : ℕ) (old : Image) (state : DiskState) → k ≤ 8 → n < length state → length bytes ≡ 4096 → length (page_of old n) ≡ 4096 → (history_of state n).seen ≡ page_of old n
    → Leaves (λ left. page_of left n ≡ page_of old n) state → Puts n bytes old state (failed n bytes k state)
puts-failed n bytes k old state h fits size long seen still left crash =
    let torn_page : List ℕ = torn k bytes (history_of state n).seen in
    let number : length (written n torn_page state) ≡ length state = length-written n torn_page state in
    let second = crash-written n bytes (written n torn_page state) left (omega (arith, number, fits)) (crash-failed n bytes k state left fits crash) in
    let first = crash-written n torn_page state second.0 fits second.1 in
    let before = puts-torn n bytes k old first.0 second.0 h (omega (arith, first.1.number, fits)) size (still first.0 first.1)
    (subst (λ (p : List ℕ). (second.0 ≡ first.0) ⊎ (TakesPage n (torn k bytes p) first.0 second.0)) seen first.2) in
    let after = puts-page n bytes old second.0 left (omega (arith, second.1.number, number, fits)) size long before.page second.2 in
    (first.0, first.1, record { page = after.page; others = λ m apart. after.others m apart ∙ before.others m apart })

-- ---- the log so far

now-partly : (base pages : ℕ) (uuid : List ℕ) (old : Image) (t done : ℕ) (past : List DiskState) → IsBegun base pages uuid old t done past → Leaves (IsPartlyFresh base pages uuid old) (last_of past)
now-partly base pages uuid old t done past begun left crash =
    begun.all left (record { moment = length past - 1; since = omega (arith, begun.since); reached = omega (arith, begun.since); crash = crash })

put-partly : (base pages : ℕ) (uuid : List ℕ) (old before left : Image) (n : ℕ) (bytes : List ℕ) → IsFreshPage base pages uuid n bytes → IsPartlyFresh base pages uuid old before → IsPut n bytes old before left → IsPartlyFresh base pages uuid old left
put-partly base pages uuid old before left n bytes fresh partly put = λ m. by m (cases_eq m n) (partly m)
  where
    by : (m : ℕ) → (m ≡ n) ⊎ (m ≡ n → ⊥) → (page_of before m ≡ page_of old m) ⊎ ((page : List ℕ) × (sectors : ℕ) × IsFreshPage base pages uuid m page × (sectors ≤ 8) × (page_of before m ≡ torn sectors page (page_of old m)))
        → (page_of left m ≡ page_of old m) ⊎ ((page : List ℕ) × (sectors : ℕ) × IsFreshPage base pages uuid m page × (sectors ≤ 8) × (page_of left m ≡ torn sectors page (page_of old m)))
    by m (inl same) so_far = inr (
      bytes,
      put.page.sectors,
      subst (λ (k : ℕ). IsFreshPage base pages uuid k bytes) (sym same) fresh,
      put.page.within,
      ap (λ (k : ℕ). page_of left k) same ∙ put.page.bytes ∙ ap (λ (k : ℕ). torn put.page.sectors bytes (page_of old k)) (sym same),
    )
    by m (inr apart) (inl still) = inl (put.others m apart ∙ still)
    by m (inr apart) (inr some) = inr (some.0, some.1, some.2, some.3, put.others m apart ∙ some.4)

puts-partly : (base pages : ℕ) (uuid : List ℕ) (old : Image) (n : ℕ) (bytes : List ℕ) (state new : DiskState) → IsFreshPage base pages uuid n bytes → Puts n bytes old state new
    → Leaves (IsPartlyFresh base pages uuid old) state → Leaves (IsPartlyFresh base pages uuid old) new
puts-partly base pages uuid old n bytes state new fresh puts partly left crash =
    let found = puts left crash in put-partly base pages uuid old found.0 left n bytes fresh (partly found.0 found.1) found.2

-- one state more, in which page n is put
all-put : (base pages : ℕ) (uuid : List ℕ) (old : Image) (t done n : ℕ) (bytes : List ℕ) (past new : List DiskState) (state : DiskState) → IsFreshPage base pages uuid n bytes → IsBegun base pages uuid old t done past
    → new ≡ past ++ state ∷ [] → Puts n bytes old (last_of past) state → AllSince (IsPartlyFresh base pages uuid old) new t
all-put base pages uuid old t done n bytes past new state fresh begun e puts =
    subst (λ (p : List DiskState). AllSince (IsPartlyFresh base pages uuid old) p t) (sym e)
    (goes_on (IsPartlyFresh base pages uuid old) past state t begun.all (puts-partly base pages uuid old n bytes (last_of past) state fresh puts (now-partly base pages uuid old t done past begun)))

-- ---- with a disk

-- what the calls that write a page know
pub record Knows (count : ℕ) (old image : Image) (past : List DiskState) (n : ℕ) (bytes : List ℕ) : Type 0 where
  pub law : IsLawful count image past
  pub sizes : ArePages count old
  pub there : n < count
  pub size : length bytes ≡ 4096

pub known : (count now : ℕ) (old image : Image) (past : List DiskState) (n : ℕ) (bytes : List ℕ) → now ≡ count → ArePages now image → image ≡ seen_of (last_of past) → IsCrashImage (last_of past) image → 0 < length past
    → ArePages count old → n < count → length bytes ≡ 4096 → Knows count old image past n bytes
known count now old image past n bytes same pages seen crash some sizes there size = record {
  law = record { pages = subst (λ (c : ℕ). ArePages c image) same pages; now = seen; crash = crash; state = some };
  sizes = sizes;
  there = there;
  size = size;
}

pub ring-page : (base pages ring : ℕ) (uuid : List ℕ) (q : ℕ) (page : List ℕ) → pages - 2 ≡ ring → q < ring → IsWritten (fresh_text ring (text_of first_record)) (fresh_ends ring) q page → IsFreshPage base pages uuid (base + 2 + q) page
ring-page base pages ring uuid q page e h w = inr (q, omega (arith, h, e), refl, subst (λ (r : ℕ). IsWritten (fresh_text r (text_of first_record)) (fresh_ends r) q page) (sym e) w)

state-long : (count : ℕ) (old image : Image) (past : List DiskState) (n : ℕ) (bytes : List ℕ) → Knows count old image past n bytes → n < length (last_of past)
state-long count old image past n bytes knows = omega (arith, knows.there, knows.law.crash.number, knows.law.pages.number)

seen-still : (count : ℕ) (old image : Image) (past : List DiskState) (n : ℕ) (bytes : List ℕ) → Knows count old image past n bytes → Leaves (λ left. page_of left n ≡ page_of old n) (last_of past) → (history_of (last_of past) n).seen ≡ page_of old n
seen-still count old image past n bytes knows still =
    sym (page_of-seen_of (last_of past) n) ∙ ap (λ (im : Image). page_of im n) (sym knows.law.now) ∙ still image knows.law.crash

pub all-written : (base pages : ℕ) (uuid : List ℕ) (old image : Image) (t done n count : ℕ) (bytes : List ℕ) (past new : List DiskState) → Knows count old image past n bytes → IsFreshPage base pages uuid n bytes
    → (n < base + 2) ⊎ (base + 2 + done ≤ n) → IsBegun base pages uuid old t done past → new ≡ past ++ written n bytes (last_of past) ∷ [] → AllSince (IsPartlyFresh base pages uuid old) new t
all-written base pages uuid old image t done n count bytes past new knows fresh side begun e =
    all-put base pages uuid old t done n bytes past new (written n bytes (last_of past)) fresh begun e
    (puts-written n bytes old (last_of past) (state-long count old image past n bytes knows) knows.size (knows.sizes.sizes n knows.there) (begun.still n side))

pub all-failed : (base pages : ℕ) (uuid : List ℕ) (old image : Image) (t done n count : ℕ) (bytes : List ℕ) (past new : List DiskState) → Knows count old image past n bytes → IsFreshPage base pages uuid n bytes
    → (n < base + 2) ⊎ (base + 2 + done ≤ n) → IsBegun base pages uuid old t done past → LeavesTorn n bytes past new → AllSince (IsPartlyFresh base pages uuid old) new t
all-failed base pages uuid old image t done n count bytes past new knows fresh side begun (inl same) = subst (λ (p : List DiskState). AllSince (IsPartlyFresh base pages uuid old) p t) (sym same) begun.all
all-failed base pages uuid old image t done n count bytes past new knows fresh side begun (inr tears) =
    all-put base pages uuid old t done n bytes past new (failed n bytes tears.0 (last_of past)) fresh begun tears.2
    (puts-failed n bytes tears.0 old (last_of past) tears.1 (state-long count old image past n bytes knows) knows.size (knows.sizes.sizes n knows.there)
    (seen-still count old image past n bytes knows (begun.still n side)) (begun.still n side))

-- the next page of the ring
pub begun-more : (base pages : ℕ) (uuid : List ℕ) (old image : Image) (t done count : ℕ) (bytes : List ℕ) (past new : List DiskState) → Knows count old image past (base + 2 + done) bytes → IsFreshPage base pages uuid (base + 2 + done) bytes
    → IsBegun base pages uuid old t done past → new ≡ past ++ written (base + 2 + done) bytes (last_of past) ∷ [] → IsBegun base pages uuid old t (done + 1) new
begun-more base pages uuid old image t done count bytes past new knows fresh begun e = record {
  since = omega (arith, begun.since, ap (λ (p : List DiskState). length p) e, length-append past (written (base + 2 + done) bytes (last_of past) ∷ []));
  all = all-written base pages uuid old image t done (base + 2 + done) count bytes past new knows fresh (inr (omega arith)) begun e;
  still = λ n side left crash. still n side left (subst (λ (s : DiskState). IsCrashImage s left) (ap (λ (p : List DiskState). last_of p) e ∙ last_of-push past (written (base + 2 + done) bytes (last_of past))) crash);
}
  where
    side-before : (n : ℕ) → (n < base + 2) ⊎ (base + 2 + (done + 1) ≤ n) → (n < base + 2) ⊎ (base + 2 + done ≤ n)
    side-before n (inl low) = inl low
    side-before n (inr high) = inr (omega (arith, high))

    apart : (n : ℕ) → (n < base + 2) ⊎ (base + 2 + (done + 1) ≤ n) → n ≡ base + 2 + done → ⊥
    apart n (inl low) e = omega (arith, low, e)
    apart n (inr high) e = omega (arith, high, e)

    still : (n : ℕ) → (n < base + 2) ⊎ (base + 2 + (done + 1) ≤ n) → (left : Image) → IsCrashImage (written (base + 2 + done) bytes (last_of past)) left → page_of left n ≡ page_of old n
    still n side left crash =
        let found = puts-written (base + 2 + done) bytes old (last_of past) (state-long count old image past (base + 2 + done) bytes knows) knows.size (knows.sizes.sizes (base + 2 + done) knows.there) (begun.still (base + 2 + done) (inr (omega arith))) left crash in
        found.2.others n (apart n side) ∙ begun.still n (side-before n side) found.0 found.1

-- at the start, with nothing pending
pub begins : (base pages : ℕ) (uuid : List ℕ) (image : Image) (count : ℕ) (past : List DiskState) → IsLawful count image past → IsResting (last_of past) → IsBegun base pages uuid image (now_of past) 0 past
begins base pages uuid image count past law rests = record {
  since = omega (arith, law.state);
  all = starts (IsPartlyFresh base pages uuid image) past law.state (λ left crash n. inl (ap (λ (im : Image). page_of im n) (same left crash)));
  still = λ n side left crash. ap (λ (im : Image). page_of im n) (same left crash);
}
  where
    same : (left : Image) → IsCrashImage (last_of past) left → left ≡ image
    same left crash = crash-resting (last_of past) left rests crash ∙ sym law.now
