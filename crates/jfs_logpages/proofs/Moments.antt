-- The writes of a group, moment by moment.
use Rattle.std.proofs.Common.{◌≡◌, ◌≤◌, ◌<◌, ◌+◌, ◌-◌, ◌*◌, ◌/◌, ◌%◌, ℕ, suc, List, [], ◌∷◌, ◌++◌, length, set, take, drop, sym, ap, subst, ◌∙◌, ◌⊎◌, inl, inr, arith}
use Rattle.std.proofs.Math.Nat.{mod-lt}
use Rattle.std.proofs.lemmas.List.{length-append, length-set, take_all}
use Rattle.jfs_disk.specs.Image.{Image, ArePages}
use Rattle.jfs_disk.specs.Crash.{DiskState, IsCrashImage, seen_of, history_of, written, failed, settled, torn, last_of, AllSince, TearsPage, LeavesTorn, Leaves}
use Rattle.jfs_disk.specs.Moment.{now_of, IsResting}
use Rattle.jfs_disk.specs.Seen.{page_of-seen_of}
use Rattle.jfs_disk.proofs.Outcomes.{last_of-push}
use Rattle.jfs_disk.proofs.Flow.{starts, goes_on, crash-written, crash-failed, crash-resting, crash-settled, TakesPage, length-seen_of}
use Rattle.jfs_logpages.specs.Ring.{slot, tail_number, last_end, AreEnds, ends_with, IsWritten, IsRing, Shows, Mid, ReadsPrefix, IsGroup, IsLast, Further, Reads, ReadsWhole}
use Rattle.jfs_logpages.proofs.TornPage.{reads-written, MayStand, stands-written, torn-stands}
use Rattle.jfs_logpages.proofs.Middle.{mid-open, mid-stands, mid-put, mid-shows, mid-start, ring-put, rewritten, rewrite-shows}
use Rattle.jfs_logpages.proofs.TextRead.{reads-shown}
use Rattle.jfs_logpages.proofs.Grown.{last_end-all, reads-old, reads-new, ends-after, group-goes-on, eor-rises}

long-written : (n : ℕ) (bytes : List ℕ) (state : DiskState) → length (written n bytes state) ≡ length state
unfolding written
long-written n bytes state = length-set state n (record (history_of state n) { seen = bytes; writes = (history_of state n).writes ++ bytes ∷ [] })

-- some of a page's new content over what was there
mid-takes : (ring : ℕ) (text ends : List ℕ) (low q : ℕ) (before left : Image) (page : List ℕ) → 2 + q % ring < length before → low < q → q ≤ low + ring / 2
    → MayStand ring text ends q page → (IsWritten text ends q page) ⊎ (tail_number (slot ring before q) ≡ q → ⊥) → Mid ring text ends low q before
    → (left ≡ before) ⊎ (TakesPage (2 + q % ring) page before left) → Mid ring text ends low q left
mid-takes ring text ends low q before left page there above near stands order mid (inl same) = subst (λ (im : Image). Mid ring text ends low q im) (sym same) mid
mid-takes ring text ends low q before left page there above near stands order mid (inr (inl tears)) =
    subst (λ (im : Image). Mid ring text ends low q im) (sym tears.2)
    (mid-put ring text ends low q before (torn tears.0 page (slot ring before q)) there above near
    (torn-stands ring text ends q tears.0 page (slot ring before q) tears.1 stands (mid-stands ring text ends low q before above mid) order) mid)
mid-takes ring text ends low q before left page there above near stands order mid (inr (inr whole)) =
    subst (λ (im : Image). Mid ring text ends low q im) (sym whole)
    (mid-put ring text ends low q before page there above near stands mid)

pub mid-written : (ring : ℕ) (text ends : List ℕ) (low q : ℕ) (state : DiskState) (page : List ℕ) → 2 + suc q % ring < length state → low ≤ q → suc q ≤ low + ring / 2
    → IsWritten text ends (suc q) page → Leaves (Mid ring text ends low q) state → Leaves (Mid ring text ends low (suc q)) (written (2 + suc q % ring) page state)
mid-written ring text ends low q state page there order near w mid left crash =
    let found = crash-written (2 + suc q % ring) page state left there crash in
    mid-takes ring text ends low (suc q) found.0 left page (omega (arith, found.1.number)) (omega arith) near (stands-written ring text ends (suc q) page w) (inl w)
    (mid-open ring text ends low q found.0 (mid found.0 found.1)) found.2

pub mid-failed : (ring : ℕ) (text ends : List ℕ) (low q : ℕ) (state : DiskState) (page : List ℕ) (sectors : ℕ) → sectors ≤ 8 → 2 + suc q % ring < length state → low ≤ q → suc q ≤ low + ring / 2
    → IsWritten text ends (suc q) page → IsCrashImage state (seen_of state) → Leaves (Mid ring text ends low q) state → Leaves (Mid ring text ends low (suc q)) (failed (2 + suc q % ring) page sectors state)
mid-failed ring text ends low q state page sectors within there order near w seen mid left crash =
    mid-takes ring text ends low (suc q) second.0 left page (omega (arith, second.1.number, long)) (omega arith) near stands (inl w) after second.2
  where
    n : ℕ
    n = 2 + suc q % ring

    stands : MayStand ring text ends (suc q) page
    stands = stands-written ring text ends (suc q) page w

    old : List ℕ
    old = (history_of state n).seen

    shown : Mid ring text ends low (suc q) (seen_of state)
    shown = mid-open ring text ends low q (seen_of state) (mid (seen_of state) seen)

    old-stands : MayStand ring text ends (suc q) old
    old-stands = subst (λ (p : List ℕ). MayStand ring text ends (suc q) p) (page_of-seen_of state n) (mid-stands ring text ends low (suc q) (seen_of state) (omega arith) shown)

    torn_stands : MayStand ring text ends (suc q) (torn sectors page old)
    torn_stands = torn-stands ring text ends (suc q) sectors page old within stands old-stands (inl w)

    long : length (written n (torn sectors page old) state) ≡ length state
    long = long-written n (torn sectors page old) state

    second : (before : Image) × IsCrashImage (written n (torn sectors page old) state) before × ((left ≡ before) ⊎ (TakesPage n page before left))
    second = crash-written n page (written n (torn sectors page old) state) left (omega (arith, long)) (crash-failed n page sectors state left there crash)

    first : (before : Image) × IsCrashImage state before × ((second.0 ≡ before) ⊎ (TakesPage n (torn sectors page old) before second.0))
    first = crash-written n (torn sectors page old) state second.0 there second.1

    after : Mid ring text ends low (suc q) second.0
    after = mid-takes ring text ends low (suc q) first.0 second.0 (torn sectors page old) (omega (arith, first.1.number)) (omega arith) near torn_stands
        (inr (λ e. (mid first.0 first.1).none (suc q) (omega arith) e))
        (mid-open ring text ends low q first.0 (mid first.0 first.1)) first.2

-- ---- what each of them reads as

pub ring-shows : (ring : ℕ) (text ends : List ℕ) (q : ℕ) (image : Image) → 2 ≤ ring → ring ≤ q + 1 → IsRing ring text ends q image → Shows ring text ends q image
ring-shows ring text ends q image some long is = record {
  long = omega arith;
  each = λ k h g. reads-written text ends k (slot ring image k) (is.each k h (omega arith));
  next = λ numbered. is.none (suc q) (omega arith) numbered.1;
  none = λ k h numbered. is.none k (omega arith) numbered.1;
}

pub ring-reads : (ring : ℕ) (text group ends group_ends : List ℕ) (low high : ℕ) (image : Image) → IsGroup ring text group ends group_ends low high → IsRing ring text ends low image → ReadsPrefix ring text group group_ends high image
ring-reads ring text group ends group_ends low high image g is =
    reads-old ring text group ends group_ends low high image g.some g.before g.after g.stops (omega (arith, g.long)) g.order (ring-shows ring text ends low image g.some g.long is)

pub mid-reads : (ring : ℕ) (text group ends group_ends : List ℕ) (low q high : ℕ) (image : Image) → IsGroup ring text group ends group_ends low high → low ≤ q → q ≤ high
    → Mid ring (text ++ group) (ends_with (length text) ends group_ends) low q image → ReadsPrefix ring text group group_ends high image
mid-reads ring text group ends group_ends low q high image g l u mid =
    let from = mid-shows ring (text ++ group) (ends_with (length text) ends group_ends) low q image g.some (omega (arith, g.long)) l (omega (arith, g.near)) mid in
    reads-new ring text group ends group_ends from.last high image g.some g.before g.after (omega (arith, g.stops, from.above)) (omega (arith, g.long, from.above)) (omega (arith, from.below)) from.shows

pub torn-reads : (ring : ℕ) (text group ends group_ends : List ℕ) (low high : ℕ) (image left : Image) (page : List ℕ) → IsGroup ring text group ends group_ends low high → 2 + low % ring < length image
    → IsRing ring text ends low image → IsWritten (text ++ group) (ends_with (length text) ends group_ends) low page → TearsPage (2 + low % ring) page image left → ReadsPrefix ring text group group_ends high left
torn-reads ring text group ends group_ends low high image left page g there is w tears =
    subst (λ (im : Image). ReadsPrefix ring text group group_ends high im) (sym tears.2)
    (by (rewrite-shows ring text ends (text ++ group) (ends_with (length text) ends group_ends) low tears.0 image page g.some (omega (arith, g.long)) tears.1 there g.starts
    (group-goes-on text group ends group_ends g.after) (eor-rises text group ends group_ends low g.before g.stops) is w))
  where
    torn_image : Image
    torn_image = set image (2 + low % ring) (torn tears.0 page (slot ring image low))

    by : (Shows ring text ends low torn_image) ⊎ (Shows ring (text ++ group) (ends_with (length text) ends group_ends) low torn_image) → ReadsPrefix ring text group group_ends high torn_image
    by (inl old) = reads-old ring text group ends group_ends low high torn_image g.some g.before g.after g.stops (omega (arith, g.long)) g.order old
    by (inr new) = reads-new ring text group ends group_ends low high torn_image g.some g.before g.after g.stops (omega (arith, g.long)) g.order new

-- ---- the loop

-- what a disk says of itself
pub record Known (count : ℕ) (image : Image) (past : List DiskState) : Type 0 where
  pub pages : ArePages count image
  pub now : image ≡ seen_of (last_of past)
  pub crash : IsCrashImage (last_of past) image

length-state : (count : ℕ) (image : Image) (past : List DiskState) → Known count image past → length (last_of past) ≡ count
length-state count image past known = omega (arith, known.pages.number, ap (λ (im : Image). length im) known.now, length-seen_of (last_of past))

place-within : (ring q count : ℕ) → 2 ≤ ring → 2 + ring ≤ count → 2 + q % ring < count
place-within ring q count some fits = omega (arith, mod-lt q {m = ring} (omega arith))

pub further-start : (tells crashes : Type 0) (ring low high fill : ℕ) (group group_ends : List ℕ) (image : Image) (past : List DiskState) → Further tells crashes ring low high fill group group_ends image image past past low
further-start tells crashes ring low high fill group group_ends image past = record {
  image = λ t text ends g size is. is;
  moments = λ t k text ends g size mid. mid;
  all = λ t k text ends g size mid since all. all;
}

pub further-more : (tells crashes : Type 0) (ring low high fill count : ℕ) (group group_ends : List ℕ) (image mid_image new_image : Image) (past mid_past new_past : List DiskState) (q : ℕ) (page : List ℕ)
    → (tells → crashes → Known count mid_image mid_past) → (tells → ArePages count mid_image) → 2 + ring ≤ count → low ≤ q → suc q ≤ high
    → ((text ends : List ℕ) → IsGroup ring text group ends group_ends low high → length text ≡ 4080 * low + fill → IsWritten (text ++ group) (ends_with (length text) ends group_ends) (suc q) page)
    → (tells → new_image ≡ set mid_image (2 + suc q % ring) page) → (crashes → new_past ≡ mid_past ++ written (2 + suc q % ring) page (last_of mid_past) ∷ [])
    → Further tells crashes ring low high fill group group_ends image mid_image past mid_past q
    → Further tells crashes ring low high fill group group_ends image new_image past new_past (suc q)
further-more tells crashes ring low high fill count group group_ends image mid_image new_image past mid_past new_past q page known pages fits l u w put pushed further = record {
  image = λ t text ends g size is.
      subst (λ (im : Image). IsRing ring (text ++ group) (ends_with (length text) ends group_ends) (suc q) im) (sym (put t))
      (ring-put ring (text ++ group) (ends_with (length text) ends group_ends) q mid_image page g.some (omega (arith, (pages t).number, place-within ring (suc q) count g.some fits)) (further.image t text ends g size is) (w text ends g size));
  moments = λ t k text ends g size mid. subst (λ (p : List DiskState). Leaves (Mid ring (text ++ group) (ends_with (length text) ends group_ends) low (suc q)) (last_of p)) (sym (pushed k))
      (subst (λ (s : DiskState). Leaves (Mid ring (text ++ group) (ends_with (length text) ends group_ends) low (suc q)) s) (sym (last_of-push mid_past (written (2 + suc q % ring) page (last_of mid_past))))
      (next t k text ends g size mid));
  all = λ t k text ends g size mid since all. subst (λ (p : List DiskState). AllSince (ReadsPrefix ring text group group_ends high) p since) (sym (pushed k))
      (goes_on (ReadsPrefix ring text group group_ends high) mid_past (written (2 + suc q % ring) page (last_of mid_past)) since (further.all t k text ends g size mid since all)
      (λ left crash. mid-reads ring text group ends group_ends low (suc q) high left g (omega arith) u (next t k text ends g size mid left crash)));
}
  where
    next : tells → crashes → (text ends : List ℕ) → IsGroup ring text group ends group_ends low high → length text ≡ 4080 * low + fill
        → Leaves (Mid ring (text ++ group) (ends_with (length text) ends group_ends) low low) (last_of past)
        → Leaves (Mid ring (text ++ group) (ends_with (length text) ends group_ends) low (suc q)) (written (2 + suc q % ring) page (last_of mid_past))
    next t k text ends g size mid =
        mid-written ring (text ++ group) (ends_with (length text) ends group_ends) low q (last_of mid_past) page
        (omega (arith, length-state count mid_image mid_past (known t k), place-within ring (suc q) count g.some fits)) l (omega (arith, g.near)) (w text ends g size)
        (further.moments t k text ends g size mid)

pub further-failed : (tells crashes : Type 0) (ring low high fill count : ℕ) (group group_ends : List ℕ) (image mid_image : Image) (past mid_past new_past : List DiskState) (q : ℕ) (page : List ℕ)
    → Known count mid_image mid_past → 2 + ring ≤ count → low ≤ q → suc q ≤ high
    → ((text ends : List ℕ) → IsGroup ring text group ends group_ends low high → length text ≡ 4080 * low + fill → IsWritten (text ++ group) (ends_with (length text) ends group_ends) (suc q) page)
    → LeavesTorn (2 + suc q % ring) page mid_past new_past
    → Further tells crashes ring low high fill group group_ends image mid_image past mid_past q
    → tells → crashes → (text ends : List ℕ) → IsGroup ring text group ends group_ends low high → length text ≡ 4080 * low + fill
    → Leaves (Mid ring (text ++ group) (ends_with (length text) ends group_ends) low low) (last_of past)
    → (t : ℕ) → AllSince (ReadsPrefix ring text group group_ends high) past t → AllSince (ReadsPrefix ring text group group_ends high) new_past t
further-failed tells crashes ring low high fill count group group_ends image mid_image past mid_past new_past q page known fits l u w (inl same) further t k text ends g size mid since all =
    subst (λ (p : List DiskState). AllSince (ReadsPrefix ring text group group_ends high) p since) (sym same) (further.all t k text ends g size mid since all)
further-failed tells crashes ring low high fill count group group_ends image mid_image past mid_past new_past q page known fits l u w (inr torn_write) further t k text ends g size mid since all =
    subst (λ (p : List DiskState). AllSince (ReadsPrefix ring text group group_ends high) p since) (sym torn_write.2)
    (goes_on (ReadsPrefix ring text group group_ends high) mid_past (failed (2 + suc q % ring) page torn_write.0 (last_of mid_past)) since (further.all t k text ends g size mid since all)
    (λ left crash. mid-reads ring text group ends group_ends low (suc q) high left g (omega arith) u
    (mid-failed ring (text ++ group) (ends_with (length text) ends group_ends) low q (last_of mid_past) page torn_write.0 torn_write.1
    (omega (arith, length-state count mid_image mid_past known, place-within ring (suc q) count g.some fits)) l (omega (arith, g.near)) (w text ends g size)
    (subst (λ (im : Image). IsCrashImage (last_of mid_past) im) known.now known.crash) (further.moments t k text ends g size mid) left crash)))

pub further-synced : (tells crashes : Type 0) (ring low high fill count : ℕ) (group group_ends : List ℕ) (image mid_image : Image) (past mid_past new_past : List DiskState) (q : ℕ)
    → Known count mid_image mid_past → low ≤ q → q ≤ high → new_past ≡ mid_past ++ settled (last_of mid_past) ∷ []
    → Further tells crashes ring low high fill group group_ends image mid_image past mid_past q
    → tells → crashes → (text ends : List ℕ) → IsGroup ring text group ends group_ends low high → length text ≡ 4080 * low + fill
    → Leaves (Mid ring (text ++ group) (ends_with (length text) ends group_ends) low low) (last_of past)
    → (t : ℕ) → AllSince (ReadsPrefix ring text group group_ends high) past t → AllSince (ReadsPrefix ring text group group_ends high) new_past t
further-synced tells crashes ring low high fill count group group_ends image mid_image past mid_past new_past q known l u pushed further t k text ends g size mid since all =
    subst (λ (p : List DiskState). AllSince (ReadsPrefix ring text group group_ends high) p since) (sym pushed)
    (goes_on (ReadsPrefix ring text group group_ends high) mid_past (settled (last_of mid_past)) since (further.all t k text ends g size mid since all)
    (λ left crash. mid-reads ring text group ends group_ends low q high left g l u
    (further.moments t k text ends g size mid left
    (subst (λ (im : Image). IsCrashImage (last_of mid_past) im) (known.now ∙ sym (crash-settled (last_of mid_past) left crash)) known.crash))))

-- ---- the start, and the first page

pub group-of : (ring number fill : ℕ) (bytes text group ends group_ends : List ℕ) → 2 ≤ ring → fill + length group ≤ 4080 * (ring / 2) → AreEnds 0 (length group) group_ends → IsLast ring number fill bytes text ends
    → IsGroup ring text group ends group_ends number (number + (fill + length group - 1) / 4080)
group-of ring number fill bytes text group ends group_ends some near after last = record {
  some = some;
  before = last.ended;
  after = after;
  starts = omega (arith, last.size, last.starts);
  stops = omega (arith, last.size, last.stops);
  long = last.long;
  order = omega arith;
  near = omega (arith, near, last.starts);
}

-- with nothing pending, it reads as the text
pub rest-all : (ring : ℕ) (text group ends group_ends : List ℕ) (low high count : ℕ) (image : Image) (past : List DiskState) → Known count image past → 0 < length past → IsResting (last_of past)
    → IsGroup ring text group ends group_ends low high → IsRing ring text ends low image → AllSince (ReadsPrefix ring text group group_ends high) past (now_of past)
rest-all ring text group ends group_ends low high count image past known h rests g is =
    starts (ReadsPrefix ring text group group_ends high) past h
    (λ left crash. subst (λ (im : Image). ReadsPrefix ring text group group_ends high im) (known.now ∙ sym (crash-resting (last_of past) left rests crash)) (ring-reads ring text group ends group_ends low high image g is))

pub torn-all : (ring : ℕ) (text group ends group_ends : List ℕ) (low high count : ℕ) (image : Image) (past : List DiskState) (page : List ℕ) (t : ℕ) → ArePages count image → 2 + ring ≤ count
    → IsGroup ring text group ends group_ends low high → IsRing ring text ends low image → IsWritten (text ++ group) (ends_with (length text) ends group_ends) low page
    → AllSince (λ left. TearsPage (2 + low % ring) page image left) past t → AllSince (ReadsPrefix ring text group group_ends high) past t
torn-all ring text group ends group_ends low high count image past page t pages fits g is w all =
    λ left since. torn-reads ring text group ends group_ends low high image left page g (omega (arith, pages.number, place-within ring low count g.some fits)) is w (all left since)

pub first-written : (ring : ℕ) (text group ends group_ends : List ℕ) (low high count : ℕ) (image new : Image) (page : List ℕ) → ArePages count image → 2 + ring ≤ count → IsGroup ring text group ends group_ends low high
    → IsRing ring text ends low image → IsWritten (text ++ group) (ends_with (length text) ends group_ends) low page → new ≡ set image (2 + low % ring) page
    → IsRing ring (text ++ group) (ends_with (length text) ends group_ends) low new
first-written ring text group ends group_ends low high count image new page pages fits g is w e =
    subst (λ (im : Image). IsRing ring (text ++ group) (ends_with (length text) ends group_ends) low im) (sym e)
    (rewritten ring text ends (text ++ group) (ends_with (length text) ends group_ends) low image page g.some (omega (arith, pages.number, place-within ring low count g.some fits)) g.starts
    (group-goes-on text group ends group_ends g.after) is w)

pub rest-mid : (ring : ℕ) (text ends : List ℕ) (low count : ℕ) (image : Image) (past : List DiskState) → Known count image past → 2 ≤ ring → 2 + ring ≤ count → IsResting (last_of past) → IsRing ring text ends low image
    → Leaves (Mid ring text ends low low) (last_of past)
rest-mid ring text ends low count image past known some fits rests is left crash =
    subst (λ (im : Image). Mid ring text ends low low im) (known.now ∙ sym (crash-resting (last_of past) left rests crash))
    (mid-start ring text ends low image (λ k. known.pages.sizes (2 + k % ring) (place-within ring k count some fits)) is)

pub last-grown : (ring number fill : ℕ) (bytes text group ends group_ends : List ℕ) (further new_ring new_number : ℕ) (new : List ℕ) → IsLast ring number fill bytes text ends → AreEnds 0 (length group) group_ends
    → new_ring ≡ ring → new_number ≡ number + further → further ≡ (fill + length group - 1) / 4080 → IsWritten (text ++ group) (ends_with (length text) ends group_ends) (number + further) new
    → IsLast new_ring new_number (fill + length group - 4080 * further) new (text ++ group) (ends_with (length text) ends group_ends)
last-grown ring number fill bytes text group ends group_ends further new_ring new_number new last after r n e w = record {
  size = omega (arith, last.size, last.starts, length-append text group);
  ended = ends-after text group ends group_ends last.ended after;
  long = omega (arith, last.long);
  starts = omega (arith, last.starts);
  stops = omega (arith, last.starts);
  page = rw n w;
}

-- a log with nothing pending reads as its text
pub log-reads : (ring number fill : ℕ) (bytes text ends : List ℕ) (image : Image) → 2 ≤ ring → IsLast ring number fill bytes text ends → IsRing ring text ends number image → ReadsWhole ring text number image
log-reads ring number fill bytes text ends image some last is =
    let all : last_end ends (4080 * suc number) ≡ length text = omega (arith, last_end-all 0 (length text) ends (4080 * suc number) last.ended (omega (arith, last.size, last.stops))) in
    subst (λ (t : List ℕ). Reads ring image (number + 1 - ring / 2) (drop (4080 * (number + 1 - ring / 2)) t))
    (ap (λ (n : ℕ). take n text) all ∙ take_all (length text) text (omega arith))
    (reads-shown ring image text ends number some (ring-shows ring text ends number image some last.long is) (omega (arith, all)))
