-- What a crash leaves while pages are redone one after the other.
use Rattle.std.proofs.Common.{◌≡◌, ◌⊎◌, ◌<◌, ◌≤◌, ◌+◌, nat_lt, ℕ, List, [], ◌∷◌, ◌++◌, length, set, refl, sym, ap, subst, ◌∙◌, inl, inr, arith}
use Rattle.std.proofs.lemmas.Bool.{cases_lt, cases_eq, cond-true, cond-false, lt-ltb, le-ltb}
use Rattle.std.proofs.lemmas.List.{length-set, get_or-set_same, get_or-set_other}
use Rattle.jfs_disk.specs.Image.{Image, page_of}
use Rattle.jfs_disk.specs.Crash.{DiskState, history_of, seen_of, last_of, written, failed, torn, AllSince, Leaves}
use Rattle.jfs_disk.specs.Moment.{IsResting, now_of}
use Rattle.jfs_disk.proofs.Tearing.{IsTorn, torn-none, torn-same, torn-whole, torn-over, torn-under}
use Rattle.jfs_disk.proofs.Outcomes.{last_of-push}
use Rattle.jfs_disk.proofs.Flow.{TakesPage, starts, goes_on, AllSince-weaker, crash-resting, crash-written, crash-failed, length-written}
use Rattle.jfs_ranges.specs.declared.edit.Edit.{Edit}
use Rattle.jfs_records.specs.Redo.{redone}
use Rattle.jfs_redo_steps.specs.Pages.{redone_page, IsOnTheWay, AreOnTheWay, WritesPage}
use Rattle.jfs_redo_steps.proofs.Again.{length-redone}

-- one page more
passed_page : (count p q : ℕ) (es : List Edit) (old : Image) → (q ≡ p → ⊥) → p + 1 ≡ count → redone_page p es old q ≡ redone_page count es old q
passed_page count p q es old other next = at (cases_lt q p)
  where
    new : List ℕ
    new = redone q (page_of old q) (page_of old q) es

    at : (q < p) ⊎ (p ≤ q) → redone_page p es old q ≡ redone_page count es old q
    at (inl l) = cond-true (nat_lt q p) new (page_of old q) (lt-ltb q p l) ∙ sym (cond-true (nat_lt q count) new (page_of old q) (lt-ltb q count (omega (arith, l, next))))
    at (inr l) = cond-false (nat_lt q p) new (page_of old q) (le-ltb q p l) ∙ sym (cond-false (nat_lt q count) new (page_of old q) (le-ltb q count (omega (arith, l, other, next))))

untouched_yet : (p q : ℕ) (es : List Edit) (old : Image) → p ≤ q → redone_page p es old q ≡ page_of old q
untouched_yet p q es old l = cond-false (nat_lt q p) (redone q (page_of old q) (page_of old q) es) (page_of old q) (le-ltb q p l)

its_turn : (p : ℕ) (es : List Edit) (old : Image) → redone_page (p + 1) es old p ≡ redone p (page_of old p) (page_of old p) es
its_turn p es old = cond-true (nat_lt p (p + 1)) (redone p (page_of old p) (page_of old p) es) (page_of old p) (lt-ltb p (p + 1) (omega arith))

-- a page that isn't redone yet is as it was
pub still_old : (p : ℕ) (es : List Edit) (old left : Image) → p < length old → IsOnTheWay p es old left → page_of left p ≡ page_of old p
still_old p es old left within way =
    let at = way.pages p within in
    at.2 ∙ ap (λ (front : List ℕ). torn at.0 front (page_of old p)) (untouched_yet p p es old (omega arith)) ∙ torn-same at.0 (page_of old p)

pub none_on_the_way : (count : ℕ) (es : List Edit) (old left : Image) → left ≡ old → IsOnTheWay count es old left
none_on_the_way count es old left same = record {
  number = ap (λ (i : Image). length i) same;
  pages = λ q low. (0, omega arith, ap (λ (i : Image). page_of i q) same ∙ sym (torn-none (redone_page count es old q) (page_of old q)));
}

-- all pages but this one are on the way, and this one has front sectors of what redo makes of it
module _ (p : ℕ) (es : List Edit) (old : Image) (within : p < length old) (size : length (page_of old p) ≡ 4096) where
  abbrev new : List ℕ
  new = redone p (page_of old p) (page_of old p) es

  long : length new ≡ 4096
  long = length-redone p (page_of old p) (page_of old p) es refl ∙ size

  record AtTurn (left : Image) : Type 0 where
    pub number : length left ≡ length old
    pub others : (q : ℕ) → q < length old → (q ≡ p → ⊥) → (sectors : ℕ) × (sectors ≤ 8) × (page_of left q ≡ torn sectors (redone_page p es old q) (page_of old q))
    pub here : IsTorn new (page_of old p) (page_of left p)

  begins : (left : Image) → IsOnTheWay p es old left → AtTurn left
  begins left way = record {
    number = way.number;
    others = λ q low other. way.pages q low;
    here = record { sectors = 0; within = omega arith; bytes = still_old p es old left within way ∙ sym (torn-none new (page_of old p)) };
  }

  put : (left next : Image) (page : List ℕ) → AtTurn left → next ≡ set left p page → IsTorn new (page_of old p) page → AtTurn next
  put left next page turn is tears = record {
    number = ap (λ (i : Image). length i) is ∙ length-set left p page ∙ turn.number;
    others = λ q low other. let was = turn.others q low other in (was.0, was.1, ap (λ (i : Image). page_of i q) is ∙ get_or-set_other left p q page [] other ∙ was.2);
    here = record { sectors = tears.sectors; within = tears.within; bytes = ap (λ (i : Image). page_of i p) is ∙ get_or-set_same left p page [] (omega (arith, within, turn.number)) ∙ tears.bytes };
  }

  -- it is written once more, or for the first time, perhaps in part
  takes : (left next : Image) → AtTurn left → (next ≡ left) ⊎ (TakesPage p new left next) → AtTurn next
  takes left next turn (inl same) = subst AtTurn (sym same) turn
  takes left next turn (inr (inl (sectors, few, is))) =
      put left next (torn sectors new (page_of left p)) turn is
      (subst (λ (page : List ℕ). IsTorn new (page_of old p) (torn sectors new page)) (sym turn.here.bytes) (torn-over sectors turn.here.sectors new (page_of old p) few turn.here.within long))
  takes left next turn (inr (inr is)) = put left next new turn is (record { sectors = 8; within = omega arith; bytes = sym (torn-whole new (page_of old p) long size) })

  takes_part : (part : ℕ) (left next : Image) → part ≤ 8 → page_of left p ≡ page_of old p → AtTurn left → (next ≡ left) ⊎ (TakesPage p (torn part new (page_of old p)) left next) → AtTurn next
  takes_part part left next few same turn (inl is) = subst AtTurn (sym is) turn
  takes_part part left next few same turn (inr (inl (sectors, some, is))) =
      put left next (torn sectors (torn part new (page_of old p)) (page_of left p)) turn is
      (subst (λ (page : List ℕ). IsTorn new (page_of old p) (torn sectors (torn part new (page_of old p)) page)) (sym same) (torn-under sectors part new (page_of old p) some few long))
  takes_part part left next few same turn (inr (inr is)) = put left next (torn part new (page_of old p)) turn is (record { sectors = part; within = few; bytes = refl })

  ends : (left : Image) → AtTurn left → IsOnTheWay (p + 1) es old left
  ends left turn = record { number = turn.number; pages = λ q low. at q low (cases_eq q p) }
    where
      at : (q : ℕ) → q < length old → (q ≡ p) ⊎ (q ≡ p → ⊥) → (sectors : ℕ) × (sectors ≤ 8) × (page_of left q ≡ torn sectors (redone_page (p + 1) es old q) (page_of old q))
      at q low (inl e) = (
        turn.here.sectors,
        turn.here.within,
        subst (λ (k : ℕ). page_of left k ≡ torn turn.here.sectors (redone_page (p + 1) es old k) (page_of old k)) (sym e)
            (turn.here.bytes ∙ ap (λ (front : List ℕ). torn turn.here.sectors front (page_of old p)) (sym (its_turn p es old))),
      )
      at q low (inr other) = let was = turn.others q low other in (was.0, was.1, was.2 ∙ ap (λ (front : List ℕ). torn was.0 front (page_of old q)) (passed_page (p + 1) p q es old other refl))

  abbrev Way : ℕ → Image → Type 0
  Way k left = IsOnTheWay k es old left

  module _ (state : DiskState) (number : length state ≡ length old) (before : Leaves (Way p) state) where
    pub on_write : Leaves (Way (p + 1)) (written p new state)
    on_write left crash =
        let found = crash-written p new state left (omega (arith, within, number)) crash in
        ends left (takes found.0 left (begins found.0 (before found.0 found.1)) found.2)

    pub on_fail : (part : ℕ) → part ≤ 8 → (history_of state p).seen ≡ page_of old p → Leaves (Way (p + 1)) (failed p new part state)
    on_fail part few shown left crash =
        let page = torn part new (history_of state p).seen in
        let second = crash-written p new (written p page state) left (omega (arith, within, number, length-written p page state)) (crash-failed p new part state left (omega (arith, within, number)) crash) in
        let first = crash-written p page state second.0 (omega (arith, within, number)) second.1 in
        let way = before first.0 first.1 in
        let taken : (second.0 ≡ first.0) ⊎ (TakesPage p (torn part new (page_of old p)) first.0 second.0) = subst (λ (bytes : List ℕ). (second.0 ≡ first.0) ⊎ (TakesPage p (torn part new bytes) first.0 second.0)) shown first.2 in
        ends left (takes second.0 left (takes_part part first.0 second.0 few (still_old p es old first.0 within way) (begins first.0 way) taken) second.2)

-- ---- the states of the disk, one after the other

pub first_moment : (es : List Edit) (old : Image) (past : List DiskState) → 0 < length past → old ≡ seen_of (last_of past) → IsResting (last_of past) → AreOnTheWay 0 es old (now_of past) past
first_moment es old past some is rests = record { all = starts (IsOnTheWay 0 es old) past some here; now = here }
  where
    here : Leaves (IsOnTheWay 0 es old) (last_of past)
    here left crash = none_on_the_way 0 es old left (crash-resting (last_of past) left rests crash ∙ sym is)

-- what is on the way with some pages is so with more of them
pub way_wider : (a b : ℕ) (es : List Edit) (old left : Image) → a ≤ b → IsOnTheWay a es old left → IsOnTheWay b es old left
way_wider a b es old left more way = record { number = way.number; pages = λ q low. at q low (cases_lt q a) }
  where
    at : (q : ℕ) → q < length old → (q < a) ⊎ (a ≤ q) → (sectors : ℕ) × (sectors ≤ 8) × (page_of left q ≡ torn sectors (redone_page b es old q) (page_of old q))
    at q low (inl l) =
        let was = way.pages q low in
        let new = redone q (page_of old q) (page_of old q) es in
        (was.0, was.1, was.2 ∙ ap (λ (front : List ℕ). torn was.0 front (page_of old q)) (cond-true (nat_lt q a) new (page_of old q) (lt-ltb q a l) ∙ sym (cond-true (nat_lt q b) new (page_of old q) (lt-ltb q b (omega (arith, l, more))))))
    at q low (inr l) =
        let was = way.pages q low in
        let same : page_of left q ≡ page_of old q = was.2 ∙ ap (λ (front : List ℕ). torn was.0 front (page_of old q)) (untouched_yet a q es old l) ∙ torn-same was.0 (page_of old q) in
        (0, omega arith, same ∙ sym (torn-none (redone_page b es old q) (page_of old q)))

pub all_wider : (a b : ℕ) (es : List Edit) (old : Image) (t : ℕ) (past : List DiskState) → a ≤ b → AreOnTheWay a es old t past → AreOnTheWay b es old t past
all_wider a b es old t past more way = record {
  all = AllSince-weaker (IsOnTheWay a es old) (IsOnTheWay b es old) past t t (omega arith) (λ left is. way_wider a b es old left more is) way.all;
  now = λ left crash. way_wider a b es old left more (way.now left crash);
}

-- the turn of a page
pub turn_moment : (p : ℕ) (es : List Edit) (old : Image) (t : ℕ) (past new : List DiskState) → p < length old → length (page_of old p) ≡ 4096 → length (last_of past) ≡ length old → (history_of (last_of past) p).seen ≡ page_of old p
    → AreOnTheWay p es old t past → WritesPage p (redone p (page_of old p) (page_of old p) es) past new → AreOnTheWay (p + 1) es old t new
turn_moment p es old t past new within size number shown way writes = by writes
  where
    bytes : List ℕ
    bytes = redone p (page_of old p) (page_of old p) es

    same : AreOnTheWay (p + 1) es old t past
    same = all_wider p (p + 1) es old t past (omega arith) way

    push : (state : DiskState) → new ≡ past ++ state ∷ [] → Leaves (IsOnTheWay (p + 1) es old) state → AreOnTheWay (p + 1) es old t new
    push state is leaves = record {
      all = subst (λ (states : List DiskState). AllSince (IsOnTheWay (p + 1) es old) states t) (sym is) (goes_on (IsOnTheWay (p + 1) es old) past state t same.all leaves);
      now = subst (Leaves (IsOnTheWay (p + 1) es old)) (sym (ap last_of is ∙ last_of-push past state)) leaves;
    }

    by : WritesPage p bytes past new → AreOnTheWay (p + 1) es old t new
    by (inl wrote) = push (written p bytes (last_of past)) wrote (on_write p es old within size (last_of past) number way.now)
    by (inr (inl is)) = subst (AreOnTheWay (p + 1) es old t) (sym is) same
    by (inr (inr (sectors, few, is))) = push (failed p bytes sectors (last_of past)) is (on_fail p es old within size (last_of past) number way.now sectors few shown)
