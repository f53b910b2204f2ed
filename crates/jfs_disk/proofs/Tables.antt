-- The state of a disk in memory, page by page.
use Rattle.std.proofs.Common.{◌≡◌, ◌≤◌, ◌<◌, ◌+◌, ◌-◌, ℕ, List, [], ◌∷◌, ◌++◌, length, get_or, map, Option, None, Box, Bool, true, false, refl, sym, ap, ◌∙◌, ◌⊎◌, inl, inr, arith}
use Rattle.std.specs.Global.{Global}
use Rattle.std.proofs.Math.ListN.{set, replicate}
use Rattle.std.proofs.Math.Seq.{get_or-append_right as get_or-append_after}
use Rattle.std.proofs.lemmas.List.{length-map, length-set, length-replicate, ext_get_or, get_or-map, get_or-set_same, get_or-set_other, get_or-replicate, get_or_append_left, get_or_read}
use Rattle.std.proofs.Math.ListN.{get_or-eq_default}
use Rattle.std.proofs.lemmas.Bool.{cases_eq, cases_lt}
use Rattle.jfs_disk.specs.Image.{page_of, zeros}
use Rattle.jfs_disk.specs.Crash.{PageHistory, DiskState, history_of, no_page, seen_of, resting, at_rest, written, failed, settled, page_written, page_failed, last_of}
use Rattle.jfs_disk.specs.Choice.{left_by, choice_of, IsChosen}
use Rattle.jfs_disk.specs.Seen.{page_of-seen_of}
use Rattle.jfs_disk.specs.Table.{blank, page_in, page_at, state_in}
use Rattle.jfs_disk.specs.TableLaw.{history-state_in, length-state_in}
use Rattle.jfs_disk.specs.Put.{page_after, state_after}
use Rattle.jfs_disk.specs.Settled.{settled_by, AreSettled}
use Rattle.jfs_disk.specs.declared.choice.Choice.{Choice}
use Rattle.jfs_disk.specs.declared.slot.PageSlot.{PageSlot}
use Rattle.jfs_disk.proofs.Crashed.{left_by-resting}
use Rattle.jfs_disk.proofs.Outcomes.{last_of-push}

abbrev pub Places : Type 0
Places = List (Option (Box PageSlot Global))

-- a state is the one of these places, if each page is
pub state_in-is : (count : ℕ) (state : DiskState) (slots : Places) → length state ≡ count → ((n : ℕ) → n < count → history_of state n ≡ page_at slots n) → state ≡ state_in count slots
state_in-is count state slots size same =
    ext_get_or no_page state (state_in count slots) (size ∙ sym (length-state_in count slots))
    (λ n h. same n (omega (arith, size)) ∙ sym (history-state_in count slots n (omega (arith, size))))

-- the same pages
pub state_in-same : (count : ℕ) (old new : Places) → ((n : ℕ) → page_at new n ≡ page_at old n) → state_in count new ≡ state_in count old
state_in-same count old new same =
    state_in-is count (state_in count new) old (length-state_in count new) (λ n h. history-state_in count new n h ∙ same n)

-- ---- the start

pub state_in-none : (count : ℕ) (slots : Places) → slots ≡ [] → state_in count slots ≡ at_rest (zeros count)
state_in-none count slots e =
    sym (state_in-is count (at_rest (zeros count)) slots
    (length-map (zeros count) resting ∙ length-replicate count (replicate 4096 0))
    (λ n h. get_or-map resting (zeros count) n [] no_page (omega (arith, length-replicate {A = List ℕ} count (replicate 4096 0)))
    ∙ ap resting (get_or-replicate {A = List ℕ} count n (replicate 4096 0) [] h)
    ∙ sym (ap (λ (places : Places). page_at places n) e)))

-- ---- a place more

pub page_at-more : (slots : Places) (k n : ℕ) → page_at (slots ++ replicate k None) n ≡ page_at slots n
page_at-more slots k n = by-place (cases_lt n (length slots))
  where
    by-rest : (n - length slots < k) ⊎ (k ≤ n - length slots) → get_or (replicate {A = Option (Box PageSlot Global)} k None) (n - length slots) None ≡ None
    by-rest (inl within) = get_or-replicate {A = Option (Box PageSlot Global)} k (n - length slots) None None within
    by-rest (inr past) = get_or-eq_default (replicate {A = Option (Box PageSlot Global)} k None) None (omega (arith, length-replicate {A = Option (Box PageSlot Global)} k None))

    by-place : (n < length slots) ⊎ (length slots ≤ n) → page_at (slots ++ replicate k None) n ≡ page_at slots n
    by-place (inl there) = ap page_in (get_or_append_left slots (replicate k None) None n there)
    by-place (inr past) =
        ap page_in (get_or-append_after slots (replicate k None) n None past ∙ by-rest (cases_lt (n - length slots) k) ∙ sym (get_or-eq_default slots None past))

pub state_in-more : (count k : ℕ) (old new : Places) → new ≡ old ++ replicate k None → state_in count new ≡ state_in count old
state_in-more count k old new e = state_in-same count old new (λ n. ap (λ (places : Places). page_at places n) e ∙ page_at-more old k n)

-- ---- a page that changes

state-set : (f : PageHistory → PageHistory) (count : ℕ) (slots : Places) (n : ℕ) (place : Option (Box PageSlot Global)) → n < count → n < length slots → page_in place ≡ f (page_at slots n) → set (state_in count slots) n (f (history_of (state_in count slots) n)) ≡ state_in count (set slots n place)
state-set f count slots n place h there e =
    state_in-is count (set (state_in count slots) n (f (history_of (state_in count slots) n))) (set slots n place)
    (length-set (state_in count slots) n (f (history_of (state_in count slots) n)) ∙ length-state_in count slots)
    (λ m g. each m g (cases_eq m n))
  where
    changed : PageHistory
    changed = f (history_of (state_in count slots) n)

    each : (m : ℕ) → m < count → (m ≡ n) ⊎ (m ≡ n → ⊥) → history_of (set (state_in count slots) n changed) m ≡ page_at (set slots n place) m
    each m g (inl same) =
        ap (λ (k : ℕ). history_of (set (state_in count slots) n changed) k) same
        ∙ get_or-set_same (state_in count slots) n changed no_page (omega (arith, length-state_in count slots))
        ∙ ap f (history-state_in count slots n h)
        ∙ sym e
        ∙ sym (ap page_in (ap (λ (k : ℕ). get_or (set slots n place) k None) same ∙ get_or-set_same slots n place None there))
    each m g (inr apart) =
        get_or-set_other (state_in count slots) n m changed no_page apart
        ∙ history-state_in count slots m g
        ∙ sym (ap page_in (get_or-set_other slots n m place None apart))

state_in-after : (fails : Bool) (count : ℕ) (slots : Places) (n : ℕ) (bytes : List ℕ) (place : Option (Box PageSlot Global)) → n < count → n < length slots → page_in place ≡ page_after fails bytes (page_at slots n) → state_after fails n bytes (state_in count slots) ≡ state_in count (set slots n place)
unfolding written failed
state_in-after false count slots n bytes place h there e = state-set (page_written bytes) count slots n place h there e
state_in-after true count slots n bytes place h there e = state-set (page_failed bytes 0) count slots n place h there e

-- the state after a write
last-push : (past new : List DiskState) (state : DiskState) → new ≡ past ++ state ∷ [] → last_of new ≡ state
last-push past new state e = ap last_of e ∙ last_of-push past state

pub last_of-after : (fails : Bool) (past new : List DiskState) (count : ℕ) (slots : Places) (n : ℕ) (bytes : List ℕ) (was place : Option (Box PageSlot Global)) → last_of past ≡ state_in count slots → n < count → n < length slots → was ≡ get_or slots n was → page_in place ≡ page_after fails bytes (page_in was)
    → new ≡ past ++ state_after fails n bytes (last_of past) ∷ [] → last_of new ≡ state_in count (set slots n place)
last_of-after fails past new count slots n bytes was place now h there read e added =
    last-push past new (state_after fails n bytes (last_of past)) added
    ∙ ap (λ (state : DiskState). state_after fails n bytes state) now
    ∙ state_in-after fails count slots n bytes place h there (e ∙ ap (λ (p : Option (Box PageSlot Global)). page_after fails bytes (page_in p)) (get_or_read slots n was there read None))

-- a place that keeps its page
pub state_in-kept : (count : ℕ) (slots : Places) (n : ℕ) (place : Option (Box PageSlot Global)) → n < length slots → page_in place ≡ page_at slots n → state_in count (set slots n place) ≡ state_in count slots
state_in-kept count slots n place there e = state_in-same count slots (set slots n place) (λ m. each m (cases_eq m n))
  where
    each : (m : ℕ) → (m ≡ n) ⊎ (m ≡ n → ⊥) → page_at (set slots n place) m ≡ page_at slots m
    each m (inl same) =
        ap page_in (ap (λ (k : ℕ). get_or (set slots n place) k None) same ∙ get_or-set_same slots n place None there)
        ∙ e ∙ ap (λ (k : ℕ). page_at slots k) (sym same)
    each m (inr apart) = ap page_in (get_or-set_other slots n m place None apart)

-- ---- all pages settle

pub AreSettled-none : (choices : List Choice) (slots : Places) → AreSettled choices 0 slots slots
AreSettled-none choices slots = record { number = refl; first = λ n h. absurd (let no : ⊥ = omega arith in no); rest = λ n h. refl }

pub AreSettled-more : (choices : List Choice) (n : ℕ) (old now : Places) (place : Option (Box PageSlot Global)) → n < length now → page_in place ≡ settled_by (choice_of choices n) (page_at now n) → AreSettled choices n old now → AreSettled choices (n + 1) old (set now n place)
AreSettled-more choices n old now place there e settled = record {
  number = length-set now n place ∙ settled.number;
  first = λ m h. first m h (cases_eq m n);
  rest = λ m h. ap page_in (get_or-set_other now n m place None (λ same. let no : ⊥ = omega arith in no)) ∙ settled.rest m (omega arith);
}
  where
    first : (m : ℕ) → m < n + 1 → (m ≡ n) ⊎ (m ≡ n → ⊥) → page_at (set now n place) m ≡ settled_by (choice_of choices m) (page_at old m)
    first m h (inl same) =
        ap page_in (ap (λ (k : ℕ). get_or (set now n place) k None) same ∙ get_or-set_same now n place None there)
        ∙ e
        ∙ ap (λ (page : PageHistory). settled_by (choice_of choices n) page) (settled.rest n (omega arith))
        ∙ ap (λ (k : ℕ). settled_by (choice_of choices k) (page_at old k)) (sym same)
    first m h (inr apart) =
        ap page_in (get_or-set_other now n m place None apart) ∙ settled.first m (omega arith)

page_at-past : (slots : Places) (n : ℕ) → length slots ≤ n → page_at slots n ≡ blank
page_at-past slots n h = ap page_in (get_or-eq_default slots None h)

-- a page without a place rests
pub page_at-settled : (choices : List Choice) (old new : Places) → AreSettled choices (length old) old new → (n : ℕ) → page_at new n ≡ settled_by (choice_of choices n) (page_at old n)
page_at-settled choices old new settled n = by-place (cases_lt n (length old))
  where
    by-place : (n < length old) ⊎ (length old ≤ n) → page_at new n ≡ settled_by (choice_of choices n) (page_at old n)
    by-place (inl there) = settled.first n there
    by-place (inr past) =
        settled.rest n past ∙ page_at-past old n past
        ∙ sym (ap resting (left_by-resting (choice_of choices n) (replicate 4096 0)))
        ∙ sym (ap (λ (page : PageHistory). settled_by (choice_of choices n) page) (page_at-past old n past))

pub IsChosen-settled : (count : ℕ) (choices : List Choice) (old new : Places) → AreSettled choices (length old) old new → IsChosen choices (state_in count old) (seen_of (state_in count new))
IsChosen-settled count choices old new settled = record {
  number = length-map (state_in count new) (λ (page : PageHistory). page.seen) ∙ length-state_in count new ∙ sym (length-state_in count old);
  each = λ n h.
      let there : n < count = omega (arith, length-state_in count old) in
      page_of-seen_of (state_in count new) n
      ∙ ap (λ (page : PageHistory). page.seen) (history-state_in count new n there ∙ page_at-settled choices old new settled n)
      ∙ ap (λ (page : PageHistory). left_by (choice_of choices n) page page.seen) (sym (history-state_in count old n there));
}

pub state_in-rests : (count : ℕ) (choices : List Choice) (old new : Places) → AreSettled choices (length old) old new → state_in count new ≡ at_rest (seen_of (state_in count new))
state_in-rests count choices old new settled =
    sym (state_in-is count (at_rest (seen_of (state_in count new))) new
    (length-map (seen_of (state_in count new)) resting ∙ length-map (state_in count new) (λ (page : PageHistory). page.seen) ∙ length-state_in count new)
    (λ n h. get_or-map resting (seen_of (state_in count new)) n [] no_page (omega (arith, length-map (state_in count new) (λ (page : PageHistory). page.seen), length-state_in count new))
    ∙ ap resting (page_of-seen_of (state_in count new) n ∙ ap (λ (page : PageHistory). page.seen) (history-state_in count new n h))
    ∙ ap (λ (page : PageHistory). resting page.seen) (page_at-settled choices old new settled n)
    ∙ sym (page_at-settled choices old new settled n)))

pub state_in-settled : (count : ℕ) (old new : Places) → AreSettled [] (length old) old new → settled (state_in count old) ≡ state_in count new
unfolding settled
state_in-settled count old new all =
    state_in-is count (map (λ (page : PageHistory). resting page.seen) (state_in count old)) new
    (length-map (state_in count old) (λ (page : PageHistory). resting page.seen) ∙ length-state_in count old)
    (λ n h. get_or-map (λ (page : PageHistory). resting page.seen) (state_in count old) n no_page no_page (omega (arith, length-state_in count old))
    ∙ ap (λ (page : PageHistory). resting page.seen) (history-state_in count old n h)
    ∙ sym (page_at-settled [] old new all n))

pub last_of-synced : (past new : List DiskState) (count : ℕ) (old slots : Places) → last_of past ≡ state_in count old → AreSettled [] (length old) old slots → new ≡ past ++ settled (last_of past) ∷ [] → last_of new ≡ state_in count slots
last_of-synced past new count old slots now all added =
    last-push past new (settled (last_of past)) added ∙ ap settled now ∙ state_in-settled count old slots all

-- what a read of a page gives
pub page_of-table : (count : ℕ) (slots : Places) (past : List DiskState) (n : ℕ) → last_of past ≡ state_in count slots → n < count → page_of (seen_of (last_of past)) n ≡ (page_at slots n).seen
page_of-table count slots past n now h =
    page_of-seen_of (last_of past) n
    ∙ ap (λ (state : DiskState). (history_of state n).seen) now
    ∙ ap (λ (page : PageHistory). page.seen) (history-state_in count slots n h)
