-- The state of a disk in memory that is cut or joined.
use Rattle.std.proofs.Common.{◌≡◌, ◌≤◌, ◌<◌, ◌+◌, ◌-◌, ℕ, List, [], ◌++◌, length, get_or, map, take, drop, min, Option, None, Box, sym, ap, ◌∙◌, ◌⊎◌, inl, inr, arith}
use Rattle.std.specs.Global.{Global}
use Rattle.std.proofs.Math.ListN.{replicate, get_or-eq_default}
use Rattle.std.proofs.Math.Seq.{get_or-append_right as get_or-append_after}
use Rattle.std.proofs.lemmas.List.{length-map, length-append, length-replicate, length-take, length-drop, get_or-map, get_or_append_left, get_or-take, get_or-drop, take-map, drop-map, map-append}
use Rattle.std.proofs.lemmas.Bool.{cases_lt}
use Rattle.jfs_disk.specs.Crash.{PageHistory, DiskState, history_of, no_page, seen_of, last_of}
use Rattle.jfs_disk.specs.Cut.{lows_of, highs_of, joined}
use Rattle.jfs_disk.specs.Table.{page_in, page_at, state_in}
use Rattle.jfs_disk.specs.TableLaw.{history-state_in, length-state_in}
use Rattle.jfs_disk.specs.declared.slot.PageSlot.{PageSlot}
use Rattle.jfs_disk.proofs.Tables.{Places, state_in-is, page_at-more}

pub last_of-map : (f : DiskState → DiskState) (past : List DiskState) → 0 < length past → last_of (map f past) ≡ f (last_of past)
last_of-map f past h =
    ap (λ (n : ℕ). get_or (map f past) (n - 1) []) (length-map past f)
    ∙ get_or-map f past (length past - 1) [] [] (omega arith)

-- ---- cut

page_at-low : (slots : Places) (at keep n : ℕ) → keep ≡ min (length slots) at → n < at → page_at slots n ≡ page_at (take keep slots) n
page_at-low slots at keep n e h = by-place (cases_lt n keep)
  where
    by-place : (n < keep) ⊎ (keep ≤ n) → page_at slots n ≡ page_at (take keep slots) n
    by-place (inl there) = ap page_in (sym (get_or-take keep slots n None there))
    by-place (inr past) =
        ap page_in (get_or-eq_default slots None (omega (arith, e)) ∙ sym (get_or-eq_default (take keep slots) None (omega (arith, length-take keep slots))))

pub state_in-low : (count at keep : ℕ) (slots : Places) (past : List DiskState) → last_of past ≡ state_in count slots → 0 < length past → at ≤ count → keep ≡ min (length slots) at → last_of (lows_of at past) ≡ state_in at (take keep slots)
state_in-low count at keep slots past now begun h e =
    last_of-map (λ (state : DiskState). take at state) past begun
    ∙ ap (λ (state : DiskState). take at state) now
    ∙ state_in-is at (take at (state_in count slots)) (take keep slots)
    (omega (arith, length-take at (state_in count slots), length-state_in count slots))
    (λ n g. get_or-take at (state_in count slots) n no_page g ∙ history-state_in count slots n (omega arith) ∙ page_at-low slots at keep n e g)

page_at-high : (slots : Places) (at keep n : ℕ) → keep ≡ min (length slots) at → page_at slots (at + n) ≡ page_at (drop keep slots) n
page_at-high slots at keep n e = by-place (cases_lt (length slots) at)
  where
    by-place : (length slots < at) ⊎ (at ≤ length slots) → page_at slots (at + n) ≡ page_at (drop keep slots) n
    by-place (inl past) =
        ap page_in (get_or-eq_default slots None (omega arith) ∙ sym (get_or-eq_default (drop keep slots) None (omega (arith, e, length-drop keep slots))))
    by-place (inr within) =
        let whole : at ≡ keep = omega (arith, e) in
        ap page_in (ap (λ (k : ℕ). get_or slots (k + n) None) whole ∙ sym (get_or-drop keep slots n None))

pub state_in-high : (count at keep : ℕ) (slots : Places) (past : List DiskState) → last_of past ≡ state_in count slots → 0 < length past → at ≤ count → keep ≡ min (length slots) at → last_of (highs_of at past) ≡ state_in (count - at) (drop keep slots)
state_in-high count at keep slots past now begun h e =
    last_of-map (λ (state : DiskState). drop at state) past begun
    ∙ ap (λ (state : DiskState). drop at state) now
    ∙ state_in-is (count - at) (drop at (state_in count slots)) (drop keep slots)
    (omega (arith, length-drop at (state_in count slots), length-state_in count slots))
    (λ n g. get_or-drop at (state_in count slots) n no_page ∙ history-state_in count slots (at + n) (omega arith) ∙ page_at-high slots at keep n e)

-- ---- join

pub last_of-joined : (low high : List DiskState) → 0 < length high → last_of (joined low high) ≡ last_of low ++ last_of high
last_of-joined low high h =
    let front : List DiskState = map (λ (state : DiskState). state ++ get_or high 0 []) low in
    let back : List DiskState = map (λ (state : DiskState). last_of low ++ state) high in
    let size : length (front ++ back) ≡ length low + length high = omega (arith, length-append front back, length-map low (λ (state : DiskState). state ++ get_or high 0 []), length-map high (λ (state : DiskState). last_of low ++ state)) in
    let place : (length (front ++ back) - 1) - length front ≡ length high - 1 = omega (arith, size, length-map low (λ (state : DiskState). state ++ get_or high 0 [])) in
    get_or-append_after front back (length (front ++ back) - 1) [] (omega (arith, size, length-map low (λ (state : DiskState). state ++ get_or high 0 [])))
    ∙ ap (λ (n : ℕ). get_or back n []) place
    ∙ get_or-map (λ (state : DiskState). last_of low ++ state) high (length high - 1) [] [] (omega arith)

pub length-joined : (low high : List DiskState) → length (joined low high) ≡ length low + length high
length-joined low high =
    omega (arith, length-append (map (λ (state : DiskState). state ++ get_or high 0 []) low) (map (λ (state : DiskState). last_of low ++ state) high), length-map low (λ (state : DiskState). state ++ get_or high 0 []), length-map high (λ (state : DiskState). last_of low ++ state))

page_at-joined : (low high : Places) (a k n : ℕ) → k ≡ a - length low → length low ≤ a → a ≤ n → page_at ((low ++ replicate k None) ++ high) n ≡ page_at high (n - a)
page_at-joined low high a k n more h g =
    let front : Places = low ++ replicate k None in
    let size : length front ≡ a = omega (arith, more, length-append low (replicate {A = Option (Box PageSlot Global)} k None), length-replicate {A = Option (Box PageSlot Global)} k None) in
    ap page_in (get_or-append_after front high n None (omega (arith, size)) ∙ ap (λ (k : ℕ). get_or high (n - k) None) size)

pub state_in-joined : (a b k : ℕ) (low high new : Places) (past behind : List DiskState) → last_of past ≡ state_in a low → last_of behind ≡ state_in b high → 0 < length behind → length low ≤ a → k ≡ a - length low → new ≡ (low ++ replicate k None) ++ high → last_of (joined past behind) ≡ state_in (a + b) new
state_in-joined a b k low high new past behind now then begun within more e =
    last_of-joined past behind begun
    ∙ ap (λ (state : DiskState). state ++ last_of behind) now
    ∙ ap (λ (state : DiskState). state_in a low ++ state) then
    ∙ state_in-is (a + b) (state_in a low ++ state_in b high) new
    (omega (arith, length-append (state_in a low) (state_in b high), length-state_in a low, length-state_in b high))
    (λ n h. each n h (cases_lt n a))
  where
    front : Places
    front = low ++ replicate k None

    size : length front ≡ a
    size = omega (arith, more, length-append low (replicate {A = Option (Box PageSlot Global)} k None), length-replicate {A = Option (Box PageSlot Global)} k None)

    each : (n : ℕ) → n < a + b → (n < a) ⊎ (a ≤ n) → history_of (state_in a low ++ state_in b high) n ≡ page_at new n
    each n h (inl there) =
        get_or_append_left (state_in a low) (state_in b high) no_page n (omega (arith, length-state_in a low))
        ∙ history-state_in a low n there
        ∙ sym (page_at-more low k n)
        ∙ sym (ap page_in (ap (λ (places : Places). get_or places n None) e ∙ get_or_append_left front high None n (omega (arith, size))))
    each n h (inr after) =
        get_or-append_after (state_in a low) (state_in b high) n no_page (omega (arith, length-state_in a low))
        ∙ ap (λ (k : ℕ). history_of (state_in b high) (n - k)) (length-state_in a low)
        ∙ history-state_in b high (n - a) (omega arith)
        ∙ sym (page_at-joined low high a k n more within after)
        ∙ sym (ap (λ (places : Places). page_at places n) e)

-- ---- what a read gives

pub seen_of-low : (at : ℕ) (past new : List DiskState) → 0 < length past → new ≡ lows_of at past → seen_of (last_of new) ≡ take at (seen_of (last_of past))
seen_of-low at past new begun e =
    ap (λ (states : List DiskState). seen_of (last_of states)) e
    ∙ ap seen_of (last_of-map (λ (state : DiskState). take at state) past begun)
    ∙ sym (take-map (λ (page : PageHistory). page.seen) at (last_of past))

pub seen_of-high : (at : ℕ) (past new : List DiskState) → 0 < length past → new ≡ highs_of at past → seen_of (last_of new) ≡ drop at (seen_of (last_of past))
seen_of-high at past new begun e =
    ap (λ (states : List DiskState). seen_of (last_of states)) e
    ∙ ap seen_of (last_of-map (λ (state : DiskState). drop at state) past begun)
    ∙ sym (drop-map (λ (page : PageHistory). page.seen) at (last_of past))

pub seen_of-joined : (low high new : List DiskState) → 0 < length high → new ≡ joined low high → seen_of (last_of new) ≡ seen_of (last_of low) ++ seen_of (last_of high)
seen_of-joined low high new begun e =
    ap (λ (states : List DiskState). seen_of (last_of states)) e
    ∙ ap seen_of (last_of-joined low high begun)
    ∙ map-append (λ (page : PageHistory). page.seen) (last_of low) (last_of high)
