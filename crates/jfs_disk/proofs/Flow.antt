-- What a crash leaves at the moments of a call that makes one device call after another.
use Rattle.std.proofs.Common.{◌≡◌, ◌≤◌, ◌<◌, ◌-◌, ℕ, zero, suc, List, [], ◌∷◌, ◌++◌, length, get_or, refl, sym, ap, subst, ◌∙◌, ◌⊎◌, inl, inr, arith, append_assoc}
use Rattle.std.proofs.Math.ListN.{set}
use Rattle.std.proofs.lemmas.List.{length-append, length-set, length-map, get_or_append_left, get_or_push, get_or-set_same, get_or-set_other, set-get_or, get_or-map, ext_get_or}
use Rattle.std.proofs.lemmas.Bool.{cases_lt, cases_eq}
use Rattle.jfs_disk.specs.Image.{Image, page_of}
use Rattle.jfs_disk.specs.Crash.{PageHistory, DiskState, IsCrashPage, IsCrashImage, history_of, no_page, content_of, seen_of, written, failed, settled, torn, last_of, LeftSince, AllSince, TearsPage}
use Rattle.jfs_disk.specs.Moment.{now_of, IsResting}
use Rattle.jfs_disk.specs.Seen.{page_of-seen_of}
use Rattle.jfs_disk.proofs.Tearing.{IsTorn, torn-same, torn-none, torn-whole, torn-over, torn-under}

-- ---- moments

-- what a crash might have left since a later moment, it might have since an earlier one
pub LeftSince-earlier : (past : List DiskState) (t u : ℕ) (left : Image) → t ≤ u → LeftSince past u left → LeftSince past t left
LeftSince-earlier past t u left h since = record { moment = since.moment; since = omega (arith, since.since); reached = since.reached; crash = since.crash }

-- a moment stays in the past
pub LeftSince-longer : (past more : List DiskState) (t : ℕ) (left : Image) → LeftSince past t left → LeftSince (past ++ more) t left
LeftSince-longer past more t left since = record {
  moment = since.moment;
  since = since.since;
  reached = omega (arith, since.reached, length-append past more);
  crash = subst (λ (state : DiskState). IsCrashImage state left) (sym (get_or_append_left past more [] since.moment since.reached)) since.crash;
}

-- one more state: a crash might have left what it might have before, or what it may leave of that state
pub LeftSince-push : (past : List DiskState) (state : DiskState) (t : ℕ) (left : Image) → LeftSince (past ++ state ∷ []) t left → (LeftSince past t left) ⊎ (IsCrashImage state left)
LeftSince-push past state t left since = by-moment (cases_lt since.moment (length past))
  where
    by-moment : (since.moment < length past) ⊎ (length past ≤ since.moment) → (LeftSince past t left) ⊎ (IsCrashImage state left)
    by-moment (inl before) = inl (record {
      moment = since.moment;
      since = since.since;
      reached = before;
      crash = subst (λ (s : DiskState). IsCrashImage s left) (get_or_append_left past (state ∷ []) [] since.moment before) since.crash;
    })
    by-moment (inr after) = inr (subst (λ (s : DiskState). IsCrashImage s left)
        (get_or_push past state [] since.moment (omega (arith, since.reached, length-append past (state ∷ [])))) since.crash)

-- at the start of a call
pub starts : (P : Image → Type 0) (past : List DiskState) → 0 < length past → ((left : Image) → IsCrashImage (last_of past) left → P left) → AllSince P past (now_of past)
starts P past h now left since =
    let here : since.moment ≡ length past - 1 = omega (arith, since.since, since.reached) in
    now left (subst (λ (k : ℕ). IsCrashImage (get_or past k []) left) here since.crash)

-- after one more device call
pub goes_on : (P : Image → Type 0) (past : List DiskState) (state : DiskState) (t : ℕ) → AllSince P past t → ((left : Image) → IsCrashImage state left → P left) → AllSince P (past ++ state ∷ []) t
goes_on P past state t all now left since = either (LeftSince-push past state t left since)
  where
    either : (LeftSince past t left) ⊎ (IsCrashImage state left) → P left
    either (inl before) = all left before
    either (inr after) = now left after

-- a weaker fact, since a later moment
pub AllSince-weaker : (P Q : Image → Type 0) (past : List DiskState) (t u : ℕ) → t ≤ u → ((left : Image) → P left → Q left) → AllSince P past t → AllSince Q past u
AllSince-weaker P Q past t u h weaker all left since = weaker left (all left (LeftSince-earlier past t u left h since))

-- ---- nothing pending

pub history-settled : (state : DiskState) (n : ℕ) → n < length state → history_of (settled state) n ≡ record { seen = (history_of state n).seen; stable = (history_of state n).seen; writes = [] }
unfolding settled
history-settled state n h = get_or-map (λ (page : PageHistory). let rested : PageHistory = record { seen = page.seen; stable = page.seen; writes = [] } in rested) state n no_page no_page h

pub length-settled : (state : DiskState) → length (settled state) ≡ length state
unfolding settled
length-settled state = length-map state (λ (page : PageHistory). let rested : PageHistory = record { seen = page.seen; stable = page.seen; writes = [] } in rested)

rested-page : (bytes left : List ℕ) → IsCrashPage (record { seen = bytes; stable = bytes; writes = [] }) left → left ≡ bytes
rested-page bytes left crash =
    let top : crash.top ≡ 0 = omega (arith, crash.there) in
    let base : crash.base ≡ 0 = omega (arith, crash.older, crash.there) in
    crash.content
    ∙ ap (λ (k : ℕ). torn crash.sectors (get_or (bytes ∷ []) k []) (get_or (bytes ∷ []) crash.base [])) top
    ∙ ap (λ (k : ℕ). torn crash.sectors bytes (get_or (bytes ∷ []) k [])) base
    ∙ torn-same crash.sectors bytes

-- after a sync, a crash leaves what a read gives, and nothing else
pub crash-settled : (state : DiskState) (left : Image) → IsCrashImage (settled state) left → left ≡ seen_of state
crash-settled state left crash =
    ext_get_or [] left (seen_of state)
    (crash.number ∙ length-settled state ∙ sym (length-map state (λ (page : PageHistory). page.seen)))
    (λ n h.
    let there : n < length state = omega (arith, crash.number, length-settled state) in
    let page = subst (λ (p : PageHistory). IsCrashPage p (page_of left n)) (history-settled state n there) (crash.each n (omega (arith, length-settled state))) in
    rested-page (history_of state n).seen (page_of left n) page ∙ sym (page_of-seen_of state n))

-- with nothing pending
pub crash-resting : (state : DiskState) (left : Image) → IsResting state → IsCrashImage state left → left ≡ seen_of state
crash-resting state left rests crash = crash-settled state left (subst (λ (s : DiskState). IsCrashImage s left) rests crash)

-- ---- a write

pub history-written : (n : ℕ) (bytes : List ℕ) (state : DiskState) → n < length state → history_of (written n bytes state) n ≡ record (history_of state n) { seen = bytes; writes = (history_of state n).writes ++ bytes ∷ [] }
unfolding written
history-written n bytes state h = get_or-set_same state n (record (history_of state n) { seen = bytes; writes = (history_of state n).writes ++ bytes ∷ [] }) no_page h

pub history-apart : (n m : ℕ) (bytes : List ℕ) (state : DiskState) → (m ≡ n → ⊥) → history_of (written n bytes state) m ≡ history_of state m
unfolding written
history-apart n m bytes state apart = get_or-set_other state n m (record (history_of state n) { seen = bytes; writes = (history_of state n).writes ++ bytes ∷ [] }) no_page apart

pub length-written : (n : ℕ) (bytes : List ℕ) (state : DiskState) → length (written n bytes state) ≡ length state
unfolding written
length-written n bytes state = length-set state n (record (history_of state n) { seen = bytes; writes = (history_of state n).writes ++ bytes ∷ [] })

pub set-set_same : (image : Image) (n : ℕ) (old new : List ℕ) → set (set image n old) n new ≡ set image n new
set-set_same [] n old new = refl
set-set_same (page ∷ image) zero old new = refl
set-set_same (page ∷ image) (suc n) old new = ap (λ (rest : Image). page ∷ rest) (set-set_same image n old new)

-- a page takes front sectors of the bytes that were written, or all of them
abbrev pub TakesPage : ℕ → List ℕ → Image → Image → Type 0
TakesPage n bytes old new = (TearsPage n bytes old new) ⊎ (new ≡ set old n bytes)

-- what a crash may leave of a page after one more write
crash-page-written : (page : PageHistory) (bytes left : List ℕ) → IsCrashPage (record page { seen = bytes; writes = page.writes ++ bytes ∷ [] }) left
    → (before : List ℕ) × IsCrashPage page before × ((left ≡ before) ⊎ (((sectors : ℕ) × (sectors ≤ 8) × (left ≡ torn sectors bytes before)) ⊎ (left ≡ bytes)))
crash-page-written page bytes left crash = by-top (cases_lt crash.top (suc (length page.writes)))
  where
    contents : (k : ℕ) → k < suc (length page.writes) → get_or (page.stable ∷ (page.writes ++ bytes ∷ [])) k [] ≡ content_of page k
    contents k h = get_or_append_left (page.stable ∷ page.writes) (bytes ∷ []) [] k h

    last : get_or (page.stable ∷ (page.writes ++ bytes ∷ [])) crash.top [] ≡ get_or (page.stable ∷ (page.writes ++ bytes ∷ [])) crash.top []
    last = refl

    kept : (k : ℕ) → k ≤ length page.writes → IsCrashPage page (content_of page k)
    kept k h = record { base = k; top = k; sectors = 0; older = omega arith; there = h; within = omega arith; content = sym (torn-none (content_of page k) (content_of page k)) }

    at-end : suc (length page.writes) ≤ crash.top → get_or (page.stable ∷ (page.writes ++ bytes ∷ [])) crash.top [] ≡ bytes
    at-end h = get_or_push (page.stable ∷ page.writes) bytes [] crash.top (omega (arith, crash.there, length-append page.writes (bytes ∷ [])))

    by-base : suc (length page.writes) ≤ crash.top → (crash.base < suc (length page.writes)) ⊎ (suc (length page.writes) ≤ crash.base)
        → (before : List ℕ) × IsCrashPage page before × ((left ≡ before) ⊎ (((sectors : ℕ) × (sectors ≤ 8) × (left ≡ torn sectors bytes before)) ⊎ (left ≡ bytes)))
    by-base end (inl below) = (
      content_of page crash.base,
      kept crash.base (omega arith),
      inr (inl (
        crash.sectors,
        crash.within,
        crash.content
            ∙ ap (λ (b : List ℕ). torn crash.sectors b (get_or (page.stable ∷ (page.writes ++ bytes ∷ [])) crash.base [])) (at-end end)
            ∙ ap (λ (b : List ℕ). torn crash.sectors bytes b) (contents crash.base below),
      )),
    )
    by-base end (inr above) =
        let same : crash.base ≡ crash.top = omega (arith, crash.older, crash.there, length-append page.writes (bytes ∷ [])) in (
          content_of page 0,
          kept 0 (omega arith),
          inr (inr (
              crash.content
              ∙ ap (λ (k : ℕ). torn crash.sectors (get_or (page.stable ∷ (page.writes ++ bytes ∷ [])) crash.top []) (get_or (page.stable ∷ (page.writes ++ bytes ∷ [])) k [])) same
              ∙ torn-same crash.sectors (get_or (page.stable ∷ (page.writes ++ bytes ∷ [])) crash.top [])
              ∙ at-end end)),
        )

    by-top : (crash.top < suc (length page.writes)) ⊎ (suc (length page.writes) ≤ crash.top)
        → (before : List ℕ) × IsCrashPage page before × ((left ≡ before) ⊎ (((sectors : ℕ) × (sectors ≤ 8) × (left ≡ torn sectors bytes before)) ⊎ (left ≡ bytes)))
    by-top (inl below) = (
      left,
      record {
        base = crash.base;
        top = crash.top;
        sectors = crash.sectors;
        older = crash.older;
        there = omega arith;
        within = crash.within;
        content = crash.content
            ∙ ap (λ (b : List ℕ). torn crash.sectors b (get_or (page.stable ∷ (page.writes ++ bytes ∷ [])) crash.base [])) (contents crash.top below)
            ∙ ap (λ (b : List ℕ). torn crash.sectors (content_of page crash.top) b) (contents crash.base (omega (arith, crash.older)));
      },
      inl refl,
    )
    by-top (inr end) = by-base end (cases_lt crash.base (suc (length page.writes)))

-- after one more write, a crash leaves what it might have left before, or that with the page torn or whole
pub crash-written : (n : ℕ) (bytes : List ℕ) (state : DiskState) (left : Image) → n < length state → IsCrashImage (written n bytes state) left
    → (before : Image) × IsCrashImage state before × ((left ≡ before) ⊎ (TakesPage n bytes before left))
crash-written n bytes state left h crash =
    (set left n found.0, record { number = length-set left n found.0 ∙ size; each = λ m g. each m g (cases_eq m n) }, outcome found.2)
  where
    size : length left ≡ length state
    size = crash.number ∙ length-written n bytes state

    found : (before : List ℕ) × IsCrashPage (history_of state n) before × ((page_of left n ≡ before) ⊎ (((sectors : ℕ) × (sectors ≤ 8) × (page_of left n ≡ torn sectors bytes before)) ⊎ (page_of left n ≡ bytes)))
    found = crash-page-written (history_of state n) bytes (page_of left n)
        (subst (λ (page : PageHistory). IsCrashPage page (page_of left n)) (history-written n bytes state h) (crash.each n (omega (arith, length-written n bytes state))))

    each : (m : ℕ) → m < length state → (m ≡ n) ⊎ (m ≡ n → ⊥) → IsCrashPage (history_of state m) (page_of (set left n found.0) m)
    each m g (inl same) =
        subst (λ (k : ℕ). IsCrashPage (history_of state k) (page_of (set left n found.0) k)) (sym same)
        (subst (λ (page : List ℕ). IsCrashPage (history_of state n) page) (sym (get_or-set_same left n found.0 [] (omega (arith, size)))) found.1)
    each m g (inr apart) =
        subst (λ (page : List ℕ). IsCrashPage (history_of state m) page) (sym (get_or-set_other left n m found.0 [] apart))
        (subst (λ (page : PageHistory). IsCrashPage page (page_of left m)) (history-apart n m bytes state apart) (crash.each m (omega (arith, length-written n bytes state))))

    -- left is what it was made from, with its own page put back
    back : left ≡ set (set left n found.0) n (page_of left n)
    back = sym (set-get_or left n []) ∙ sym (set-set_same left n found.0 (page_of left n))

    here : page_of (set left n found.0) n ≡ found.0
    here = get_or-set_same left n found.0 [] (omega (arith, size))

    outcome : (page_of left n ≡ found.0) ⊎ (((sectors : ℕ) × (sectors ≤ 8) × (page_of left n ≡ torn sectors bytes found.0)) ⊎ (page_of left n ≡ bytes)) → (left ≡ set left n found.0) ⊎ (TakesPage n bytes (set left n found.0) left)
    outcome (inl same) = inl (sym (set-get_or left n []) ∙ ap (λ (page : List ℕ). set left n page) same)
    outcome (inr (inl tears)) = inr (inl (tears.0, tears.1, back ∙ ap (λ (page : List ℕ). set (set left n found.0) n page) (tears.2 ∙ ap (λ (page : List ℕ). torn tears.0 bytes page) (sym here))))
    outcome (inr (inr whole)) = inr (inr (back ∙ ap (λ (page : List ℕ). set (set left n found.0) n page) whole))

-- ---- a failed write

-- a crash doesn't ask what a read gives
crash-page-same : (page other : PageHistory) (left : List ℕ) → other.stable ≡ page.stable → other.writes ≡ page.writes → IsCrashPage page left → IsCrashPage other left
crash-page-same page other left stable writes crash =
    let content : (k : ℕ) → content_of page k ≡ content_of other k =
    λ k. sym (ap (λ (w : List ℕ). get_or (w ∷ other.writes) k []) stable ∙ ap (λ (ws : List (List ℕ)). get_or (page.stable ∷ ws) k []) writes) in
    record {
      base = crash.base;
      top = crash.top;
      sectors = crash.sectors;
      older = crash.older;
      within = crash.within;
      there = omega (arith, crash.there, ap (λ (ws : List (List ℕ)). length ws) writes);
      content = crash.content
          ∙ ap (λ (b : List ℕ). torn crash.sectors b (content_of page crash.base)) (content crash.top)
          ∙ ap (λ (b : List ℕ). torn crash.sectors (content_of other crash.top) b) (content crash.base);
    }

-- a failed write is a write of what a read then gives, and a write
pub crash-failed : (n : ℕ) (bytes : List ℕ) (sectors : ℕ) (state : DiskState) (left : Image) → n < length state → IsCrashImage (failed n bytes sectors state) left
    → IsCrashImage (written n bytes (written n (torn sectors bytes (history_of state n).seen) state)) left
unfolding failed
crash-failed n bytes sectors state left h crash =
    record {
      number = crash.number ∙ long ∙ sym size;
      each = λ m g. each m (omega (arith, size)) (cases_eq m n);
    }
  where
    torn-page : List ℕ
    torn-page = torn sectors bytes (history_of state n).seen

    long : length (set state n (record (history_of state n) { seen = torn sectors bytes (history_of state n).seen; writes = (history_of state n).writes ++ torn sectors bytes (history_of state n).seen ∷ bytes ∷ [] })) ≡ length state
    long = length-set state n (record (history_of state n) { seen = torn sectors bytes (history_of state n).seen; writes = (history_of state n).writes ++ torn sectors bytes (history_of state n).seen ∷ bytes ∷ [] })

    size : length (written n bytes (written n (torn sectors bytes (history_of state n).seen) state)) ≡ length state
    size = length-written n bytes (written n (torn sectors bytes (history_of state n).seen) state) ∙ length-written n (torn sectors bytes (history_of state n).seen) state

    twice : history_of (written n bytes (written n (torn sectors bytes (history_of state n).seen) state)) n
        ≡ record (history_of state n) { seen = bytes; writes = ((history_of state n).writes ++ torn sectors bytes (history_of state n).seen ∷ []) ++ bytes ∷ [] }
    twice = history-written n bytes (written n (torn sectors bytes (history_of state n).seen) state) (omega (arith, length-written n (torn sectors bytes (history_of state n).seen) state))
        ∙ ap (λ (page : PageHistory). let next : PageHistory = record page { seen = bytes; writes = page.writes ++ bytes ∷ [] } in next) (history-written n (torn sectors bytes (history_of state n).seen) state h)

    each : (m : ℕ) → m < length state → (m ≡ n) ⊎ (m ≡ n → ⊥) → IsCrashPage (history_of (written n bytes (written n (torn sectors bytes (history_of state n).seen) state)) m) (page_of left m)
    each m g (inl same) =
        subst (λ (k : ℕ). IsCrashPage (history_of (written n bytes (written n (torn sectors bytes (history_of state n).seen) state)) k) (page_of left k)) (sym same)
        (crash-page-same
        (record (history_of state n) { seen = torn sectors bytes (history_of state n).seen; writes = (history_of state n).writes ++ torn sectors bytes (history_of state n).seen ∷ bytes ∷ [] })
        (history_of (written n bytes (written n (torn sectors bytes (history_of state n).seen) state)) n) (page_of left n)
        (ap (λ (page : PageHistory). page.stable) twice)
        (ap (λ (page : PageHistory). page.writes) twice ∙ append_assoc (history_of state n).writes (torn sectors bytes (history_of state n).seen ∷ []) (bytes ∷ []))
        (subst (λ (page : PageHistory). IsCrashPage page (page_of left n))
        (get_or-set_same state n (record (history_of state n) { seen = torn sectors bytes (history_of state n).seen; writes = (history_of state n).writes ++ torn sectors bytes (history_of state n).seen ∷ bytes ∷ [] }) no_page h)
        (crash.each n (omega (arith, long)))))
    each m g (inr apart) =
        subst (λ (page : PageHistory). IsCrashPage page (page_of left m))
        (get_or-set_other state n m (record (history_of state n) { seen = torn sectors bytes (history_of state n).seen; writes = (history_of state n).writes ++ torn sectors bytes (history_of state n).seen ∷ bytes ∷ [] }) no_page apart
        ∙ sym (history-apart n m bytes (written n (torn sectors bytes (history_of state n).seen) state) apart ∙ history-apart n m (torn sectors bytes (history_of state n).seen) state apart))
        (crash.each m (omega (arith, long)))

-- ---- a write on a disk with nothing pending

-- the image is the old one, but for one page, which is torn
record IsTornAt (n : ℕ) (bytes : List ℕ) (image left : Image) : Type 0 where
  pub page : List ℕ
  pub torn_page : IsTorn bytes (page_of image n) page
  pub put : left ≡ set image n page

IsTornAt-tears : (n : ℕ) (bytes : List ℕ) (image left : Image) → IsTornAt n bytes image left → TearsPage n bytes image left
IsTornAt-tears n bytes image left at = (at.torn_page.sectors, at.torn_page.within, at.put ∙ ap (λ (page : List ℕ). set image n page) at.torn_page.bytes)

same-at : (n : ℕ) (bytes : List ℕ) (image left : Image) → left ≡ image → IsTornAt n bytes image left
same-at n bytes image left e = record {
  page = page_of image n;
  torn_page = record { sectors = 0; within = omega arith; bytes = sym (torn-none bytes (page_of image n)) };
  put = e ∙ sym (set-get_or image n []);
}

-- front sectors again, or all of them
takes-again : (n : ℕ) (bytes : List ℕ) (image before left : Image) → n < length image → length bytes ≡ 4096 → length (page_of image n) ≡ 4096 → IsTornAt n bytes image before → (left ≡ before) ⊎ (TakesPage n bytes before left) → IsTornAt n bytes image left
takes-again n bytes image before left h size long at (inl same) = record { page = at.page; torn_page = at.torn_page; put = same ∙ at.put }
takes-again n bytes image before left h size long at (inr (inl tears)) =
    let here : page_of before n ≡ torn at.torn_page.sectors bytes (page_of image n) =
    ap (λ (im : Image). page_of im n) at.put ∙ get_or-set_same image n at.page [] h ∙ at.torn_page.bytes in
    record {
      page = torn tears.0 bytes (torn at.torn_page.sectors bytes (page_of image n));
      torn_page = torn-over tears.0 at.torn_page.sectors bytes (page_of image n) tears.1 at.torn_page.within size;
      put = tears.2 ∙ ap (λ (page : List ℕ). set before n (torn tears.0 bytes page)) here
          ∙ ap (λ (im : Image). set im n (torn tears.0 bytes (torn at.torn_page.sectors bytes (page_of image n)))) at.put
          ∙ set-set_same image n at.page (torn tears.0 bytes (torn at.torn_page.sectors bytes (page_of image n)));
    }
takes-again n bytes image before left h size long at (inr (inr whole)) = record {
  page = bytes;
  torn_page = record { sectors = 8; within = omega arith; bytes = sym (torn-whole bytes (page_of image n) size long) };
  put = whole ∙ ap (λ (im : Image). set im n bytes) at.put ∙ set-set_same image n at.page bytes;
}

-- front sectors of a torn page
takes-torn : (n : ℕ) (bytes : List ℕ) (sectors : ℕ) (image left : Image) → sectors ≤ 8 → length bytes ≡ 4096 → (left ≡ image) ⊎ (TakesPage n (torn sectors bytes (page_of image n)) image left) → IsTornAt n bytes image left
takes-torn n bytes sectors image left h size (inl same) = same-at n bytes image left same
takes-torn n bytes sectors image left h size (inr (inl tears)) = record {
  page = torn tears.0 (torn sectors bytes (page_of image n)) (page_of image n);
  torn_page = torn-under tears.0 sectors bytes (page_of image n) tears.1 h size;
  put = tears.2;
}
takes-torn n bytes sectors image left h size (inr (inr whole)) = record {
  page = torn sectors bytes (page_of image n);
  torn_page = record { sectors = sectors; within = h; bytes = refl };
  put = whole;
}

pub length-seen_of : (state : DiskState) → length (seen_of state) ≡ length state
length-seen_of state = length-map state (λ (page : PageHistory). page.seen)

-- a crash after a write leaves the old image with that page torn
pub crash-resting-written : (n : ℕ) (bytes : List ℕ) (state : DiskState) (left : Image) → IsResting state → n < length state → length bytes ≡ 4096 → length (page_of (seen_of state) n) ≡ 4096 → IsCrashImage (written n bytes state) left → TearsPage n bytes (seen_of state) left
crash-resting-written n bytes state left rests h size long crash =
    let found = crash-written n bytes state left h crash in
    IsTornAt-tears n bytes (seen_of state) left
    (takes-again n bytes (seen_of state) found.0 left (omega (arith, length-seen_of state)) size long (same-at n bytes (seen_of state) found.0 (crash-resting state found.0 rests found.1)) found.2)

-- and so it does after a failed write
pub crash-resting-failed : (n : ℕ) (bytes : List ℕ) (sectors : ℕ) (state : DiskState) (left : Image) → sectors ≤ 8 → IsResting state → n < length state → length bytes ≡ 4096 → length (page_of (seen_of state) n) ≡ 4096 → IsCrashImage (failed n bytes sectors state) left → TearsPage n bytes (seen_of state) left
crash-resting-failed n bytes sectors state left within rests h size long crash =
    let page = torn sectors bytes (history_of state n).seen in
    let second = crash-written n bytes (written n page state) left (omega (arith, length-written n page state)) (crash-failed n bytes sectors state left h crash) in
    let first = crash-written n page state second.0 h second.1 in
    let image : first.0 ≡ seen_of state = crash-resting state first.0 rests first.1 in
    let taken : (second.0 ≡ seen_of state) ⊎ (TakesPage n page (seen_of state) second.0) = subst (λ (im : Image). (second.0 ≡ im) ⊎ (TakesPage n page im second.0)) image first.2 in
    let torn_at : IsTornAt n bytes (seen_of state) second.0 =
    takes-torn n bytes sectors (seen_of state) second.0 within size
    (subst (λ (p : List ℕ). (second.0 ≡ seen_of state) ⊎ (TakesPage n (torn sectors bytes p) (seen_of state) second.0)) (sym (page_of-seen_of state n)) taken) in
    IsTornAt-tears n bytes (seen_of state) left (takes-again n bytes (seen_of state) second.0 left (omega (arith, length-seen_of state)) size long torn_at second.2)
