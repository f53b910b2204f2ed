-- What writes leave of the histories of other pages.
use Rattle.std.proofs.Common.{◌≡◌, ◌≤◌, ◌<◌, ◌-◌, ℕ, List, [], ◌∷◌, ◌++◌, length, get_or, refl, sym, ap, ◌∙◌, ◌⊎◌, inl, inr, arith}
use Rattle.std.proofs.lemmas.Bool.{cases_lt}
use Rattle.std.proofs.lemmas.List.{length-append, length-set, get_or_append_left, get_or_past, get_or_push, get_or-set_other}
use Rattle.jfs_disk.specs.Crash.{PageHistory, DiskState, history_of, no_page, page_failed, written, failed, settled, last_of, LeavesTorn}
use Rattle.jfs_disk.specs.Moment.{IsResting}
use Rattle.jfs_disk.proofs.Flow.{history-apart, length-written, history-settled, length-settled}
use Rattle.jfs_logpages.specs.Fresh.{HistoriesStay}

pub histories-same : (kept : ℕ → Type 0) (past : List DiskState) → HistoriesStay kept past past
histories-same kept past = record { longer = omega arith; before = λ k h. refl; sizes = λ k h g. absurd (omega arith); pages = λ k h g n m. absurd (omega arith) }

-- fewer pages are kept
pub histories-fewer : (kept less : ℕ → Type 0) (old new : List DiskState) → ((n : ℕ) → less n → kept n) → HistoriesStay kept old new → HistoriesStay less old new
histories-fewer kept less old new fewer stay = record { longer = stay.longer; before = stay.before; sizes = stay.sizes; pages = λ k h g n m. stay.pages k h g n (fewer n m) }

-- ---- the last state

pub last-size : (kept : ℕ → Type 0) (old new : List DiskState) → 0 < length old → HistoriesStay kept old new → length (last_of new) ≡ length (last_of old)
last-size kept old new some stay = by (cases_lt (length new - 1) (length old))
  where
    by : (length new - 1 < length old) ⊎ (length old ≤ length new - 1) → length (last_of new) ≡ length (last_of old)
    by (inl low) = ap (λ (s : DiskState). length s) (stay.before (length new - 1) low ∙ ap (λ (k : ℕ). get_or old k []) (omega (arith, stay.longer)))
    by (inr high) = stay.sizes (length new - 1) high (omega (arith, stay.longer))

pub last-history : (kept : ℕ → Type 0) (old new : List DiskState) (n : ℕ) → 0 < length old → HistoriesStay kept old new → kept n → history_of (last_of new) n ≡ history_of (last_of old) n
last-history kept old new n some stay keeps = by (cases_lt (length new - 1) (length old))
  where
    by : (length new - 1 < length old) ⊎ (length old ≤ length new - 1) → history_of (last_of new) n ≡ history_of (last_of old) n
    by (inl low) = ap (λ (s : DiskState). history_of s n) (stay.before (length new - 1) low ∙ ap (λ (k : ℕ). get_or old k []) (omega (arith, stay.longer)))
    by (inr high) = stay.pages (length new - 1) high (omega (arith, stay.longer)) n keeps

-- ---- one call after another

pub histories-join : (kept : ℕ → Type 0) (old mid new : List DiskState) → 0 < length old → HistoriesStay kept old mid → HistoriesStay kept mid new → HistoriesStay kept old new
histories-join kept old mid new some first second = record {
  longer = omega (arith, first.longer, second.longer);
  before = λ k h. second.before k (omega (arith, first.longer)) ∙ first.before k h;
  sizes = λ k h g. size k h g (cases_lt k (length mid));
  pages = λ k h g n m. page k h g n m (cases_lt k (length mid));
}
  where
    size : (k : ℕ) → length old ≤ k → k < length new → (k < length mid) ⊎ (length mid ≤ k) → length (get_or new k []) ≡ length (last_of old)
    size k h g (inl low) = ap (λ (s : DiskState). length s) (second.before k low) ∙ first.sizes k h low
    size k h g (inr high) = second.sizes k high g ∙ last-size kept old mid some first

    page : (k : ℕ) → length old ≤ k → k < length new → (n : ℕ) → kept n → (k < length mid) ⊎ (length mid ≤ k) → history_of (get_or new k []) n ≡ history_of (last_of old) n
    page k h g n m (inl low) = ap (λ (s : DiskState). history_of s n) (second.before k low) ∙ first.pages k h low n m
    page k h g n m (inr high) = second.pages k high g n m ∙ last-history kept old mid n some first m

-- one state more
pub histories-push : (kept : ℕ → Type 0) (old new : List DiskState) (state : DiskState) → new ≡ old ++ state ∷ [] → length state ≡ length (last_of old) → ((n : ℕ) → kept n → history_of state n ≡ history_of (last_of old) n) → HistoriesStay kept old new
histories-push kept old new state e size same = record {
  longer = omega (arith, long, length-append old (state ∷ []));
  before = λ k h. ap (λ (p : List DiskState). get_or p k []) e ∙ get_or_append_left old (state ∷ []) [] k h;
  sizes = λ k h g. ap (λ (s : DiskState). length s) (here k h g) ∙ size;
  pages = λ k h g n m. ap (λ (s : DiskState). history_of s n) (here k h g) ∙ same n m;
}
  where
    long : length new ≡ length (old ++ state ∷ [])
    long = ap (λ (p : List DiskState). length p) e

    here : (k : ℕ) → length old ≤ k → k < length new → get_or new k [] ≡ state
    here k h g = ap (λ (p : List DiskState). get_or p k []) e ∙ get_or_push old state [] k (omega (arith, long, length-append old (state ∷ [])))

pub histories-written : (kept : ℕ → Type 0) (old new : List DiskState) (n : ℕ) (bytes : List ℕ) → (kept n → ⊥) → new ≡ old ++ written n bytes (last_of old) ∷ [] → HistoriesStay kept old new
histories-written kept old new n bytes apart e =
    histories-push kept old new (written n bytes (last_of old)) e (length-written n bytes (last_of old))
    (λ m keeps. history-apart n m bytes (last_of old) (λ same. apart (rw (sym same) keeps)))

history-failed : (n m : ℕ) (bytes : List ℕ) (sectors : ℕ) (state : DiskState) → (m ≡ n → ⊥) → history_of (failed n bytes sectors state) m ≡ history_of state m
unfolding failed
history-failed n m bytes sectors state apart = get_or-set_other state n m (page_failed bytes sectors (history_of state n)) no_page apart

length-failed : (n : ℕ) (bytes : List ℕ) (sectors : ℕ) (state : DiskState) → length (failed n bytes sectors state) ≡ length state
unfolding failed
length-failed n bytes sectors state = length-set state n (page_failed bytes sectors (history_of state n))

pub histories-failed : (kept : ℕ → Type 0) (old new : List DiskState) (n : ℕ) (bytes : List ℕ) → (kept n → ⊥) → LeavesTorn n bytes old new → HistoriesStay kept old new
histories-failed kept old new n bytes apart (inl same) = rw same (histories-same kept old)
histories-failed kept old new n bytes apart (inr torn_write) =
    histories-push kept old new (failed n bytes torn_write.0 (last_of old)) torn_write.2 (length-failed n bytes torn_write.0 (last_of old))
    (λ m keeps. history-failed n m bytes torn_write.0 (last_of old) (λ same. apart (rw (sym same) keeps)))

-- a sync leaves what rests
pub histories-synced : (kept : ℕ → Type 0) (old mid new : List DiskState) → 0 < length old → IsResting (last_of old) → HistoriesStay kept old mid → new ≡ mid ++ settled (last_of mid) ∷ [] → HistoriesStay kept mid new
histories-synced kept old mid new some rests stay e =
    histories-push kept mid new (settled (last_of mid)) e (length-settled (last_of mid)) (λ n keeps. by n keeps (cases_lt n (length (last_of mid))))
  where
    rested : PageHistory → PageHistory
    rested page = record { seen = page.seen; stable = page.seen; writes = [] }

    by : (n : ℕ) → kept n → (n < length (last_of mid)) ⊎ (length (last_of mid) ≤ n) → history_of (settled (last_of mid)) n ≡ history_of (last_of mid) n
    by n keeps (inl here) =
        let before = last-history kept old mid n some stay keeps in
        let there : n < length (last_of old) = omega (arith, here, last-size kept old mid some stay) in
        history-settled (last_of mid) n here ∙ ap rested before
        ∙ sym (history-settled (last_of old) n there) ∙ ap (λ (s : DiskState). history_of s n) (sym rests) ∙ sym before
    by n keeps (inr past) = get_or_past (settled (last_of mid)) n no_page (omega (arith, past, length-settled (last_of mid))) ∙ sym (get_or_past (last_of mid) n no_page past)
