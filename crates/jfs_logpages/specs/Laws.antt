-- What is true of all readings of a log.
use Rattle.std.specs.Prelude.{◌≡◌, ◌<◌, ◌≤◌, ◌+◌, ◌-◌, ◌*◌, ◌/◌, ◌⊎◌, ℕ, List, ◌∷◌, ◌++◌, length, take, Result, Ok, Err}
use Rattle.jfs_bits.specs.declared.rule.Rule.{Rule}
use Rattle.jfs_disk.specs.Image.{Image, page_of}
use Rattle.jfs_logfmt.specs.declared.log_record.Record.{Record}
use Rattle.jfs_logpages.specs.Back.{Met, IsMet, FromSync, BreaksAt, back_of}
use Rattle.jfs_logpages.specs.Group.{pages_of, position_of, number_after}
use Rattle.jfs_logpages.specs.Outcome.{TellsNothing}
use Rattle.jfs_logpages.specs.ReadLog.{IsReadLog}
use Rattle.jfs_logpages.specs.Records.{log_text, size_of, sizes_of, ends_of, stands_at, stand_at, AreWhole, IsChain, BeginsAt}
use Rattle.jfs_logpages.specs.Ring.{last_end}
use Rattle.jfs_logpages.specs.declared.last.Last.{Last}
use Rattle.jfs_logpages.specs.declared.ring_text.RingText.{RingText}
use Rattle.jfs_logpages.specs.declared.error.RingError.{RingError}

-- Two answers say the same of a log: the same text and places, or the same refusal. A fault and want of memory say nothing of it.
abbrev pub SaysSame : Result RingText RingError → Result RingText RingError → Type 0
SaysSame (Ok a) (Ok b) = (a.first ≡ b.first) × (a.bytes.items ≡ b.bytes.items) × (a.ends.items ≡ b.ends.items)
SaysSame (Ok a) (Err b) = TellsNothing b
SaysSame (Err a) (Ok b) = TellsNothing a
SaysSame (Err a) (Err b) = (a ≡ b) ⊎ (TellsNothing a ⊎ TellsNothing b)

-- all answers that one log has say the same
abbrev pub HasOneAnswer : Type 0
HasOneAnswer =
    (pages blocks : ℕ) (log : Image) → 2 < pages → (a b : Result RingText RingError) → IsReadLog pages blocks log a → IsReadLog pages blocks log b → SaysSame a b

-- an answer stays right where only the log's first page changes, or pages behind the log
abbrev pub LooksAtLog : Type 0
LooksAtLog =
    (pages blocks : ℕ) (log other : Image) → 2 < pages → ((n : ℕ) → 0 < n → n < pages → page_of other n ≡ page_of log n) → (a : Result RingText RingError) → IsReadLog pages blocks log a → IsReadLog pages blocks other a

-- ---- records that are written are read

-- Bytes of a window of the ring, and then records, the first of which begins a transaction or is a SYNCPT, and is where redo begins: no rule is broken, and these records are what is met.
abbrev pub RecordsAreRead : Type 0
RecordsAreRead = (ring first blocks : ℕ) (front : List ℕ) (r : Record) (rs : List Record) →
    AreWhole blocks (r ∷ rs) → IsChain ring (4080 * first + length front) (r ∷ rs) → back_of r ≡ 0 → BeginsAt ring (4080 * first + length front) (r ∷ rs)
    → FromSync ring first blocks (front ++ log_text (r ∷ rs)) (stands_at (length front) r) (stand_at (length front + size_of r) rs)

-- it is the only reading
abbrev pub IsOnlyReading : Type 0
IsOnlyReading = (ring first blocks : ℕ) (text : List ℕ) (m n : Met) (ms ns : List Met) → 0 < ring → length text ≤ 4080 * (ring / 2) → FromSync ring first blocks text m ms →
    (FromSync ring first blocks text n ns → m ∷ ms ≡ n ∷ ns) × ((address : ℕ) → (rule : Rule) → BreaksAt ring first blocks text address rule → ⊥)

-- one record at most ends at a place
abbrev pub EndsOneAtMost : Type 0
EndsOneAtMost = (blocks : ℕ) (text : List ℕ) (m n : Met) → m.end ≡ n.end → IsMet blocks text m → IsMet blocks text n → m ≡ n

-- Of a group's text, what stands up to the last end before a place is the text of a front of its records: what a crash leaves of it.
abbrev pub LeavesFront : Type 0
LeavesFront = (upto : ℕ) (rs : List Record) → (k : ℕ) × (take (last_end (ends_of 0 rs) upto) (log_text rs) ≡ log_text (take k rs))

abbrev pub HaveSizes : Type 0
HaveSizes = (rs : List Record) → length (log_text rs) ≡ sizes_of rs

-- ---- positions

-- the number of the page where the log's text ends, once so many bytes more are written
abbrev pub IsNumberOf : Type 0
IsNumberOf = (last : Last) (size : ℕ) → 0 < last.fill → number_after last size ≡ (position_of last + size - 1) / 4080

-- A text of `size` bytes, its group included, ends on page `high`. A record begins at byte `sync`, and from there on the bytes touch at most half a
-- ring. Then a reading that begins at most half a ring before that page holds the record.
abbrev pub ReachesBack : Type 0
ReachesBack = (ring size sync high first : ℕ) → sync < size → high ≡ (size - 1) / 4080 → pages_of (size - sync) ≤ ring / 2 → first + ring / 2 ≤ high + 1 → 4080 * first ≤ sync
