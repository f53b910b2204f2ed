-- What redo finds in a log that a crash left.
use Rattle.std.specs.Prelude.{◌≡◌, ◌<◌, ◌≤◌, ◌+◌, ◌-◌, ◌/◌, ◌^◌, ◌++◌, ℕ, ⊤, List, [], ◌∷◌, length, map, take, drop, get_or, if◌then◌else◌}
use Rattle.std.specs.List.{AllByRecursion}
use Rattle.jfs_disk.specs.Image.{Image}
use Rattle.jfs_ranges.specs.declared.edit.Edit.{Edit}
use Rattle.jfs_records.specs.logpages.specs.Back.{Met, FromSync}
use Rattle.jfs_records.specs.logpages.specs.Group.{Holds, pages_of}
use Rattle.jfs_records.specs.logpages.specs.Records.{log_text, ends_of}
use Rattle.jfs_records.specs.logpages.specs.Ring.{Reads, ReadsPrefix}
use Rattle.jfs_records.specs.logpages.specs.declared.last.Last.{Last}
use Rattle.jfs_records.specs.Committed.{committed}
use Rattle.jfs_records.specs.Entries.{Item, entry, point, log_records, text_size}
use Rattle.jfs_records.specs.Limits.{ItemsFit}
use Rattle.jfs_halves.specs.Entry.{Happened, edits}
use Rattle.jfs_halves.specs.Half.{Halves, LogHalf}
use Rattle.jfs_log_window.specs.Events.{HaveEvents}

-- the transactions of entries, of those that have a COMMIT in the log
abbrev pub committed_in : List Happened → List (List Edit)
committed_in [] = []
committed_in (h ∷ hs) = if h.logs then edits h ∷ committed_in hs else committed_in hs

-- Redo begins behind a sync count: the last one that is stable, or one that was taken since. It ends behind entry n: all durable entries are among the first n, and groups have taken them all.
pub record IsWindow (both : Halves) (c n : ℕ) : Type 0 where
  pub place : (j : ℕ) × (both.log.stable ≤ j + 1) × (j < both.log.points_taken) × (c ≡ get_or both.volume.points j 0)
  pub durable : both.log.durable ≤ n
  pub taken : n ≤ both.volume.taken

-- The log reads, breaks no rule, and commits the transactions of a window of the history.
pub record CommitsWindow (ring blocks : ℕ) (log : Image) (both : Halves) : Type 0 where
  pub first : ℕ
  pub text : List ℕ
  pub reads : Reads ring log first text
  pub m : Met
  pub ms : List Met
  pub found : FromSync ring first blocks text m ms
  pub c : ℕ
  pub n : ℕ
  pub window : IsWindow both c n
  pub are : committed (map (λ x. x.is) (m ∷ ms)) ≡ committed_in (drop c (take n both.volume.history))

-- ---- when it does

abbrev pub IsOfEntry : Item → Type 0
IsOfEntry (entry number tx) = ⊤
IsOfEntry (point sync) = ⊥

-- From the newest SYNCPT that is stable on, the text touches half the ring at most, with what a group has taken.
abbrev pub FitsHalfRing : ℕ → LogHalf → Type 0
FitsHalfRing ring log = (pre post : List Item) → log.items ≡ pre ++ point 0 ∷ post → AllByRecursion IsOfEntry post → pages_of (text_size (point 0 ∷ post) + text_size log.group) ≤ ring / 2

-- the text that is stable, behind what stood in the ring before the mount; and that of the group behind it
abbrev pub stable_text : ℕ → List ℕ → LogHalf → List ℕ
stable_text ring front log = front ++ log_text (log_records ring (length front) log.items)

abbrev pub group_text : ℕ → List ℕ → LogHalf → List ℕ
group_text ring front log = log_text (log_records ring (length front + text_size log.items) log.group)

abbrev pub group_ends : ℕ → List ℕ → LogHalf → List ℕ
group_ends ring front log = ends_of 0 (log_records ring (length front + text_size log.items) log.group)

-- what a log has to be for that
pub record IsLogOfHalves (ring blocks : ℕ) (both : Halves) : Type 0 where
  pub some : 2 ≤ ring
  pub most : ring < 2 ^ 16
  pub size : blocks ≤ 2 ^ 23
  pub events : HaveEvents both
  pub fit : ItemsFit blocks (both.log.items ++ both.log.group)
  pub room : FitsHalfRing ring both.log

-- at each moment while the group is written, whose last page has the number `high`
abbrev pub WindowLaw : Type 0
WindowLaw = (ring blocks high : ℕ) (log : Image) (front : List ℕ) (both : Halves) → IsLogOfHalves ring blocks both → high ≡ (length front + (text_size both.log.items + text_size both.log.group) - 1) / 4080
    → ReadsPrefix ring (stable_text ring front both.log) (group_text ring front both.log) (group_ends ring front both.log) high log → CommitsWindow ring blocks log both

-- and before it, while no page of it was written
abbrev pub RestLaw : Type 0
RestLaw = (last : Last) (blocks : ℕ) (log : Image) (front ends : List ℕ) (both : Halves) → IsLogOfHalves last.ring blocks both → Holds last (stable_text last.ring front both.log) ends log → CommitsWindow last.ring blocks log both
