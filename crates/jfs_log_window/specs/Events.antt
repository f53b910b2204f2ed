-- What happened on a mounted volume, as its log has it: entries, and places where redo may begin.
use Rattle.std.specs.Prelude.{◌≡◌, ◌++◌, ℕ, suc, false, List, [], ◌∷◌, length}
use Rattle.std.specs.List.{AllByRecursion}
use Rattle.jfs_records.specs.Entries.{Item, point}
use Rattle.jfs_halves.specs.Entry.{Shown, Happened, items_of}
use Rattle.jfs_halves.specs.Half.{Halves}
use Rattle.jfs_halves.specs.Both.{BothChange, FitAll, after}
use Rattle.jfs_halves.specs.Laws.{fresh_halves}

pub data Event : Type 0 where
  -- an entry joined the history
  Entered : Happened → Event
  -- a SYNCPT was made: redo needs nothing before it
  Pointed : Event

-- ---- what events make of a history and its log

abbrev pub entries_in : List Event → List Happened
entries_in [] = []
entries_in (Entered h ∷ es) = h ∷ entries_in es
entries_in (Pointed ∷ es) = entries_in es

abbrev pub count : List Event → ℕ
count es = length (entries_in es)

-- how many SYNCPTs there are, and the sync count of each, where n entries stand before all: how many stand before it
abbrev pub points_in : List Event → ℕ
points_in [] = 0
points_in (Entered h ∷ es) = points_in es
points_in (Pointed ∷ es) = suc (points_in es)

abbrev pub points_from : ℕ → List Event → List ℕ
points_from n [] = []
points_from n (Entered h ∷ es) = points_from (suc n) es
points_from n (Pointed ∷ es) = n ∷ points_from n es

-- what stands in the log of them
abbrev pub items_from : ℕ → List Event → List Item
items_from n [] = []
items_from n (Entered h ∷ es) = items_of (suc n) h ++ items_from (suc n) es
items_from n (Pointed ∷ es) = point 0 ∷ items_from n es

-- ---- both halves have what happened

-- an entry without a COMMIT in the log changes nothing
abbrev pub IsQuiet : Happened → Type 0
IsQuiet h = h.logs ≡ false → h.noted ≡ []

-- In order: what is stable in the log, from the mount's SYNCPT on; what a group has taken; what waits.
pub record HasEvents (both : Halves) (stable grouped waiting : List Event) : Type 0 where
  pub begins : (rest : List Event) × (stable ≡ Pointed ∷ rest)
  pub history : both.volume.history ≡ entries_in (stable ++ (grouped ++ waiting))
  pub quiet : AllByRecursion IsQuiet both.volume.history
  pub points : both.volume.points ≡ points_from 0 (stable ++ (grouped ++ waiting))
  pub items : both.log.items ≡ items_from 0 stable
  pub group : both.log.group ≡ items_from (count stable) grouped
  pub waits : both.volume.waiting.items ≡ items_from (count (stable ++ grouped)) waiting
  pub durable : both.log.durable ≡ count stable
  pub taken : both.volume.taken ≡ count (stable ++ grouped)
  pub points_stable : both.log.stable ≡ points_in stable
  pub points_taken : both.log.points_taken ≡ points_in (stable ++ grouped)

abbrev pub HaveEvents : Halves → Type 0
HaveEvents both = (stable grouped waiting : List Event) × HasEvents both stable grouped waiting

-- So it is at the mount, and changes that may be made keep it.
abbrev pub EventsBegin : Type 0
EventsBegin = (ring : ℕ) (shown : Shown) → HaveEvents (fresh_halves ring shown)

abbrev pub EventsGoOn : Type 0
EventsGoOn = (both : Halves) (list : List BothChange) → FitAll both list → HaveEvents both → HaveEvents (after both list)
