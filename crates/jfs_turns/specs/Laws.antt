-- What the rule of the table is for, in plain words. Each law speaks of any state that the table can be in once it has started.
use Rattle.std.specs.Prelude.{◌≡◌, ◌≢◌, ℕ, ◌≤◌, length, slice_index, true}
use mathlib.Core.Option.{some}
use lib.ListN.{get_elem?}
use Rattle.atomic_table.specs.Table.{State}
use Rattle.jfs_turns.specs.Lists.{IsPrefix, entries_of}
use Rattle.jfs_turns.specs.Views.{Seated}
use Rattle.jfs_turns.specs.Standing.{Standing}
use Rattle.jfs_turns.specs.Told.{Learned, LearnedLog, gave_volume, gave_log, marked_taken, appended, saw_durable, raised, marked_points, marked_stable}
use Rattle.jfs_turns.specs.Rule.{Now, words_of, Ruled}
use Rattle.jfs_turns.specs.declared.view.View.{View}
use Rattle.jfs_turns.specs.declared.view.Held.{Held}

-- the seat j is live and has the view v
abbrev pub Has : {V L E : Type 0} → State (Held V L) (View E) → ℕ → View E → Type 0
Has s j v = (get_elem? s.views j ≡ some v) × (v.live ≡ true)

-- What a seat knows goes on: its lists are prefixes of its later ones, and its bounds never fall.
abbrev pub Grows : {V L E : Type 0} → Seated V L E → Seated V L E → Type 0
Grows m m' = IsPrefix m.0.list m'.0.list × IsPrefix m.0.points m'.0.points × (m.0.durable ≤ m'.0.durable) × (m.0.stable ≤ m'.0.stable) × (m'.0.base ≡ m.0.base)

-- Each step of each call tells no less than was known, whatever a caller says of an entry or of syncpoints.
abbrev pub KnowledgeGrows : {E : Type 0} → Type 0 → Type 0 → (E → ℕ) → Type 0
KnowledgeGrows {E} V L client = (m m' : Seated V L E) →
    (Learned client m m' → Grows m m') × (LearnedLog m m' → Grows m m') × (gave_volume m m' → Grows m m') × (gave_log m m' → Grows m m') × (marked_taken m m' → Grows m m')
    × (appended (λ e. Unit {0}) m m' → Grows m m') × ((r : ℕ) → saw_durable m r m' → Grows m m') × ((k : ℕ) → raised k m m' → Grows m m')
    × ((k : ℕ) → marked_points (λ ps. Unit {0}) k m m' → Grows m m') × ((k : ℕ) → marked_stable k m m' → Grows m m')

module _ {V L E : Type 0} (client : E → ℕ) (of_volume : Standing V E) (of_log : Standing L E) where
  -- The lists of entries and of syncpoints that a seat has seen are prefixes of the volume's, which are as long as words 2 and 4
  -- say. The bounds that it has on words 3 and 5 hold, and its base is the base of all.
  abbrev pub SeenIsPrefix : Type 0
  SeenIsPrefix = (s : State (Held V L) (View E)) → Ruled client of_volume of_log s
      → (n : Now E) × (s.words ≡ words_of n)
      × ((j : ℕ) (v : View E) → Has s j v → IsPrefix v.list n.list × IsPrefix v.points n.points × (v.durable ≤ n.durable) × (v.stable ≤ n.stable) × (v.base ≡ n.base))

  -- A pass without the volume turn has every entry of its client, in order.
  abbrev pub SeesItsOwn : Type 0
  SeesItsOwn = (s : State (Held V L) (View E)) → Ruled client of_volume of_log s
      → (n : Now E) × (s.words ≡ words_of n)
      × ((j : ℕ) (v : View E) → Has s j v → v.main ≡ true → v.number ≢ n.volume_turn → entries_of client v.number n.list ≡ entries_of client v.number v.list)

  -- One seat at most has the volume's counts, one the right to append, and one the log turn. Each is of the pass whose number the
  -- turn's word has.
  abbrev pub AtMostOne : Type 0
  AtMostOne = (s : State (Held V L) (View E)) (i j : ℕ) (v w : View E) → Ruled client of_volume of_log s → Has s i v → Has s j w
      → (v.volume ≡ true → (v.number ≡ slice_index s.words 0) × (w.volume ≡ true → i ≡ j))
      × (v.appends ≡ true → (v.number ≡ slice_index s.words 0) × (w.appends ≡ true → i ≡ j))
      × (v.log ≡ true → (v.number ≡ slice_index s.words 1) × (w.log ≡ true → i ≡ j))

  -- A bound on the durable count holds, and the count is the log side's own: at most the number of taken entries and the length of
  -- the log side's list. Likewise the number of stable syncpoints.
  abbrev pub DurableIsTheLogSides : Type 0
  DurableIsTheLogSides = (s : State (Held V L) (View E)) (j : ℕ) (v : View E) → Ruled client of_volume of_log s → Has s j v
      → (v.durable ≤ slice_index s.words 3)
      × (v.log ≡ true → (v.log_durable ≡ slice_index s.words 3) × (v.log_durable ≤ v.taken) × (v.log_durable ≤ length v.log_list) × (v.log_stable ≡ slice_index s.words 5) × (v.log_stable ≤ length v.log_points))

  -- Of both turns' halves: there is one list, as long as word 2 says, one number of taken entries, at most all, and one list of
  -- syncpoints, as long as word 4 says, which both sides have. The log side's list of entries is a prefix of the volume's.
  abbrev pub BothAgree : Type 0
  BothAgree = (s : State (Held V L) (View E)) (i j : ℕ) (v w : View E) → Ruled client of_volume of_log s → Has s i v → Has s j w → v.appends ≡ true → w.volume ≡ true → w.log ≡ true
      → (length v.list ≡ slice_index s.words 2) × (length w.points ≡ slice_index s.words 4) × (v.taken ≡ w.taken) × (w.taken ≤ length v.list) × IsPrefix w.log_list v.list × (w.log_points ≡ w.points)
