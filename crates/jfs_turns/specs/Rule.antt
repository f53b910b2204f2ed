-- The rule of the table, which holds between any two steps.
-- Words 0 and 1 are the volume turn and the log turn: 0, or the number of the pass that has it. Word 2 is the number of entries,
-- word 3 of the durable ones, word 4 of syncpoints and word 5 of the stable ones. Slot 0 is the volume's and slot 1 the log side's.
use Rattle.std.specs.Prelude.{◌≡◌, ◌≢◌, ◌⊎◌, ℕ, ◌+◌, ◌<◌, ◌≤◌, List, [], ◌∷◌, length, Bool, true}
use mathlib.Core.Option.{Option, some}
use lib.ListN.{get_elem?}
use Rattle.atomic_table.specs.Table.{State}
use Rattle.jfs_turns.specs.Lists.{Base, IsPrefix, Lacks, HasOwn, AreOwn, AreOfClients}
use Rattle.jfs_turns.specs.Views.{unborn, ready}
use Rattle.jfs_turns.specs.Standing.{Standing}
use Rattle.jfs_turns.specs.declared.view.View.{View}
use Rattle.jfs_turns.specs.declared.view.Held.{Held}
use Rattle.jfs_turns.specs.declared.view.Held.TheVariants.{Volume, Log, Nothing}

-- What all seats together know: the volume's list and syncpoints, the log side's, the counts, the two turns, which seat has
-- which right, and how many passes there are, were dealt and are back.
pub record Now (E : Type 0) : Type 0 where
  pub base : Base
  pub list : List E
  pub log_list : List E
  pub points : List ℕ
  pub log_points : List ℕ
  pub taken : ℕ
  pub durable : ℕ
  pub stable : ℕ
  pub volume_turn : ℕ
  pub log_turn : ℕ
  -- the seat with the volume's counts, with the right to append, and with the log turn
  pub volume_seat : ℕ
  pub append_seat : ℕ
  pub log_seat : ℕ
  -- each pass's own seat, and the seat that deals the passes
  pub owner : ℕ → ℕ
  pub keeper : ℕ
  pub dealt : ℕ
  pub total : ℕ
  pub gone : ℕ

module _ {E : Type 0} where
  abbrev pub words_of : Now E → List ℕ
  words_of n = n.volume_turn ∷ n.log_turn ∷ length n.list ∷ n.durable ∷ length n.points ∷ n.stable ∷ []

  module _ (client : E → ℕ) (n : Now E) (j : ℕ) (v : View E) where
    -- the one seat of the pass that has the volume turn, which knows all syncpoints and how many entries are taken
    abbrev pub HasVolume : Type 0
    HasVolume = (j ≡ n.volume_seat) × (v.number ≡ n.volume_turn) × (0 < v.number) × (v.points ≡ n.points) × (v.taken ≡ n.taken)

    -- the one seat that may append, which is that pass's too and knows the whole list
    abbrev pub HasList : Type 0
    HasList = (j ≡ n.append_seat) × (v.number ≡ n.volume_turn) × (0 < v.number) × (v.number ≤ n.dealt) × (v.list ≡ n.list) × (v.taken ≡ n.taken)

    -- the one seat of the pass that has the log turn, which knows the log side's lists and counts
    abbrev pub HasLog : Type 0
    HasLog = (j ≡ n.log_seat) × (v.number ≡ n.log_turn) × (0 < v.number) × (v.taken ≡ n.taken) × (v.log_durable ≡ n.durable) × (v.log_stable ≡ n.stable) × (v.log_list ≡ n.log_list) × (v.log_points ≡ n.log_points)

    -- a pass that isn't the last stands below those that are back; the last one knows their lists
    abbrev pub IsEarlier : Type 0
    IsEarlier = v.number + n.gone < n.total

    abbrev pub IsLast : Type 0
    IsLast = (v.number ≡ n.total) × (v.back ≡ n.gone) × (length v.returned ≡ n.gone) × ((k : ℕ) × (k + n.gone ≡ n.total) × AreOwn client k v.returned n.list)

    -- a pass's own seat: without the volume turn it has every entry of its client
    abbrev pub IsPass : Type 0
    IsPass = (j ≡ n.owner v.number) × (0 < v.number) × (v.number ≤ n.dealt) × (v.number ≢ n.volume_turn → HasOwn client v.number v.list n.list)
        × (v.dealt ≡ n.total) × (IsEarlier ⊎ IsLast)

    -- a seat that deals has one pass to deal at least, its own
    abbrev pub Deals : Type 0
    Deals = (j ≡ n.keeper) × (v.dealt ≡ n.dealt) × (v.back ≡ n.total) × (n.dealt < n.total) × (n.gone ≡ 0)

  -- what a view says is so, or was: the base, prefixes of both lists, lower bounds of words 3 and 5
  pub record Knows (its_base : Base) (its_list : List E) (its_points : List ℕ) (most stablest : ℕ) (base : Base) (list : List E) (points : List ℕ) (many solid : ℕ) : Type 0 where
    pub based : base ≡ its_base
    pub listed : IsPrefix list its_list
    pub pointed : IsPrefix points its_points
    pub durable : many ≤ most
    pub stable : solid ≤ stablest

  -- what holds of the live view v of the seat j
  pub record Fits (client : E → ℕ) (n : Now E) (j : ℕ) (v : View E) : Type 0 where
    pub knows : Knows n.base n.list n.points n.durable n.stable v.base v.list v.points v.durable v.stable
    pub volume : v.volume ≡ true → HasVolume client n j v
    pub appends : v.appends ≡ true → HasList client n j v
    pub logs : v.log ≡ true → HasLog client n j v
    pub passes : v.main ≡ true → IsPass client n j v
    pub deals : v.keeper ≡ true → Deals client n j v

  -- the log side's entries are a prefix of the volume's, and its syncpoints are the volume's; durable ≤ taken ≤ all; no entry is of a client that isn't dealt yet, and each is of one of the passes' clients
  pub record Ordered (client : E → ℕ) (list log_list : List E) (points log_points : List ℕ) (taken durable stable dealt total : ℕ) : Type 0 where
    pub log_listed : IsPrefix log_list list
    pub log_pointed : log_points ≡ points
    pub durable_listed : durable ≤ length log_list
    pub durable_taken : durable ≤ taken
    pub taken_listed : taken ≤ length list
    pub stable_pointed : stable ≤ length log_points
    pub known : (k : ℕ) → dealt < k → Lacks client k list
    pub within : AreOfClients client total list

  abbrev pub IsOrdered : (E → ℕ) → Now E → Type 0
  IsOrdered client n = Ordered client n.list n.log_list n.points n.log_points n.taken n.durable n.stable n.dealt n.total

  -- the view at the place is a pass's, has the turn, and has its number
  abbrev pub Holder : (View E → Bool) → List (View E) → ℕ → ℕ → Type 0
  Holder has views at number = (v : View E) × (get_elem? views at ≡ some v) × (v.live ≡ true) × (v.main ≡ true) × (has v ≡ true) × (v.number ≡ number)

  abbrev pub has_volume : View E → Bool
  has_volume v = v.volume

  abbrev pub has_log : View E → Bool
  has_log v = v.log

  module _ {V L : Type 0} (client : E → ℕ) (of_volume : Standing V E) (of_log : Standing L E) where
    -- the value in its slot stands for the list, the counts and the syncpoints
    abbrev pub VolumeHome : Now E → List (Option (Held V L)) → Type 0
    VolumeHome n homes = (x : V) × (told : ℕ) × (known : ℕ) × (get_elem? homes 0 ≡ some (some (Volume x))) × of_volume x n.base n.list n.taken told n.points known × (told ≤ n.durable) × (known ≤ n.stable)

    abbrev pub LogHome : Now E → List (Option (Held V L)) → Type 0
    LogHome n homes = (y : L) × (get_elem? homes 1 ≡ some (some (Log y))) × of_log y n.base n.log_list n.taken n.durable n.log_points n.stable

    -- a turn that is free has its value in its slot, and one that isn't has a live holder
    pub record Parts (n : Now E) (homes : List (Option (Held V L))) (views : List (View E)) : Type 0 where
      pub ordered : IsOrdered client n
      pub two : length homes ≡ 2
      pub each : (j : ℕ) (v : View E) → get_elem? views j ≡ some v → v.live ≡ true → Fits client n j v
      pub volume_home : n.volume_turn ≡ 0 → VolumeHome n homes
      pub log_home : n.log_turn ≡ 0 → LogHome n homes
      pub volume_held : n.volume_turn ≢ 0 → Holder has_volume views n.volume_seat n.volume_turn
      pub log_held : n.log_turn ≢ 0 → Holder has_log views n.log_seat n.log_turn

    abbrev pub Ruled : State (Held V L) (View E) → Type 0
    Ruled s = (n : Now E) × (s.words ≡ words_of n) × Parts n s.homes s.views

    -- before there is a base: the first seat alone, without and then with both slots in hand
    abbrev pub Unborn : State (Held V L) (View E) → Type 0
    Unborn s = (s.words ≡ 0 ∷ 0 ∷ 0 ∷ 0 ∷ 0 ∷ 0 ∷ []) × (((s.views ≡ unborn ∷ []) × (s.homes ≡ some Nothing ∷ some Nothing ∷ [])) ⊎ ((s.views ≡ ready ∷ []) × (length s.homes ≡ 2)))

    abbrev pub IsKept : State (Held V L) (View E) → Type 0
    IsKept s = Ruled s ⊎ Unborn s
