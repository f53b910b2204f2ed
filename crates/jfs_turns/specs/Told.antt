-- What each step tells: the seat before, what the step found, and the seat after.
use Rattle.std.specs.Prelude.{◌≡◌, ◌≢◌, ℕ, ◌≤◌, List, [], ◌∷◌, ◌++◌, length, max, true, false}
use Rattle.atomic_table.specs.Table.{rest}
use Rattle.jfs_turns.specs.Lists.{Base, IsPrefix, HasOwn}
use Rattle.jfs_turns.specs.Views.{Seated, carried, ready, keeping}
use Rattle.jfs_turns.specs.Standing.{Standing, VolumeStands, LogStands}
use Rattle.jfs_turns.specs.declared.view.View.{View}
use Rattle.jfs_turns.specs.declared.view.Held.TheVariants.{Volume, Log, Nothing}

module _ {E : Type 0} where
  -- told ≤ durable ≤ taken ≤ all holds of the counts of either side
  abbrev pub IsInOrder : View E → Type 0
  IsInOrder v = (v.durable ≤ v.taken) × (v.taken ≤ length v.list) × (v.stable ≤ length v.points)

  abbrev pub IsLogInOrder : View E → Type 0
  IsLogInOrder v = (v.log_durable ≤ v.taken) × (v.log_durable ≤ length v.log_list) × (v.log_stable ≤ length v.log_points)

module _ {V L E : Type 0} where
  -- who has the log turn too learns that both sides agree: one number of taken entries, the counts of the log side, its list of
  -- entries as a prefix, and one list of syncpoints
  abbrev pub LearnedBoth : Seated V L E → Seated V L E → Type 0
  LearnedBoth m m' = (m'.0.taken ≡ m.0.taken) × (m'.0.durable ≡ m.0.log_durable) × (m'.0.stable ≡ m.0.log_stable) × IsPrefix m.0.log_list m'.0.list × (m.0.log_points ≡ m'.0.points)

  -- what the taker of the volume turn learns: the whole list and all syncpoints, which go on those that it knew, the list with no
  -- entry of its own; how many entries are taken; bounds of words 3 and 5
  abbrev pub Learned : (E → ℕ) → Seated V L E → Seated V L E → Type 0
  Learned client m m' = (m'.0 ≡ record m.0 { volume = true; appends = true; list = m'.0.list; taken = m'.0.taken; points = m'.0.points; durable = m'.0.durable; stable = m'.0.stable })
      × HasOwn client m.0.number m.0.list m'.0.list × IsPrefix m.0.points m'.0.points × (m.0.durable ≤ m'.0.durable) × (m.0.stable ≤ m'.0.stable)
      × IsInOrder m'.0 × (m.0.log ≡ true → LearnedBoth m m')

  abbrev pub TookVolume : (E → ℕ) → Standing V E → Seated V L E → Seated V L E → Type 0
  TookVolume client of_volume m m' = (x : V) × (m'.1 ≡ carried 0 (Volume x) m.1) × VolumeStands of_volume x m'.0 × Learned client m m'

  abbrev pub took_volume : (E → ℕ) → Standing V E → Seated V L E → ℕ → Seated V L E → Type 0
  took_volume client of_volume m r m' = (r ≡ 0 → TookVolume client of_volume m m') × (r ≢ 0 → m' ≡ m)

  -- the list gains an entry of which `fits` holds
  abbrev pub appended : (E → Type 0) → Seated V L E → Seated V L E → Type 0
  appended fits m m' = (m'.1 ≡ m.1) × ((e : E) × fits e × (m'.0 ≡ record m.0 { list = m.0.list ++ e ∷ [] }))

  abbrev pub gave_volume : Seated V L E → Seated V L E → Type 0
  gave_volume m m' = m' ≡ (record m.0 { volume = false; appends = false }, rest m.1)

  -- r, which bounds word 3 from below, is at least the bound that was known, and who may append has at least r entries taken
  abbrev pub saw_durable : Seated V L E → ℕ → Seated V L E → Type 0
  saw_durable m r m' = (m' ≡ (record m.0 { durable = r }, m.1)) × (m.0.durable ≤ r) × (m.0.appends ≡ true → r ≤ m.0.taken)

  -- what the taker of the log turn learns: the log side's lists and counts, and that its counts are words 3 and 5
  abbrev pub LearnedLog : Seated V L E → Seated V L E → Type 0
  LearnedLog m m' = (m'.0 ≡ record m.0 { log = true; taken = m'.0.taken; durable = m'.0.log_durable; stable = m'.0.log_stable; log_durable = m'.0.log_durable; log_stable = m'.0.log_stable; log_list = m'.0.log_list; log_points = m'.0.log_points })
      × (m.0.durable ≤ m'.0.log_durable) × (m.0.stable ≤ m'.0.log_stable) × IsLogInOrder m'.0

  abbrev pub TookLog : Standing L E → Seated V L E → Seated V L E → Type 0
  TookLog of_log m m' = (y : L) × (m'.1 ≡ carried 1 (Log y) m.1) × LogStands of_log y m'.0 × LearnedLog m m'

  abbrev pub took_log : Standing L E → Seated V L E → ℕ → Seated V L E → Type 0
  took_log of_log m r m' = (r ≡ 0 → TookLog of_log m m') × (r ≢ 0 → m' ≡ m)

  -- the durable count is k, or more where it was
  abbrev pub raised : ℕ → Seated V L E → Seated V L E → Type 0
  raised k m m' = m' ≡ (record m.0 { durable = max m.0.durable k; log_durable = max m.0.log_durable k }, m.1)

  abbrev pub gave_log : Seated V L E → Seated V L E → Type 0
  gave_log m m' = m' ≡ (record m.0 { log = false }, rest m.1)

  abbrev pub marked_taken : Seated V L E → Seated V L E → Type 0
  marked_taken m m' = m' ≡ (record m.0 { taken = length m.0.list; log_list = m.0.list }, m.1)

  -- the syncpoints are k, go on those that were known, and `fits` holds of them
  abbrev pub marked_points : (List ℕ → Type 0) → ℕ → Seated V L E → Seated V L E → Type 0
  marked_points fits k m m' = (m'.1 ≡ m.1) × ((ps : List ℕ) × fits ps × IsPrefix m.0.points ps × (length ps ≡ k) × (m'.0 ≡ record m.0 { points = ps; log_points = ps }))

  abbrev pub marked_stable : ℕ → Seated V L E → Seated V L E → Type 0
  marked_stable k m m' = m' ≡ (record m.0 { stable = max m.0.stable k; log_stable = max m.0.log_stable k }, m.1)

  -- the first seat takes both slots
  abbrev pub took_both : Seated V L E → Type 0
  took_both m = m ≡ (ready, carried 0 Nothing (carried 1 Nothing []))

  -- it gives both values, and is the keeper
  abbrev pub opened : Base → ℕ → Seated V L E → Type 0
  opened base total m = m ≡ (keeping base total, [])
