-- All the passes of two turns, and what stands once they are back.
use Rattle.std.specs.Prelude.{◌≡◌, ℕ, suc, ◌+◌, ◌≤◌, List, [], length}
use mathlib.Core.Option.{some}
use lib.ListN.{get_elem?}
use Rattle.atomic_table.specs.Seated.{TableId}
use Rattle.jfs_turns.specs.Lists.{Base, IsPrefix, HasOwn, AreOfClients}
use Rattle.jfs_turns.specs.Standing.{Standing}
use Rattle.jfs_turns.specs.declared.turns.Pass.{Pass}

module _ {V L E : Type 0} where
  -- the passes are of the table, by rising client from 1, and as many as there are
  abbrev pub ArePasses : TableId → ℕ → List (Pass V L E) → Type 0
  ArePasses z total ps = (i : ℕ) (p : Pass V L E) → get_elem? ps i ≡ some p → (p.seat.table_id ≡ z) × (p.client ≡ i + 1) × (p.seat.me.0.dealt ≡ total) × (p.seat.me.0.back ≡ 0) × (p.seat.me.0.returned ≡ [])

  -- none has made a call, or seen an entry
  abbrev pub AreNew : Base → List (Pass V L E) → Type 0
  AreNew base ps = (i : ℕ) (p : Pass V L E) → get_elem? ps i ≡ some p → (p.calls_left ≡ 65536) × (p.seat.me.0.base ≡ base) × (p.seat.me.0.list ≡ []) × (p.seat.me.0.points ≡ [])

-- what both values stand for at the end
pub record End (E : Type 0) : Type 0 where
  pub base : Base
  pub list : List E
  pub log_list : List E
  pub points : List ℕ
  pub log_points : List ℕ
  pub taken : ℕ
  pub durable : ℕ
  pub stable : ℕ
  pub told : ℕ
  pub known : ℕ

module _ {E : Type 0} where
  -- the log side's entries are a prefix of the volume's, its syncpoints are the volume's, and told ≤ durable ≤ taken ≤ all
  abbrev pub IsInOrder : End E → Type 0
  IsInOrder end = IsPrefix end.log_list end.list × (end.log_points ≡ end.points) × (end.told ≤ end.durable) × (end.durable ≤ end.taken) × (end.durable ≤ length end.log_list) × (end.taken ≤ length end.list)
      × (end.known ≤ end.stable) × (end.stable ≤ length end.log_points)

module _ {V L E : Type 0} (client : E → ℕ) (end : End E) where
  -- the list goes on the pass's with no entry of its client, and the counts have reached its bounds
  abbrev pub GoesOn : Pass V L E → Type 0
  GoesOn p = HasOwn client p.client p.seat.me.0.list end.list × (p.seat.me.0.durable ≤ end.durable) × (p.seat.me.0.stable ≤ end.stable)

  -- the base is that of the last pass, whose syncpoints go on
  abbrev pub IsOfLast : Pass V L E → Type 0
  IsOfLast p = (p.seat.me.0.base ≡ end.base) × IsPrefix p.seat.me.0.points end.points

-- both values stand for one base, and for lists that go on those of all the passes, and each entry is of a client that has a pass
abbrev pub AtEnd : {V L E : Type 0} → (E → ℕ) → Standing V E → Standing L E → List (Pass V L E) → V → L → Type 0
AtEnd {V} {L} {E} client of_volume of_log ps x y = (end : End E) × of_volume x end.base end.list end.taken end.told end.points end.known × of_log y end.base end.log_list end.taken end.durable end.log_points end.stable × IsInOrder end
    × ((i : ℕ) (p : Pass V L E) → get_elem? ps i ≡ some p → GoesOn client end p) × ((i : ℕ) (p : Pass V L E) → get_elem? ps i ≡ some p → suc i ≡ length ps → IsOfLast client end p) × AreOfClients client (length ps) end.list
