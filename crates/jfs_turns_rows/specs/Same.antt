-- What stays of a pass through every call, and passes in the hands of threads.
use Rattle.std.specs.Prelude.{◌≡◌, ℕ, ◌+◌, List, [], Some, Option}
use mathlib.Core.Option.{some}
use lib.ListN.{get_elem?}
use Rattle.atomic_table.specs.Seated.{TableId}
use Rattle.jfs_turns.specs.declared.turns.Pass.{Pass}

module _ {V L E : Type 0} where
  -- it is of the same turns and client, and counts for the same passes
  abbrev pub IsSamePass : Pass V L E → Pass V L E → Type 0
  IsSamePass p q = (q.seat.table_id ≡ p.seat.table_id) × (q.client ≡ p.client) × (q.seat.me.0.dealt ≡ p.seat.me.0.dealt) × (q.seat.me.0.back ≡ p.seat.me.0.back) × (q.seat.me.0.returned ≡ p.seat.me.0.returned)

  -- a pass of these turns, of which there are `total`
  abbrev pub IsOneOf : TableId → ℕ → Pass V L E → Type 0
  IsOneOf z total p = (p.seat.table_id ≡ z) × (p.seat.me.0.dealt ≡ total) × (p.seat.me.0.back ≡ 0) × (p.seat.me.0.returned ≡ [])

  -- each caller has a pass, the last pass first
  abbrev pub AreCallers : TableId → ℕ → List (Option (Pass V L E)) → Type 0
  AreCallers z total cs = (i : ℕ) (c : Option (Pass V L E)) → get_elem? cs i ≡ some c → (p : Pass V L E) × (c ≡ Some p) × IsOneOf z total p × (p.client + i ≡ total)

  -- the caller still has its pass
  abbrev pub KeepsPass : Option (Pass V L E) → Option (Pass V L E) → Type 0
  KeepsPass c d = (p : Pass V L E) → c ≡ Some p → (q : Pass V L E) × (d ≡ Some q) × IsSamePass p q
