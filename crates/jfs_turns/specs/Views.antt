-- The views of seats: what a seat knows, and which rights it has.
use Rattle.std.specs.Prelude.{◌≡◌, ℕ, ◌+◌, List, [], ◌∷◌, length, max, true, false}
use Rattle.atomic_table.specs.Table.{Me}
use Rattle.jfs_turns.specs.Lists.{Base}
use Rattle.jfs_turns.specs.declared.view.View.{View}
use Rattle.jfs_turns.specs.declared.view.Held.{Held}
use Rattle.jfs_turns.specs.declared.view.Held.TheVariants.{Nothing}

-- a seat: its view, and the slots that it has in hand
abbrev pub Seated : Type 0 → Type 0 → Type 0 → Type 0
Seated V L E = Me (Held V L) (View E)

-- the slot k in hand, before those that were in hand
abbrev pub carried : {V L : Type 0} → ℕ → Held V L → List (ℕ × Held V L) → List (ℕ × Held V L)
carried k x more = (k, x) ∷ more

module _ {E : Type 0} where
  -- a spent seat's view
  abbrev pub blank : View E
  blank = record { live = false; main = false; keeper = false; appends = false; volume = false; log = false; number = 0; dealt = 0; back = 0; taken = 0; durable = 0; stable = 0; log_durable = 0; log_stable = 0; base = []; list = []; log_list = []; points = []; log_points = []; returned = [] }

  -- the first seat, before there is a base, and once it has both slots
  abbrev pub unborn : View E
  unborn = record blank { live = true; keeper = true; volume = true }

  abbrev pub ready : View E
  ready = record blank { live = true; keeper = true; volume = true; taken = 1 }

  -- the keeper's view, with so many passes dealt, of `total`
  abbrev pub kept : Base → ℕ → ℕ → View E
  kept base total n = record blank { live = true; keeper = true; base = base; back = total; dealt = n }

  -- the keeper's view at the start
  abbrev pub keeping : Base → ℕ → View E
  keeping base total = record blank { live = true; keeper = true; base = base; back = total }

  -- the seat that deals the passes
  abbrev pub IsKeeper : View E → Type 0
  IsKeeper v = (v.live ≡ true) × (v.keeper ≡ true) × (v.main ≡ false) × (v.appends ≡ false) × (v.volume ≡ false) × (v.log ≡ false)

  abbrev pub dealt_one : View E → View E
  dealt_one v = record v { dealt = v.dealt + 1 }

  -- the next pass's seat, as the keeper deals it
  abbrev pub fresh_pass : View E → View E
  fresh_pass v = record blank { live = true; main = true; number = v.dealt + 1; dealt = v.back; base = v.base }

  -- the last pass's view once another pass is back
  abbrev pub took_back : View E → View E → View E
  took_back v w = record v { back = v.back + 1; returned = w.list ∷ v.returned; durable = max v.durable w.durable; stable = max v.stable w.stable }

  -- a pass's own seat, with neither turn
  abbrev pub IsFree : View E → Type 0
  IsFree v = (v.live ≡ true) × (v.main ≡ true) × (v.keeper ≡ false) × (v.appends ≡ false) × (v.volume ≡ false) × (v.log ≡ false)

  -- a seat with the right to append
  abbrev pub MayAppend : View E → Type 0
  MayAppend v = (v.live ≡ true) × (v.keeper ≡ false) × (v.appends ≡ true)

  -- a pass's own seat, with the log turn
  abbrev pub HasLogTurn : View E → Type 0
  HasLogTurn v = (v.live ≡ true) × (v.main ≡ true) × (v.keeper ≡ false) × (v.log ≡ true)

  -- while both turns are held: the volume half, which has the right to append, and the log half, which is the pass's own
  abbrev pub aside : View E → View E
  aside v = record v { main = false; keeper = false; volume = false; log = false }

  abbrev pub without : View E → View E
  without v = record v { appends = false }

  -- the log half takes in the volume half: its list, and the greater bounds
  abbrev pub rejoined : View E → View E → View E
  rejoined v w = record v { appends = true; list = w.list; durable = max w.durable v.log_durable; stable = max w.stable v.log_stable }

  -- all entries are taken into groups, and the log side's list is the whole list
  abbrev pub took_all : View E → View E
  took_all v = record v { taken = length v.list; log_list = v.list }

  -- both sides have these syncpoints, k of them stable
  abbrev pub got_points : List ℕ → ℕ → View E → View E
  got_points ps k v = record v { points = ps; log_points = ps; stable = max v.stable k; log_stable = max v.log_stable k }

module _ {V L E : Type 0} where
  -- a pass's seat that may take the volume turn
  abbrev pub IsIdle : Seated V L E → Type 0
  IsIdle m = (m.0.live ≡ true) × (m.0.main ≡ true) × (m.0.volume ≡ false) × (m.0.appends ≡ false)

  -- the volume turn, with its pass, which has not the log turn
  abbrev pub IsLoneVolume : Seated V L E → Type 0
  IsLoneVolume m = (m.0.main ≡ true) × (m.0.volume ≡ true) × (m.0.log ≡ false) × (m.1 ≡ carried 0 Nothing [])

  -- the log turn, with its pass, which has not the volume turn
  abbrev pub IsLoneLog : Seated V L E → Type 0
  IsLoneLog m = (m.0.appends ≡ false) × (m.0.volume ≡ false) × (m.1 ≡ carried 1 Nothing [])

  -- the volume half and the log half of both turns
  abbrev pub AreBoth : Seated V L E → Seated V L E → Type 0
  AreBoth a m = MayAppend a.0 × (a.0.main ≡ false) × (a.0.volume ≡ false) × (a.0.log ≡ false) × (a.1 ≡ [])
      × HasLogTurn m.0 × (m.0.volume ≡ true) × (m.0.appends ≡ false) × (a.0.number ≡ m.0.number)

  -- the log half has both slots
  abbrev pub IsBothLog : Seated V L E → Type 0
  IsBothLog m = m.1 ≡ carried 0 Nothing (carried 1 Nothing [])
