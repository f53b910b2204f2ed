-- What a commit tells.
use Rattle.std.specs.Prelude.{◌≡◌, ◌<◌, ◌≤◌, ◌⊎◌, ℕ, List, length, Option, Some}
use Rattle.jfs_disk.specs.declared.disk.Fault.{Fault}
use Rattle.jfs_turns.specs.Lists.{IsPrefix, HasOwn}
use Rattle.jfs_turns.specs.Standing.{Standing}
use Rattle.jfs_turns.specs.declared.view.View.{View}
use Rattle.jfs_groups.specs.declared.committed.Committed.{Committed}
use Rattle.jfs_groups.specs.declared.committed.Committed.TheVariants.{Durable, Failed}

-- What a pass knows goes on: its list with no entry of its own client, its syncpoints, and its bounds, which don't fall. The pass and its base are the same, and so is what it knows of other passes.
pub record GoesOn {E : Type 0} (client : E → ℕ) (v w : View E) : Type 0 where
  pub number : w.number ≡ v.number
  pub base : w.base ≡ v.base
  pub passes : (w.dealt ≡ v.dealt) × (w.back ≡ v.back) × (w.returned ≡ v.returned)
  pub list : HasOwn client v.number v.list w.list
  pub points : IsPrefix v.points w.points
  pub durable : v.durable ≤ w.durable
  pub stable : v.stable ≤ w.stable

module _ {L E : Type 0} (of_log : Standing L E) (halted : L → Option Fault) where
  -- A log side that stands for the pass's base has halted by this fault. As many entries are durable as the pass knows, and n is past them.
  pub record HasFailed (n : ℕ) (w : View E) (fault : Fault) : Type 0 where
    pub log : L
    pub list : List E
    pub taken : ℕ
    pub points : List ℕ
    pub stable : ℕ
    pub stands : of_log log w.base list taken w.durable points stable
    pub halts : halted log ≡ Some fault
    pub past : w.durable < n

  -- the same of a leader: all that the pass knows is durable
  abbrev pub IsLed : ℕ → View E → Committed → Type 0
  IsLed n w Durable = (n ≤ w.durable) × (length w.list ≤ w.durable)
  IsLed n w (Failed fault) = HasFailed n w fault

  -- n entries are durable at least; and so are all that the pass knows, unless it has learned of none. Or the log has failed.
  abbrev pub IsCommitted : ℕ → View E → View E → Committed → Type 0
  IsCommitted n v w Durable = (n ≤ w.durable) × ((w.list ≡ v.list) ⊎ (length w.list ≤ w.durable))
  IsCommitted n v w (Failed fault) = HasFailed n w fault
