-- What a reading of the log answers.
use Rattle.std.specs.Prelude.{◌≡◌, ◌<◌, ◌≤◌, ◌⊎◌, ℕ, ⊤, Bool, true, false, List, ◌∷◌, length, map, reverse, Option, Some, None, IfSome, Result, Ok, Err}
use Rattle.jfs_bits.specs.declared.rule.Rule.{Rule}
use Rattle.jfs_bits.specs.declared.rule.Rule.TheVariants as rules
use Rattle.jfs_logpages.specs.Back.{SyncAt, Met, HasRead, Gives, GivesSome, IsGiven, KeepsChain, KeepsSync, newest, first_of, address_at}
use Rattle.jfs_logfmt.specs.declared.log_record.Record.{Record}
use Rattle.jfs_logpages.specs.declared.error.RingError.{RingError}
use Rattle.jfs_logpages.specs.declared.error.RingError.TheVariants as errors
use Rattle.jfs_bits.specs.Count.{Rose}
use Rattle.jfs_disk.specs.declared.disk.Part.TheVariants.{Whole}
use Rattle.jfs_logpages.specs.declared.point.Point.{Point}

-- a broken rule and its address, or want of memory
abbrev pub IsBadLog : (ℕ → Rule → Type 0) → RingError → Type 0
IsBadLog P (errors.BadLog address rule) = P address rule
IsBadLog P errors.Memory = ⊤
IsBadLog P (errors.Read fault) = ⊥
IsBadLog P (errors.ForeignLog label) = ⊥

-- a broken rule and its address, or want of memory, or a fault
abbrev pub IsBadLogOrFault : (ℕ → Rule → Type 0) → RingError → Type 0
IsBadLogOrFault P (errors.BadLog address rule) = P address rule
IsBadLogOrFault P errors.Memory = ⊤
IsBadLogOrFault P (errors.Read fault) = ⊤
IsBadLogOrFault P (errors.ForeignLog label) = ⊥

-- nothing is told of the log
abbrev pub TellsNothing : RingError → Type 0
TellsNothing errors.Memory = ⊤
TellsNothing (errors.Read fault) = ⊤
TellsNothing (errors.BadLog address rule) = ⊥
TellsNothing (errors.ForeignLog label) = ⊥

-- the log is refused
abbrev pub IsRefusal : RingError → Type 0
IsRefusal errors.Memory = ⊥
IsRefusal (errors.Read fault) = ⊥
IsRefusal (errors.BadLog address rule) = ⊤
IsRefusal (errors.ForeignLog label) = ⊤

-- `Read` comes only where the disk's count rose, and carries it
abbrev pub IsReadFault : ℕ → ℕ → RingError → Type 0
IsReadFault before now (errors.Read fault) = Rose before now × (fault ≡ record { part = Whole; count = now })
IsReadFault before now _ = ⊤

-- ---- for the prover: the newest SYNCPT as the code keeps it

abbrev pub IsPlaceOf : ℕ → ℕ → ℕ → SyncAt → Option ℕ → Type 0
IsPlaceOf ring first size p None = (place : ℕ) → Gives ring first size p place → ⊥
IsPlaceOf ring first size p (Some place) = Gives ring first size p place

abbrev pub IsPointOf : ℕ → ℕ → ℕ → Option SyncAt → Option Point → Type 0
IsPointOf ring first size None None = ⊤
IsPointOf ring first size (Some p) (Some q) = (q.end ≡ p.end) × IsPlaceOf ring first size p q.place
IsPointOf ring first size None (Some q) = ⊥
IsPointOf ring first size (Some p) None = ⊥

-- a record that was met breaks `chain`, or `sync` behind it
abbrev pub IsBroken : ℕ → ℕ → ℕ → Met → List Met → ℕ → Rule → Type 0
IsBroken ring first size m ms address rule =
    ((rule ≡ rules.Chain) × (address ≡ address_at ring first m.end) × (KeepsChain ring first size m ms → ⊥))
    ⊎ ((rule ≡ rules.Sync) × KeepsChain ring first size m ms × (KeepsSync ring first size m ms → ⊥) × ((p : SyncAt) × (newest (m ∷ ms) ≡ Some p) × (address ≡ address_at ring first p.end)))

-- redo begins at a record, or before it, or the record breaks a rule
abbrev pub IsJudged : ℕ → ℕ → ℕ → Met → List Met → Result Bool RingError → Type 0
IsJudged ring first size m ms (Ok true) = KeepsChain ring first size m ms × IsGiven ring first size (newest (m ∷ ms)) m.end
IsJudged ring first size m ms (Ok false) = KeepsChain ring first size m ms × GivesSome ring first size (newest (m ∷ ms)) (λ place. place ≤ m.start)
IsJudged ring first size m ms (Err error) = IsBadLog (IsBroken ring first size m ms) error

-- what the loop knows: records were met, the one that stands first behind the bytes that are left, the newest SYNCPT, and where each record ends
pub record IsReading (ring first blocks : ℕ) (text : List ℕ) (left : ℕ) (next : Option Record) (point : Option Point) (ends : List ℕ) : Type 0 where
  pub ms : List Met
  pub read : HasRead ring first blocks text ms left
  pub behind : next ≡ first_of ms
  pub newer : IsPointOf ring first (length text) (newest ms) point
  pub places : map (λ m. m.end) ms ≡ reverse ends
  pub within : left ≤ length text
  pub point_within : IfSome point (λ p. (0 < p.end) × (p.end ≤ length text))
