-- The records that a ring's text ends with, read from its end backwards as far as the address that the newest SYNCPT gives.
use Rattle.std.specs.Prelude.{◌≡◌, ◌<◌, ◌≤◌, ◌⊎◌, ℕ, ◌+◌, ◌-◌, ◌*◌, ◌/◌, ◌%◌, ◌==◌, ◌&&◌, not, ⊤, Bool, true, false, IsTrue, List, [], ◌∷◌, length, take, drop, Option, Some, None}
use Rattle.jfs_bits.specs.declared.rule.Rule.{Rule}
use Rattle.jfs_bits.specs.declared.rule.Rule.TheVariants as rules
use Rattle.jfs_logfmt.specs.declared.log_record.Record.{Record}
use Rattle.jfs_logfmt.specs.declared.log_record.Record.TheVariants as records
use Rattle.jfs_logfmt.specs.Rules.{FirstBroken, IsRecordOf}
use Rattle.jfs_logfmt.specs.Text.{Spells}

-- the address just past so many bytes of a text whose first page has number `first`: a log page, and an offset of 9 to 4,088 in it
abbrev pub address_at : ℕ → ℕ → ℕ → ℕ
address_at ring first place = 4096 * (2 + (first + (place - 1) / 4080) % ring) + (9 + (place - 1) % 4080)

-- a place in a text of so many bytes has this address
abbrev pub HasAddress : ℕ → ℕ → ℕ → ℕ → ℕ → Type 0
HasAddress ring first size address place = (0 < place) × (place ≤ size) × (address_at ring first place ≡ address)

-- a record of the text: where it begins, where it ends, and what it says
pub record Met : Type 0 where
  pub start : ℕ
  pub end : ℕ
  pub is : Record

-- what stands there is such a record, of a volume of so many blocks
pub record IsMet (blocks : ℕ) (text : List ℕ) (m : Met) : Type 0 where
  pub begins : m.start < m.end
  pub ends : m.end ≤ length text
  pub spells : Spells (drop m.start (take m.end text)) m.is
  pub kept : IsRecordOf blocks m.is

-- records one after the other, from a place to the end of the text
abbrev pub AreMet : ℕ → List ℕ → ℕ → List Met → Type 0
AreMet blocks text from [] = from ≡ length text
AreMet blocks text from (m ∷ ms) = (m.start ≡ from) × IsMet blocks text m × AreMet blocks text m.end ms

-- ---- which record may follow which

abbrev pub is_point : Record → Bool
is_point (records.SyncPt _) = true
is_point _ = false

-- a SYNCPT is of no transaction
abbrev pub tid_of : Record → ℕ
tid_of (records.Redo tid _ _ _ _ _ _ _) = tid
tid_of (records.NoRedo tid _ _ _ _ _) = tid
tid_of (records.Update tid _ _ _ _ _) = tid
tid_of (records.Commit tid _) = tid
tid_of (records.SyncPt _) = 0

-- the address of the transaction's record before this one, or 0
abbrev pub back_of : Record → ℕ
back_of (records.Redo _ back _ _ _ _ _ _) = back
back_of (records.NoRedo _ back _ _ _ _) = back
back_of (records.Update _ back _ _ _ _) = back
back_of (records.Commit _ back) = back
back_of (records.SyncPt _) = 0

-- after a COMMIT or a SYNCPT a transaction begins, or a SYNCPT stands
abbrev pub begins_anew : Record → Bool
begins_anew next = back_of next == 0

-- the same transaction goes on, and points back to this address
abbrev pub goes_on : ℕ → ℕ → Record → Bool
goes_on at tid next = not (is_point next) && (tid_of next == tid && back_of next == at)

-- whether a record may stand behind one at this address
abbrev pub may_follow : ℕ → Record → Record → Bool
may_follow at (records.Commit _ _) next = begins_anew next
may_follow at (records.SyncPt _) next = begins_anew next
may_follow at r next = goes_on at (tid_of r) next

abbrev pub is_followed : ℕ → Record → Option Record → Bool
is_followed at r None = true
is_followed at r (Some next) = may_follow at r next

-- the first of some records
abbrev pub first_of : List Met → Option Record
first_of [] = None
first_of (m ∷ ms) = Some m.is

-- each may be followed by the next one
abbrev pub AreChained : ℕ → ℕ → List Met → Type 0
AreChained ring first [] = ⊤
AreChained ring first (m ∷ ms) = IsTrue (is_followed (address_at ring first m.end) m.is (first_of ms)) × AreChained ring first ms

-- ---- where redo begins

-- a SYNCPT: where it ends, and the address that it gives
pub record SyncAt : Type 0 where
  pub end : ℕ
  pub address : ℕ

abbrev pub point_of : Met → Option SyncAt
point_of m = by m.is
  where
    by : Record → Option SyncAt
    by (records.SyncPt address) = Some (record { end = m.end; address = address })
    by _ = None

-- the newest SYNCPT is the last one in the text
abbrev pub newest_or : Option SyncAt → Option SyncAt → Option SyncAt
newest_or (Some later) earlier = Some later
newest_or None earlier = earlier

abbrev pub newest : List Met → Option SyncAt
newest [] = None
newest (m ∷ ms) = newest_or (newest ms) (point_of m)

-- the place that a SYNCPT gives: 0 is its own end, and else the place in a text of so many bytes that has the address
abbrev pub Gives : ℕ → ℕ → ℕ → SyncAt → ℕ → Type 0
Gives ring first size p place =
    ((p.address ≡ 0) × (place ≡ p.end)) ⊎ ((p.address ≡ 0 → ⊥) × HasAddress ring first size p.address place)

abbrev pub GivesSome : ℕ → ℕ → ℕ → Option SyncAt → (ℕ → Type 0) → Type 0
GivesSome ring first size None P = ⊤
GivesSome ring first size (Some p) P = (place : ℕ) × Gives ring first size p place × P place

abbrev pub IsGiven : ℕ → ℕ → ℕ → Option SyncAt → ℕ → Type 0
IsGiven ring first size None place = ⊥
IsGiven ring first size (Some p) place = Gives ring first size p place

-- ---- the reading

-- Records that were met and broke no rule; the place that the newest SYNCPT gives, where one was met, is still among the bytes that are left.
pub record HasRead (ring first blocks : ℕ) (text : List ℕ) (ms : List Met) (left : ℕ) : Type 0 where
  pub met : AreMet blocks text left ms
  pub chained : AreChained ring first ms
  pub ahead : GivesSome ring first (length text) (newest ms) (λ place. place ≤ left)

-- rule `chain` at a record: what stands behind it may, and where redo begins at it, it begins a transaction or is a SYNCPT
abbrev pub KeepsChain : ℕ → ℕ → ℕ → Met → List Met → Type 0
KeepsChain ring first size m ms =
    IsTrue (is_followed (address_at ring first m.end) m.is (first_of ms)) × (IsGiven ring first size (newest (m ∷ ms)) m.end → back_of m.is ≡ 0)

-- Rule `sync` behind a record: the newest SYNCPT gives that record's end, or a place among the bytes that are left.
-- (Reading ends at the place that is given, so no record that was met before has it.)
abbrev pub KeepsSync : ℕ → ℕ → ℕ → Met → List Met → Type 0
KeepsSync ring first size m ms = GivesSome ring first size (newest (m ∷ ms)) (λ place. (place ≡ m.end) ⊎ (place ≤ m.start))

-- the text's first broken rule, and the address where it is
pub data BreaksAt (ring first blocks : ℕ) (text : List ℕ) (address : ℕ) (rule : Rule) : Type 0 where
  -- no byte is left, and no SYNCPT was met
  no_sync : (ms : List Met) → HasRead ring first blocks text ms 0 → address ≡ 0 → rule ≡ rules.Sync → BreaksAt ring first blocks text address rule
  -- the bytes that are left end with no record
  no_record : (ms : List Met) → (left : ℕ) → HasRead ring first blocks text ms left → 0 < left → FirstBroken blocks (take left text) rule → address ≡ address_at ring first left → BreaksAt ring first blocks text address rule
  no_chain : (m : Met) → (ms : List Met) → HasRead ring first blocks text ms m.end → IsMet blocks text m → (KeepsChain ring first (length text) m ms → ⊥)
      → address ≡ address_at ring first m.end → rule ≡ rules.Chain → BreaksAt ring first blocks text address rule
  no_place : (m : Met) → (ms : List Met) → HasRead ring first blocks text ms m.end → IsMet blocks text m → KeepsChain ring first (length text) m ms → (KeepsSync ring first (length text) m ms → ⊥)
      → (p : SyncAt) → newest (m ∷ ms) ≡ Some p → address ≡ address_at ring first p.end → rule ≡ rules.Sync → BreaksAt ring first blocks text address rule

-- the records from the place on that the newest SYNCPT gives; they break no rule
pub record FromSync (ring first blocks : ℕ) (text : List ℕ) (m : Met) (ms : List Met) : Type 0 where
  pub behind : HasRead ring first blocks text ms m.end
  pub is : IsMet blocks text m
  pub chain : KeepsChain ring first (length text) m ms
  pub given : IsGiven ring first (length text) (newest (m ∷ ms)) m.end
