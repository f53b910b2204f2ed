-- Slots that a check of chains has met.
use Rattle.std.specs.Prelude.{◌≡◌, ◌<◌, ℕ, ◌+◌, Bool, false, if◌then◌else◌, List, get_or}
use Rattle.jfs_dtpage.specs.Slots.{times}

-- 1 where a slot is left, which no chain has met
abbrev pub left_of : List Bool → ℕ → ℕ
left_of left slot = if get_or left slot false then 1 else 0

-- these slots were left, and are met now
abbrev pub HasMet : List Bool → List Bool → List ℕ → Type 0
HasMet old new slots = (slot : ℕ) → left_of new slot + times slot slots ≡ left_of old slot

-- one of these slots isn't left, or stands there twice
abbrev pub IsTaken : List Bool → List ℕ → Type 0
IsTaken left slots = (slot : ℕ) × (left_of left slot < times slot slots)
