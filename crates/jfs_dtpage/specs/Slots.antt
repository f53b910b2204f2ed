-- Chains of slots. (JFS Layout, dtree: a slot names the next one, and -1 ends the chain.)
use Rattle.std.specs.Prelude.{◌≡◌, ◌⊎◌, ◌≤◌, ℕ, zero, suc, ◌+◌, ◌-◌, ◌*◌, ◌/◌, min, ◌==◌, if◌then◌else◌, List, [], ◌∷◌, ◌++◌, length}
use Rattle.std.specs.List.{AllByRecursion}
use Rattle.jfs_bits.specs.Field.{field_of}

-- what ends a chain
abbrev pub chain_end : ℕ
chain_end = 255

-- the slot behind a free slot or a name's further slot
abbrev pub next_of : List ℕ → ℕ → ℕ
next_of bytes slot = field_of bytes (32 * slot) 1

-- the first slots of the chain that begins with a slot
unfoldable pub follow : List ℕ → ℕ → ℕ → List ℕ
follow bytes slot zero = []
follow bytes slot (suc n) = slot ∷ follow bytes (next_of bytes slot) n

-- what is named behind so many slots
unfoldable pub behind : List ℕ → ℕ → ℕ → ℕ
behind bytes slot zero = slot
behind bytes slot (suc n) = behind bytes (next_of bytes slot) n

-- units that stand one after another
unfoldable pub units_at : List ℕ → ℕ → ℕ → List ℕ
units_at bytes at zero = []
units_at bytes at (suc n) = field_of bytes at 2 ∷ units_at bytes (at + 2) n

-- numbers of slots that do
unfoldable pub slots_at : List ℕ → ℕ → ℕ → List ℕ
slots_at bytes at zero = []
slots_at bytes at (suc n) = field_of bytes at 1 ∷ slots_at bytes (at + 1) n

-- how many slots hold so many units, with 15 in each
abbrev pub slots_for : ℕ → ℕ
slots_for units = (units + 14) / 15

-- the last units of a name, gathered along a chain of so many slots
unfoldable pub gather : List ℕ → ℕ → ℕ → ℕ → List ℕ
gather bytes slot zero units = []
gather bytes slot (suc n) units = units_at bytes (32 * slot + 2) (min units 15) ++ gather bytes (next_of bytes slot) n (units - 15)

-- how often a slot stands in a list
abbrev pub times : ℕ → List ℕ → ℕ
times slot [] = 0
times slot (other ∷ slots) = (if other == slot then 1 else 0) + times slot slots

-- ---- what stays where a page changes

-- each slot is one of the page
abbrev pub AreWithin : List ℕ → List ℕ → Type 0
AreWithin bytes slots = AllByRecursion (λ slot. 32 * slot + 32 ≤ length bytes) slots

-- fields outside of `size` bytes from `at` on are as they were
abbrev pub Kept : ℕ → ℕ → List ℕ → List ℕ → Type 0
Kept at size old new = (from width : ℕ) → (from + width ≤ at) ⊎ (at + size ≤ from) → field_of new from width ≡ field_of old from width

-- a slot is as it was
abbrev pub SameSlot : List ℕ → List ℕ → ℕ → Type 0
SameSlot old new slot = (from width : ℕ) → from + width ≤ 32 → field_of new (32 * slot + from) width ≡ field_of old (32 * slot + from) width

-- all slots but these are
abbrev pub KeptBut : List ℕ → List ℕ → List ℕ → Type 0
KeptBut slots old new = (slot : ℕ) → times slot slots ≡ 0 → SameSlot old new slot
