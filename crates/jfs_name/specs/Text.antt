-- Paths as text: a slash before each name, or a slash alone. (POSIX: absolute pathname, path resolution.)
use Rattle.std.specs.Prelude.{◌≡◌, ◌⊎◌, ◌<◌, ◌≤◌, ◌+◌, ◌-◌, ◌*◌, ℕ, Bool, nat_le, ◌&&◌, ◌==◌, not, IsTrue, if◌then◌else◌, List, [], ◌∷◌, ◌++◌, length, take, slice_get, Option, Some, None}
use Rattle.jfs_name.specs.Name.{IsUnit, IsNoDot, IsName}

-- the greatest number of bytes of a path
abbrev pub longest : ℕ
longest = 4095

-- a printed byte that stands for itself: neither a space nor `%` nor a slash
abbrev pub is_plain : ℕ → Bool
is_plain byte = nat_le 33 byte && nat_le byte 126 && not (byte == 37) && not (byte == 47)

-- the value of a hexadecimal digit, of either case
abbrev pub digit_of : ℕ → Option ℕ
digit_of byte =
    if nat_le 48 byte && nat_le byte 57 then Some (byte - 48) else
    if nat_le 65 byte && nat_le byte 70 then Some (byte - 55) else
    if nat_le 97 byte && nat_le byte 102 then Some (byte - 87) else None

-- the digit at a place of a text
abbrev pub digit_in : Option ℕ → Option ℕ
digit_in None = None
digit_in (Some byte) = digit_of byte

abbrev pub digit_at : List ℕ → ℕ → Option ℕ
digit_at text place = digit_in (slice_get text place)

-- the number that four digits spell
abbrev pub hex : ℕ → ℕ → ℕ → ℕ → ℕ
hex a b c d = ((a * 16 + b) * 16 + c) * 16 + d

-- A unit stands at a place, up to an end: a plain byte, or `%u` and four digits.
pub data UnitAt (text : List ℕ) (place unit end : ℕ) : Type 0 where
  plain : slice_get text place ≡ Some unit → IsTrue (is_plain unit) → end ≡ place + 1 → UnitAt text place unit end
  escaped : slice_get text place ≡ Some 37 → slice_get text (place + 1) ≡ Some 117
      → (a b c d : ℕ) → digit_at text (place + 2) ≡ Some a → digit_at text (place + 3) ≡ Some b → digit_at text (place + 4) ≡ Some c → digit_at text (place + 5) ≡ Some d
      → unit ≡ hex a b c d → IsUnit unit → end ≡ place + 6 → UnitAt text place unit end

-- No unit stands at a place, since the text breaks there or within an escape begun there: at a byte that isn't the escape's next,
-- or at the last digit of one that isn't a unit.
pub data UnitBreaks (text : List ℕ) (place broken : ℕ) : Type 0 where
  no_byte : slice_get text place ≡ None → broken ≡ place → UnitBreaks text place broken
  no_plain : (byte : ℕ) → slice_get text place ≡ Some byte → (byte ≡ 37 → ⊥) → (IsTrue (is_plain byte) → ⊥) → broken ≡ place → UnitBreaks text place broken
  no_u : slice_get text place ≡ Some 37 → (slice_get text (place + 1) ≡ Some 117 → ⊥) → broken ≡ place + 1 → UnitBreaks text place broken
  no_digit : slice_get text place ≡ Some 37 → slice_get text (place + 1) ≡ Some 117
      → (k : ℕ) → k < 4 → ((i : ℕ) → i < k → digit_at text (place + 2 + i) ≡ None → ⊥) → digit_at text (place + 2 + k) ≡ None → broken ≡ place + 2 + k → UnitBreaks text place broken
  not_a_unit : slice_get text place ≡ Some 37 → slice_get text (place + 1) ≡ Some 117
      → (a b c d : ℕ) → digit_at text (place + 2) ≡ Some a → digit_at text (place + 3) ≡ Some b → digit_at text (place + 4) ≡ Some c → digit_at text (place + 5) ≡ Some d
      → (IsUnit (hex a b c d) → ⊥) → broken ≡ place + 5 → UnitBreaks text place broken

-- the units of a name from its first place on up to a place
pub data UnitsTo (text : List ℕ) (first : ℕ) : ℕ → List ℕ → Type 0 where
  no_units : UnitsTo text first first []
  one_unit_more : (from place unit : ℕ) → (units : List ℕ) → UnitsTo text first from units → length units < 255 → UnitAt text from unit place → UnitsTo text first place (units ++ unit ∷ [])

-- a name ends at a slash or at the text's end
abbrev pub EndsAt : List ℕ → ℕ → Type 0
EndsAt text place = (slice_get text place ≡ None) ⊎ (slice_get text place ≡ Some 47)

-- the names of a path up to a place: before each stands a slash
pub data NamesTo (text : List ℕ) : ℕ → List (List ℕ) → Type 0 where
  no_names : NamesTo text 0 []
  one_name_more : (slash place : ℕ) → (names : List (List ℕ)) → (units : List ℕ) → NamesTo text slash names → slice_get text slash ≡ Some 47 → UnitsTo text (slash + 1) place units → EndsAt text place → IsName units → NamesTo text place (names ++ units ∷ [])

-- a text spells a path
pub data Spells (text : List ℕ) (names : List (List ℕ)) : Type 0 where
  root : text ≡ 47 ∷ [] → names ≡ [] → Spells text names
  path : NamesTo text (length text) names → (names ≡ [] → ⊥) → Spells text names

-- a name begins at a place, behind these names and a slash; the text isn't the root's
pub record IsBegun (text : List ℕ) (first : ℕ) : Type 0 where
  pub slash : ℕ
  pub names : List (List ℕ)
  pub before : NamesTo text slash names
  pub begins : slice_get text slash ≡ Some 47
  pub first_is : first ≡ slash + 1
  pub not_root : text ≡ 47 ∷ [] → ⊥

-- a name is open that began at `first`, with these units up to a place
pub record IsOpen (text : List ℕ) (first place : ℕ) (units : List ℕ) : Type 0 where
  pub begun : IsBegun text first
  pub goes_on : UnitsTo text first place units

-- where a text leaves the spelling of paths
pub data Breaks (text : List ℕ) (broken : ℕ) : Type 0 where
  -- it doesn't begin with a slash
  no_slash : (slice_get text 0 ≡ Some 47 → ⊥) → broken ≡ 0 → Breaks text broken
  -- a name goes on with no unit, or ends without one
  unit_breaks : (first place : ℕ) → (units : List ℕ) → IsOpen text first place units → UnitBreaks text place broken → ((units ≡ [] → ⊥) → EndsAt text place → ⊥) → Breaks text broken
  -- a name ends that is `.` or `..`
  dots : (first place : ℕ) → (units : List ℕ) → IsOpen text first place units → EndsAt text place → (IsNoDot units → ⊥) → broken ≡ place → Breaks text broken

-- a 256th unit of a name stands at a place
pub record HasTooMany (text : List ℕ) (place : ℕ) : Type 0 where
  pub first : ℕ
  pub units : List ℕ
  pub opened : IsOpen text first place units
  pub full : length units ≡ 255
  pub unit : ℕ
  pub end : ℕ
  pub is : UnitAt text place unit end

-- ---- with the greatest number of bytes

abbrev pub IsPath : List ℕ → List (List ℕ) → Type 0
IsPath text names = (length text ≤ longest) × Spells text names

-- a text that is too long breaks behind the greatest number of bytes, where it doesn't break among these
abbrev pub BreaksAt : List ℕ → ℕ → Type 0
BreaksAt text broken =
    Breaks (take longest text) broken ⊎ ((longest < length text) × (broken ≡ longest) × (names : List (List ℕ)) × Spells (take longest text) names)

abbrev pub IsTooLongAt : List ℕ → ℕ → Type 0
IsTooLongAt text place = HasTooMany (take longest text) place
