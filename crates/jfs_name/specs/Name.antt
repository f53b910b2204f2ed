-- A name in a directory. (JFS White Paper, directory organization: a name is a list of 16-bit units; POSIX: no zero, no slash, and `.` and `..` aren't entries.)
use Rattle.std.specs.Prelude.{◌≡◌, ◌<◌, ◌≤◌, ◌^◌, ℕ, List, [], ◌∷◌, length, slice_index}

-- what may stand in a name
pub record IsUnit (unit : ℕ) : Type 0 where
  pub fits : unit < 2 ^ 16
  pub not_zero : unit ≡ 0 → ⊥
  pub not_slash : unit ≡ 47 → ⊥

abbrev pub AreUnits : List ℕ → Type 0
AreUnits units = (i : ℕ) → i < length units → IsUnit (slice_index units i)

-- not `.` and not `..`
pub record IsNoDot (units : List ℕ) : Type 0 where
  pub one : units ≡ 46 ∷ [] → ⊥
  pub two : units ≡ 46 ∷ 46 ∷ [] → ⊥

-- 1 to 255 units
pub record IsName (units : List ℕ) : Type 0 where
  pub some : 0 < length units
  pub most : length units ≤ 255
  pub each : AreUnits units
  pub no_dot : IsNoDot units
