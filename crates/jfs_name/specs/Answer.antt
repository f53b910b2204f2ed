-- What reading a path answers: the path, or exactly where its spelling breaks, or exactly where a name gets too long. Only want of memory is free.
use Rattle.std.specs.Prelude.{⊤, ◌≤◌, ℕ, List, Result, Ok, Err, length}
use Rattle.jfs_name.specs.declared.error.PathError.{PathError}
use Rattle.jfs_name.specs.declared.error.PathError.TheVariants.{BadPath, NameTooLong, Memory}
use Rattle.jfs_name.specs.Name.{IsName}
use Rattle.jfs_name.specs.Text.{IsPath, BreaksAt, IsTooLongAt, Spells, Breaks, HasTooMany, UnitsTo, EndsAt}

abbrev pub IsAnswer : List ℕ → Result (List (List ℕ)) PathError → Type 0
IsAnswer text (Ok names) = IsPath text names
IsAnswer text (Err (BadPath place)) = BreaksAt text place
IsAnswer text (Err (NameTooLong place)) = IsTooLongAt text place
IsAnswer text (Err Memory) = ⊤

-- the same of a text that isn't too long
abbrev pub IsFrontAnswer : List ℕ → Result (List (List ℕ)) PathError → Type 0
IsFrontAnswer text (Ok names) = Spells text names
IsFrontAnswer text (Err (BadPath place)) = Breaks text place
IsFrontAnswer text (Err (NameTooLong place)) = HasTooMany text place
IsFrontAnswer text (Err Memory) = ⊤

-- of one name, with the names before it
abbrev pub IsNameAnswer : List ℕ → ℕ → Result (List ℕ × ℕ) PathError → Type 0
IsNameAnswer text first (Ok read) = UnitsTo text first read.1 read.0 × EndsAt text read.1 × IsName read.0 × (first ≤ read.1) × (read.1 ≤ length text)
IsNameAnswer text first (Err (BadPath place)) = Breaks text place
IsNameAnswer text first (Err (NameTooLong place)) = HasTooMany text place
IsNameAnswer text first (Err Memory) = ⊤
