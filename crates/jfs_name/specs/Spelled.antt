-- How names are written.
use Rattle.std.specs.Prelude.{ℕ, ◌+◌, ◌-◌, ◌/◌, ◌%◌, nat_lt, if◌then◌else◌, List, [], ◌∷◌, ◌++◌, Option, Some, None}
use Rattle.jfs_name.specs.Text.{is_plain}

-- hexadecimal, in upper case
abbrev pub digit_byte : ℕ → ℕ
digit_byte digit = if nat_lt digit 10 then 48 + digit else 65 + (digit - 10)

abbrev pub escape : ℕ → List ℕ
escape unit = 37 ∷ 117 ∷ digit_byte (unit / 4096) ∷ digit_byte (unit / 256 % 16) ∷ digit_byte (unit / 16 % 16) ∷ digit_byte (unit % 16) ∷ []

abbrev pub plain_byte : ℕ → Option ℕ
plain_byte unit = if is_plain unit then Some unit else None

-- the plain byte where there is one
abbrev pub spelled_unit : ℕ → List ℕ
spelled_unit unit = if is_plain unit then unit ∷ [] else escape unit

unfoldable pub spelled : List ℕ → List ℕ
spelled [] = []
spelled (unit ∷ units) = spelled_unit unit ++ spelled units
