-- Numbers in a script: digits, and nothing else.
use Rattle.std.specs.Prelude.{ℕ, ◌+◌, ◌-◌, ◌*◌, ◌^◌, Bool, ◌&&◌, ◌||◌, ◌==◌, nat_le, nat_lt, if◌then◌else◌, List, [], ◌∷◌, length, Option, Some, None, Result, Ok, Err}
use Rattle.std.specs.List.{list_all}
use Rattle.hex.specs.Hex.{decode_of, decode_sized}
use Rattle.hex.specs.declared.error.FromHexError.{FromHexError}
use Rattle.jfs_bits.specs.declared.rule.Rule.{Rule}
use Rattle.jfs_bits.specs.declared.rule.Rule.TheVariants as rules

abbrev pub is_digit : ℕ → ℕ → Bool
is_digit base b = nat_le 48 b && nat_lt b (48 + base)

-- what digits after a number make of it
unfoldable pub value_from : ℕ → ℕ → List ℕ → ℕ
value_from base value [] = value
value_from base value (d ∷ ds) = value_from base (value * base + (d - 48)) ds

-- the number of 64 bits that digits of this base spell
abbrev pub numeral : ℕ → List ℕ → Option ℕ
numeral base word = if list_all (is_digit base) word && nat_lt (value_from base 0 word) (2 ^ 64) then Some (value_from base 0 word) else None

abbrev pub or_broken : Rule → (ℕ → Bool) → Option ℕ → Result ℕ Rule
or_broken rule fits None = Err rule
or_broken rule fits (Some n) = if fits n then Ok n else Err rule

-- 1 to 20 digits
abbrev pub number_of : List ℕ → Result ℕ Rule
number_of word = if nat_le 1 (length word) && nat_le (length word) 20 then or_broken rules.Number (λ n. nat_lt n (2 ^ 64)) (numeral 10 word) else Err rules.Number

-- a number of bytes that a call takes, 1 at least, of which none lies at or past 2 to the power of 64
abbrev pub count_of : ℕ → ℕ → List ℕ → Result ℕ Rule
count_of most offset word = if nat_le 1 (length word) && nat_le (length word) 20 then or_broken rules.Number (λ n. nat_le 1 n && nat_le n most && nat_lt (offset + n) (2 ^ 64)) (numeral 10 word) else Err rules.Number

-- 3 or 4 octal digits
abbrev pub mode_of : List ℕ → Result ℕ Rule
mode_of word = if (length word == 3) || (length word == 4) then or_broken rules.Mode (λ n. nat_lt n 4096) (numeral 8 word) else Err rules.Mode

abbrev pub bytes_or_broken : Result (List ℕ) FromHexError → Result (List ℕ) Rule
bytes_or_broken (Ok bytes) = Ok bytes
bytes_or_broken (Err e) = Err rules.Hex

-- 2 to 8,192 hexadecimal digits, two a byte
abbrev pub hex_of : List ℕ → Result (List ℕ) Rule
hex_of word = if nat_le 2 (length word) && nat_le (length word) 8192 then bytes_or_broken (decode_of word) else Err rules.Hex

abbrev pub byte_or_broken : Result (List ℕ) FromHexError → Result ℕ Rule
byte_or_broken (Ok []) = Err rules.Byte
byte_or_broken (Ok (b ∷ bs)) = Ok b
byte_or_broken (Err e) = Err rules.Byte

-- two hexadecimal digits
abbrev pub byte_of : List ℕ → Result ℕ Rule
byte_of word = byte_or_broken (decode_sized word 1)
