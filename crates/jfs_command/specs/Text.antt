-- The printed text.
use Rattle.std.specs.Prelude.{ℕ, ◌+◌, ◌-◌, ◌/◌, ◌%◌, ◌&&◌, not, nat_le, nat_lt, ◌==◌, if◌then◌else◌, List, [], ◌∷◌, ◌++◌, codes}
use Rattle.std.specs.List.{flat_map, list_all}
use Rattle.std.specs.Fmt.{decimal}
use Rattle.std.specs.Int.{w32, to_be_bytes}
use Rattle.hex.specs.Hex.{encode_lower}

-- a name, a space, a value and the line's end
abbrev pub line : List ℕ → List ℕ → List ℕ
line name value = name ++ (32 ∷ value) ++ 10 ∷ []

-- two numbers with a space between
abbrev pub pair_text : ℕ → ℕ → List ℕ
pair_text a b = decimal a ++ (32 ∷ decimal b)

-- eight hexadecimal digits, in lower case
abbrev pub hex_text : ℕ → List ℕ
hex_text n = encode_lower (to_be_bytes w32 n)

-- a hexadecimal digit, in upper case
abbrev pub hex_digit : ℕ → ℕ
hex_digit n = if nat_lt n 10 then 48 + n else 65 + n - 10

-- a byte of a label: itself where it is visible and no `%`, else `%` and its two digits
unfoldable pub label_byte : ℕ → List ℕ
label_byte b = if nat_le 0x21 b && nat_le b 0x7E && not (b == 0x25) then b ∷ [] else 0x25 ∷ hex_digit (b / 16) ∷ hex_digit (b % 16) ∷ []

-- without the zeros at the end
unfoldable pub trimmed : List ℕ → List ℕ
trimmed [] = []
trimmed (b ∷ bs) = if list_all (λ x. x == 0) (b ∷ bs) then [] else b ∷ trimmed bs

abbrev pub dashed : List ℕ → List ℕ
dashed [] = codes "-"
dashed (b ∷ bs) = b ∷ bs

-- a label without its padding; a dash where nothing is left
unfoldable pub label_text : List ℕ → List ℕ
label_text label = dashed (flat_map label_byte (trimmed label))
