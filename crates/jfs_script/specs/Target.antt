-- The target of a symbolic link: `%` and two hexadecimal digits are a byte other than 0, all other bytes stand for themselves.
use Rattle.std.specs.Prelude.{◌≡◌, ◌≢◌, ◌⊎◌, ◌<◌, ◌≤◌, ℕ, ◌+◌, ◌*◌, ◌==◌, if◌then◌else◌, List, [], ◌∷◌, length, Option, Some, None, option_map, Result, Ok, Err}
use Rattle.hex.specs.Hex.{hex_digit_value}
use Rattle.jfs_bits.specs.declared.rule.Rule.{Rule}
use Rattle.jfs_bits.specs.declared.rule.Rule.TheVariants as rules

-- the byte that two digits spell, if it isn't 0
abbrev pub escaped_byte : Option ℕ → Option ℕ → Option ℕ
escaped_byte None low = None
escaped_byte (Some high) None = None
escaped_byte (Some high) (Some low) = if high * 16 + low == 0 then None else Some (high * 16 + low)

-- after a `%` stand no two digits, or those of 0
abbrev pub IsBadEscape : List ℕ → Type 0
IsBadEscape [] = Unit {0}
IsBadEscape (high ∷ []) = Unit {0}
IsBadEscape (high ∷ low ∷ rest) = escaped_byte (hex_digit_value high) (hex_digit_value low) ≡ None

-- the bytes that a text spells, or that it spells none
pub data Spells : List ℕ → Option (List ℕ) → Type 0 where
  no_bytes : (text : List ℕ) → (bytes : Option (List ℕ)) → text ≡ [] → bytes ≡ Some [] → Spells text bytes
  plain : (text : List ℕ) → (bytes : Option (List ℕ)) → (byte : ℕ) → (rest : List ℕ) → (more : Option (List ℕ)) → text ≡ byte ∷ rest → byte ≢ 37 → Spells rest more → bytes ≡ option_map (λ bs. byte ∷ bs) more → Spells text bytes
  escaped : (text : List ℕ) → (bytes : Option (List ℕ)) → (byte high low : ℕ) → (rest : List ℕ) → (more : Option (List ℕ)) → text ≡ 37 ∷ high ∷ low ∷ rest → escaped_byte (hex_digit_value high) (hex_digit_value low) ≡ Some byte
      → Spells rest more → bytes ≡ option_map (λ bs. byte ∷ bs) more → Spells text bytes
  broken : (text : List ℕ) → (bytes : Option (List ℕ)) → (rest : List ℕ) → text ≡ 37 ∷ rest → IsBadEscape rest → bytes ≡ None → Spells text bytes

-- a target has 1 to 255 bytes
abbrev pub TargetIs : List ℕ → Result (List ℕ) Rule → Type 0
TargetIs word (Ok bytes) = Spells word (Some bytes) × (0 < length bytes) × (length bytes ≤ 255)
TargetIs word (Err rule) = (rule ≡ rules.Target) × (Spells word None ⊎ ((bytes : List ℕ) × Spells word (Some bytes) × ((length bytes ≡ 0) ⊎ (255 < length bytes))))
