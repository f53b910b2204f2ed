-- A target, byte by byte.
use Rattle.std.proofs.Common.{◌≡◌, ℕ, List, [], ◌∷◌, ◌++◌, length, refl, sym, ap, append_assoc}
use Rattle.std.specs.Prelude.{Option, Some, None, option_map}
use Rattle.std.proofs.lemmas.List.{nil_from_length, append-nil}
use Rattle.hex.specs.Hex.{hex_digit_value}
use Rattle.jfs_script.specs.Target.{escaped_byte, IsBadEscape, Spells, no_bytes, plain, escaped, broken}

abbrev pub Before : List ℕ → List ℕ → List ℕ → Type 0
Before text rest bytes = (more : Option (List ℕ)) → Spells rest more → Spells text (option_map (λ (bs : List ℕ). bytes ++ bs) more)

pub begins : (text : List ℕ) → Before text text []
begins text None s = s
begins text (Some bs) s = s

joined : (bytes : List ℕ) (b : ℕ) (more : Option (List ℕ)) → option_map (λ (bs : List ℕ). bytes ++ bs) (option_map (λ (bs : List ℕ). b ∷ bs) more) ≡ option_map (λ (bs : List ℕ). (bytes ++ b ∷ []) ++ bs) more
joined bytes b None = refl
joined bytes b (Some bs) = ap (λ (z : List ℕ). Some z) (sym (append_assoc bytes (b ∷ []) bs))

pub plain_byte : (text rest after bytes : List ℕ) (b : ℕ) → rest ≡ b ∷ after → (b ≡ 37 → ⊥) → Before text rest bytes → Before text after (bytes ++ b ∷ [])
plain_byte text rest after bytes b e p before more s =
    rw (← joined bytes b more) (before (option_map (λ (bs : List ℕ). b ∷ bs) more) (plain rest (option_map (λ (bs : List ℕ). b ∷ bs) more) b after more e p s refl))

pub escaped_one : (text rest after behind bytes : List ℕ) (first high low b : ℕ) → rest ≡ first ∷ after → first ≡ 37 → after ≡ high ∷ low ∷ behind → escaped_byte (hex_digit_value high) (hex_digit_value low) ≡ Some b → Before text rest bytes → Before text behind (bytes ++ b ∷ [])
escaped_one text rest after behind bytes first high low b e f g d before more s =
    let whole : rest ≡ 37 ∷ high ∷ low ∷ behind = rw (← f, ← g) e in
    rw (← joined bytes b more) (before (option_map (λ (bs : List ℕ). b ∷ bs) more) (escaped rest (option_map (λ (bs : List ℕ). b ∷ bs) more) b high low behind more whole d s refl))

pub bad_escape : (text rest after bytes : List ℕ) (first : ℕ) → rest ≡ first ∷ after → first ≡ 37 → IsBadEscape after → Before text rest bytes → Spells text None
bad_escape text rest after bytes first e f bad before = before None (broken rest None after (rw (← f) e) bad refl)

pub all_spelled : (text rest bytes : List ℕ) → length rest ≡ 0 → Before text rest bytes → Spells text (Some bytes)
all_spelled text rest bytes e before =
    rw (ap (λ (z : List ℕ). Some z) (sym (append-nil bytes))) (before (Some []) (no_bytes rest (Some []) (nil_from_length rest e) refl))
