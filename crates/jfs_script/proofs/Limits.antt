-- What lines ask for is within the limits of calls.
use Rattle.std.proofs.Common.{◌≡◌, ◌<◌, ◌≤◌, ℕ, ◌+◌, ◌^◌, Bool, true, false, cond, ◌&&◌, nat_le, nat_lt, List, length, refl, subst, arith}
use Rattle.std.specs.Prelude.{Option, Some, None, Result, Ok, Err}
use Rattle.std.proofs.lemmas.Bool.{leb-true, ltb-true, and_parts}
use Rattle.hex.specs.Hex.{decode_of}
use Rattle.hex.specs.declared.error.FromHexError.{FromHexError}
use Rattle.hex.proofs.HexLemmas.{decode_of-ok}
use Rattle.jfs_bits.specs.declared.rule.Rule.{Rule}
use Rattle.jfs_bits.specs.declared.rule.Rule.TheVariants as rules
use Rattle.jfs_script.specs.Number.{or_broken, bytes_or_broken, numeral, count_of, mode_of, hex_of}

at_test : (rule : Rule) (b : Bool) (m n : ℕ) → Ok n ≡ cond b (Ok m) (Err rule) → (b ≡ true) × (m ≡ n)
at_test rule true m n e = (refl, cc)
at_test rule false m n e = cc

-- a number that was read passed its test
fits_number : (rule : Rule) (fits : ℕ → Bool) (o : Option ℕ) (n : ℕ) → Ok n ≡ or_broken rule fits o → fits n ≡ true
fits_number rule fits None n e = cc
fits_number rule fits (Some m) n e =
    let t = at_test rule (fits m) m n e in
    subst (λ (k : ℕ). fits k ≡ true) t.1 t.0

unless : {A : Type 0} (rule : Rule) (b : Bool) (r : Result A Rule) (a : A) → Ok a ≡ cond b r (Err rule) → (b ≡ true) × (Ok a ≡ r)
unless rule true r a e = (refl, e)
unless rule false r a e = cc

pub mode_of-fits : (word : List ℕ) (m : ℕ) → Ok m ≡ mode_of word → m < 4096
mode_of-fits word m e = ltb-true m 4096 (fits_number rules.Mode (λ n. nat_lt n 4096) (numeral 8 word) m (unless rules.Mode _ _ m e).1)

pub count_of-fits : (most offset : ℕ) (word : List ℕ) (n : ℕ) → Ok n ≡ count_of most offset word → (1 ≤ n) × (n ≤ most) × (offset + n < 2 ^ 64)
count_of-fits most offset word n e =
    let tests = and_parts (nat_le 1 n && nat_le n most) (nat_lt (offset + n) (2 ^ 64)) (fits_number rules.Number (λ n. nat_le 1 n && nat_le n most && nat_lt (offset + n) (2 ^ 64)) (numeral 10 word) n (unless rules.Number _ _ n e).1) in
    let within = and_parts (nat_le 1 n) (nat_le n most) tests.0 in
    (leb-true 1 n within.0, leb-true n most within.1, ltb-true (offset + n) (2 ^ 64) tests.1)

decoded : (r : Result (List ℕ) FromHexError) (bytes : List ℕ) → Ok bytes ≡ bytes_or_broken r → r ≡ Ok bytes
decoded (Ok found) bytes e = cc
decoded (Err error) bytes e = cc

pub hex_of-fits : (word bytes : List ℕ) → Ok bytes ≡ hex_of word → (0 < length bytes) × (length bytes ≤ 4096)
hex_of-fits word bytes e =
    let parts = unless rules.Hex (nat_le 2 (length word) && nat_le (length word) 8192) (bytes_or_broken (decode_of word)) bytes e in
    let tests = and_parts (nat_le 2 (length word)) (nat_le (length word) 8192) parts.0 in
    let twice = (decode_of-ok word bytes (decoded (decode_of word) bytes parts.1)).2 in
    let low = leb-true 2 (length word) tests.0 in
    let high = leb-true (length word) 8192 tests.1 in
    (omega (arith, twice, low), omega (arith, twice, high))
