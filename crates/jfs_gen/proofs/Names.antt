-- The paths of generated scripts are within the limits.
use Rattle.std.proofs.Common.{◌⊎◌, ℕ, suc, zero, ◌+◌, ◌/◌, ◌%◌, ◌<◌, ◌≤◌, List, [], ◌∷◌, ◌++◌, length, IsTrue, ap, sym, refl, subst, inl, inr, arith, get_or, length-append}
use Rattle.std.proofs.lemmas.Bool.Decides.{nat_tests}
use Rattle.std.specs.Fmt.{decimal}
use Rattle.jfs_name.specs.Name.{IsUnit, AreUnits}
use Rattle.jfs_name.specs.Text.{is_plain}
use Rattle.jfs_plain.specs.Limits.{FitsPath}
use Rattle.jfs_gen.specs.Workload.{home_path, file_path}
use Rattle.jfs_gen.proofs.Digits.{one_digit, two_digits}
use Rattle.jfs_gen.proofs.Paths.{ArePlain, IsWord, text_of, are_path}

unit_of : (u : ℕ) → IsTrue (is_plain u) → IsUnit u
unit_of u plain = record {
  fits = grind (arith, nat_tests);
  not_zero = λ e. let it = subst (λ (n : ℕ). IsTrue (is_plain n)) e plain in cc;
  not_slash = λ e. let it = subst (λ (n : ℕ). IsTrue (is_plain n)) e plain in cc;
}

units_of : (units : List ℕ) → ArePlain units → AreUnits units
units_of [] plain i small = absurd (omega arith)
units_of (u ∷ us) plain zero small = unit_of u plain.0
units_of (u ∷ us) plain (suc i) small = units_of us plain.1 i (omega arith)

digit_is_plain : (d : ℕ) → d < 10 → IsTrue (is_plain (48 + d))
digit_is_plain d small = grind (arith, nat_tests)

below : (n k : ℕ) → (n < k) ⊎ (k ≤ n)
below n k = grind arith

-- the decimal text of a number of one or two digits
decimal_is_plain : (n : ℕ) → n < 100 → ArePlain (decimal n) × (0 < length (decimal n)) × (length (decimal n) ≤ 2)
decimal_is_plain n small = elim (below n 10) [
  | inl less ↦ rw (sym (one_digit n less)) ((digit_is_plain (n % 10) (omega arith), tt), omega arith, omega arith)
  | inr more ↦ rw (sym (two_digits n more small)) ((digit_is_plain (n / 10) (omega arith), (digit_is_plain (n % 10) (omega arith), tt)), omega arith, omega arith)
]

abbrev first_of_units : List ℕ → ℕ
first_of_units units = get_or units 0 0

-- a letter and a number
word : (letter n : ℕ) → IsTrue (is_plain letter) → 46 < letter → n < 100 → IsWord (letter ∷ decimal n)
word letter n plain later small =
    let d = decimal_is_plain n small in
    let all : ArePlain (letter ∷ decimal n) = (plain, d.0) in
    record {
      plain = all;
      is = record { some = omega arith; most = omega (arith, d.2); each = units_of (letter ∷ decimal n) all; no_dot = record { one = λ e. absurd (omega (arith, ap first_of_units e)); two = λ e. absurd (omega (arith, ap first_of_units e)) } };
    }

pub home_fits : (client : ℕ) → client < 100 → FitsPath (home_path client)
home_fits client small = (text_of (home_path client), are_path _ [] (word 103 client refl (omega arith) small, tt) (let d = (decimal_is_plain client small).2 in omega (arith, length-append (decimal client) [])))

pub file_fits : (client file : ℕ) → client < 100 → file < 100 → FitsPath (file_path client file)
file_fits client file small few = (
  text_of (file_path client file),
  are_path _ _ (word 103 client refl (omega arith) small, (word 102 file refl (omega arith) few, tt))
      (let d = (decimal_is_plain client small).2 in let e = (decimal_is_plain file few).2 in omega (arith, length-append (decimal client) (47 ∷ 102 ∷ (decimal file ++ [])), length-append (decimal file) [])),
)
