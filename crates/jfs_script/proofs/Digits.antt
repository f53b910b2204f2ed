-- Numbers read digit by digit.
use Rattle.std.proofs.Common.{◌≡◌, ◌<◌, ◌≤◌, ℕ, ◌+◌, ◌-◌, ◌*◌, ◌^◌, suc, true, false, List, [], ◌∷◌, length, get_or, drop, refl, sym, ap, arith}
use Rattle.std.proofs.Math.Seq.{drop-cons}
use Rattle.std.proofs.Math.Nat.{mul-le-mul_left}
use Rattle.std.proofs.lemmas.Bool.{le-ltb, lt-ltb, and_right, and_from}
use Rattle.std.proofs.lemmas.List.{drop_all}
use Rattle.std.specs.Prelude.{Some, None, nat_lt}
use Rattle.std.specs.List.{list_all}
use Rattle.jfs_script.specs.Number.{is_digit, value_from, numeral}

pub value_from-ge : (base v : ℕ) (ds : List ℕ) → 1 ≤ base → v ≤ value_from base v ds
unfolding value_from
value_from-ge base v [] h = omega arith
value_from-ge base v (d ∷ ds) h =
    let more : v * 1 ≤ v * base = mul-le-mul_left v h in
    let rest : v * base + (d - 48) ≤ value_from base (v * base + (d - 48)) ds = value_from-ge base (v * base + (d - 48)) ds h in
    omega (arith, more, rest)

-- what is read before place i, and what the rest makes of it
pub record IsReadTo (base : ℕ) (word : List ℕ) (i value : ℕ) : Type 0 where
  pub value_is : value_from base value (drop i word) ≡ value_from base 0 word
  pub small : value < 2 ^ 64
  pub digits : list_all (is_digit base) (drop i word) ≡ list_all (is_digit base) word

pub goes_on : (base : ℕ) (word : List ℕ) (i value : ℕ) → i < length word → is_digit base (get_or word i 0) ≡ true → value * base + (get_or word i 0 - 48) < 2 ^ 64 → IsReadTo base word i value → IsReadTo base word (i + 1) (value * base + (get_or word i 0 - 48))
unfolding value_from
goes_on base word i value h digit small read =
    let e : i + 1 ≡ suc i = omega arith in
    let value_is = rw (drop-cons word i 0) at read.value_is in
    let digits = rw (drop-cons word i 0, digit) at read.digits in
    rw e (record { value_is = value_is; small = small; digits = digits })

pub bad_digit : (base : ℕ) (word : List ℕ) (i value : ℕ) → i < length word → is_digit base (get_or word i 0) ≡ false → IsReadTo base word i value → None ≡ numeral base word
bad_digit base word i value h digit read =
    let digits = rw (drop-cons word i 0, digit) at read.digits in
    rw (← digits) refl

pub too_big : (base : ℕ) (word : List ℕ) (i value : ℕ) → i < length word → 1 ≤ base → 2 ^ 64 ≤ value * base + (get_or word i 0 - 48) → IsReadTo base word i value → None ≡ numeral base word
unfolding value_from
too_big base word i value h one big read =
    let value_is = rw (drop-cons word i 0) at read.value_is in
    let more : value * base + (get_or word i 0 - 48) ≤ value_from base (value * base + (get_or word i 0 - 48)) (drop (suc i) word) = value_from-ge base (value * base + (get_or word i 0 - 48)) (drop (suc i) word) one in
    let big_too : 2 ^ 64 ≤ value_from base 0 word = omega (arith, more, value_is) in
    rw (and_right (list_all (is_digit base) word) (nat_lt (value_from base 0 word) (2 ^ 64)) (le-ltb (value_from base 0 word) (2 ^ 64) big_too)) refl

pub all_read : (base : ℕ) (word : List ℕ) (i value : ℕ) → length word ≤ i → IsReadTo base word i value → Some value ≡ numeral base word
unfolding value_from
all_read base word i value h read =
    let none : drop i word ≡ [] = drop_all i word h in
    let value_is = rw none at read.value_is in
    let digits = rw none at read.digits in
    let small_too : value_from base 0 word < 2 ^ 64 = omega (arith, value_is, read.small) in
    rw (and_from (list_all (is_digit base) word) (nat_lt (value_from base 0 word) (2 ^ 64)) (sym digits) (lt-ltb (value_from base 0 word) (2 ^ 64) small_too)) (ap (λ (n : ℕ). Some n) value_is)
