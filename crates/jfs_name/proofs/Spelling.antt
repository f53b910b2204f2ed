-- What is written of a name is read back.
use Rattle.std.proofs.Common.{◌≡◌, ◌≤◌, ◌<◌, ◌+◌, ◌*◌, ◌/◌, ◌%◌, ◌^◌, ℕ, suc, Bool, true, false, cond, List, [], ◌∷◌, ◌++◌, length, take, get_or, Option, Some, None, inl, refl, sym, ap, ◌∙◌, subst, append_assoc, length-append, arith}
use Rattle.std.specs.Prelude.{slice_get, unwrap_or}
use Rattle.std.proofs.lemmas.Bool.Decides.{nat_tests}
use Rattle.std.proofs.lemmas.List.{append-nil, take_more}
use Rattle.std.proofs.lemmas.Option.{slice_get_past}
use Rattle.jfs_name.specs.Name.{IsUnit, AreUnits, IsName}
use Rattle.jfs_name.specs.Text.{is_plain, digit_of, digit_in, digit_at, hex, UnitAt, plain, escaped, UnitsTo, no_units, one_unit_more, no_names, one_name_more, path, IsPath}
use Rattle.jfs_name.specs.Spelled.{digit_byte, escape, plain_byte, spelled_unit, spelled}

-- ---- one unit more

pub spelled-append : (xs ys : List ℕ) → spelled (xs ++ ys) ≡ spelled xs ++ spelled ys
unfolding spelled
spelled-append [] ys = refl
spelled-append (x ∷ xs) ys = ap (λ z. spelled_unit x ++ z) (spelled-append xs ys) ∙ sym (append_assoc (spelled_unit x) (spelled xs) (spelled ys))

pub spelled-one : (unit : ℕ) → spelled (unit ∷ []) ≡ spelled_unit unit
unfolding spelled
spelled-one unit = append-nil (spelled_unit unit)

pub spelled-none : spelled [] ≡ []
unfolding spelled
spelled-none = refl

pub spelled_more : (xs : List ℕ) (i : ℕ) → i < length xs → spelled (take (i + 1) xs) ≡ spelled (take i xs) ++ spelled_unit (get_or xs i 0)
spelled_more xs i h = ap spelled (take_more xs i 0 h) ∙ spelled-append (take i xs) (get_or xs i 0 ∷ []) ∙ ap (λ z. spelled (take i xs) ++ z) (spelled-one (get_or xs i 0))

pub write_step : (final loop init piece us : List ℕ) (i : ℕ) → i < length us → final ≡ loop ++ piece → loop ≡ init ++ spelled (take i us) → piece ≡ spelled_unit (get_or us i 0) → final ≡ init ++ spelled (take (i + 1) us)
write_step final loop init piece us i h f l p =
    f ∙ ap (λ z. z ++ piece) l ∙ append_assoc init (spelled (take i us)) piece ∙ ap (λ z. init ++ (spelled (take i us) ++ z)) p ∙ ap (λ z. init ++ z) (sym (spelled_more us i h))

plain_by : (b : Bool) (u byte : ℕ) → cond b (Some u) None ≡ Some byte → byte ∷ [] ≡ cond b (u ∷ []) (escape u)
plain_by true u byte e = ap (λ (o : Option ℕ). unwrap_or o 0 ∷ []) (sym e)
plain_by false u byte e = absurd cc

other_by : (b : Bool) (u : ℕ) → cond b (Some u) None ≡ None → escape u ≡ cond b (u ∷ []) (escape u)
other_by true u e = absurd cc
other_by false u e = refl

pub plain_is : (u byte : ℕ) (o : Option ℕ) → o ≡ plain_byte u → o ≡ Some byte → byte ∷ [] ≡ spelled_unit u
plain_is u byte o e is = plain_by (is_plain u) u byte (sym e ∙ is)

pub other_is : (u : ℕ) (o : Option ℕ) → o ≡ plain_byte u → o ≡ None → escape u ≡ spelled_unit u
other_is u o e is = other_by (is_plain u) u (sym e ∙ is)

-- ---- a place behind a front

pub at_behind : (front rest : List ℕ) (k : ℕ) → slice_get (front ++ rest) (length front + k) ≡ slice_get rest k
at_behind [] rest k = ap (λ n. slice_get rest n) (omega arith)
at_behind (x ∷ front) rest k = let e : suc (length front) + k ≡ suc (length front + k) = omega arith in ap (λ n. slice_get (x ∷ (front ++ rest)) n) e ∙ at_behind front rest k

at_place : (text front rest : List ℕ) (place k : ℕ) → text ≡ front ++ rest → place ≡ length front + k → slice_get text place ≡ slice_get rest k
at_place text front rest place k e p = ap (λ t. slice_get t place) e ∙ ap (λ n. slice_get (front ++ rest) n) p ∙ at_behind front rest k

-- ---- digits

digit_back : (n : ℕ) → n < 16 → digit_of (digit_byte n) ≡ Some n
digit_back n h = grind (arith, nat_tests)

digit_place : (text front rest : List ℕ) (place k n : ℕ) → text ≡ front ++ rest → place ≡ length front + k → slice_get rest k ≡ Some (digit_byte n) → n < 16 → digit_at text place ≡ Some n
digit_place text front rest place k n e p is h = ap digit_in (at_place text front rest place k e p ∙ is) ∙ digit_back n h

hex_back : (u : ℕ) → u < 2 ^ 16 → u ≡ hex (u / 4096) (u / 256 % 16) (u / 16 % 16) (u % 16)
hex_back u h = omega arith

-- ---- one unit

unit_by : (b : Bool) (text front rest : List ℕ) (u : ℕ) → is_plain u ≡ b → IsUnit u → text ≡ front ++ (cond b (u ∷ []) (escape u) ++ rest)
    → UnitAt text (length front) u (length front + length (cond b (u ∷ []) (escape u)))
unit_by true text front rest u is ok e = plain (at_place text front (u ∷ rest) (length front) 0 e (omega arith)) is refl
unit_by false text front rest u is ok e =
    let fits = ok.fits in
    let all = escape u ++ rest in
    escaped (at_place text front all (length front) 0 e (omega arith)) (at_place text front all (length front + 1) 1 e refl)
    (u / 4096) (u / 256 % 16) (u / 16 % 16) (u % 16)
    (digit_place text front all (length front + 2) 2 (u / 4096) e refl refl (omega arith))
    (digit_place text front all (length front + 3) 3 (u / 256 % 16) e refl refl (omega arith))
    (digit_place text front all (length front + 4) 4 (u / 16 % 16) e refl refl (omega arith))
    (digit_place text front all (length front + 5) 5 (u % 16) e refl refl (omega arith))
    (hex_back u fits) ok refl

unit_at : (text front rest : List ℕ) (u : ℕ) → IsUnit u → text ≡ front ++ (spelled_unit u ++ rest) → UnitAt text (length front) u (length front + length (spelled_unit u))
unit_at text front rest u ok e = unit_by (is_plain u) text front rest u refl ok e

-- ---- many units

units_to : (text front rest : List ℕ) (first : ℕ) (done units : List ℕ) → text ≡ front ++ (spelled units ++ rest) → UnitsTo text first (length front) done → length done + length units ≤ 255 → AreUnits units
    → UnitsTo text first (length front + length (spelled units)) (done ++ units)
unfolding spelled
units_to text front rest first done [] e to most are = subst (λ p. UnitsTo text first p (done ++ [])) (omega arith) (subst (UnitsTo text first (length front)) (sym (append-nil done)) to)
units_to text front rest first done (u ∷ units) e to most are =
    let here : text ≡ front ++ (spelled_unit u ++ (spelled units ++ rest)) = e ∙ ap (λ z. front ++ z) (append_assoc (spelled_unit u) (spelled units) rest) in
    let at = unit_at text front (spelled units ++ rest) u (are 0 (omega arith)) here in
    let size = length-append front (spelled_unit u) in
    let step : UnitsTo text first (length (front ++ spelled_unit u)) (done ++ u ∷ []) =
    one_unit_more (length front) (length (front ++ spelled_unit u)) u done to (omega (arith, most)) (subst (UnitAt text (length front) u) (sym size) at) in
    let rest_of = units_to text (front ++ spelled_unit u) rest first (done ++ u ∷ []) units (here ∙ sym (append_assoc front (spelled_unit u) (spelled units ++ rest))) step
    (let n = length-append done (u ∷ []) in omega (arith, n, most)) (λ i h. are (suc i) (omega (arith, h))) in
    let whole = length-append (spelled_unit u) (spelled units) in
    subst (λ p. UnitsTo text first p (done ++ u ∷ units)) (omega (arith, size, whole)) (subst (UnitsTo text first (length (front ++ spelled_unit u) + length (spelled units))) (append_assoc done (u ∷ []) units) rest_of)

-- ---- one name's path

unit_size : (b : Bool) (u : ℕ) → length (cond b (u ∷ []) (escape u)) ≤ 6
unit_size true u = omega arith
unit_size false u = omega arith

spelled_size : (units : List ℕ) → length (spelled units) ≤ 6 * length units
unfolding spelled
spelled_size [] = omega arith
spelled_size (u ∷ units) = let n = length-append (spelled_unit u) (spelled units) in let m = unit_size (is_plain u) u in let r = spelled_size units in omega (arith, n, m, r)

pub read_back : (units : List ℕ) → IsName units → IsPath (47 ∷ spelled units) (units ∷ [])
read_back units is =
    let text : List ℕ = 47 ∷ spelled units in
    let most = is.most in
    let small = spelled_size units in
    let e : text ≡ (47 ∷ []) ++ (spelled units ++ []) = ap (λ z. 47 ∷ z) (sym (append-nil (spelled units))) in
    let to = units_to text (47 ∷ []) [] 1 [] units e no_units (omega (arith, most)) is.each in
    let end : 1 + length (spelled units) ≡ length text = omega arith in
    let names = one_name_more 0 (length text) [] units no_names refl (subst (λ p. UnitsTo text 1 p units) end to) (inl (slice_get_past text (length text) (omega arith))) is in
    (omega (arith, small, most), path names (λ e. cc))
