-- At each place of a text one unit stands, or none; and a name that begins at a place goes on in one way.
use Rattle.std.proofs.Common.{◌≡◌, ◌<◌, ◌≤◌, ◌+◌, ℕ, List, [], ◌∷◌, ◌++◌, length, Option, Some, None, ◌⊎◌, inl, inr, refl, sym, ap, ◌∙◌, subst, length-append, arith}
use Rattle.std.specs.Prelude.{slice_get, IsTrue}
use Rattle.std.proofs.lemmas.Bool.{cases_lt, cases_eq}
use Rattle.jfs_name.specs.Name.{IsUnit}
use Rattle.jfs_name.specs.Text.{is_plain, digit_at, hex, UnitAt, plain, escaped, UnitBreaks, no_byte, no_plain, no_u, no_digit, not_a_unit, UnitsTo, no_units, one_unit_more, EndsAt}

some_none : (o : Option ℕ) (x : ℕ) → o ≡ Some x → o ≡ None → ⊥
some_none o x e n = cc

same_some : (o : Option ℕ) (x y : ℕ) → o ≡ Some x → o ≡ Some y → x ≡ y
same_some o x y e f = cc

-- `%` and a slash aren't plain
no_percent : (u : ℕ) → IsTrue (is_plain u) → u ≡ 37 → ⊥
no_percent u is e = let it = subst (λ (n : ℕ). IsTrue (is_plain n)) e is in cc

no_slash : (u : ℕ) → IsTrue (is_plain u) → u ≡ 47 → ⊥
no_slash u is e = let it = subst (λ (n : ℕ). IsTrue (is_plain n)) e is in cc

percent_is_no_slash : (o : Option ℕ) → o ≡ Some 37 → o ≡ Some 47 → ⊥
percent_is_no_slash o a b = let e = same_some o 37 47 a b in omega (arith, e)

same_hex : (a b c d a' b' c' d' : ℕ) → a ≡ a' → b ≡ b' → c ≡ c' → d ≡ d' → hex a b c d ≡ hex a' b' c' d'
same_hex a b c d a' b' c' d' e f g h = rw (e, f, g, h) refl

pub unit_once : (text : List ℕ) (place u v e f : ℕ) → UnitAt text place u e → UnitAt text place v f → (u ≡ v) × (e ≡ f)
unit_once text place u v e f (plain s is end) (plain s' is' end') = (same_some (slice_get text place) u v s s', end ∙ sym end')
unit_once text place u v e f (plain s is end) (escaped s' x' a b c d da db dc dd unit ok end') = absurd (no_percent u is (same_some (slice_get text place) u 37 s s'))
unit_once text place u v e f (escaped s x a b c d da db dc dd unit ok end) (plain s' is' end') = absurd (no_percent v is' (same_some (slice_get text place) v 37 s' s))
unit_once text place u v e f (escaped s x a b c d da db dc dd unit ok end) (escaped s' x' a' b' c' d' da' db' dc' dd' unit' ok' end') = (
  unit ∙ same_hex a b c d a' b' c' d' (same_some (digit_at text (place + 2)) a a' da da') (same_some (digit_at text (place + 3)) b b' db db') (same_some (digit_at text (place + 4)) c c' dc dc') (same_some (digit_at text (place + 5)) d d' dd dd') ∙ sym unit',
  end ∙ sym end',
)

pub ends_no_unit : (text : List ℕ) (place u e : ℕ) → EndsAt text place → UnitAt text place u e → ⊥
ends_no_unit text place u e (inl none) (plain s is end) = some_none (slice_get text place) u s none
ends_no_unit text place u e (inr slash) (plain s is end) = no_slash u is (same_some (slice_get text place) u 47 s slash)
ends_no_unit text place u e (inl none) (escaped s x a b c d da db dc dd unit ok end) = some_none (slice_get text place) 37 s none
ends_no_unit text place u e (inr slash) (escaped s x a b c d da db dc dd unit ok end) = percent_is_no_slash (slice_get text place) s slash

-- one of four digits
none_of : (text : List ℕ) (place k a b c d : ℕ) → k < 4 → digit_at text (place + 2) ≡ Some a → digit_at text (place + 3) ≡ Some b → digit_at text (place + 4) ≡ Some c → digit_at text (place + 5) ≡ Some d → digit_at text (place + 2 + k) ≡ None → ⊥
none_of text place k a b c d few da db dc dd none = elim (cases_eq k 0) [
  | inl z ↦ some_none (digit_at text (place + 2)) a da (ap (λ (n : ℕ). digit_at text n) (omega (arith, z)) ∙ none)
  | inr n0 ↦ elim (cases_eq k 1) [
    | inl z ↦ some_none (digit_at text (place + 3)) b db (ap (λ (n : ℕ). digit_at text n) (omega (arith, z)) ∙ none)
    | inr n1 ↦ elim (cases_eq k 2) [
      | inl z ↦ some_none (digit_at text (place + 4)) c dc (ap (λ (n : ℕ). digit_at text n) (omega (arith, z)) ∙ none)
      | inr n2 ↦ some_none (digit_at text (place + 5)) d dd (ap (λ (n : ℕ). digit_at text n) (omega (arith, few, n0, n1, n2)) ∙ none)
    ]
  ]
]

pub unit_no_break : (text : List ℕ) (place u e broken : ℕ) → UnitAt text place u e → UnitBreaks text place broken → ⊥
unit_no_break text place u e broken (plain s is end) (no_byte none at) = some_none (slice_get text place) u s none
unit_no_break text place u e broken (plain s is end) (no_plain byte there other not at) = not (subst (λ (n : ℕ). IsTrue (is_plain n)) (same_some (slice_get text place) u byte s there) is)
unit_no_break text place u e broken (plain s is end) (no_u there other at) = no_percent u is (same_some (slice_get text place) u 37 s there)
unit_no_break text place u e broken (plain s is end) (no_digit there x k few before none at) = no_percent u is (same_some (slice_get text place) u 37 s there)
unit_no_break text place u e broken (plain s is end) (not_a_unit there x a b c d da db dc dd not at) = no_percent u is (same_some (slice_get text place) u 37 s there)
unit_no_break text place u e broken (escaped s x a b c d da db dc dd unit ok end) (no_byte none at) = some_none (slice_get text place) 37 s none
unit_no_break text place u e broken (escaped s x a b c d da db dc dd unit ok end) (no_plain byte there other not at) = other (same_some (slice_get text place) byte 37 there s)
unit_no_break text place u e broken (escaped s x a b c d da db dc dd unit ok end) (no_u there other at) = other x
unit_no_break text place u e broken (escaped s x a b c d da db dc dd unit ok end) (no_digit there x' k few before none at) = none_of text place k a b c d few da db dc dd none
unit_no_break text place u e broken (escaped s x a b c d da db dc dd unit ok end) (not_a_unit there x' a' b' c' d' da' db' dc' dd' not at) =
    not (subst IsUnit (unit ∙ same_hex a b c d a' b' c' d' (same_some (digit_at text (place + 2)) a a' da da') (same_some (digit_at text (place + 3)) b b' db db') (same_some (digit_at text (place + 4)) c c' dc dc') (same_some (digit_at text (place + 5)) d d' dd dd')) ok)

-- ---- units from a place on

-- a unit stands at the place
pub record HasUnit (text : List ℕ) (place : ℕ) : Type 0 where
  pub unit : ℕ
  pub end : ℕ
  pub is : UnitAt text place unit end

not_pushed : (units : List ℕ) (u : ℕ) → 0 ≡ length (units ++ u ∷ []) → ⊥
not_pushed units u e = let n = length-append units (u ∷ []) in omega (arith, n, e)

pushed : (units more : List ℕ) (u v : ℕ) → length (units ++ u ∷ []) ≡ length (more ++ v ∷ []) → length units ≡ length more
pushed units more u v e = let n = length-append units (u ∷ []) in let m = length-append more (v ∷ []) in omega (arith, n, m, e)

pub units_same : (text : List ℕ) (first p q : ℕ) (us vs : List ℕ) → UnitsTo text first p us → UnitsTo text first q vs → length us ≡ length vs → (p ≡ q) × (us ≡ vs)
units_same text first p q us vs no_units no_units e = (refl, refl)
units_same text first p q us vs no_units (one_unit_more from place unit units before few at) e = absurd (not_pushed units unit e)
units_same text first p q us vs (one_unit_more from place unit units before few at) no_units e = absurd (not_pushed units unit (sym e))
units_same text first p q us vs (one_unit_more from place unit units before few at) (one_unit_more from' place' unit' units' before' few' at') e =
    let same = units_same text first from from' units units' before before' (pushed units units' unit unit' e) in
    let once = unit_once text from unit unit' place place' at (subst (λ (n : ℕ). UnitAt text n unit' place') (sym same.0) at') in
    (once.1, rw (same.1, once.0) refl)

-- the first units of those, and that they go on
pub record FirstUnits (text : List ℕ) (first : ℕ) (count total : ℕ) : Type 0 where
  pub place : ℕ
  pub units : List ℕ
  pub to : UnitsTo text first place units
  pub number : length units ≡ count
  pub goes_on : count < total → HasUnit text place

pub first_units : (text : List ℕ) (first q count : ℕ) (vs : List ℕ) → UnitsTo text first q vs → count ≤ length vs → FirstUnits text first count (length vs)
first_units text first q count vs no_units few = record { place = first; units = []; to = no_units; number = omega (arith, few); goes_on = λ less. absurd (omega (arith, less)) }
first_units text first q count vs (one_unit_more from place unit units before short at) few = elim (cases_lt (length units) count) [
  | inl all ↦ record { place = place; units = units ++ unit ∷ []; to = one_unit_more from place unit units before short at; number = let n = length-append units (unit ∷ []) in omega (arith, n, few, all); goes_on = λ less. let n = length-append units (unit ∷ []) in absurd (omega (arith, n, less, all)) }
  | inr some ↦ within some (first_units text first from count units before some) (cases_eq count (length units))
]
  where
    within : count ≤ length units → FirstUnits text first count (length units) → (count ≡ length units) ⊎ (count ≡ length units → ⊥) → FirstUnits text first count (length (units ++ unit ∷ []))
    within some f (inl same) = record { place = from; units = units; to = before; number = sym same; goes_on = λ less. record { unit = unit; end = place; is = at } }
    within some f (inr other) =
        record { place = f.place; units = f.units; to = f.to; number = f.number; goes_on = λ less. f.goes_on (omega (arith, some, other)) }

-- units to two places are the same, or one of them goes on at the other's place
pub units_meet : (text : List ℕ) (first p q : ℕ) (us vs : List ℕ) → UnitsTo text first p us → UnitsTo text first q vs → ((p ≡ q) × (us ≡ vs)) ⊎ (HasUnit text p ⊎ HasUnit text q)
units_meet text first p q us vs a b = elim (cases_lt (length us) (length vs)) [
  | inl less ↦
      let f = first_units text first q (length us) vs b (omega (arith, less)) in
      let same = units_same text first p f.place us f.units a f.to (sym f.number) in
      inr (inl (subst (HasUnit text) (sym same.0) (f.goes_on less)))
  | inr most ↦ elim (cases_lt (length vs) (length us)) [
    | inl less ↦
        let f = first_units text first p (length vs) us a (omega (arith, less)) in
        let same = units_same text first q f.place vs f.units b f.to (sym f.number) in
        inr (inr (subst (HasUnit text) (sym same.0) (f.goes_on less)))
    | inr least ↦ inl (units_same text first p q us vs a b (omega (arith, most, least)))
  ]
]
