-- Names read unit by unit, and paths name by name.
use Rattle.std.proofs.Common.{◌≡◌, ◌<◌, ◌≤◌, ◌+◌, ℕ, suc, true, false, List, [], ◌∷◌, ◌++◌, length, take, get_or, Option, Some, None, Result, Ok, Err, inl, inr, refl, sym, ap, ◌∙◌, subst, length-append, arith}
use Rattle.std.specs.Prelude.{slice_get, ◌==◌, Bool}
use Rattle.std.proofs.lemmas.Bool.{cases_lt, cases_eq, eq-eqb, ne_eqb, true≢false}
use Rattle.std.proofs.lemmas.List.{take_all, get_or_push, get_or_append_left}
use Rattle.std.proofs.lemmas.Option.{slice_get-get_or, get_or_from_slice_get}
use Rattle.jfs_name.specs.declared.error.PathError.{PathError}
use Rattle.jfs_name.specs.declared.error.PathError.TheVariants.{BadPath, NameTooLong, Memory}
use Rattle.jfs_name.specs.Name.{IsUnit, AreUnits, IsNoDot, IsName}
use Rattle.jfs_name.specs.Text.{UnitAt, UnitBreaks, no_byte, no_plain, UnitsTo, no_units, one_unit_more, EndsAt, NamesTo, no_names, one_name_more, Spells, path, IsBegun, IsOpen, Breaks, unit_breaks, dots, HasTooMany, longest}
use Rattle.jfs_name.specs.Answer.{IsAnswer, IsFrontAnswer}

-- ---- bytes

pub ends_not : (text : List ℕ) (at : ℕ) → at < length text → (get_or text at 0 ≡ 47 → ⊥) → EndsAt text at → ⊥
ends_not text at h other (inl none) = some_none (slice_get text at) (get_or text at 0) (slice_get-get_or text at 0 h) none
  where
    some_none : (o : Option ℕ) (x : ℕ) → o ≡ Some x → o ≡ None → ⊥
    some_none o x e n = cc
ends_not text at h other (inr slash) = other (get_or_from_slice_get text at 47 0 slash)

pub slash_there : (text : List ℕ) (at : ℕ) → at < length text → get_or text at 0 ≡ 47 → slice_get text at ≡ Some 47
slash_there text at h e = slice_get-get_or text at 0 h ∙ ap Some e

pub one_byte : (text : List ℕ) → length text ≡ 1 → get_or text 0 0 ≡ 47 → text ≡ 47 ∷ []
one_byte [] h e = absurd (none h)
  where
    none : ◌≡◌ {A = ℕ} 0 1 → ⊥
    none h = omega (arith, h)
one_byte (x ∷ []) h e = ap (λ (b : ℕ). b ∷ []) e
one_byte (x ∷ y ∷ rest) h e = absurd (more (length rest) h)
  where
    more : (n : ℕ) → suc (suc n) ≡ 1 → ⊥
    more n h = omega (arith, h)

pub is_zero : (n : ℕ) (b : Bool) → b ≡ (n == 0) → b ≡ true → n ≡ 0
is_zero n b e t = elim (cases_eq n 0) [ inl z ↦ z | inr other ↦ absurd (true≢false (sym t ∙ e ∙ ne_eqb n 0 other)) ]

pub not_zero : (n : ℕ) (b : Bool) → b ≡ (n == 0) → b ≡ false → n ≡ 0 → ⊥
not_zero n b e f z = true≢false (sym (eq-eqb n 0 z) ∙ sym e ∙ f)

pub no_items : (units : List ℕ) → length units ≡ 0 → units ≡ []
no_items [] e = refl
no_items (u ∷ units) e = absurd (more (length units) e)
  where
    more : (n : ℕ) → suc n ≡ 0 → ⊥
    more n e = omega (arith, e)

-- ---- a name

abbrev pub Goes : List ℕ → ℕ → ℕ → List ℕ → Type 0
Goes text first at units = UnitsTo text first at units × (first ≤ at) × (at ≤ length text) × (length units ≤ 255) × AreUnits units

pub goes_none : (text : List ℕ) (first : ℕ) (units : List ℕ) → units ≡ [] → first ≤ length text → Goes text first first units
goes_none text first units e within = subst (Goes text first first) (sym e) (no_units, omega arith, within, omega arith, λ i h. absurd (below_zero i h))
  where
    below_zero : (i : ℕ) → i < 0 → ⊥
    below_zero i h = omega (arith, h)

are_units-push : (units : List ℕ) (unit : ℕ) → AreUnits units → IsUnit unit → AreUnits (units ++ unit ∷ [])
are_units-push units unit are is i h = elim (cases_lt i (length units)) [
  | inl l ↦ subst IsUnit (sym (get_or_append_left units (unit ∷ []) 0 i l)) (are i l)
  | inr m ↦ subst IsUnit (sym (get_or_push units unit 0 i (let n = length-append units (unit ∷ []) in omega (arith, n, h, m)))) is
]

pub goes_more : (text : List ℕ) (first at unit end : ℕ) (units new : List ℕ) → Goes text first at units → UnitAt text at unit end → at < end → end ≤ length text → IsUnit unit → (length units ≡ 255 → ⊥) → new ≡ units ++ unit ∷ [] → Goes text first end new
goes_more text first at unit end units new g is later within ok few e =
    let most = g.3 in
    let least = g.1 in
    let n = length-append units (unit ∷ []) in
    subst (Goes text first end) (sym e)
    (one_unit_more at end unit units g.0 (omega (arith, most, few)) is, omega (arith, least, later), within, omega (arith, most, few, n), are_units-push units unit g.4 ok)

pub opened : (text : List ℕ) (first at : ℕ) (units : List ℕ) → IsBegun text first → Goes text first at units → IsOpen text first at units
opened text first at units b g = record { begun = b; goes_on = g.0 }

pub breaks_in_unit : (text : List ℕ) (first at place : ℕ) (units : List ℕ) → IsBegun text first → Goes text first at units → at < length text → (get_or text at 0 ≡ 47 → ⊥) → UnitBreaks text at place → Breaks text place
breaks_in_unit text first at place units b g h other broken = unit_breaks first at units (opened text first at units b g) broken (λ some ends. ends_not text at h other ends)

pub too_many : (text : List ℕ) (first at unit end : ℕ) (units : List ℕ) → IsBegun text first → Goes text first at units → length units ≡ 255 → UnitAt text at unit end → HasTooMany text at
too_many text first at unit end units b g full is = record { first = first; units = units; opened = opened text first at units b g; full = full; unit = unit; end = end; is = is }

breaks_at_end : (text : List ℕ) (at : ℕ) → EndsAt text at → UnitBreaks text at at
breaks_at_end text at (inl none) = no_byte none refl
breaks_at_end text at (inr slash) = no_plain 47 slash (λ e. differ e) (λ e. cc) refl
  where
    differ : ◌≡◌ {A = ℕ} 47 37 → ⊥
    differ e = omega (arith, e)

pub breaks_empty : (text : List ℕ) (first at : ℕ) (units : List ℕ) → IsBegun text first → Goes text first at units → EndsAt text at → units ≡ [] → Breaks text at
breaks_empty text first at units b g ends e = unit_breaks first at units (opened text first at units b g) (breaks_at_end text at ends) (λ some end. some e)

pub breaks_dots : (text : List ℕ) (first at : ℕ) (units : List ℕ) → IsBegun text first → Goes text first at units → EndsAt text at → (IsNoDot units → ⊥) → Breaks text at
breaks_dots text first at units b g ends is = dots first at units (opened text first at units b g) ends is refl

pub is_name : (text : List ℕ) (first at : ℕ) (units : List ℕ) → Goes text first at units → (length units ≡ 0 → ⊥) → IsNoDot units → IsName units
is_name text first at units g some nodots = record { some = omega (arith, some); most = g.3; each = g.4; no_dot = nodots }

-- ---- a path

abbrev pub Leads : List ℕ → ℕ → List (List ℕ) → Type 0
Leads text at names = NamesTo text at names × (at ≤ length text) × (at < length text → slice_get text at ≡ Some 47) × (names ≡ [] → at ≡ 0)

pub leads_none : (text : List ℕ) (names : List (List ℕ)) → names ≡ [] → 0 < length text → get_or text 0 0 ≡ 47 → Leads text 0 names
leads_none text names e some slash = subst (Leads text 0) (sym e) (no_names, omega arith, λ h. slash_there text 0 some slash, λ e. refl)

slash_at : (text : List ℕ) (end : ℕ) → EndsAt text end → end < length text → slice_get text end ≡ Some 47
slash_at text end (inl none) h = absurd (some_none (slice_get text end) (get_or text end 0) (slice_get-get_or text end 0 h) none)
  where
    some_none : (o : Option ℕ) (x : ℕ) → o ≡ Some x → o ≡ None → ⊥
    some_none o x e n = cc
slash_at text end (inr slash) h = slash

not_empty : (names : List (List ℕ)) (units : List ℕ) → names ++ units ∷ [] ≡ [] → ⊥
not_empty [] units e = cc
not_empty (n ∷ names) units e = cc

pub leads_more : (text : List ℕ) (at end : ℕ) (names new : List (List ℕ)) (units : List ℕ) → Leads text at names → at < length text → UnitsTo text (at + 1) end units → EndsAt text end → IsName units → end ≤ length text → new ≡ names ++ units ∷ [] → Leads text end new
leads_more text at end names new units l h to ends is within e =
    subst (Leads text end) (sym e) (one_name_more at end names units l.0 (l.2 h) to ends is, within, slash_at text end ends, λ empty. absurd (not_empty names units empty))

pub begun : (text : List ℕ) (at : ℕ) (names : List (List ℕ)) → Leads text at names → at < length text → (length text ≡ 1 → ⊥) → IsBegun text (at + 1)
begun text at names l h other = record { slash = at; names = names; before = l.0; begins = l.2 h; first_is = refl; not_root = λ e. other (ap length e) }

pub spells : (text : List ℕ) (at : ℕ) (names : List (List ℕ)) → Leads text at names → length text ≤ at → 0 < length text → Spells text names
spells text at names l past some =
    let within = l.1 in
    path (subst (λ (p : ℕ). NamesTo text p names) (omega (arith, within, past)) l.0) (λ e. let z = l.3 e in absurd (impossible at (length text) z past some))
  where
    impossible : (a n : ℕ) → a ≡ 0 → n ≤ a → 0 < n → ⊥
    impossible a n z past some = omega (arith, z, past, some)

-- ---- with the greatest number of bytes

pub answer_short : (text : List ℕ) (result : Result (List (List ℕ)) PathError) → length text ≤ longest → IsFrontAnswer text result → IsAnswer text result
answer_short text (Ok names) h a = (h, a)
answer_short text (Err (BadPath place)) h a = inl (subst (λ (t : List ℕ). Breaks t place) (sym (take_all longest text h)) a)
answer_short text (Err (NameTooLong place)) h a = subst (λ (t : List ℕ). HasTooMany t place) (sym (take_all longest text h)) a
answer_short text (Err Memory) h a = tt

pub answer_long : (text : List ℕ) (error : PathError) → IsFrontAnswer (take longest text) (Err error) → IsAnswer text (Err error)
answer_long text (BadPath place) a = inl a
answer_long text (NameTooLong place) a = a
answer_long text Memory a = tt
