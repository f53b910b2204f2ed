-- A path's text is read one way.
use Rattle.std.proofs.Common.{◌≡◌, ◌<◌, ◌≤◌, ◌+◌, ℕ, List, [], ◌∷◌, ◌++◌, length, take, Option, Some, None, ◌⊎◌, inl, inr, refl, sym, ap, ◌∙◌, subst, length-append, arith}
use Rattle.std.specs.Prelude.{slice_get}
use Rattle.std.proofs.lemmas.Bool.{cases_lt, cases_eq}
use Rattle.std.proofs.lemmas.List.{take_all}
use Rattle.std.proofs.lemmas.Option.{slice_get_past}
use Rattle.jfs_name.specs.Name.{IsNoDot, IsName}
use Rattle.jfs_name.specs.Text.{UnitAt, UnitBreaks, UnitsTo, no_units, one_unit_more, EndsAt, NamesTo, no_names, one_name_more, Spells, root, path, IsBegun, Breaks, no_slash, unit_breaks, dots, HasTooMany, longest, IsPath, BreaksAt, IsTooLongAt}
use Rattle.jfs_script.proofs.UnitsOnce.{HasUnit, ends_no_unit, unit_no_break, units_same, first_units, units_meet}

-- ---- one name

-- a name from a slash to its end
pub record NameFrom (text : List ℕ) (slash place : ℕ) (units : List ℕ) : Type 0 where
  pub begins : slice_get text slash ≡ Some 47
  pub to : UnitsTo text (slash + 1) place units
  pub ends : EndsAt text place
  pub is : IsName units

never : (text : List ℕ) (place : ℕ) → EndsAt text place → HasUnit text place → ⊥
never text place ends h = ends_no_unit text place h.unit h.end ends h.is

met : (text : List ℕ) (p q : ℕ) (us vs : List ℕ) → EndsAt text p → EndsAt text q → ((p ≡ q) × (us ≡ vs)) ⊎ (HasUnit text p ⊎ HasUnit text q) → (p ≡ q) × (us ≡ vs)
met text p q us vs a b (inl same) = same
met text p q us vs a b (inr (inl more)) = absurd (never text p a more)
met text p q us vs a b (inr (inr more)) = absurd (never text q b more)

name_once : (text : List ℕ) (slash p q : ℕ) (us vs : List ℕ) → NameFrom text slash p us → NameFrom text slash q vs → (p ≡ q) × (us ≡ vs)
name_once text slash p q us vs a b = met text p q us vs a.ends b.ends (units_meet text (slash + 1) p q us vs a.to b.to)

-- ---- names from the beginning

not_pushed : (names : List (List ℕ)) (n : List ℕ) → 0 ≡ length (names ++ n ∷ []) → ⊥
not_pushed names n e = let l = length-append names (n ∷ []) in omega (arith, l, e)

pushed : (names more : List (List ℕ)) (n m : List ℕ) → length (names ++ n ∷ []) ≡ length (more ++ m ∷ []) → length names ≡ length more
pushed names more n m e = let l = length-append names (n ∷ []) in let k = length-append more (m ∷ []) in omega (arith, l, k, e)

names_same : (text : List ℕ) (p q : ℕ) (ns ms : List (List ℕ)) → NamesTo text p ns → NamesTo text q ms → length ns ≡ length ms → (p ≡ q) × (ns ≡ ms)
names_same text p q ns ms no_names no_names e = (refl, refl)
names_same text p q ns ms no_names (one_name_more slash place names units before begins to ends is) e = absurd (not_pushed names units e)
names_same text p q ns ms (one_name_more slash place names units before begins to ends is) no_names e = absurd (not_pushed names units (sym e))
names_same text p q ns ms (one_name_more slash place names units before begins to ends is) (one_name_more slash' place' names' units' before' begins' to' ends' is') e =
    let same = names_same text slash slash' names names' before before' (pushed names names' units units' e) in
    let name = subst (λ (s : ℕ). NameFrom text s place' units') (sym same.0) (record { begins = begins'; to = to'; ends = ends'; is = is' }) in
    let once = name_once text slash place place' units units' (record { begins = begins; to = to; ends = ends; is = is }) name in
    (once.0, rw (same.1, once.1) refl)

-- a name follows
pub record HasName (text : List ℕ) (slash : ℕ) : Type 0 where
  pub place : ℕ
  pub units : List ℕ
  pub is : NameFrom text slash place units

-- the first names of those, and that they go on
record FirstNames (text : List ℕ) (count total : ℕ) : Type 0 where
  place : ℕ
  names : List (List ℕ)
  to : NamesTo text place names
  number : length names ≡ count
  goes_on : count < total → HasName text place

first_names : (text : List ℕ) (q count : ℕ) (ms : List (List ℕ)) → NamesTo text q ms → count ≤ length ms → FirstNames text count (length ms)
first_names text q count ms no_names few = record { place = 0; names = []; to = no_names; number = omega (arith, few); goes_on = λ less. absurd (omega (arith, less)) }
first_names text q count ms (one_name_more slash place names units before begins to ends is) few = elim (cases_lt (length names) count) [
  | inl all ↦ record { place = place; names = names ++ units ∷ []; to = one_name_more slash place names units before begins to ends is; number = let n = length-append names (units ∷ []) in omega (arith, n, few, all); goes_on = λ less. let n = length-append names (units ∷ []) in absurd (omega (arith, n, less, all)) }
  | inr some ↦ within some (first_names text slash count names before some) (cases_eq count (length names))
]
  where
    within : count ≤ length names → FirstNames text count (length names) → (count ≡ length names) ⊎ (count ≡ length names → ⊥) → FirstNames text count (length (names ++ units ∷ []))
    within some f (inl same) = record { place = slash; names = names; to = before; number = sym same; goes_on = λ less. record { place = place; units = units; is = record { begins = begins; to = to; ends = ends; is = is } } }
    within some f (inr other) =
        record { place = f.place; names = f.names; to = f.to; number = f.number; goes_on = λ less. f.goes_on (omega (arith, some, other)) }

-- names to two places are the same, or at one of the places another name follows
names_meet : (text : List ℕ) (p q : ℕ) (ns ms : List (List ℕ)) → NamesTo text p ns → NamesTo text q ms → ((p ≡ q) × (ns ≡ ms)) ⊎ (HasName text p ⊎ HasName text q)
names_meet text p q ns ms a b = elim (cases_lt (length ns) (length ms)) [
  | inl less ↦
      let f = first_names text q (length ns) ms b (omega (arith, less)) in
      let same = names_same text p f.place ns f.names a f.to (sym f.number) in
      inr (inl (subst (HasName text) (sym same.0) (f.goes_on less)))
  | inr most ↦ elim (cases_lt (length ms) (length ns)) [
    | inl less ↦
        let f = first_names text p (length ms) ns a (omega (arith, less)) in
        let same = names_same text q f.place ms f.names b f.to (sym f.number) in
        inr (inr (subst (HasName text) (sym same.0) (f.goes_on less)))
    | inr least ↦ inl (names_same text p q ns ms a b (omega (arith, most, least)))
  ]
]

-- ---- what begins at the same slash

starts : (text : List ℕ) (p : ℕ) (ns : List (List ℕ)) → NamesTo text p ns → (ns ≡ [] → ⊥) → slice_get text 0 ≡ Some 47
starts text p ns no_names some = absurd (some refl)
starts text p ns (one_name_more slash place [] units before begins to ends is) some = subst (λ (n : ℕ). slice_get text n ≡ Some 47) (first_slash slash before) begins
  where
    first_slash : (slash : ℕ) → NamesTo text slash [] → slash ≡ 0
    first_slash slash b = (names_same text slash 0 [] [] b no_names refl).0
starts text p ns (one_name_more slash place (n ∷ names) units before begins to ends is) some = starts text slash (n ∷ names) before (λ e. absurd cc)

-- where a name begins in a path, one is there whole, or the path ends
name_at : (text : List ℕ) (slash : ℕ) (before ns : List (List ℕ)) → NamesTo text slash before → slice_get text slash ≡ Some 47 → NamesTo text (length text) ns → HasName text slash
name_at text slash before ns b begins all = elim (names_meet text slash (length text) before ns b all) [
  | inl same ↦ absurd (past text slash same.0 begins)
  | inr (inl more) ↦ more
  | inr (inr more) ↦ absurd (past text (length text) refl more.is.begins)
]
  where
    none_some : (o : Option ℕ) → o ≡ None → o ≡ Some 47 → ⊥
    none_some o a b = cc

    past : (text : List ℕ) (slash : ℕ) → slash ≡ length text → slice_get text slash ≡ Some 47 → ⊥
    past text slash e some = none_some (slice_get text slash) (slice_get_past text slash (omega (arith, e))) some

-- a whole name doesn't break
whole_no_break : (text : List ℕ) (slash first place broken : ℕ) (units : List ℕ) → HasName text slash → first ≡ slash + 1 → UnitsTo text first place units → UnitBreaks text place broken → ((units ≡ [] → ⊥) → EndsAt text place → ⊥) → ⊥
whole_no_break text slash first place broken units h e to breaks goes_on =
    elim (units_meet text (slash + 1) place h.place units h.units (subst (λ (n : ℕ). UnitsTo text n place units) e to) h.is.to) [
      | inl same ↦ goes_on (λ none. not_empty h.units h.is.is.some (sym same.1 ∙ none)) (subst (EndsAt text) (sym same.0) h.is.ends)
      | inr (inl more) ↦ unit_no_break text place more.unit more.end broken more.is breaks
      | inr (inr more) ↦ never text h.place h.is.ends more
    ]
  where
    not_empty : (us : List ℕ) → 0 < length us → us ≡ [] → ⊥
    not_empty [] some e = omega (arith, some)
    not_empty (u ∷ us) some e = cc

whole_no_dots : (text : List ℕ) (slash first place : ℕ) (units : List ℕ) → HasName text slash → first ≡ slash + 1 → UnitsTo text first place units → EndsAt text place → (IsNoDot units → ⊥) → ⊥
whole_no_dots text slash first place units h e to ends not =
    let same = met text place h.place units h.units ends h.is.ends (units_meet text (slash + 1) place h.place units h.units (subst (λ (n : ℕ). UnitsTo text n place units) e to) h.is.to) in
    not (subst IsNoDot (sym same.1) h.is.is.no_dot)

few_units : (text : List ℕ) (first place : ℕ) (units : List ℕ) → UnitsTo text first place units → length units ≤ 255
few_units text first place units no_units = omega arith
few_units text first place units (one_unit_more from place' unit before to few at) = let n = length-append before (unit ∷ []) in omega (arith, n, few)

whole_not_long : (text : List ℕ) (slash first place unit end : ℕ) (units : List ℕ) → HasName text slash → first ≡ slash + 1 → UnitsTo text first place units → length units ≡ 255 → UnitAt text place unit end → ⊥
whole_not_long text slash first place unit end units h e to full is =
    elim (cases_lt (length h.units) 255) [
      | inl less ↦
          let f = first_units text (slash + 1) place (length h.units) units (subst (λ (n : ℕ). UnitsTo text n place units) e to) (omega (arith, less, full)) in
          let same = units_same text (slash + 1) h.place f.place h.units f.units h.is.to f.to (sym f.number) in
          never text h.place h.is.ends (subst (HasUnit text) (sym same.0) (f.goes_on (omega (arith, less, full))))
      | inr most ↦
          let few = few_units text (slash + 1) h.place h.units h.is.to in
          let same = units_same text (slash + 1) place h.place units h.units (subst (λ (n : ℕ). UnitsTo text n place units) e to) h.is.to (omega (arith, most, few, full)) in
          ends_no_unit text h.place unit end h.is.ends (subst (λ (n : ℕ). UnitAt text n unit end) same.0 is)
    ]

-- ---- a text

abbrev RootIs : List ℕ → Type 0
RootIs text = text ≡ 47 ∷ []

-- the root's text has no names
root_alone : (text : List ℕ) (ns : List (List ℕ)) → RootIs text → NamesTo text (length text) ns → (ns ≡ [] → ⊥) → ⊥
root_alone text ns is all some = alone text is (name_at text 0 [] ns no_names (starts text (length text) ns all some) all)
  where
    after : (text : List ℕ) (place : ℕ) (units : List ℕ) → RootIs text → UnitsTo text 1 place units → 0 < length units → ⊥
    after text place units is to some =
        let f = first_units text 1 place 0 units to (omega (arith, some)) in
        let same = units_same text 1 f.place 1 f.units [] f.to no_units f.number in
        ends_no_unit text 1 (f.goes_on some).unit (f.goes_on some).end (inl (slice_get_past text 1 (let n = ap length is in omega (arith, n)))) (subst (λ (n : ℕ). UnitAt text n (f.goes_on some).unit (f.goes_on some).end) same.0 (f.goes_on some).is)

    alone : (text : List ℕ) → RootIs text → HasName text 0 → ⊥
    alone text is h = after text h.place h.units is h.is.to h.is.is.some

one_path : (text : List ℕ) (a b : List (List ℕ)) → Spells text a → Spells text b → a ≡ b
one_path text a b (root is none) (root is' none') = none ∙ sym none'
one_path text a b (root is none) (path all some) = absurd (root_alone text b is all some)
one_path text a b (path all some) (root is none) = absurd (root_alone text a is all some)
one_path text a b (path all some) (path all' some') = elim (names_meet text (length text) (length text) a b all all') [
  | inl same ↦ same.1
  | inr (inl more) ↦ absurd (past text more.is.begins)
  | inr (inr more) ↦ absurd (past text more.is.begins)
]
  where
    none_some : (o : Option ℕ) → o ≡ None → o ≡ Some 47 → ⊥
    none_some o a b = cc

    past : (text : List ℕ) → slice_get text (length text) ≡ Some 47 → ⊥
    past text some = none_some (slice_get text (length text)) (slice_get_past text (length text) (omega arith)) some

root_begins : (text : List ℕ) → RootIs text → slice_get text 0 ≡ Some 47
root_begins text is = rw is refl

path_no_break : (text : List ℕ) (names : List (List ℕ)) (broken : ℕ) → Spells text names → Breaks text broken → ⊥
path_no_break text names broken (root is none) (no_slash not at) = not (root_begins text is)
path_no_break text names broken (root is none) (unit_breaks first place units o breaks goes_on) = o.begun.not_root is
path_no_break text names broken (root is none) (dots first place units o ends not at) = o.begun.not_root is
path_no_break text names broken (path all some) (no_slash not at) = not (starts text (length text) names all some)
path_no_break text names broken (path all some) (unit_breaks first place units o breaks goes_on) =
    let b = o.begun in whole_no_break text b.slash first place broken units (name_at text b.slash b.names names b.before b.begins all) b.first_is o.goes_on breaks goes_on
path_no_break text names broken (path all some) (dots first place units o ends not at) =
    let b = o.begun in whole_no_dots text b.slash first place units (name_at text b.slash b.names names b.before b.begins all) b.first_is o.goes_on ends not

path_not_long : (text : List ℕ) (names : List (List ℕ)) (place : ℕ) → Spells text names → HasTooMany text place → ⊥
path_not_long text names place (root is none) t = t.opened.begun.not_root is
path_not_long text names place (path all some) t =
    let b = t.opened.begun in whole_not_long text b.slash t.first place t.unit t.end t.units (name_at text b.slash b.names names b.before b.begins all) b.first_is t.opened.goes_on t.full t.is

differ_empty : (n : List ℕ) (ns : List (List ℕ)) → n ∷ ns ≡ [] → ⊥
differ_empty n ns e = cc

begun_starts : (text : List ℕ) (first : ℕ) → IsBegun text first → slice_get text 0 ≡ Some 47
begun_starts text first b = chosen b.names refl
  where
    chosen : (ns : List (List ℕ)) → b.names ≡ ns → slice_get text 0 ≡ Some 47
    chosen [] e = subst (λ (n : ℕ). slice_get text n ≡ Some 47) (names_same text b.slash 0 b.names [] b.before no_names (ap length e)).0 b.begins
    chosen (n ∷ ns) e = starts text b.slash b.names b.before (λ none. absurd (differ_empty n ns (sym e ∙ none)))

-- where a name has more than its greatest number of units, one stands at each place before
long_goes_on : (text : List ℕ) (first first' place q unit end : ℕ) (units long : List ℕ) → first ≡ first' → UnitsTo text first place units → UnitsTo text first' q long → length long ≡ 255 → UnitAt text q unit end → HasUnit text place
long_goes_on text first first' place q unit end units long e to to' full is =
    let to2 = subst (λ (n : ℕ). UnitsTo text n place units) e to in
    elim (cases_lt (length units) 255) [
      | inl less ↦
          let f = first_units text first' q (length units) long to' (omega (arith, less, full)) in
          let same = units_same text first' place f.place units f.units to2 f.to (sym f.number) in
          subst (HasUnit text) (sym same.0) (f.goes_on (omega (arith, less, full)))
      | inr most ↦
          let few = few_units text first' place units to2 in
          let same = units_same text first' place q units long to2 to' (omega (arith, most, few, full)) in
          subst (HasUnit text) (sym same.0) (record { unit = unit; end = end; is = is })
    ]

begins_same : (a b first first' : ℕ) → a ≡ b → first ≡ a + 1 → first' ≡ b + 1 → first ≡ first'
begins_same a b first first' e f g = omega (arith, e, f, g)

break_not_long : (text : List ℕ) (broken place : ℕ) → Breaks text broken → HasTooMany text place → ⊥
break_not_long text broken place (no_slash not at) t = not (begun_starts text t.first t.opened.begun)
break_not_long text broken place (unit_breaks first at units o breaks goes_on) t =
    let a = o.begun in
    let b = t.opened.begun in
    elim (names_meet text a.slash b.slash a.names b.names a.before b.before) [
      | inl same ↦
          let more = long_goes_on text first t.first at place t.unit t.end units t.units (begins_same a.slash b.slash first t.first same.0 a.first_is b.first_is) o.goes_on t.opened.goes_on t.full t.is in
          unit_no_break text at more.unit more.end broken more.is breaks
      | inr (inl more) ↦ whole_no_break text a.slash first at broken units more a.first_is o.goes_on breaks goes_on
      | inr (inr more) ↦ whole_not_long text b.slash t.first place t.unit t.end t.units more b.first_is t.opened.goes_on t.full t.is
    ]
break_not_long text broken place (dots first at units o ends not is) t =
    let a = o.begun in
    let b = t.opened.begun in
    elim (names_meet text a.slash b.slash a.names b.names a.before b.before) [
      | inl same ↦
          never text at ends (long_goes_on text first t.first at place t.unit t.end units t.units (begins_same a.slash b.slash first t.first same.0 a.first_is b.first_is) o.goes_on t.opened.goes_on t.full t.is)
      | inr (inl more) ↦ whole_no_dots text a.slash first at units more a.first_is o.goes_on ends not
      | inr (inr more) ↦ whole_not_long text b.slash t.first place t.unit t.end t.units more b.first_is t.opened.goes_on t.full t.is
    ]

-- ---- with the greatest number of bytes

short : (text : List ℕ) (names : List (List ℕ)) → IsPath text names → Spells (take longest text) names
short text names is = subst (λ (t : List ℕ). Spells t names) (sym (take_all longest text is.0)) is.1

path_or_break : (text : List ℕ) (names : List (List ℕ)) (place : ℕ) → IsPath text names → BreaksAt text place → ⊥
path_or_break text names place is (inl breaks) = path_no_break (take longest text) names place (short text names is) breaks
path_or_break text names place is (inr (long, at, names', front)) = let few = is.0 in omega (arith, few, long)

break_or_long : (text : List ℕ) (broken place : ℕ) → BreaksAt text broken → IsTooLongAt text place → ⊥
break_or_long text broken place (inl breaks) long = break_not_long (take longest text) broken place breaks long
break_or_long text broken place (inr (past, at, names, spells)) long = path_not_long (take longest text) names place spells long

-- a text spells one path, or breaks, or has a name that is too long, and no two of these
pub record IsReadOneWay (text : List ℕ) : Type 0 where
  pub one : (a b : List (List ℕ)) → IsPath text a → IsPath text b → a ≡ b
  pub no_break : (names : List (List ℕ)) (place : ℕ) → IsPath text names → BreaksAt text place → ⊥
  pub not_long : (names : List (List ℕ)) (place : ℕ) → IsPath text names → IsTooLongAt text place → ⊥
  pub not_both : (broken place : ℕ) → BreaksAt text broken → IsTooLongAt text place → ⊥

pub one_way : (text : List ℕ) → IsReadOneWay text
one_way text = record {
  one = λ a b x y. one_path text a b x.1 y.1;
  no_break = path_or_break text;
  not_long = λ names place is long. path_not_long (take longest text) names place (short text names is) long;
  not_both = break_or_long text;
}
