-- Words of plain units make a path that a text spells.
use Rattle.std.proofs.Common.{◌≡◌, ℕ, ◌+◌, ◌≤◌, List, [], ◌∷◌, ◌++◌, length, IsTrue, Some, ap, ◌∙◌, sym, refl, subst, inl, inr, arith, append_assoc, length-append, slice_get}
use Rattle.std.proofs.lemmas.Option.{slice_get_read, slice_get_past}
use Rattle.std.proofs.Math.Seq.{get_or-append_seam}
use Rattle.std.proofs.lemmas.List.{append-nil}
use Rattle.std.specs.List.{AllByRecursion}
use Rattle.jfs_name.specs.Name.{IsName}
use Rattle.jfs_name.specs.Text.{is_plain, UnitAt, UnitsTo, NamesTo, Spells, IsPath, EndsAt}

abbrev pub ArePlain : List ℕ → Type 0
ArePlain units = AllByRecursion (λ u. IsTrue (is_plain u)) units

-- a name of a few plain units, of which the first is no dot
pub record IsWord (name : List ℕ) : Type 0 where
  pub plain : ArePlain name
  pub is : IsName name

abbrev pub AreWords : List (List ℕ) → Type 0
AreWords names = AllByRecursion IsWord names

-- a slash before each name
abbrev pub text_of : List (List ℕ) → List ℕ
text_of [] = []
text_of (name ∷ names) = 47 ∷ (name ++ text_of names)

seam : (text before : List ℕ) (x : ℕ) (after : List ℕ) → text ≡ before ++ x ∷ after → slice_get text (length before) ≡ Some x
seam text before x after is =
    slice_get_read text (length text) (length before) x refl
    (rw is (omega (arith, length-append before (x ∷ after))))
    (rw is (sym (get_or-append_seam before x after x)))

units_to : (text before done todo after : List ℕ) → text ≡ before ++ (done ++ (todo ++ after)) → ArePlain todo → length (done ++ todo) ≤ 255
    → UnitsTo text (length before) (length (before ++ done)) done → UnitsTo text (length before) (length (before ++ (done ++ todo))) (done ++ todo)
units_to text before done [] after is plain short goes = rw (append-nil done) goes
units_to text before done (u ∷ us) after is plain short goes =
    let longer : done ++ u ∷ us ≡ (done ++ u ∷ []) ++ us = sym (append_assoc done (u ∷ []) us) in
    let at : slice_get text (length (before ++ done)) ≡ Some u = seam text (before ++ done) u (us ++ after) (is ∙ sym (append_assoc before done (u ∷ (us ++ after)))) in
    let end : length (before ++ (done ++ u ∷ [])) ≡ length (before ++ done) + 1 = omega (arith, length-append before (done ++ u ∷ []), length-append done (u ∷ []), length-append before done) in
    let next : UnitsTo text (length before) (length (before ++ (done ++ u ∷ []))) (done ++ u ∷ []) =
    UnitsTo.one_unit_more (length (before ++ done)) (length (before ++ (done ++ u ∷ []))) u done goes (omega (arith, short, length-append done (u ∷ us))) (UnitAt.plain at plain.0 end) in
    rw longer (units_to text before (done ++ u ∷ []) us after (is ∙ ap (λ xs. before ++ xs) (sym (append_assoc done (u ∷ []) (us ++ after)))) plain.1 (subst (λ xs. length xs ≤ 255) longer short) next)

ends_at : (text before : List ℕ) (names : List (List ℕ)) → text ≡ before ++ text_of names → EndsAt text (length before)
ends_at text before [] is = inl (slice_get_past text (length before) (rw is (omega (arith, length-append before []))))
ends_at text before (name ∷ names) is = inr (seam text before 47 (name ++ text_of names) is)

names_to : (text before : List ℕ) (done todo : List (List ℕ)) → text ≡ before ++ text_of todo → AreWords todo → NamesTo text (length before) done → NamesTo text (length text) (done ++ todo)
names_to text before done [] is words goes = rw (append-nil done) (subst (λ k. NamesTo text k done) (ap length (sym (is ∙ append-nil before))) goes)
names_to text before done (name ∷ names) is words goes =
    let slash = 47 ∷ [] in
    let first : length (before ++ slash) ≡ length before + 1 = omega (arith, length-append before slash) in
    let is' : text ≡ (before ++ slash) ++ (name ++ text_of names) = is ∙ sym (append_assoc before slash (name ++ text_of names)) in
    let units : UnitsTo text (length before + 1) (length ((before ++ slash) ++ name)) name =
    subst (λ k. UnitsTo text k (length ((before ++ slash) ++ name)) name) first
    (units_to text (before ++ slash) [] name (text_of names) is' words.0.plain words.0.is.most (subst (λ k. UnitsTo text (length (before ++ slash)) k []) (ap length (sym (append-nil (before ++ slash)))) UnitsTo.no_units)) in
    let is'' : text ≡ ((before ++ slash) ++ name) ++ text_of names = is' ∙ sym (append_assoc (before ++ slash) name (text_of names)) in
    let next : NamesTo text (length ((before ++ slash) ++ name)) (done ++ name ∷ []) =
    NamesTo.one_name_more (length before) (length ((before ++ slash) ++ name)) done name goes (seam text before 47 (name ++ text_of names) is) units (ends_at text ((before ++ slash) ++ name) names is'') words.0.is in
    rw (sym (append_assoc done (name ∷ []) names)) (names_to text ((before ++ slash) ++ name) (done ++ name ∷ []) names is'' words.1 next)

-- words make a path
pub are_path : (name : List ℕ) (names : List (List ℕ)) → AreWords (name ∷ names) → length (text_of (name ∷ names)) ≤ 4095 → IsPath (text_of (name ∷ names)) (name ∷ names)
are_path name names words short = (short, Spells.path (names_to (text_of (name ∷ names)) [] [] (name ∷ names) refl words NamesTo.no_names) (λ none. grind (arith, none)))
