-- The first word of a line, and what stands behind it.
use Rattle.std.proofs.Common.{◌≡◌, ◌<◌, ◌≤◌, ℕ, suc, Bool, true, false, eqb, List, [], ◌∷◌, ◌++◌, length, get_or, take, drop, refl, sym, ap, subst, ◌∙◌, arith, ◌⊎◌, inl, inr}
use Rattle.std.proofs.Math.Seq.{drop-cons}
use Rattle.std.proofs.lemmas.Bool.{ne_eqb, eq-eqb, cases_lt}
use Rattle.std.proofs.lemmas.List.{take-append-drop, get_or-take, drop_all, length-take-le, nil_from_length}
use Rattle.std.specs.List.{onto_first}
use Rattle.jfs_script.specs.Lines.{after_spaces, ends_word, words_of}

after_at : (b : ℕ) (bs : List ℕ) (v : Bool) → eqb b 32 ≡ v → words_of (after_spaces bs) ≡ words_of bs → words_of (after_spaces (b ∷ bs)) ≡ words_of (b ∷ bs)
unfolding after_spaces words_of
after_at b bs true e more = rw e more
after_at b bs false e more = rw e (rw e refl)

-- spaces at the front are no words
pub words_of-after_spaces : (text : List ℕ) → words_of (after_spaces text) ≡ words_of text
unfolding after_spaces words_of
words_of-after_spaces [] = refl
words_of-after_spaces (b ∷ bs) = after_at b bs (eqb b 32) refl (words_of-after_spaces bs)

inner_word : (b c : ℕ) (bs : List ℕ) → eqb b 32 ≡ false → eqb c 32 ≡ false → words_of (b ∷ c ∷ bs) ≡ onto_first b (words_of (c ∷ bs))
unfolding words_of
inner_word b c bs e f = rw (e, f) refl

-- a word, and then the end or a space
pub words_of-word : (word rest : List ℕ) → ((k : ℕ) → k < length word → get_or word k 0 ≡ 32 → ⊥) → 0 < length word → ends_word rest ≡ true → words_of (word ++ rest) ≡ word ∷ words_of rest
unfolding words_of
words_of-word [] rest none some ends = absurd (omega arith)
words_of-word (b ∷ []) rest none some ends =
    let e : eqb b 32 ≡ false = ne_eqb b 32 (none 0 (omega arith)) in
    rw (e, ends) refl
words_of-word (b ∷ c ∷ bs) rest none some ends =
    let e : eqb b 32 ≡ false = ne_eqb b 32 (none 0 (omega arith)) in
    let f : eqb c 32 ≡ false = ne_eqb c 32 (none 1 (omega arith)) in
    let more : words_of (c ∷ bs ++ rest) ≡ (c ∷ bs) ∷ words_of rest = words_of-word (c ∷ bs) rest (λ k h. none (suc k) (omega arith)) (omega arith) ends in
    inner_word b c (bs ++ rest) e f ∙ ap (onto_first b) more

ends_at : (rest : List ℕ) (end : ℕ) → (end < length rest → get_or rest end 0 ≡ 32) → (end < length rest) ⊎ (length rest ≤ end) → ends_word (drop end rest) ≡ true
ends_at rest end space (inl h) = rw (drop-cons rest end 0) (eq-eqb (get_or rest end 0) 32 (space h))
ends_at rest end space (inr h) = rw (drop_all end rest h) refl

-- the word at the front ends before the first space
pub next_is : (text rest : List ℕ) (end : ℕ) → rest ≡ after_spaces text → (0 < length rest → get_or rest 0 0 ≡ 32 → ⊥) → 0 < length rest → end ≤ length rest
    → ((k : ℕ) → k < end → get_or rest k 0 ≡ 32 → ⊥) → (end < length rest → get_or rest end 0 ≡ 32) → words_of text ≡ take end rest ∷ words_of (drop end rest)
next_is text rest end is front some within word space =
    let long : length (take end rest) ≡ end = length-take-le end rest within in
    let first : 0 < end = elim (cases_lt 0 end) [ inl h ↦ h | inr h ↦ absurd (front some (let e : end ≡ 0 = omega arith in subst (λ (k : ℕ). k < length rest → get_or rest k 0 ≡ 32) e space some)) ] in
    let parts : words_of (take end rest ++ drop end rest) ≡ take end rest ∷ words_of (drop end rest) =
    words_of-word (take end rest) (drop end rest) (λ k h. let lt : k < end = omega (arith, long) in rw (get_or-take end rest k 0 lt) (word k lt)) (omega (arith, long)) (ends_at rest end space (cases_lt end (length rest))) in
    let whole : words_of rest ≡ words_of text = ap words_of is ∙ words_of-after_spaces text in
    sym whole ∙ ap words_of (sym (take-append-drop end rest)) ∙ parts

pub stays : (rest after : List ℕ) (b : ℕ) → rest ≡ b ∷ after → (b ≡ 32 → ⊥) → after_spaces rest ≡ rest
unfolding after_spaces
stays rest after b e no_space = rw (e, ne_eqb b 32 no_space) refl

pub drops : (rest after : List ℕ) (b : ℕ) → rest ≡ b ∷ after → b ≡ 32 → after_spaces rest ≡ after_spaces after
unfolding after_spaces
drops rest after b e space = rw (e, eq-eqb b 32 space) refl

pub none_left : (rest : List ℕ) → length rest ≡ 0 → after_spaces rest ≡ rest
unfolding after_spaces
none_left rest e = rw (nil_from_length rest e) refl

pub no_word : (text rest : List ℕ) → rest ≡ after_spaces text → length rest ≡ 0 → words_of text ≡ []
unfolding words_of
no_word text rest is e = sym (words_of-after_spaces text) ∙ ap words_of (sym is) ∙ ap words_of (nil_from_length rest e)
