-- Ranges that fill their data: the last one is known from the end of the data.
use Rattle.std.proofs.Common.{◌≡◌, ◌<◌, ◌≤◌, ◌+◌, ◌*◌, ℕ, zero, suc, true, false, List, [], ◌∷◌, ◌++◌, ◌⊎◌, inl, inr, length, take, drop, reverse, refl, sym, ap, subst, ◌∙◌, append_assoc, arith}
use Rattle.std.proofs.lemmas.List.{length-append, append-nil, take-append-drop, take_all, drop_all, length-take-le, reverse-append}
use Rattle.jfs_bits.specs.declared.list.LineRange.{LineRange}
use Rattle.jfs_bits.specs.Field.{field_of}
use Rattle.jfs_logfmt.specs.Text.{IsRangeText, SpellsRanges}
use Rattle.jfs_logfmt.specs.Rules.{is_within, AreWithin}
use Rattle.jfs_logfmt.proofs.Split.{same_end}

-- the last range, and what stands before it
pub record EndsWith (size : ℕ) (body : List ℕ) (rs : List LineRange) : Type 0 where
  pub before : List LineRange
  pub range : LineRange
  pub front : List ℕ
  pub text : List ℕ
  pub list : rs ≡ before ++ range ∷ []
  pub parts : body ≡ front ++ text
  pub spelled : IsRangeText size text range
  pub rest : SpellsRanges size front before

last_of : (size : ℕ) (body : List ℕ) (rs : List LineRange) → SpellsRanges size body rs → ((rs ≡ []) × (body ≡ [])) ⊎ EndsWith size body rs
last_of size body [] s = inl (refl, s)
last_of size body (r ∷ rs) (text, rest, e, t, s) =
    elim (last_of size rest rs s) [
      | inl none ↦ inr (record {
        before = [];
        range = r;
        front = [];
        text = text;
        list = ap (λ (l : List LineRange). r ∷ l) none.0;
        parts = e ∙ ap (λ (l : List ℕ). text ++ l) none.1 ∙ append-nil text;
        spelled = t;
        rest = refl;
      })
      | inr l ↦ inr (record {
        before = r ∷ l.before;
        range = l.range;
        front = text ++ l.front;
        text = l.text;
        list = ap (λ (z : List LineRange). r ∷ z) l.list;
        parts = e ∙ ap (λ (z : List ℕ). text ++ z) l.parts ∙ sym (append_assoc text l.front l.text);
        spelled = l.spelled;
        rest = (text, l.front, refl, t, l.rest);
      })
    ]

-- where there are bytes, there is a last range
pub ends_with : (size : ℕ) (body : List ℕ) (rs : List LineRange) → 0 < length body → SpellsRanges size body rs → EndsWith size body rs
ends_with size body rs h s = elim (last_of size body rs s) [
  | inl none ↦ absurd (omega (arith, h, ap length none.1))
  | inr l ↦ l
]

-- bytes end with one range at most
pub same_range : (size : ℕ) (f g a b : List ℕ) (r q : LineRange) → IsRangeText size a r → IsRangeText size b q → f ++ a ≡ g ++ b → (f ≡ g) × (r ≡ q)
same_range size f g a b r q s t e =
    let whole : (f ++ r.bytes) ++ s.place ≡ (g ++ q.bytes) ++ t.place =
    append_assoc f r.bytes s.place ∙ ap (λ (l : List ℕ). f ++ l) (sym s.parts) ∙ e ∙ ap (λ (l : List ℕ). g ++ l) t.parts ∙ sym (append_assoc g q.bytes t.place) in
    let cut = same_end (f ++ r.bytes) s.place (g ++ q.bytes) t.place (s.four ∙ sym t.four) whole in
    let size_is : length r.bytes ≡ length q.bytes = s.lines ∙ ap (λ (l : List ℕ). field_of l 2 2 * size) cut.1 ∙ sym t.lines in
    let two = same_end f r.bytes g q.bytes size_is cut.0 in
    let first : r.first ≡ q.first = sym s.first ∙ ap (λ (l : List ℕ). field_of l 0 2) cut.1 ∙ t.first in
    (two.0, let bytes = two.1 in same r q first bytes)
  where
    same : (r q : LineRange) → r.first ≡ q.first → r.bytes ≡ q.bytes → r ≡ q
    same r q first bytes =
        ap (λ (n : ℕ). let w : LineRange = record { first = n; bytes = r.bytes } in w) first
        ∙ ap (λ (l : List ℕ). let w : LineRange = record { first = q.first; bytes = l } in w) bytes

pub no_ranges : (size : ℕ) (rs : List LineRange) → SpellsRanges size [] rs → rs ≡ []
no_ranges size [] s = refl
no_ranges size (r ∷ rs) (text, rest, e, t, s) =
    absurd (omega (arith, ap length e, length-append text rest, ap length t.parts, length-append r.bytes t.place, t.four))

-- one range before those that are known
spells_more : (size : ℕ) (body : List ℕ) (start end : ℕ) (r : LineRange) (rs : List LineRange) → start ≤ end → end ≤ length body → IsRangeText size (drop start (take end body)) r → SpellsRanges size (drop end body) rs → SpellsRanges size (drop start body) (r ∷ rs)
spells_more size body start end r rs h k t s = (drop start (take end body), drop end body, cut start end body h, t, s)
  where
    cut : (start end : ℕ) (body : List ℕ) → start ≤ end → drop start body ≡ drop start (take end body) ++ drop end body
    cut zero end body h = sym (take-append-drop end body)
    cut (suc start) zero body h = absurd (omega arith)
    cut (suc start) (suc end) [] h = refl
    cut (suc start) (suc end) (x ∷ xs) h = cut start end xs (omega arith)

-- the front of a front
take_front : {A : Type 0} (start end : ℕ) (xs : List A) → start ≤ end → take end xs ≡ take start xs ++ drop start (take end xs)
take_front {A = A} zero end xs h = refl
take_front {A = A} (suc start) zero xs h = absurd (omega arith)
take_front {A = A} (suc start) (suc end) [] h = refl
take_front {A = A} (suc start) (suc end) (x ∷ xs) h = ap (λ (l : List A). x ∷ l) (take_front start end xs (omega arith))

-- every list that fills the data ends with those that are known
abbrev pub AllEnd : ℕ → List ℕ → List ℕ → List LineRange → Type 0
AllEnd size body front known = (rs : List LineRange) → SpellsRanges size body rs → (before : List LineRange) × SpellsRanges size front before × (rs ≡ before ++ known)

all_end_more : (size : ℕ) (whole body : List ℕ) (start end : ℕ) (r : LineRange) (known : List LineRange) → start ≤ end → 0 < length (take end body) → IsRangeText size (drop start (take end body)) r → AllEnd size whole (take end body) known → AllEnd size whole (take start body) (r ∷ known)
all_end_more size whole body start end r known h some t all rs s =
    let a = all rs s in
    let l = ends_with size (take end body) a.0 some a.1 in
    let same = same_range size l.front (take start body) l.text (drop start (take end body)) l.range r l.spelled t (sym l.parts ∙ take_front start end body h) in
    let first : SpellsRanges size (take start body) l.before = let P : List ℕ → Type 0 = λ z. SpellsRanges size z l.before in subst P same.0 l.rest in
    let list : rs ≡ l.before ++ (r ∷ known) =
    a.2 ∙ ap (λ (z : List LineRange). z ++ known) (l.list ∙ ap (λ (q : LineRange). l.before ++ q ∷ []) same.1) ∙ append_assoc l.before (r ∷ []) known in
    (l.before, first, list)

reverse_push : (rs : List LineRange) (r : LineRange) → reverse (rs ++ r ∷ []) ≡ r ∷ reverse rs
reverse_push rs r = reverse-append rs (r ∷ [])

-- what is known when the ranges from `end` on are: they fill the rest, and every list that fills the data ends with them
abbrev pub Known : ℕ → ℕ → List ℕ → ℕ → List LineRange → Type 0
Known size pages body end known =
    (end ≤ length body) × SpellsRanges size (drop end body) known × AreWithin size pages known × AllEnd size body (take end body) known

abbrev pub Fills : ℕ → ℕ → List ℕ → Type 0
Fills size pages body = (rs : List LineRange) × SpellsRanges size body rs × AreWithin size pages rs

pub known_start : (size pages : ℕ) (body : List ℕ) → Known size pages body (length body) []
known_start size pages body = (
  omega arith,
  drop_all (length body) body (omega arith),
  tt,
  λ rs s. (rs, (let P : List ℕ → Type 0 = λ z. SpellsRanges size z rs in subst P (sym (take_all (length body) body (omega arith))) s), sym (append-nil rs)),
)

-- a range that ends at `end`, found in what stands before it
abbrev pub IsFound : ℕ → List ℕ → ℕ → LineRange → Type 0
IsFound size rest start r = (start + 4 ≤ length rest) × IsRangeText size (drop start rest) r

pub known_more : (size pages : ℕ) (body rest : List ℕ) (start end : ℕ) (r : LineRange) (rs : List LineRange) → rest ≡ take end body → IsFound size rest start r → is_within size pages r ≡ true → Known size pages body end (reverse rs) → Known size pages body start (reverse (rs ++ r ∷ []))
known_more size pages body rest start end r rs e found within known =
    let f : IsFound size (take end body) start r = let P : List ℕ → Type 0 = λ z. IsFound size z start r in subst P e found in
    let size_is = length-take-le end body known.0 in
    let low : start ≤ end = omega (arith, f.0, size_is) in
    let some : 0 < length (take end body) = omega (arith, f.0) in
    rw (reverse_push rs r) (
      omega (arith, low, known.0),
      spells_more size body start end r (reverse rs) low known.0 f.1 known.1,
      (within, known.2),
      all_end_more size body body start end r (reverse rs) low some f.1 known.3,
    )

-- no list fills the data where none ends here
pub known_none : (size pages : ℕ) (body rest : List ℕ) (end : ℕ) (known : List LineRange) → rest ≡ take end body → 0 < end → ((front text : List ℕ) (r : LineRange) → rest ≡ front ++ text → IsRangeText size text r → ⊥) → Known size pages body end known → Fills size pages body → ⊥
known_none size pages body rest end known e some none k (rs, s, within) =
    let a = k.3 rs s in
    let l = ends_with size (take end body) a.0 (omega (arith, some, length-take-le end body k.0)) a.1 in
    none l.front l.text l.range (e ∙ l.parts) l.spelled

within_part : (size pages : ℕ) (xs ys : List LineRange) (r : LineRange) → AreWithin size pages (xs ++ r ∷ ys) → is_within size pages r ≡ true
within_part size pages [] ys r w = w.0
within_part size pages (x ∷ xs) ys r w = within_part size pages xs ys r w.1

-- nor where the one that ends here isn't within the pages
pub known_out : (size pages : ℕ) (body rest : List ℕ) (start end : ℕ) (r : LineRange) (known : List LineRange) → rest ≡ take end body → IsFound size rest start r → false ≡ is_within size pages r → Known size pages body end known → Fills size pages body → ⊥
known_out size pages body rest start end r known e found out k (rs, s, within) =
    let f : IsFound size (take end body) start r = let P : List ℕ → Type 0 = λ z. IsFound size z start r in subst P e found in
    let size_is = length-take-le end body k.0 in
    let low : start ≤ end = omega (arith, f.0, size_is) in
    let some : 0 < length (take end body) = omega (arith, f.0) in
    let a = all_end_more size body body start end r known low some f.1 k.3 rs s in
    let w : AreWithin size pages (a.0 ++ r ∷ known) = let P : List LineRange → Type 0 = λ z. AreWithin size pages z in subst P a.2 within in
    let yes = within_part size pages a.0 known r w in
    let no : false ≡ true = out ∙ yes in
    absurd cc
