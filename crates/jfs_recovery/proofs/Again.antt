-- Redo that a crash stopped is redone to the same image.
use Rattle.std.proofs.Common.{◌≡◌, ◌<◌, ◌⊎◌, ◌+◌, ◌*◌, ◌/◌, ◌%◌, ℕ, true, false, if◌then◌else◌, List, [], ◌∷◌, length, refl, sym, ap, ◌∙◌, subst, inl, inr, arith}
use Rattle.std.proofs.lemmas.Bool.{cases_Bool, cond-true, cond-false}
use Rattle.std.proofs.lemmas.List.{ext_get_or}
use Rattle.jfs_ranges.specs.declared.edit.Edit.{Edit}
use Rattle.jfs_core.specs.Sound.{SameCell}
use Rattle.jfs_recovery.specs.Face.{Face, IsFace, Item, Value, Gives, Passes, Pages, byte, item, IsRedone, redo_page, redo_item}
use Rattle.jfs_recovery.specs.Sound.{IsMixed}
use Rattle.jfs_recovery.proofs.Images.{size_redo, closed_item}

-- ---- redo of a byte: it is given, or it is what the crash left, or what was there before the entries

data Course (f : Face) (p i : ℕ) (txs : List (List Edit)) : Type 0 where
  Given : ((left left' now now' : List ℕ) → length left ≡ 4096 → length left' ≡ 4096 → length now ≡ 4096 → length now' ≡ 4096 → byte (redo_page f p left now txs) i ≡ byte (redo_page f p left' now' txs) i) → Course f p i txs
  Left : ((left now : List ℕ) → length left ≡ 4096 → length now ≡ 4096 → byte (redo_page f p left now txs) i ≡ byte left i) → Course f p i txs
  Before : ((left now : List ℕ) → length left ≡ 4096 → length now ≡ 4096 → byte (redo_page f p left now txs) i ≡ byte now i) → Course f p i txs

base_size : (f : Face) (tx : List Edit) (p : ℕ) (left now : List ℕ) → length left ≡ 4096 → length now ≡ 4096 → length (if f.closes tx p then left else now) ≡ 4096
base_size f tx p left now hl hn = at (cases_Bool (f.closes tx p))
  where
    at : (f.closes tx p ≡ true) ⊎ (f.closes tx p ≡ false) → length (if f.closes tx p then left else now) ≡ 4096
    at (inl e) = ap (λ (a : List ℕ). length a) (cond-true (f.closes tx p) left now e) ∙ hl
    at (inr e) = ap (λ (a : List ℕ). length a) (cond-false (f.closes tx p) left now e) ∙ hn

course : (f : Face) → IsFace f → (p i : ℕ) → i < 4096 → (txs : List (List Edit)) → Course f p i txs
unfolding redo_page
course f laws p i small [] = Before (λ left now hl hn. refl)
course f laws p i small (tx ∷ txs) = at (course f laws p i small txs) (laws.bytes tx p i small) (cases_Bool (f.closes tx p))
  where
    next : List ℕ → List ℕ → List ℕ
    next left now = f.redoes tx p (if f.closes tx p then left else now)

    size : (left now : List ℕ) → length left ≡ 4096 → length now ≡ 4096 → length (next left now) ≡ 4096
    size left now hl hn = laws.size_redoes tx p (if f.closes tx p then left else now) (base_size f tx p left now hl hn)

    at : Course f p i txs → Gives f tx p i ⊎ Passes f tx p i → (f.closes tx p ≡ true) ⊎ (f.closes tx p ≡ false) → Course f p i (tx ∷ txs)
    at (Given g) x y = Given (λ left left' now now' a b c d. g left left' (next left now) (next left' now') a b (size left now a c) (size left' now' b d))
    at (Left g) x y = Left (λ left now a c. g left (next left now) a (size left now a c))
    at (Before g) (inl gives) y = Given (λ left left' now now' a b c d.
        g left (next left now) a (size left now a c)
        ∙ gives (if f.closes tx p then left else now) left (base_size f tx p left now a c) a
        ∙ sym (gives (if f.closes tx p then left' else now') left (base_size f tx p left' now' b d) a)
        ∙ sym (g left' (next left' now') b (size left' now' b d)))
    at (Before g) (inr passes) (inl e) = Left (λ left now a c.
        g left (next left now) a (size left now a c)
        ∙ passes.redo (if f.closes tx p then left else now) (base_size f tx p left now a c)
        ∙ ap (λ (x : List ℕ). byte x i) (cond-true (f.closes tx p) left now e))
    at (Before g) (inr passes) (inr e) = Before (λ left now a c.
        g left (next left now) a (size left now a c)
        ∙ passes.redo (if f.closes tx p then left else now) (base_size f tx p left now a c)
        ∙ ap (λ (x : List ℕ). byte x i) (cond-false (f.closes tx p) left now e))

-- a byte that is the crash's or redo's is redone to the same
same_byte : (f : Face) (p i : ℕ) (txs : List (List Edit)) (a b : List ℕ) → length a ≡ 4096 → length b ≡ 4096 → Course f p i txs →
    (byte b i ≡ byte a i) ⊎ (byte b i ≡ byte (redo_page f p a a txs) i) → byte (redo_page f p b b txs) i ≡ byte (redo_page f p a a txs) i
same_byte f p i txs a b ha hb (Given g) x = g b a b a hb ha hb ha
same_byte f p i txs a b ha hb (Left g) (inl e) = g b b hb hb ∙ e ∙ sym (g a a ha ha)
same_byte f p i txs a b ha hb (Left g) (inr e) = g b b hb hb ∙ e
same_byte f p i txs a b ha hb (Before g) (inl e) = g b b hb hb ∙ e ∙ sym (g a a ha ha)
same_byte f p i txs a b ha hb (Before g) (inr e) = g b b hb hb ∙ e

same_page : (f : Face) → IsFace f → (p : ℕ) (txs : List (List Edit)) (a b : List ℕ) → length a ≡ 4096 → length b ≡ 4096 →
    ((cell : ℕ) → cell < 256 → SameCell b a cell ⊎ SameCell b (redo_page f p a a txs) cell) → redo_page f p b b txs ≡ redo_page f p a a txs
same_page f laws p txs a b ha hb mixed =
    let one = size_redo f laws p b hb txs b hb in
    ext_get_or 0 (redo_page f p b b txs) (redo_page f p a a txs) (one ∙ sym (size_redo f laws p a ha txs a ha)) (λ i w.
    let small : i < 4096 = omega (arith, w, one) in
    same_byte f p i txs a b ha hb (course f laws p i small txs) (at i (mixed (i / 16) (omega arith))))
  where
    at : (i : ℕ) → SameCell b a (i / 16) ⊎ SameCell b (redo_page f p a a txs) (i / 16) → (byte b i ≡ byte a i) ⊎ (byte b i ≡ byte (redo_page f p a a txs) i)
    at i (inl same) =
        let place : 16 * (i / 16) + i % 16 ≡ i = omega arith in
        inl (subst (λ (x : ℕ). byte b x ≡ byte a x) place (same (i % 16) (omega arith)))
    at i (inr same) =
        let place : 16 * (i / 16) + i % 16 ≡ i = omega arith in
        inr (subst (λ (x : ℕ). byte b x ≡ byte (redo_page f p a a txs) x) place (same (i % 16) (omega arith)))

item_course : (f : Face) → IsFace f → (i : Item) (txs : List (List Edit)) → ((x y : Value) → redo_item f i x txs ≡ redo_item f i y txs) ⊎ ((x : Value) → redo_item f i x txs ≡ x)
unfolding redo_item
item_course f laws i [] = inr (λ x. refl)
item_course f laws i (tx ∷ txs) = at (laws.sets_or_passes tx i) (item_course f laws i txs)
  where
    at : ((x y : Value) → f.sets tx i x ≡ f.sets tx i y) ⊎ ((x : Value) → f.sets tx i x ≡ x) → ((x y : Value) → redo_item f i x txs ≡ redo_item f i y txs) ⊎ ((x : Value) → redo_item f i x txs ≡ x) →
        ((x y : Value) → redo_item f i (f.sets tx i x) txs ≡ redo_item f i (f.sets tx i y) txs) ⊎ ((x : Value) → redo_item f i (f.sets tx i x) txs ≡ x)
    at a (inl covers) = inl (λ x y. covers (f.sets tx i x) (f.sets tx i y))
    at (inl sets) (inr passes) = inl (λ x y. passes (f.sets tx i x) ∙ sets x y ∙ sym (passes (f.sets tx i y)))
    at (inr first) (inr passes) = inr (λ x. passes (f.sets tx i x) ∙ first x)

pub redone_again : (f : Face) → IsFace f → (low new other again : Pages) (txs : List (List Edit)) → ((p : ℕ) → length (low p) ≡ 4096) → ((p : ℕ) → length (other p) ≡ 4096) →
    IsRedone f low txs new → IsMixed low new other → IsRedone f other txs again → (p : ℕ) → again p ≡ new p
redone_again f laws low new other again txs low_size other_size redone mixed second p = which (cases_Bool (f.is_map p))
  where
    pages : ℕ → List ℕ
    pages q = redo_page f q (low q) (low q) txs

    items : Item → Value
    items i = redo_item f i (item f low i) txs

    page : (q : ℕ) → f.is_map q ≡ false → redo_page f q (other q) (other q) txs ≡ pages q
    page q e = same_page f laws q txs (low q) (other q) (low_size q) (other_size q) (λ cell w.
        let P : List ℕ → Type 0 = λ x. SameCell (other q) (low q) cell ⊎ SameCell (other q) x cell in
        subst P (redone.pages q e) (mixed q cell w))

    left : (i : Item) → SameCell (other (f.home i)) (low (f.home i)) (f.cell i) ⊎ SameCell (other (f.home i)) (new (f.home i)) (f.cell i) → (item f other i ≡ item f low i) ⊎ (item f other i ≡ items i)
    left i (inl same) = inl (laws.in_cell i (other (f.home i)) (low (f.home i)) same)
    left i (inr same) = inr (laws.in_cell i (other (f.home i)) (new (f.home i)) same ∙ closed_item f laws pages items new redone i)

    at : (i : Item) → ((x y : Value) → redo_item f i x txs ≡ redo_item f i y txs) ⊎ ((x : Value) → redo_item f i x txs ≡ x) → (item f other i ≡ item f low i) ⊎ (item f other i ≡ items i) → redo_item f i (item f other i) txs ≡ items i
    at i (inl covers) x = covers (item f other i) (item f low i)
    at i (inr passes) (inl e) = ap (λ (x : Value). redo_item f i x txs) e
    at i (inr passes) (inr e) = passes (item f other i) ∙ e

    item_same : (i : Item) → redo_item f i (item f other i) txs ≡ items i
    item_same i = at i (item_course f laws i txs) (left i (mixed (f.home i) (f.cell i) (laws.in_page i)))

    which : (f.is_map p ≡ true) ⊎ (f.is_map p ≡ false) → again p ≡ new p
    which (inr e) = second.pages p e ∙ page p e ∙ sym (redone.pages p e)
    which (inl e) =
        laws.agree (λ q. redo_page f q (other q) (other q) txs) pages (λ i. redo_item f i (item f other i) txs) items item_same (λ q d has. page q d)
        p (again p) (new p) e (second.maps p e) (redone.maps p e)
