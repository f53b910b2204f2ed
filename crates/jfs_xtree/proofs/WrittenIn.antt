-- A written extent, in the list that it lies in: in an entry, or in a hole.
use Rattle.std.proofs.Common.{◌≡◌, ◌≤◌, ◌<◌, refl, ap, ◌∙◌, ℕ, ◌&&◌, ◌||◌, Bool, true, false, if◌then◌else◌, List, [], ◌∷◌, ◌++◌, append_assoc, arith}
use Rattle.std.specs.Prelude.{nat_le}
use Rattle.std.proofs.lemmas.Bool.{le-leb, lt-leb}
use Rattle.jfs_bits.specs.declared.extent.Xad.{Xad}
use Rattle.jfs_xtpage.specs.Page.{end_of, rises_from}
use Rattle.jfs_xtree.specs.Laws.{ends_after}
use Rattle.jfs_xtree.specs.Cutting.{up_to, kept_below}
use Rattle.jfs_xtree.specs.CutParts.{AllFrom}
use Rattle.jfs_xtree.specs.Writing.{from_on, kept_from, is_hole, joined, part_before, part_behind, AllTo, KeepsOtherParts, GoesIntoHole}
use Rattle.jfs_xtree.proofs.Pages.{rises_less}
use Rattle.jfs_xtree.proofs.CutRows.{kept_none, kept_append, kept_first}

pub all_from_less : (bound less : ℕ) (xs : List Xad) → less ≤ bound → AllFrom bound xs → AllFrom less xs
all_from_less bound less [] l h = tt
all_from_less bound less (x ∷ xs) l h = (let a = h.0 in omega (arith, a, l), all_from_less bound less xs l h.1)

pub all_to_more : (bound more : ℕ) (xs : List Xad) → bound ≤ more → AllTo bound xs → AllTo more xs
all_to_more bound more [] l h = tt
all_to_more bound more (x ∷ xs) l h = (let a = h.0 in omega (arith, a, l), all_to_more bound more xs l h.1)

-- what rises begins past its lower end
pub from_low : (low : ℕ) (xs : List Xad) → rises_from low xs ≡ true → AllFrom low xs
from_low low [] r = tt
from_low low (x ∷ xs) r =
    let t = rises_less low x xs r in
    let h = t.0 in let w = ends_after x in
    (h, all_from_less (end_of x) low xs (omega (arith, h, w)) (from_low (end_of x) xs t.1))

-- the entries before one in a list that rises end before it, and those behind it begin past it
pub before_entry : (low : ℕ) (a : List Xad) (e : Xad) (b : List Xad) → rises_from low (a ++ e ∷ b) ≡ true → (low ≤ e.offset) × AllTo e.offset a × AllFrom (end_of e) b
before_entry low [] e b r = let t = rises_less low e b r in (t.0, tt, from_low (end_of e) b t.1)
before_entry low (x ∷ a) e b r =
    let t = rises_less low x (a ++ e ∷ b) r in
    let u = before_entry (end_of x) a e b t.1 in
    let l = t.0 in let w = ends_after x in let h = u.0 in
    (omega (arith, l, w, h), (h, u.1), u.2)

-- ---- what is kept

pub kept_all : (bound : ℕ) (xs : List Xad) → AllTo bound xs → kept_below bound xs ≡ xs
kept_all bound [] h = refl
kept_all bound (x ∷ xs) h = kept_first bound x xs h.0 ∙ ap (λ ys. x ∷ ys) (kept_all bound xs h.1)

pub from_append : (bound : ℕ) (a b : List Xad) → kept_from bound (a ++ b) ≡ kept_from bound a ++ kept_from bound b
from_append bound [] b = refl
from_append bound (x ∷ a) b = by (nat_le (end_of x) bound) (from_append bound a b)
  where
    by : (t : Bool) → kept_from bound (a ++ b) ≡ kept_from bound a ++ kept_from bound b
        → (if t then kept_from bound (a ++ b) else from_on bound x ∷ kept_from bound (a ++ b)) ≡ (if t then kept_from bound a else from_on bound x ∷ kept_from bound a) ++ kept_from bound b
    by true h = h
    by false h = ap (λ xs. from_on bound x ∷ xs) h

pub from_none : (bound : ℕ) (xs : List Xad) → AllTo bound xs → kept_from bound xs ≡ []
from_none bound [] h = refl
from_none bound (x ∷ xs) h = rw (le-leb (end_of x) bound h.0) (from_none bound xs h.1)

pub from_all : (bound : ℕ) (xs : List Xad) → AllFrom bound xs → kept_from bound xs ≡ xs
from_all bound [] h = refl
from_all bound (x ∷ xs) h =
    let w = ends_after x in let l = h.0 in
    rw (lt-leb (end_of x) bound (omega (arith, w, l)), le-leb bound x.offset h.0) (ap (λ ys. x ∷ ys) (from_all bound xs h.1))

-- ---- in a hole

hole_append : (x : Xad) (a b : List Xad) → is_hole x a ≡ true → is_hole x b ≡ true → is_hole x (a ++ b) ≡ true
hole_append x [] b h k = k
hole_append x (e ∷ a) b h k = by (nat_le (end_of e) x.offset || nat_le (end_of x) e.offset) h (λ g. hole_append x a b g k)
  where
    by : (t : Bool) → (t && is_hole x a) ≡ true → (is_hole x a ≡ true → is_hole x (a ++ b) ≡ true) → (t && is_hole x (a ++ b)) ≡ true
    by true h more = more h
    by false h more = absurd cc

or_right : (s t : Bool) → t ≡ true → (s || t) ≡ true
or_right true t h = refl
or_right false t h = h

hole_before : (x : Xad) (a : List Xad) → AllTo x.offset a → is_hole x a ≡ true
hole_before x [] h = refl
hole_before x (e ∷ a) h = rw (le-leb (end_of e) x.offset h.0) (hole_before x a h.1)

hole_behind : (x : Xad) (b : List Xad) → AllFrom (end_of x) b → is_hole x b ≡ true
hole_behind x [] h = refl
hole_behind x (e ∷ b) h = rw (or_right (nat_le (end_of e) x.offset) (nat_le (end_of x) e.offset) (le-leb (end_of x) e.offset h.0)) (hole_behind x b h.1)

-- An extent in a hole stands between the others, or is one with its left neighbour.
pub written_in_hole : (x : Xad) → GoesIntoHole x
written_in_hole x a b before behind =
    let w = ends_after x in
    let front = kept_append x.offset a b ∙ ap (λ xs. xs ++ kept_below x.offset b) (kept_all x.offset a before) ∙ ap (λ xs. a ++ xs) (kept_none x.offset b (all_from_less (end_of x) x.offset b (omega (arith, w)) behind)) ∙ nothing a in
    let back = from_append (end_of x) a b ∙ ap (λ xs. xs ++ kept_from (end_of x) b) (from_none (end_of x) a (all_to_more x.offset (end_of x) a (omega (arith, w)) before)) ∙ from_all (end_of x) b behind in
    ap (λ t. (if t then joined (kept_below x.offset (a ++ b)) x else kept_below x.offset (a ++ b) ++ x ∷ []) ++ kept_from (end_of x) (a ++ b)) (hole_append x a b (hole_before x a before) (hole_behind x b behind))
    ∙ ap (λ xs. joined xs x ++ kept_from (end_of x) (a ++ b)) front ∙ ap (λ xs. joined a x ++ xs) back
  where
    nothing : (a : List Xad) → a ++ [] ≡ a
    nothing [] = refl
    nothing (e ∷ a) = ap (λ t. e ∷ t) (nothing a)

-- ---- in an entry

no_hole : (x : Xad) (a : List Xad) (e : Xad) (b : List Xad) → e.offset < end_of x → x.offset < end_of e → is_hole x (a ++ e ∷ b) ≡ false
no_hole x [] e b l m = rw (lt-leb (end_of e) x.offset m, lt-leb (end_of x) e.offset l) refl
no_hole x (f ∷ a) e b l m = by (nat_le (end_of f) x.offset || nat_le (end_of x) f.offset) (no_hole x a e b l m)
  where
    by : (t : Bool) → is_hole x (a ++ e ∷ b) ≡ false → (t && is_hole x (a ++ e ∷ b)) ≡ false
    by true h = h
    by false h = refl

below_one : (x e : Xad) (rest : List Xad) → rest ≡ [] → (if nat_le x.offset e.offset then rest else up_to x.offset e ∷ rest) ≡ part_before x e
below_one x e rest none = ap (λ r. if nat_le x.offset e.offset then r else up_to x.offset e ∷ r) none

from_one : (x e : Xad) (rest b : List Xad) → rest ≡ b → (if nat_le (end_of e) (end_of x) then rest else from_on (end_of x) e ∷ rest) ≡ part_behind x e ++ b
from_one x e rest b same = ap (λ r. if nat_le (end_of e) (end_of x) then r else from_on (end_of x) e ∷ r) same ∙ by (nat_le (end_of e) (end_of x))
  where
    by : (t : Bool) → (if t then b else from_on (end_of x) e ∷ b) ≡ (if t then [] else from_on (end_of x) e ∷ []) ++ b
    by true = refl
    by false = refl

-- An extent that lies in one entry stands between what the entry keeps.
pub written_in_entry : (x : Xad) → KeepsOtherParts x
written_in_entry x low a e b r begins ends =
    let w = ends_after x in
    let t = before_entry low a e b r in
    let before = all_to_more e.offset x.offset a begins t.1 in
    let behind = all_from_less (end_of e) (end_of x) b ends t.2 in
    let front = kept_append x.offset a (e ∷ b) ∙ ap (λ xs. xs ++ kept_below x.offset (e ∷ b)) (kept_all x.offset a before)
    ∙ ap (λ xs. a ++ xs) (below_one x e (kept_below x.offset b) (kept_none x.offset b (all_from_less (end_of x) x.offset b (omega (arith, w)) behind))) in
    let back = from_append (end_of x) a (e ∷ b) ∙ ap (λ xs. xs ++ kept_from (end_of x) (e ∷ b)) (from_none (end_of x) a (all_to_more x.offset (end_of x) a (omega (arith, w)) before))
    ∙ from_one x e (kept_from (end_of x) b) b (from_all (end_of x) b behind) in
    ap (λ t. (if t then joined (kept_below x.offset (a ++ e ∷ b)) x else kept_below x.offset (a ++ e ∷ b) ++ x ∷ []) ++ kept_from (end_of x) (a ++ e ∷ b)) (no_hole x a e b (omega (arith, begins, w)) (omega (arith, ends, w)))
    ∙ ap (λ xs. (xs ++ x ∷ []) ++ kept_from (end_of x) (a ++ e ∷ b)) front ∙ ap (λ xs. ((a ++ part_before x e) ++ x ∷ []) ++ xs) back
    ∙ append_assoc (a ++ part_before x e) (x ∷ []) (part_behind x e ++ b) ∙ append_assoc a (part_before x e) (x ∷ (part_behind x e ++ b))
