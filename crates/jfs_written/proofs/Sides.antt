-- A range, on both sides of a block of the file at which an entry begins.
use Rattle.std.proofs.Common.{◌≡◌, ◌≤◌, inl, inr, refl, sym, ap, ◌∙◌, subst, ℕ, ◌+◌, ◌-◌, ◌^◌, ◌==◌, ◌&&◌, ◌||◌, Bool, true, false, if◌then◌else◌, List, [], ◌∷◌, ◌++◌, append_assoc, arith}
use Rattle.std.specs.Prelude.{nat_le, nat_lt}
use Rattle.std.proofs.lemmas.Bool.{le-leb, lt-leb, eqb-true, cases_lt}
use Rattle.std.proofs.lemmas.Bool.Decides.{nat_tests}
use Rattle.jfs_bits.specs.declared.extent.Xad.{Xad}
use Rattle.jfs_xtpage.specs.Page.{end_of}
use Rattle.jfs_xtree.specs.Laws.{ends_after}
use Rattle.jfs_xtree.specs.Cutting.{up_to, kept_below}
use Rattle.jfs_xtree.specs.CutParts.{AllFrom}
use Rattle.jfs_xtree.specs.Node.{BeginsAt}
use Rattle.jfs_xtree.specs.Writing.{is_recorded, kept_from, is_hole, continues, merged, joined, with_written, with_all_written, AllTo}
use Rattle.jfs_xtree.proofs.CutRows.{kept_none, kept_append}
use Rattle.jfs_xtree.proofs.WrittenIn.{kept_all, from_append, from_none, from_all, all_from_less, all_to_more, from_low}
use Rattle.jfs_written.specs.Range.{parts_of, with_range}
use Rattle.jfs_written.specs.RangeLaws.{WritesEachSide, LeavesOtherSide}
use Rattle.jfs_written.proofs.Cuts.{from_from, below_below, between, all_to_append, all_from_append, below_ends, below_to, from_to, from_begins, from_past, below_past}

pub append_nothing : (a : List Xad) → a ++ [] ≡ a
append_nothing [] = refl
append_nothing (x ∷ a) = ap (λ t. x ∷ t) (append_nothing a)

-- ---- parts

pub parts_none : (es : List Xad) → parts_of es [] ≡ []
parts_none [] = refl
parts_none (e ∷ es) = parts_none es

pub parts_to : (top : ℕ) (es xs : List Xad) → AllTo top xs → AllTo top (parts_of es xs)
parts_to top [] xs h = h
parts_to top (e ∷ es) xs h =
    all_to_append top (kept_below e.offset xs) (kept_below (end_of e) (kept_from e.offset xs) ++ parts_of es (kept_from (end_of e) xs)) (below_to e.offset top xs h)
    (all_to_append top (kept_below (end_of e) (kept_from e.offset xs)) (parts_of es (kept_from (end_of e) xs)) (below_to (end_of e) top (kept_from e.offset xs) (from_to e.offset top xs h))
    (parts_to top es (kept_from (end_of e) xs) (from_to (end_of e) top xs h)))

pub parts_from : (low : ℕ) (es xs : List Xad) → AllFrom low xs → AllFrom low (parts_of es xs)
parts_from low [] xs h = h
parts_from low (e ∷ es) xs h =
    all_from_append low (kept_below e.offset xs) (kept_below (end_of e) (kept_from e.offset xs) ++ parts_of es (kept_from (end_of e) xs)) (below_past e.offset low xs h)
    (all_from_append low (kept_below (end_of e) (kept_from e.offset xs)) (parts_of es (kept_from (end_of e) xs)) (below_past (end_of e) low (kept_from e.offset xs) (from_past e.offset low xs h))
    (parts_from low es (kept_from (end_of e) xs) (from_past (end_of e) low xs h)))

-- the first entry cuts at its offset
parts_at_first : (e : Xad) (es xs : List Xad) → parts_of (e ∷ es) xs ≡ kept_below e.offset xs ++ parts_of (e ∷ es) (kept_from e.offset xs)
parts_at_first e es xs =
    let w = ends_after e in
    ap (λ ys. kept_below e.offset xs ++ ys) (sym (
    ap (λ ys. ys ++ (kept_below (end_of e) (kept_from e.offset (kept_from e.offset xs)) ++ parts_of es (kept_from (end_of e) (kept_from e.offset xs)))) (kept_none e.offset (kept_from e.offset xs) (from_begins e.offset xs))
    ∙ ap (λ ys. kept_below (end_of e) ys ++ parts_of es (kept_from (end_of e) (kept_from e.offset xs))) (from_from e.offset e.offset xs (omega arith))
    ∙ ap (λ ys. kept_below (end_of e) (kept_from e.offset xs) ++ parts_of es ys) (from_from e.offset (end_of e) xs (omega (arith, w)))
    ))

-- Entries on both sides cut each side's part.
pub parts_sides : (bound : ℕ) (a b xs : List Xad) → AllTo bound a → BeginsAt bound b → parts_of (a ++ b) xs ≡ parts_of a (kept_below bound xs) ++ parts_of b (kept_from bound xs)
parts_sides bound [] [] xs h g = absurd g
parts_sides bound [] (e ∷ b) xs h g = parts_at_first e b xs ∙ ap (λ n. kept_below n xs ++ parts_of (e ∷ b) (kept_from n xs)) (sym g)
parts_sides bound (e ∷ a) b xs h g =
    let w = ends_after e in let l = h.0 in
    let near : e.offset ≤ bound = omega (arith, w, l) in
    ap (λ ys. ys ++ (kept_below (end_of e) (kept_from e.offset xs) ++ parts_of (a ++ b) (kept_from (end_of e) xs))) (sym (below_below bound e.offset xs near))
    ∙ ap (λ ys. kept_below e.offset (kept_below bound xs) ++ (ys ++ parts_of (a ++ b) (kept_from (end_of e) xs))) (sym (below_below bound (end_of e) (kept_from e.offset xs) l) ∙ ap (kept_below (end_of e)) (sym (between e.offset bound xs near)))
    ∙ ap (λ ys. kept_below e.offset (kept_below bound xs) ++ (kept_below (end_of e) (kept_from e.offset (kept_below bound xs)) ++ ys))
    (parts_sides bound a b (kept_from (end_of e) xs) h.1 g
    ∙ ap (λ ys. parts_of a ys ++ parts_of b (kept_from bound (kept_from (end_of e) xs))) (sym (between (end_of e) bound xs l))
    ∙ ap (λ ys. parts_of a (kept_from (end_of e) (kept_below bound xs)) ++ parts_of b ys) (from_from (end_of e) bound xs l))
    ∙ ap (λ ys. kept_below e.offset (kept_below bound xs) ++ ys) (sym (append_assoc (kept_below (end_of e) (kept_from e.offset (kept_below bound xs))) (parts_of a (kept_from (end_of e) (kept_below bound xs))) (parts_of b (kept_from bound xs))))
    ∙ sym (append_assoc (kept_below e.offset (kept_below bound xs)) (kept_below (end_of e) (kept_from e.offset (kept_below bound xs)) ++ parts_of a (kept_from (end_of e) (kept_below bound xs))) (parts_of b (kept_from bound xs)))

-- ---- where the entries lie once one extent is written

and_both : (s t : Bool) → (s && t) ≡ true → (s ≡ true) × (t ≡ true)
and_both true t h = (refl, h)
and_both false t h = absurd cc

merged_end : (e x : Xad) → continues e x ≡ true → end_of (merged e x) ≤ end_of x
merged_end e x c =
    let a = and_both (is_recorded e) (end_of e == x.offset && (e.at.addr + e.at.len == x.at.addr && nat_lt (e.at.len + x.at.len) (2 ^ 24))) c in
    let b = and_both (end_of e == x.offset) (e.at.addr + e.at.len == x.at.addr && nat_lt (e.at.len + x.at.len) (2 ^ 24)) a.1 in
    sums e.offset e.at.len x.offset x.at.len (eqb-true (end_of e) x.offset b.0)
  where
    sums : (o n p m : ℕ) → o + (if n == 0 then 1 else n) ≡ p → o + (if n + m == 0 then 1 else n + m) ≤ p + (if m == 0 then 1 else m)
    sums o n p m h = grind (arith, nat_tests)

pub joined_to : (top : ℕ) (a : List Xad) (x : Xad) → AllTo top a → end_of x ≤ top → AllTo top (joined a x)
joined_to top [] x h l = (l, tt)
joined_to top (e ∷ []) x h l = by (continues e x) refl
  where
    by : (t : Bool) → continues e x ≡ t → AllTo top (if t then merged e x ∷ [] else e ∷ x ∷ [])
    by true c = (let m = merged_end e x c in omega (arith, m, l), tt)
    by false c = (h.0, (l, tt))
joined_to top (e ∷ f ∷ a) x h l = (h.0, joined_to top (f ∷ a) x h.1 l)

pub joined_from : (low : ℕ) (a : List Xad) (x : Xad) → AllFrom low a → low ≤ x.offset → AllFrom low (joined a x)
joined_from low [] x h l = (l, tt)
joined_from low (e ∷ []) x h l = by (continues e x)
  where
    by : (t : Bool) → AllFrom low (if t then merged e x ∷ [] else e ∷ x ∷ [])
    by true = (h.0, tt)
    by false = (h.0, (l, tt))
joined_from low (e ∷ f ∷ a) x h l = (h.0, joined_from low (f ∷ a) x h.1 l)

pub front_to : (top : ℕ) (a : List Xad) (x : Xad) (t : Bool) → AllTo top a → end_of x ≤ top → AllTo top (if t then joined a x else a ++ x ∷ [])
front_to top a x true h l = joined_to top a x h l
front_to top a x false h l = all_to_append top a (x ∷ []) h (l, tt)

front_from : (low : ℕ) (a : List Xad) (x : Xad) (t : Bool) → AllFrom low a → low ≤ x.offset → AllFrom low (if t then joined a x else a ++ x ∷ [])
front_from low a x true h l = joined_from low a x h l
front_from low a x false h l = all_from_append low a (x ∷ []) h (l, tt)

pub written_to : (top : ℕ) (x : Xad) (es : List Xad) → AllTo top es → end_of x ≤ top → AllTo top (with_written x es)
written_to top x es h l =
    all_to_append top (if is_hole x es then joined (kept_below x.offset es) x else kept_below x.offset es ++ x ∷ []) (kept_from (end_of x) es)
    (front_to top (kept_below x.offset es) x (is_hole x es) (below_to x.offset top es h) l) (from_to (end_of x) top es h)

pub written_from : (low : ℕ) (x : Xad) (es : List Xad) → AllFrom low es → low ≤ x.offset → AllFrom low (with_written x es)
written_from low x es h l =
    all_from_append low (if is_hole x es then joined (kept_below x.offset es) x else kept_below x.offset es ++ x ∷ []) (kept_from (end_of x) es)
    (front_from low (kept_below x.offset es) x (is_hole x es) (below_past x.offset low es h) l) (from_past (end_of x) low es h)

pub all_written_to : (top : ℕ) (ps es : List Xad) → AllTo top es → AllTo top ps → AllTo top (with_all_written ps es)
all_written_to top [] es h g = h
all_written_to top (p ∷ ps) es h g = all_written_to top ps (with_written p es) (written_to top p es h g.0) g.1

-- ---- before the block

or_right : (s t : Bool) → t ≡ true → (s || t) ≡ true
or_right true t h = refl
or_right false t h = h

pub hole_both : (x : Xad) (a b : List Xad) → is_hole x (a ++ b) ≡ (is_hole x a && is_hole x b)
hole_both x [] b = refl
hole_both x (e ∷ a) b = by (nat_le (end_of e) x.offset || nat_le (end_of x) e.offset) (hole_both x a b)
  where
    by : (t : Bool) → is_hole x (a ++ b) ≡ (is_hole x a && is_hole x b) → (t && is_hole x (a ++ b)) ≡ ((t && is_hole x a) && is_hole x b)
    by true h = h
    by false h = refl

and_true : (s t : Bool) → t ≡ true → (s && t) ≡ s
and_true true t h = h
and_true false t h = refl

hole_before : (x : Xad) (a : List Xad) → AllTo x.offset a → is_hole x a ≡ true
hole_before x [] h = refl
hole_before x (e ∷ a) h = rw (le-leb (end_of e) x.offset h.0) (hole_before x a h.1)

hole_behind : (x : Xad) (b : List Xad) → AllFrom (end_of x) b → is_hole x b ≡ true
hole_behind x [] h = refl
hole_behind x (e ∷ b) h = rw (or_right (nat_le (end_of e) x.offset) (nat_le (end_of x) e.offset) (le-leb (end_of x) e.offset h.0)) (hole_behind x b h.1)

-- an extent that ends before the others leaves them
pub written_left : (x : Xad) (a b : List Xad) → AllFrom (end_of x) b → with_written x (a ++ b) ≡ with_written x a ++ b
written_left x a b h =
    let w = ends_after x in
    ap (λ t. (if t then joined (kept_below x.offset (a ++ b)) x else kept_below x.offset (a ++ b) ++ x ∷ []) ++ kept_from (end_of x) (a ++ b)) (hole_both x a b ∙ and_true (is_hole x a) (is_hole x b) (hole_behind x b h))
    ∙ ap (λ ys. (if is_hole x a then joined ys x else ys ++ x ∷ []) ++ kept_from (end_of x) (a ++ b))
    (kept_append x.offset a b ∙ ap (λ ys. kept_below x.offset a ++ ys) (kept_none x.offset b (all_from_less (end_of x) x.offset b (omega (arith, w)) h)) ∙ append_nothing (kept_below x.offset a))
    ∙ ap (λ ys. (if is_hole x a then joined (kept_below x.offset a) x else kept_below x.offset a ++ x ∷ []) ++ ys) (from_append (end_of x) a b ∙ ap (λ ys. kept_from (end_of x) a ++ ys) (from_all (end_of x) b h))
    ∙ sym (append_assoc (if is_hole x a then joined (kept_below x.offset a) x else kept_below x.offset a ++ x ∷ []) (kept_from (end_of x) a) b)

all_written_left : (bound : ℕ) (ps a b : List Xad) → AllTo bound ps → AllFrom bound b → with_all_written ps (a ++ b) ≡ with_all_written ps a ++ b
all_written_left bound [] a b h g = refl
all_written_left bound (p ∷ ps) a b h g = ap (with_all_written ps) (written_left p a b (all_from_less bound (end_of p) b h.0 g)) ∙ all_written_left bound ps (with_written p a) b h.1 g

-- ---- from the block on

joined_right : (a : List Xad) (k : Xad) (ks : List Xad) (x : Xad) → joined (a ++ k ∷ ks) x ≡ a ++ joined (k ∷ ks) x
joined_right [] k ks x = refl
joined_right (e ∷ []) k ks x = refl
joined_right (e ∷ f ∷ a) k ks x = ap (λ ys. e ∷ ys) (joined_right (f ∷ a) k ks x)

pub hole_right : (x : Xad) (a b : List Xad) → AllTo x.offset a → is_hole x (a ++ b) ≡ is_hole x b
hole_right x a b h = hole_both x a b ∙ ap (λ t. t && is_hole x b) (hole_before x a h)

-- An extent from the block on, at which an entry begins, leaves those before it.
written_right : (bound : ℕ) (x : Xad) (a b : List Xad) → AllTo bound a → bound ≤ x.offset → BeginsAt bound b → with_written x (a ++ b) ≡ a ++ with_written x b
written_right bound x a [] h l g = absurd g
written_right bound x a (e ∷ b) h l g =
    let w = ends_after x in
    let near = all_to_more bound x.offset a l h in
    ap (λ t. (if t then joined (kept_below x.offset (a ++ e ∷ b)) x else kept_below x.offset (a ++ e ∷ b) ++ x ∷ []) ++ kept_from (end_of x) (a ++ e ∷ b)) (hole_right x a (e ∷ b) near)
    ∙ ap (λ ys. (if is_hole x (e ∷ b) then joined ys x else ys ++ x ∷ []) ++ kept_from (end_of x) (a ++ e ∷ b)) (kept_append x.offset a (e ∷ b) ∙ ap (λ ys. ys ++ kept_below x.offset (e ∷ b)) (kept_all x.offset a near))
    ∙ ap (λ ys. (if is_hole x (e ∷ b) then joined (a ++ kept_below x.offset (e ∷ b)) x else (a ++ kept_below x.offset (e ∷ b)) ++ x ∷ []) ++ ys)
    (from_append (end_of x) a (e ∷ b) ∙ ap (λ ys. ys ++ kept_from (end_of x) (e ∷ b)) (from_none (end_of x) a (all_to_more x.offset (end_of x) a (omega (arith, w)) near)))
    ∙ elim (cases_lt e.offset x.offset) [
      | inl m ↦ by (is_hole x (e ∷ b)) (kept_from (end_of x) (e ∷ b)) (kept_below x.offset (e ∷ b)) (up_to x.offset e) (kept_below x.offset b) (rw (lt-leb x.offset e.offset m) refl)
      | inr m ↦ none (is_hole x (e ∷ b)) (kept_below x.offset (e ∷ b)) (kept_from (end_of x) (e ∷ b)) (let v = ends_after e in rw (lt-leb (end_of e) x.offset (omega (arith, m, l, g, v)), lt-leb (end_of x) e.offset (omega (arith, m, l, g, w))) refl)
    ]
  where
    outside : (ks f : List Xad) → ((a ++ ks) ++ x ∷ []) ++ f ≡ a ++ ((ks ++ x ∷ []) ++ f)
    outside ks f = ap (λ ys. ys ++ f) (append_assoc a ks (x ∷ [])) ∙ append_assoc a (ks ++ x ∷ []) f

    none : (t : Bool) (ks f : List Xad) → t ≡ false → (if t then joined (a ++ ks) x else (a ++ ks) ++ x ∷ []) ++ f ≡ a ++ ((if t then joined ks x else ks ++ x ∷ []) ++ f)
    none true ks f i = absurd cc
    none false ks f i = outside ks f

    by : (t : Bool) (f all : List Xad) (k : Xad) (ks : List Xad) → all ≡ k ∷ ks → (if t then joined (a ++ all) x else (a ++ all) ++ x ∷ []) ++ f ≡ a ++ ((if t then joined all x else all ++ x ∷ []) ++ f)
    by true f all k ks i = ap (λ ys. joined (a ++ ys) x ++ f) i ∙ ap (λ ys. ys ++ f) (joined_right a k ks x) ∙ append_assoc a (joined (k ∷ ks) x) f ∙ ap (λ ys. a ++ (joined ys x ++ f)) (sym i)
    by false f all k ks i = outside all f

up_to_begins : (bound : ℕ) (x : Xad) → (up_to bound x).offset ≡ x.offset
up_to_begins bound x = by (nat_le (end_of x) bound)
  where
    by : (t : Bool) → (if t then x else record { flag = x.flag; offset = x.offset; at = record { len = bound - x.offset; addr = x.at.addr } }).offset ≡ x.offset
    by true = refl
    by false = refl

joined_begins : (key : ℕ) (k : Xad) (ks : List Xad) (x : Xad) (f : List Xad) → key ≡ k.offset → BeginsAt key (joined (k ∷ ks) x ++ f)
joined_begins key k [] x f e = by (continues k x)
  where
    by : (t : Bool) → BeginsAt key ((if t then merged k x ∷ [] else k ∷ x ∷ []) ++ f)
    by true = e
    by false = e
joined_begins key k (l ∷ ks) x f e = e

-- and one begins there still
pub written_begins : (bound : ℕ) (x : Xad) (b : List Xad) → AllFrom bound b → bound ≤ x.offset → BeginsAt bound b → BeginsAt bound (with_written x b)
written_begins bound x [] h l g = absurd g
written_begins bound x (e ∷ b) h l g = elim (cases_lt e.offset x.offset) [
  | inl m ↦ by (is_hole x (e ∷ b)) (kept_from (end_of x) (e ∷ b)) (kept_below x.offset (e ∷ b)) (kept_below x.offset b) (rw (lt-leb x.offset e.offset m) refl)
  | inr m ↦
      let w = ends_after x in let v = ends_after e in
      let same : x.offset ≡ bound = omega (arith, m, l, g) in
      here (is_hole x (e ∷ b)) (kept_below x.offset (e ∷ b)) (kept_from (end_of x) (e ∷ b)) (rw (lt-leb (end_of e) x.offset (omega (arith, m, l, g, v)), lt-leb (end_of x) e.offset (omega (arith, m, l, g, w))) refl)
      (kept_none x.offset (e ∷ b) (subst (λ n. AllFrom n (e ∷ b)) (sym same) h)) (sym same)
]
  where
    here : (t : Bool) (ks f : List Xad) → t ≡ false → ks ≡ [] → bound ≡ x.offset → BeginsAt bound ((if t then joined ks x else ks ++ x ∷ []) ++ f)
    here true ks f i z s = absurd cc
    here false ks f i z s = rw z s

    by : (t : Bool) (f all ks : List Xad) → all ≡ up_to x.offset e ∷ ks → BeginsAt bound ((if t then joined all x else all ++ x ∷ []) ++ f)
    by true f all ks i = rw i (joined_begins bound (up_to x.offset e) ks x f (g ∙ sym (up_to_begins x.offset e)))
    by false f all ks i = rw i (g ∙ sym (up_to_begins x.offset e))

all_written_right : (bound : ℕ) (ps a b : List Xad) → AllTo bound a → AllFrom bound b → BeginsAt bound b → AllFrom bound ps → with_all_written ps (a ++ b) ≡ a ++ with_all_written ps b
all_written_right bound [] a b h k g q = refl
all_written_right bound (p ∷ ps) a b h k g q =
    ap (with_all_written ps) (written_right bound p a b h q.0 g)
    ∙ all_written_right bound ps a (with_written p b) h (written_from bound p b k q.0) (written_begins bound p b k q.0 g) q.1

-- ---- both sides

pub all_written_append : (ps qs es : List Xad) → with_all_written (ps ++ qs) es ≡ with_all_written qs (with_all_written ps es)
all_written_append [] qs es = refl
all_written_append (p ∷ ps) qs es = all_written_append ps qs (with_written p es)

pub writes_each_side : (xs : List Xad) → WritesEachSide xs
writes_each_side xs bound a b h r g =
    let below = parts_to bound a (kept_below bound xs) (below_ends bound xs) in
    let past = parts_from bound b (kept_from bound xs) (from_begins bound xs) in
    let behind = from_low bound b r in
    ap (λ ps. with_all_written ps (a ++ b)) (parts_sides bound a b xs h g)
    ∙ all_written_append (parts_of a (kept_below bound xs)) (parts_of b (kept_from bound xs)) (a ++ b)
    ∙ ap (with_all_written (parts_of b (kept_from bound xs))) (all_written_left bound (parts_of a (kept_below bound xs)) a b below behind)
    ∙ all_written_right bound (parts_of b (kept_from bound xs)) (with_range (kept_below bound xs) a) b (all_written_to bound (parts_of a (kept_below bound xs)) a h below) behind g past

with_none : (es : List Xad) → with_range [] es ≡ es
with_none es = ap (λ ps. with_all_written ps es) (parts_none es)

pub leaves_other_side : (xs : List Xad) → LeavesOtherSide xs
leaves_other_side xs bound a b h r g = (
  λ l. writes_each_side xs bound a b h r g ∙ ap (λ ys. with_range ys a ++ with_range (kept_from bound xs) b) (kept_all bound xs l) ∙ ap (λ ys. with_range xs a ++ with_range ys b) (from_none bound xs l) ∙ ap (λ ys. with_range xs a ++ ys) (with_none b),
  λ l. writes_each_side xs bound a b h r g ∙ ap (λ ys. with_range ys a ++ with_range (kept_from bound xs) b) (kept_none bound xs l) ∙ ap (λ ys. ys ++ with_range (kept_from bound xs) b) (with_none a) ∙ ap (λ ys. a ++ with_range ys b) (from_all bound xs l),
)
