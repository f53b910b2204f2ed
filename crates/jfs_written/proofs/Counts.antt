-- How many entries there are once a range is written.
use Rattle.std.proofs.Common.{◌≡◌, ◌≤◌, inl, inr, refl, ap, ◌∙◌, ℕ, ◌+◌, ◌-◌, Bool, true, false, if◌then◌else◌, List, [], ◌∷◌, ◌++◌, length, arith, length-append}
use Rattle.std.specs.Prelude.{nat_le}
use Rattle.std.proofs.lemmas.Bool.{lt-leb, leb-true, leb-false, cases_lt}
use Rattle.jfs_bits.specs.declared.extent.Xad.{Xad}
use Rattle.jfs_xtpage.specs.Page.{end_of, rises_from}
use Rattle.jfs_xtree.specs.Laws.{ends_after}
use Rattle.jfs_xtree.specs.Cutting.{up_to, kept_below}
use Rattle.jfs_xtree.specs.CutParts.{AllFrom}
use Rattle.jfs_xtree.specs.Writing.{from_on, kept_from, is_hole, continues, merged, joined, with_written, with_all_written, AllTo}
use Rattle.jfs_xtree.proofs.Pages.{rises_more, rises_less, rises_weaker}
use Rattle.jfs_xtree.proofs.CutRows.{kept_none, kept_append}
use Rattle.jfs_xtree.proofs.WrittenIn.{kept_all, from_append, from_none, all_from_less, all_to_more, from_low}
use Rattle.jfs_written.specs.Range.{parts_of, with_range}
use Rattle.jfs_written.specs.RangeLaws.{LosesNone, AddsFew}
use Rattle.jfs_written.specs.Walk.{all_joined, under, walked}
use Rattle.jfs_written.proofs.Cuts.{from_whole, from_from, from_begins, below_below, below_ends}
use Rattle.jfs_written.proofs.Sides.{append_nothing, front_to, parts_to, parts_from}
use Rattle.jfs_written.proofs.Walks.{part_of, walk_is_range}
use Rattle.jfs_written.proofs.Each.{rises_still}

-- ---- none is lost

joined_more : (a : List Xad) (x : Xad) → length a ≤ length (joined a x)
joined_more [] x = omega arith
joined_more (e ∷ []) x = by (continues e x)
  where
    by : (t : Bool) → 1 ≤ length (if t then merged e x ∷ [] else e ∷ x ∷ [])
    by true = omega arith
    by false = omega arith
joined_more (e ∷ f ∷ a) x = let h = joined_more (f ∷ a) x in omega (arith, h)

all_joined_more : (a ps : List Xad) → length a ≤ length (all_joined a ps)
all_joined_more a [] = omega arith
all_joined_more a (p ∷ ps) = let h = joined_more a p in let g = all_joined_more (joined a p) ps in omega (arith, h, g)

-- an entry under extents is there still
under_some : (from : ℕ) (xs : List Xad) (e : Xad) → from ≤ e.offset → 1 ≤ length (under from xs e)
under_some from [] e l = rw (from_whole from e l) (omega arith)
under_some from (x ∷ xs) e l =
    let k = length-append (kept_below x.offset (kept_from from (e ∷ []))) (kept_below (end_of e) (kept_from e.offset (x ∷ [])) ++ under (end_of x) xs e) in
    let p = length-append (kept_below (end_of e) (kept_from e.offset (x ∷ []))) (under (end_of x) xs e) in
    elim (cases_lt e.offset (end_of x)) [
      | inr m ↦ let h = under_some (end_of x) xs e m in omega (arith, k, p, h)
      | inl m ↦ elim (cases_lt x.offset (end_of e)) [
        | inl n ↦ let q = part_of e x m n in let h = ap length q.is in omega (arith, k, p, h)
        | inr n ↦
            let w = from_whole from e l in
            let h = ap length (ap (kept_below x.offset) w ∙ kept_all x.offset (e ∷ []) (n, tt)) in
            omega (arith, k, p, h)
      ]
    ]

walked_more : (from : ℕ) (out es xs : List Xad) → length out + length es ≤ length (walked from out es xs)
walked_more from out [] xs = let h = all_joined_more out (kept_from from xs) in omega (arith, h)
walked_more from out (e ∷ es) xs =
    let done = all_joined out (kept_below e.offset (kept_from from xs)) in
    let a = all_joined_more out (kept_below e.offset (kept_from from xs)) in
    let b = under_some 0 xs e (omega arith) in
    let c = length-append done (under 0 xs e) in
    let d = walked_more (end_of e) (done ++ under 0 xs e) es xs in
    omega (arith, a, b, c, d)

pub loses_none : (xs es : List Xad) → LosesNone xs es
loses_none xs es r s = let h = walked_more 0 [] es xs in let e = ap length (walk_is_range es xs s r) in omega (arith, h, e)

-- ---- few are added

-- what lies before a bound that the extents don't begin before, and behind one that they don't reach past
joined_below : (b : ℕ) (a : List Xad) (x : Xad) → b ≤ x.offset → length (kept_below b (joined a x)) ≡ length (kept_below b a)
joined_below b [] x l = ap length (kept_none b (x ∷ []) (l, tt))
joined_below b (e ∷ []) x l = by (continues e x) (nat_le b e.offset) refl
  where
    none : kept_below b (x ∷ []) ≡ []
    none = kept_none b (x ∷ []) (l, tt)

    by : (t s : Bool) → nat_le b e.offset ≡ s → length (kept_below b (if t then merged e x ∷ [] else e ∷ x ∷ [])) ≡ length (kept_below b (e ∷ []))
    by true true i = rw i refl
    by true false i = rw i refl
    by false s i = ap length (kept_append b (e ∷ []) (x ∷ []) ∙ ap (λ ys. kept_below b (e ∷ []) ++ ys) none ∙ append_nothing (kept_below b (e ∷ [])))
joined_below b (e ∷ f ∷ a) x l = by (nat_le b e.offset) (joined_below b (f ∷ a) x l)
  where
    by : (t : Bool) → length (kept_below b (joined (f ∷ a) x)) ≡ length (kept_below b (f ∷ a))
        → length (if t then kept_below b (joined (f ∷ a) x) else up_to b e ∷ kept_below b (joined (f ∷ a) x)) ≡ length (if t then kept_below b (f ∷ a) else up_to b e ∷ kept_below b (f ∷ a))
    by true h = h
    by false h = omega (arith, h)

front_below : (b : ℕ) (a : List Xad) (x : Xad) (t : Bool) → b ≤ x.offset → length (kept_below b (if t then joined a x else a ++ x ∷ [])) ≡ length (kept_below b a)
front_below b a x true l = joined_below b a x l
front_below b a x false l = ap length (kept_append b a (x ∷ []) ∙ ap (λ ys. kept_below b a ++ ys) (kept_none b (x ∷ []) (l, tt)) ∙ append_nothing (kept_below b a))

written_below : (b : ℕ) (x : Xad) (es : List Xad) → b ≤ x.offset → length (kept_below b (with_written x es)) ≡ length (kept_below b es)
written_below b x es l =
    let w = ends_after x in
    ap length (kept_append b (if is_hole x es then joined (kept_below x.offset es) x else kept_below x.offset es ++ x ∷ []) (kept_from (end_of x) es)
    ∙ ap (λ ys. kept_below b (if is_hole x es then joined (kept_below x.offset es) x else kept_below x.offset es ++ x ∷ []) ++ ys) (kept_none b (kept_from (end_of x) es) (all_from_less (end_of x) b (kept_from (end_of x) es) (omega (arith, l, w)) (from_begins (end_of x) es)))
    ∙ append_nothing (kept_below b (if is_hole x es then joined (kept_below x.offset es) x else kept_below x.offset es ++ x ∷ [])))
    ∙ front_below b (kept_below x.offset es) x (is_hole x es) l ∙ ap length (below_below x.offset b es l)

pub written_past : (b : ℕ) (x : Xad) (es : List Xad) → end_of x ≤ b → kept_from b (with_written x es) ≡ kept_from b es
written_past b x es l =
    let w = ends_after x in
    from_append b (if is_hole x es then joined (kept_below x.offset es) x else kept_below x.offset es ++ x ∷ []) (kept_from (end_of x) es)
    ∙ ap (λ ys. ys ++ kept_from b (kept_from (end_of x) es)) (from_none b (if is_hole x es then joined (kept_below x.offset es) x else kept_below x.offset es ++ x ∷ [])
    (front_to b (kept_below x.offset es) x (is_hole x es) (all_to_more x.offset b (kept_below x.offset es) (omega (arith, l, w)) (below_ends x.offset es)) l))
    ∙ from_from (end_of x) b es l

all_below : (b : ℕ) (ps es : List Xad) → AllFrom b ps → length (kept_below b (with_all_written ps es)) ≡ length (kept_below b es)
all_below b [] es h = refl
all_below b (p ∷ ps) es h = all_below b ps (with_written p es) h.1 ∙ written_below b p es h.0

all_past : (b : ℕ) (ps es : List Xad) → AllTo b ps → kept_from b (with_all_written ps es) ≡ kept_from b es
all_past b [] es h = refl
all_past b (p ∷ ps) es h = all_past b ps (with_written p es) h.1 ∙ written_past b p es h.0

-- each entry begins before a bound, or ends past it
both_sides : (b : ℕ) (es : List Xad) → length es ≤ length (kept_below b es) + length (kept_from b es)
both_sides b [] = omega arith
both_sides b (e ∷ es) = by (nat_le b e.offset) (nat_le (end_of e) b) refl refl (both_sides b es)
  where
    by : (s t : Bool) → nat_le b e.offset ≡ s → nat_le (end_of e) b ≡ t → length es ≤ length (kept_below b es) + length (kept_from b es)
        → length (e ∷ es) ≤ length (if s then kept_below b es else up_to b e ∷ kept_below b es) + length (if t then kept_from b es else from_on b e ∷ kept_from b es)
    by true true i j h = let l = leb-true b e.offset i in let m = leb-true (end_of e) b j in let w = ends_after e in absurd (omega (arith, l, m, w))
    by true false i j h = omega (arith, h)
    by false true i j h = omega (arith, h)
    by false false i j h = omega (arith, h)

-- as many entries at most begin in some blocks as there are blocks
fits_in : (low b : ℕ) (es : List Xad) → rises_from low es ≡ true → length (kept_below b es) ≤ b - low
fits_in low b [] r = omega arith
fits_in low b (e ∷ es) r =
    let t = rises_less low e es r in
    by (nat_le b e.offset) refl t.0 (fits_in (end_of e) b es t.1)
  where
    by : (s : Bool) → nat_le b e.offset ≡ s → low ≤ e.offset → length (kept_below b es) ≤ b - end_of e → length (if s then kept_below b es else up_to b e ∷ kept_below b es) ≤ b - low
    by true i l h = let w = ends_after e in omega (arith, w, l, h)
    by false i l h = let w = ends_after e in let m = leb-false b e.offset i in omega (arith, w, l, h, m)

fits_between : (low first b : ℕ) (es : List Xad) → rises_from low es ≡ true → first ≤ b → length (kept_below b es) ≤ length (kept_below first es) + (b - first)
fits_between low first b [] r l = omega arith
fits_between low first b (e ∷ es) r l = elim (cases_lt e.offset first) [
  | inl m ↦
      let t = rises_less low e es r in
      let h = fits_between (end_of e) first b es t.1 l in
      rw (lt-leb b e.offset (omega (arith, l, m)), lt-leb first e.offset m) (omega (arith, h))
  | inr m ↦ let t = rises_less low e es r in let h = fits_in first b (e ∷ es) (rises_more first e es m t.1) in omega (arith, h)
]

from_fewer : (b : ℕ) (es : List Xad) → length (kept_from b es) ≤ length es
from_fewer b [] = omega arith
from_fewer b (e ∷ es) = by (nat_le (end_of e) b) (from_fewer b es)
  where
    by : (t : Bool) → length (kept_from b es) ≤ length es → length (if t then kept_from b es else from_on b e ∷ kept_from b es) ≤ length (e ∷ es)
    by true h = omega (arith, h)
    by false h = omega (arith, h)

-- one entry at most begins before a block and ends past it
one_across : (low first b : ℕ) (es : List Xad) → rises_from low es ≡ true → first ≤ b → length (kept_below first es) + length (kept_from b es) ≤ length es + 1
one_across low first b [] r l = omega arith
one_across low first b (e ∷ es) r l = let t = rises_less low e es r in by (nat_le first e.offset) (nat_le (end_of e) b) refl refl (one_across (end_of e) first b es t.1 l) t.1
  where
    by : (s t : Bool) → nat_le first e.offset ≡ s → nat_le (end_of e) b ≡ t → length (kept_below first es) + length (kept_from b es) ≤ length es + 1 → rises_from (end_of e) es ≡ true
        → length (if s then kept_below first es else up_to first e ∷ kept_below first es) + length (if t then kept_from b es else from_on b e ∷ kept_from b es) ≤ length (e ∷ es) + 1
    by true true i j h r = omega (arith, h)
    by true false i j h r = omega (arith, h)
    by false true i j h r = omega (arith, h)
    by false false i j h r =
        let m = leb-false (end_of e) b j in
        let none = ap length (kept_none first es (all_from_less (end_of e) first es (omega (arith, m, l)) (from_low (end_of e) es r))) in
        let few = from_fewer b es in
        omega (arith, none, few)

pub adds_few : (xs es : List Xad) → AddsFew xs es
adds_few xs es first blocks begins ends r =
    let new = with_range xs es in
    let rises = rises_weaker new 0 0 (omega arith) (rises_still xs es 0 (from_zero xs) r) in
    let a = both_sides (first + blocks) new in
    let b = fits_between 0 first (first + blocks) new rises (omega arith) in
    let c = all_below first (parts_of es xs) es (parts_from first es xs begins) in
    let d = ap length (all_past (first + blocks) (parts_of es xs) es (parts_to (first + blocks) es xs ends)) in
    let e = one_across 0 first (first + blocks) es r (omega arith) in
    omega (arith, a, b, c, d, e)
  where
    from_zero : (ys : List Xad) → AllFrom 0 ys
    from_zero [] = tt
    from_zero (y ∷ ys) = (omega arith, from_zero ys)
