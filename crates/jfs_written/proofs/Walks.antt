-- One pass over both lists is what writing part by part makes.
use Rattle.std.proofs.Common.{◌≡◌, ◌≤◌, ◌<◌, ◌⊎◌, inl, inr, refl, sym, ap, ◌∙◌, ℕ, ◌+◌, ◌-◌, ◌&&◌, Bool, true, false, if◌then◌else◌, List, [], ◌∷◌, ◌++◌, append_assoc, arith}
use Rattle.std.specs.Prelude.{nat_le}
use Rattle.std.proofs.lemmas.Bool.{lt-leb, leb-false, cases_lt}
use Rattle.jfs_bits.specs.declared.extent.Xad.{Xad}
use Rattle.jfs_xtpage.specs.Page.{end_of, rises_from}
use Rattle.jfs_xtree.specs.Laws.{ends_after}
use Rattle.jfs_xtree.specs.Cutting.{up_to, kept_below}
use Rattle.jfs_xtree.specs.CutParts.{AllFrom}
use Rattle.jfs_xtree.specs.Writing.{kept_from, is_hole, joined, with_written, with_all_written, AllTo}
use Rattle.jfs_xtree.proofs.Pages.{rises_more, rises_less, rises_weaker}
use Rattle.jfs_xtree.proofs.CutRows.{kept_none, kept_append}
use Rattle.jfs_xtree.proofs.WrittenIn.{kept_all, from_append, from_none, from_all, all_from_less, all_to_more, from_low, written_in_hole}
use Rattle.jfs_written.specs.Range.{parts_of, with_range}
use Rattle.jfs_written.specs.Walk.{all_joined, under, walked}
use Rattle.jfs_written.proofs.Cuts.{Side, before, behind, across, side_of, shorter, later, shorter_ends, later_ends, below_whole, below_part, from_whole, from_part, from_gone, from_from, all_to_append, below_ends, below_to, from_to, from_past}
use Rattle.jfs_written.proofs.Sides.{append_nothing, joined_to, hole_both, all_written_append}

-- ---- what is kept rises

below_end : (b : ℕ) (x : Xad) → end_of (up_to b x) ≤ end_of x
below_end b x = by (nat_le (end_of x) b) refl
  where
    by : (t : Bool) → nat_le (end_of x) b ≡ t → end_of (if t then x else shorter b x) ≤ end_of x
    by true i = omega arith
    by false i = elim (cases_lt x.offset b) [
      | inl l ↦ let m = leb-false (end_of x) b i in rw (shorter_ends b x l) (omega (arith, m))
      | inr l ↦ let z : b - x.offset ≡ 0 = omega (arith, l) in let w = ends_after x in rw z (omega (arith, w))
    ]

pub below_rises : (b low : ℕ) (xs : List Xad) → rises_from low xs ≡ true → rises_from low (kept_below b xs) ≡ true
below_rises b low [] r = refl
below_rises b low (x ∷ xs) r = let t = rises_less low x xs r in by (nat_le b x.offset) (nat_le (end_of x) b) refl t.0 (below_rises b (end_of x) xs t.1)
  where
    by : (s t : Bool) → nat_le (end_of x) b ≡ t → low ≤ x.offset → rises_from (end_of x) (kept_below b xs) ≡ true → rises_from low (if s then kept_below b xs else up_to b x ∷ kept_below b xs) ≡ true
    by true t i l h = let w = ends_after x in rises_weaker (kept_below b xs) (end_of x) low (omega (arith, l, w)) h
    by false true i l h = rw i (rises_more low x (kept_below b xs) l h)
    by false false i l h = rw i (rises_more low (shorter b x) (kept_below b xs) l (rises_weaker (kept_below b xs) (end_of x) (end_of (shorter b x)) (let m = below_end b x in rw i at m) h))

pub from_rises : (b low : ℕ) (xs : List Xad) → rises_from low xs ≡ true → rises_from b (kept_from b xs) ≡ true
from_rises b low [] r = refl
from_rises b low (x ∷ xs) r =
    let t = rises_less low x xs r in
    rw (from_append b (x ∷ []) xs) (by (side_of b x) t.1 (from_rises b (end_of x) xs t.1))
  where
    rest : b < end_of x → rises_from (end_of x) xs ≡ true → rises_from (end_of x) (kept_from b xs) ≡ true
    rest l r = rw (from_all b xs (all_from_less (end_of x) b xs (omega (arith, l)) (from_low (end_of x) xs r))) r

    by : Side b x → rises_from (end_of x) xs ≡ true → rises_from b (kept_from b xs) ≡ true → rises_from b (kept_from b (x ∷ []) ++ kept_from b xs) ≡ true
    by (before h) r g = rw (from_gone b x h) g
    by (behind h) r g = let w = ends_after x in rw (from_whole b x h) (rises_more b x (kept_from b xs) h (rest (omega (arith, h, w)) r))
    by (across h k) r g = rw (from_part b x h k) (rises_more b (later b x) (kept_from b xs) (omega arith) (rw (later_ends b x k) (rest k r)))

-- ---- in a hole

pub all_joined_to : (top : ℕ) (a ps : List Xad) → AllTo top a → AllTo top ps → AllTo top (all_joined a ps)
all_joined_to top a [] h g = h
all_joined_to top a (p ∷ ps) h g = all_joined_to top (joined a p) ps (joined_to top a p h g.0) g.1

-- the extents end before what stands behind them, if any does
abbrev Clear : List Xad → List Xad → Type 0
Clear ps b = (b ≡ []) ⊎ ((bound : ℕ) × AllTo bound ps × AllFrom bound b)

clear_first : (p : Xad) (ps b : List Xad) → Clear (p ∷ ps) b → AllFrom (end_of p) b
clear_first p ps b (inl none) = rw none tt
clear_first p ps b (inr h) = all_from_less h.0 (end_of p) b h.1.0 h.2

clear_rest : (p : Xad) (ps b : List Xad) → Clear (p ∷ ps) b → Clear ps b
clear_rest p ps b (inl none) = inl none
clear_rest p ps b (inr h) = inr (h.0, h.1.1, h.2)

joins_all : (low : ℕ) (ps a b : List Xad) → AllTo low a → rises_from low ps ≡ true → Clear ps b → with_all_written ps (a ++ b) ≡ all_joined a ps ++ b
joins_all low [] a b h r c = refl
joins_all low (p ∷ ps) a b h r c =
    let t = rises_less low p ps r in
    let w = ends_after p in let l = t.0 in
    ap (with_all_written ps) (written_in_hole p a b (all_to_more low p.offset a l h) (clear_first p ps b c))
    ∙ joins_all (end_of p) ps (joined a p) b (joined_to (end_of p) a p (all_to_more low (end_of p) a (omega (arith, l, w)) h) (omega arith)) t.1 (clear_rest p ps b c)

-- ---- in an entry

record Rest (from : ℕ) (e : Xad) : Type 0 where
  f : Xad
  is : kept_from from (e ∷ []) ≡ f ∷ []
  begins : f.offset ≡ from + (e.offset - from)
  ends : end_of f ≡ end_of e

rest_of : (from : ℕ) (e : Xad) → from < end_of e → Rest from e
rest_of from e l = elim (cases_lt e.offset from) [
  | inl h ↦ record { f = later from e; is = from_part from e h l; begins = omega (arith, h); ends = later_ends from e l }
  | inr h ↦ record { f = e; is = from_whole from e h; begins = omega (arith, h); ends = refl }
]

pub record Part (e x : Xad) : Type 0 where
  pub p : Xad
  pub is : kept_below (end_of e) (kept_from e.offset (x ∷ [])) ≡ p ∷ []
  pub begins : ((p.offset ≡ x.offset) × (e.offset ≤ x.offset)) ⊎ ((p.offset ≡ e.offset) × (x.offset ≤ e.offset))
  pub ends : ((end_of p ≡ end_of x) × (end_of x ≤ end_of e)) ⊎ ((end_of p ≡ end_of e) × (end_of e ≤ end_of x))

part_up : (e x q : Xad) → kept_from e.offset (x ∷ []) ≡ q ∷ [] → ((q.offset ≡ x.offset) × (e.offset ≤ x.offset)) ⊎ ((q.offset ≡ e.offset) × (x.offset ≤ e.offset)) → end_of q ≡ end_of x → q.offset < end_of e → Part e x
part_up e x q is begins ends l = elim (cases_lt (end_of e) (end_of q)) [
  | inl h ↦ record { p = shorter (end_of e) q; is = ap (kept_below (end_of e)) is ∙ below_part (end_of e) q l h; begins = begins; ends = inr (shorter_ends (end_of e) q l, omega (arith, h, ends)) }
  | inr h ↦ record { p = q; is = ap (kept_below (end_of e)) is ∙ below_whole (end_of e) q h; begins = begins; ends = inl (ends, omega (arith, h, ends)) }
]

pub part_of : (e x : Xad) → e.offset < end_of x → x.offset < end_of e → Part e x
part_of e x l m = elim (cases_lt x.offset e.offset) [
  | inl h ↦ part_up e x (later e.offset x) (from_part e.offset x h l) (inr (refl, omega (arith, h))) (later_ends e.offset x l) (ends_after e)
  | inr h ↦ part_up e x x (from_whole e.offset x h) (inl (refl, h)) refl m
]

hole_none : (p f : Xad) → f.offset < end_of p → p.offset < end_of f → is_hole p (f ∷ []) ≡ false
hole_none p f l m = rw (lt-leb (end_of f) p.offset m, lt-leb (end_of p) f.offset l) refl

and_none : (s t : Bool) → t ≡ false → (s && t) ≡ false
and_none true t h = h
and_none false t h = refl

-- a part in what is left of an entry stands between what this keeps
written_between : (p : Xad) (a fs b : List Xad) → AllTo p.offset a → AllFrom (end_of p) b → is_hole p fs ≡ false → with_written p (a ++ (fs ++ b)) ≡ (a ++ (kept_below p.offset fs ++ p ∷ [])) ++ (kept_from (end_of p) fs ++ b)
written_between p a fs b h g none =
    let w = ends_after p in
    ap (λ t. (if t then joined (kept_below p.offset (a ++ (fs ++ b))) p else kept_below p.offset (a ++ (fs ++ b)) ++ p ∷ []) ++ kept_from (end_of p) (a ++ (fs ++ b)))
    (hole_both p a (fs ++ b) ∙ and_none (is_hole p a) (is_hole p (fs ++ b)) (hole_both p fs b ∙ ap (λ t. t && is_hole p b) none))
    ∙ ap (λ ys. (ys ++ p ∷ []) ++ kept_from (end_of p) (a ++ (fs ++ b)))
    (kept_append p.offset a (fs ++ b) ∙ ap (λ ys. ys ++ kept_below p.offset (fs ++ b)) (kept_all p.offset a h)
    ∙ ap (λ ys. a ++ ys) (kept_append p.offset fs b ∙ ap (λ ys. kept_below p.offset fs ++ ys) (kept_none p.offset b (all_from_less (end_of p) p.offset b (omega (arith, w)) g)) ∙ append_nothing (kept_below p.offset fs)))
    ∙ ap (λ ys. ((a ++ kept_below p.offset fs) ++ p ∷ []) ++ ys)
    (from_append (end_of p) a (fs ++ b) ∙ ap (λ ys. ys ++ kept_from (end_of p) (fs ++ b)) (from_none (end_of p) a (all_to_more p.offset (end_of p) a (omega (arith, w)) h))
    ∙ from_append (end_of p) fs b ∙ ap (λ ys. kept_from (end_of p) fs ++ ys) (from_all (end_of p) b g))
    ∙ ap (λ ys. ys ++ (kept_from (end_of p) fs ++ b)) (append_assoc a (kept_below p.offset fs) (p ∷ []))

-- the parts of one extent in what is left of an entry
abbrev StepsOver : ℕ → Xad → Xad → List Xad → List Xad → Type 0
StepsOver from x e a b = with_all_written (kept_below (end_of e) (kept_from e.offset (x ∷ []))) (a ++ (kept_from from (e ∷ []) ++ b))
    ≡ (a ++ (kept_below x.offset (kept_from from (e ∷ [])) ++ kept_below (end_of e) (kept_from e.offset (x ∷ [])))) ++ (kept_from (end_of x) (e ∷ []) ++ b)

-- where the extent ends before the entry
over_before : (from : ℕ) (x e : Xad) (a b : List Xad) → from ≤ x.offset → end_of x ≤ e.offset → StepsOver from x e a b
over_before from x e a b l m =
    let w = ends_after x in
    let part : kept_below (end_of e) (kept_from e.offset (x ∷ [])) ≡ [] = ap (kept_below (end_of e)) (from_gone e.offset x m) in
    let whole = from_whole from e (omega (arith, l, m, w)) in
    rw (part, whole, kept_none x.offset (e ∷ []) (omega (arith, m, w), tt), from_whole (end_of x) e m) (ap (λ ys. ys ++ e ∷ b) (sym (append_nothing a)))

-- where it begins behind it
over_behind : (from : ℕ) (x e : Xad) (a b : List Xad) → end_of e ≤ x.offset → StepsOver from x e a b
over_behind from x e a b m =
    let w = ends_after x in
    let part : kept_below (end_of e) (kept_from e.offset (x ∷ [])) ≡ [] = kept_none (end_of e) (kept_from e.offset (x ∷ [])) (from_past e.offset (end_of e) (x ∷ []) (m, tt)) in
    let all = kept_all x.offset (kept_from from (e ∷ [])) (from_to from x.offset (e ∷ []) (m, tt)) in
    let gone = from_gone (end_of x) e (omega (arith, m, w)) in
    rw (part, all, gone) (ap (λ ys. a ++ (ys ++ b)) (sym (append_nothing (kept_from from (e ∷ [])))) ∙ sym (append_assoc a (kept_from from (e ∷ []) ++ []) b))

-- where it has blocks of it
over_within : (from : ℕ) (x e : Xad) (a b : List Xad) → from ≤ x.offset → e.offset < end_of x → x.offset < end_of e → AllTo (from + (e.offset - from)) a → AllFrom (end_of e) b → StepsOver from x e a b
over_within from x e a b l m n h g =
    let r = rest_of from e (omega (arith, l, n)) in
    let q = part_of e x m n in
    let w = ends_after x in let v = ends_after e in let u = ends_after q.p in
    let near : from + (e.offset - from) ≤ q.p.offset = first q.p q.begins in
    let far : end_of q.p ≤ end_of e = last q.p q.ends in
    let past : from ≤ end_of q.p = omega (arith, near, u) in
    let fb = r.begins in let fe = r.ends in
    ap (λ ps. with_all_written ps (a ++ (kept_from from (e ∷ []) ++ b))) q.is
    ∙ written_between q.p a (kept_from from (e ∷ [])) b (all_to_more (from + (e.offset - from)) q.p.offset a near h) (all_from_less (end_of e) (end_of q.p) b far g)
    (ap (is_hole q.p) r.is ∙ hole_none q.p r.f (omega (arith, fb, near, u)) (omega (arith, fe, far, u)))
    ∙ ap (λ ys. (a ++ (ys ++ q.p ∷ [])) ++ (kept_from (end_of q.p) (kept_from from (e ∷ [])) ++ b)) (below_same q.p q.begins)
    ∙ ap (λ ys. (a ++ (kept_below x.offset (kept_from from (e ∷ [])) ++ ys)) ++ (kept_from (end_of q.p) (kept_from from (e ∷ [])) ++ b)) (sym q.is)
    ∙ ap (λ ys. (a ++ (kept_below x.offset (kept_from from (e ∷ [])) ++ kept_below (end_of e) (kept_from e.offset (x ∷ [])))) ++ (ys ++ b)) (from_from from (end_of q.p) (e ∷ []) past ∙ from_same q.p q.ends)
  where
    first : (p : Xad) → ((p.offset ≡ x.offset) × (e.offset ≤ x.offset)) ⊎ ((p.offset ≡ e.offset) × (x.offset ≤ e.offset)) → from + (e.offset - from) ≤ p.offset
    first p (inl s) = let i = s.0 in let j = s.1 in omega (arith, i, j, l)
    first p (inr s) = let i = s.0 in let j = s.1 in omega (arith, i, j, l)

    last : (p : Xad) → ((end_of p ≡ end_of x) × (end_of x ≤ end_of e)) ⊎ ((end_of p ≡ end_of e) × (end_of e ≤ end_of x)) → end_of p ≤ end_of e
    last p (inl s) = let i = s.0 in let j = s.1 in omega (arith, i, j)
    last p (inr s) = let i = s.0 in omega (arith, i)

    below_same : (p : Xad) → ((p.offset ≡ x.offset) × (e.offset ≤ x.offset)) ⊎ ((p.offset ≡ e.offset) × (x.offset ≤ e.offset)) → kept_below p.offset (kept_from from (e ∷ [])) ≡ kept_below x.offset (kept_from from (e ∷ []))
    below_same p (inl s) = ap (λ n. kept_below n (kept_from from (e ∷ []))) s.0
    below_same p (inr s) =
        let i = s.0 in let j = s.1 in
        kept_none p.offset (kept_from from (e ∷ [])) (from_past from p.offset (e ∷ []) (omega (arith, i), tt))
        ∙ sym (kept_none x.offset (kept_from from (e ∷ [])) (from_past from x.offset (e ∷ []) (j, tt)))

    from_same : (p : Xad) → ((end_of p ≡ end_of x) × (end_of x ≤ end_of e)) ⊎ ((end_of p ≡ end_of e) × (end_of e ≤ end_of x)) → kept_from (end_of p) (e ∷ []) ≡ kept_from (end_of x) (e ∷ [])
    from_same p (inl s) = ap (λ n. kept_from n (e ∷ [])) s.0
    from_same p (inr s) = let i = s.0 in from_gone (end_of p) e (omega (arith, i)) ∙ sym (from_gone (end_of x) e s.1)

steps_over : (from : ℕ) (x e : Xad) (a b : List Xad) → from ≤ x.offset → AllTo (from + (e.offset - from)) a → AllFrom (end_of e) b → StepsOver from x e a b
steps_over from x e a b l h g = elim (cases_lt e.offset (end_of x)) [
  | inr m ↦ over_before from x e a b l m
  | inl m ↦ elim (cases_lt x.offset (end_of e)) [
    | inl n ↦ over_within from x e a b l m n h g
    | inr n ↦ over_behind from x e a b n
  ]
]

-- what an entry is under extents ends where it does
pub under_to : (from : ℕ) (xs : List Xad) (e : Xad) → AllTo (end_of e) (under from xs e)
under_to from [] e = from_to from (end_of e) (e ∷ []) (omega arith, tt)
under_to from (x ∷ xs) e =
    all_to_append (end_of e) (kept_below x.offset (kept_from from (e ∷ []))) (kept_below (end_of e) (kept_from e.offset (x ∷ [])) ++ under (end_of x) xs e)
    (below_to x.offset (end_of e) (kept_from from (e ∷ [])) (from_to from (end_of e) (e ∷ []) (omega arith, tt)))
    (all_to_append (end_of e) (kept_below (end_of e) (kept_from e.offset (x ∷ []))) (under (end_of x) xs e) (below_ends (end_of e) (kept_from e.offset (x ∷ []))) (under_to (end_of x) xs e))

writes_under : (from : ℕ) (xs a b : List Xad) (e : Xad) → rises_from from xs ≡ true → AllTo (from + (e.offset - from)) a → AllFrom (end_of e) b
    → with_all_written (kept_below (end_of e) (kept_from e.offset xs)) (a ++ (kept_from from (e ∷ []) ++ b)) ≡ a ++ (under from xs e ++ b)
writes_under from [] a b e r h g = refl
writes_under from (x ∷ xs) a b e r h g =
    let t = rises_less from x xs r in
    let w = ends_after x in let l = t.0 in
    let k = kept_below x.offset (kept_from from (e ∷ [])) in
    let p = kept_below (end_of e) (kept_from e.offset (x ∷ [])) in
    let near : from + (e.offset - from) ≤ end_of x + (e.offset - end_of x) = omega (arith, l, w) in
    let front : AllTo (end_of x + (e.offset - end_of x)) (a ++ (k ++ p)) =
    all_to_append (end_of x + (e.offset - end_of x)) a (k ++ p) (all_to_more (from + (e.offset - from)) (end_of x + (e.offset - end_of x)) a near h)
    (all_to_append (end_of x + (e.offset - end_of x)) k p (all_to_more x.offset (end_of x + (e.offset - end_of x)) k (omega (arith, w)) (below_ends x.offset (kept_from from (e ∷ []))))
    (all_to_more (end_of x) (end_of x + (e.offset - end_of x)) p (omega arith) (below_to (end_of e) (end_of x) (kept_from e.offset (x ∷ [])) (from_to e.offset (end_of x) (x ∷ []) (omega arith, tt))))) in
    ap (λ ps. with_all_written ps (a ++ (kept_from from (e ∷ []) ++ b))) (ap (kept_below (end_of e)) (from_append e.offset (x ∷ []) xs) ∙ kept_append (end_of e) (kept_from e.offset (x ∷ [])) (kept_from e.offset xs))
    ∙ all_written_append p (kept_below (end_of e) (kept_from e.offset xs)) (a ++ (kept_from from (e ∷ []) ++ b))
    ∙ ap (with_all_written (kept_below (end_of e) (kept_from e.offset xs))) (steps_over from x e a b l h g)
    ∙ writes_under (end_of x) xs (a ++ (k ++ p)) b e t.1 front g
    ∙ append_assoc a (k ++ p) (under (end_of x) xs e ++ b)
    ∙ ap (λ ys. a ++ ys) (sym (append_assoc (k ++ p) (under (end_of x) xs e) b) ∙ ap (λ ys. ys ++ b) (append_assoc k p (under (end_of x) xs e)))

-- ---- the whole pass

pub walk_writes : (from : ℕ) (out es xs : List Xad) → AllTo from out → rises_from from es ≡ true → rises_from 0 xs ≡ true → with_all_written (parts_of es (kept_from from xs)) (out ++ es) ≡ walked from out es xs
walk_writes from out [] xs h r s = joins_all from (kept_from from xs) out [] h (from_rises from 0 xs s) (inl refl) ∙ append_nothing (all_joined out (kept_from from xs))
walk_writes from out (e ∷ es) xs h r s =
    let t = rises_less from e es r in
    let l = t.0 in let w = ends_after e in
    let top = kept_from from xs in
    let hole = kept_below e.offset top in
    let inside = kept_below (end_of e) (kept_from e.offset xs) in
    let done = all_joined out hole in
    let first = from_low e.offset (e ∷ es) (rises_more e.offset e es (omega arith) t.1) in
    let done_to : AllTo e.offset done = all_joined_to e.offset out hole (all_to_more from e.offset out l h) (below_ends e.offset top) in
    let after : AllTo (end_of e) (done ++ under 0 xs e) = all_to_append (end_of e) done (under 0 xs e) (all_to_more e.offset (end_of e) done (omega (arith, w)) done_to) (under_to 0 xs e) in
    ap (λ ys. with_all_written (hole ++ (kept_below (end_of e) ys ++ parts_of es (kept_from (end_of e) top))) (out ++ e ∷ es)) (from_from from e.offset xs l)
    ∙ ap (λ ys. with_all_written (hole ++ (inside ++ parts_of es ys)) (out ++ e ∷ es)) (from_from from (end_of e) xs (omega (arith, l, w)))
    ∙ all_written_append hole (inside ++ parts_of es (kept_from (end_of e) xs)) (out ++ e ∷ es)
    ∙ ap (with_all_written (inside ++ parts_of es (kept_from (end_of e) xs)))
    (joins_all from hole out (e ∷ es) h (below_rises e.offset from top (from_rises from 0 xs s)) (inr (e.offset, below_ends e.offset top, first)))
    ∙ all_written_append inside (parts_of es (kept_from (end_of e) xs)) (done ++ e ∷ es)
    ∙ ap (with_all_written (parts_of es (kept_from (end_of e) xs)))
    (ap (λ ys. with_all_written inside (done ++ (ys ++ es))) (sym (from_whole 0 e (omega arith))) ∙ writes_under 0 xs done es e s (all_to_more e.offset (0 + (e.offset - 0)) done (omega arith) done_to) (from_low (end_of e) es t.1)
    ∙ sym (append_assoc done (under 0 xs e) es))
    ∙ walk_writes (end_of e) (done ++ under 0 xs e) es xs after t.1 s

-- from the first block on, it is the range that is written
pub walk_is_range : (es xs : List Xad) → rises_from 0 es ≡ true → rises_from 0 xs ≡ true → walked 0 [] es xs ≡ with_range xs es
walk_is_range es xs r s = sym (walk_writes 0 [] es xs tt r s) ∙ ap (λ ys. with_all_written (parts_of es ys) es) (from_all 0 xs (from_low 0 xs s))
