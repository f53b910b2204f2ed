-- Parts that no entry cuts.
use Rattle.std.proofs.Common.{◌≡◌, ◌≤◌, ◌⊎◌, inl, inr, refl, ap, ℕ, true, List, [], ◌∷◌, ◌++◌, arith}
use Rattle.std.specs.List.{AllByRecursion as Each}
use Rattle.std.proofs.lemmas.List.Elements.{All-from_recursion}
use Rattle.jfs_bits.specs.declared.extent.Xad.{Xad}
use Rattle.jfs_xtpage.specs.Page.{end_of, rises_from}
use Rattle.jfs_xtree.specs.Laws.{ends_after}
use Rattle.jfs_xtree.specs.Cutting.{kept_below}
use Rattle.jfs_xtree.specs.CutParts.{AllFrom}
use Rattle.jfs_xtree.specs.Writing.{kept_from, with_all_written, AllTo}
use Rattle.jfs_xtree.proofs.Pages.{rises_less, rises_more}
use Rattle.jfs_xtree.proofs.WrittenIn.{from_low}
use Rattle.jfs_written.specs.Range.{parts_of}
use Rattle.jfs_written.specs.RangeLaws.{IsUncut, CutsAtBorders, IsOneWritten}
use Rattle.jfs_written.proofs.Cuts.{below_ends, below_past, from_begins, below_gone, below_whole, from_gone, from_whole}
use Rattle.jfs_written.proofs.Sides.{parts_none, parts_from}
use Rattle.jfs_written.proofs.Each.{each_append}

-- extents that end before the entries begin are cut by none
ends_uncut : (bound : ℕ) (p : Xad) (es : List Xad) → end_of p ≤ bound → AllFrom bound es → IsUncut p es
ends_uncut bound p [] l h = tt
ends_uncut bound p (e ∷ es) l h = (inl (let g = h.0 in omega (arith, l, g)), ends_uncut bound p es l h.1)

before_uncut : (e : Xad) (ps es : List Xad) → AllTo e.offset ps → AllFrom e.offset es → Each (λ p. IsUncut p (e ∷ es)) ps
before_uncut e [] es h g = tt
before_uncut e (p ∷ ps) es h g = ((inl h.0, ends_uncut e.offset p es h.0 g), before_uncut e ps es h.1 g)

within_uncut : (e : Xad) (ps es : List Xad) → AllFrom e.offset ps → AllTo (end_of e) ps → AllFrom (end_of e) es → Each (λ p. IsUncut p (e ∷ es)) ps
within_uncut e [] es k h g = tt
within_uncut e (p ∷ ps) es k h g = ((inr (inr (k.0, h.0)), ends_uncut (end_of e) p es h.0 g), within_uncut e ps es k.1 h.1 g)

behind_uncut : (e : Xad) (ps es : List Xad) → AllFrom (end_of e) ps → Each (λ p. IsUncut p es) ps → Each (λ p. IsUncut p (e ∷ es)) ps
behind_uncut e [] es k h = tt
behind_uncut e (p ∷ ps) es k h = ((inr (inl k.0), h.0), behind_uncut e ps es k.1 h.1)

each_free : (xs : List Xad) → Each (λ p. IsUncut p []) xs
each_free [] = tt
each_free (x ∷ xs) = (tt, each_free xs)

parts_uncut : (low : ℕ) (es xs : List Xad) → rises_from low es ≡ true → Each (λ p. IsUncut p es) (parts_of es xs)
parts_uncut low [] xs r = each_free xs
parts_uncut low (e ∷ es) xs r =
    let t = rises_less low e es r in
    let hole = kept_below e.offset xs in
    let inside = kept_below (end_of e) (kept_from e.offset xs) in
    let rest = parts_of es (kept_from (end_of e) xs) in
    let behind = from_low e.offset (e ∷ es) (rises_more e.offset e es (omega arith) t.1) in
    each_append (λ p. IsUncut p (e ∷ es)) hole (inside ++ rest) (before_uncut e hole es (below_ends e.offset xs) behind.1)
    (each_append (λ p. IsUncut p (e ∷ es)) inside rest
    (within_uncut e inside es (below_past (end_of e) e.offset (kept_from e.offset xs) (from_begins e.offset xs)) (below_ends (end_of e) (kept_from e.offset xs)) (from_low (end_of e) es t.1))
    (behind_uncut e rest es (parts_from (end_of e) es (kept_from (end_of e) xs) (from_begins (end_of e) xs)) (parts_uncut (end_of e) es (kept_from (end_of e) xs) t.1)))

pub cuts_at_borders : (xs es : List Xad) → CutsAtBorders xs es
cuts_at_borders xs es r = All-from_recursion (λ p. IsUncut p es) (parts_of es xs) (parts_uncut 0 es xs r)

-- an extent that no entry cuts is its own one part
uncut_part : (x : Xad) (es : List Xad) → IsUncut x es → parts_of es (x ∷ []) ≡ x ∷ []
uncut_part x [] h = refl
uncut_part x (e ∷ es) h = by h.0 (uncut_part x es h.1)
  where
    by : (end_of x ≤ e.offset) ⊎ ((end_of e ≤ x.offset) ⊎ ((e.offset ≤ x.offset) × (end_of x ≤ end_of e))) → parts_of es (x ∷ []) ≡ x ∷ [] → parts_of (e ∷ es) (x ∷ []) ≡ x ∷ []
    by (inl l) rest =
        let w = ends_after e in
        rw (below_whole e.offset x l, from_gone e.offset x l, from_gone (end_of e) x (omega (arith, l, w))) (ap (λ ys. x ∷ ys) (parts_none es))
    by (inr (inl l)) rest =
        let w = ends_after e in
        rw (below_gone e.offset x (omega (arith, l, w)), from_whole e.offset x (omega (arith, l, w)), below_gone (end_of e) x l, from_whole (end_of e) x l) rest
    by (inr (inr l)) rest = rw (below_gone e.offset x l.0, from_whole e.offset x l.0, below_whole (end_of e) x l.1, from_gone (end_of e) x l.1) (ap (λ ys. x ∷ ys) (parts_none es))

pub is_one_written : (x : Xad) (es : List Xad) → IsOneWritten x es
is_one_written x es h = ap (λ ps. with_all_written ps es) (uncut_part x es h)
