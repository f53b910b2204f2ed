-- The part of a tree below a page that is cut at a block of the file.
use Rattle.std.proofs.Common.{◌≡◌, ◌≤◌, ◌<◌, refl, sym, ap, ◌∙◌, subst, ℕ, zero, suc, ◌+◌, ◌-◌, ◌==◌, Bool, true, false, if◌then◌else◌, List, [], ◌∷◌, map, length, Option, Some, arith}
use Rattle.std.specs.Prelude.{nat_le, ◌||◌}
use Rattle.std.proofs.lemmas.Bool.{leb-true, leb-false, le-leb}
use Rattle.jfs_bits.specs.declared.extent.Xad.{Xad}
use Rattle.jfs_bits.specs.declared.descriptor.Pxd.{Pxd}
use Rattle.jfs_bits.specs.declared.rule.Rule.TheVariants as rules
use Rattle.jfs_tree.specs.Walk.{Child, Leaf, Broken, Page, Key, Row, Fault, Marks, UpTo, Rises, rows_of, times, placed, body, walk}
use Rattle.jfs_tree.specs.Edit.{count_in, bound, FitsFirst}
use Rattle.jfs_tree.proofs.Rising.{upto_lower, rises_lower, rises_cut}
use Rattle.jfs_tree.proofs.Between.{append_nil}
use Rattle.jfs_tree.proofs.Keys.{rises_up}
use Rattle.jfs_tree.proofs.Leaves.{rows_leaf, times_leaf, placed_leaf}
use Rattle.jfs_xtpage.specs.Page.{end_of}
use Rattle.jfs_xtree.specs.Laws.{order, ends_after}
use Rattle.jfs_xtree.specs.Node.{xt_scale}
use Rattle.jfs_xtree.specs.Cutting.{up_to, kept_below, gone_past}
use Rattle.jfs_xtree.specs.Spells.{page_nodes}
use Rattle.jfs_xtree.specs.CutParts.{CutsNode, AllFrom, shows}
use Rattle.jfs_xtree.proofs.CutRows.{kept_none, gone_all, kept_first, gone_first}

-- what rises comes up to its end
pub span : (low : ℕ) (ms : Marks ℕ Xad) (high : Option ℕ) → Rises xt_scale low ms high → UpTo xt_scale low high
span low ms high r =
    let t = rises_cut xt_scale order low ms [] high (subst (λ ns. Rises xt_scale low ns high) (sym (append_nil ms)) r) in
    upto_lower xt_scale order low t.0 high (rises_up xt_scale order low ms t.0 t.1) t.2

-- what ends at or before the bound stays
pub rows_before : (bound low : ℕ) (ms : Marks ℕ Xad) (mid : ℕ) → Rises xt_scale low ms (Some mid) → mid ≤ bound → (kept_below bound (rows_of ms) ≡ rows_of ms) × (gone_past bound (rows_of ms) ≡ [])
rows_before bound low [] mid r l = (refl, refl)
rows_before bound low (Page n ∷ ms) mid r l = rows_before bound low ms mid r l
rows_before bound low (Key n k ∷ ms) mid r l = rows_before bound k ms mid r.1 l
rows_before bound low (Row n e ∷ ms) mid r l =
    let t = rows_before bound (end_of e) ms mid r.1 l in
    let u = leb-true (end_of e) mid (rises_up xt_scale order (end_of e) ms mid r.1) in
    let h : end_of e ≤ bound = omega (arith, u, l) in
    (kept_first bound e (rows_of ms) h ∙ ap (λ xs. e ∷ xs) t.0, gone_first bound e (rows_of ms) h ∙ t.1)
rows_before bound low (Fault n f ∷ ms) mid r l = absurd r

-- what begins at or past the bound
pub rows_from : (bound low : ℕ) (ms : Marks ℕ Xad) (high : Option ℕ) → Rises xt_scale low ms high → bound ≤ low → AllFrom bound (rows_of ms)
rows_from bound low [] high r l = tt
rows_from bound low (Page n ∷ ms) high r l = rows_from bound low ms high r l
rows_from bound low (Key n k ∷ ms) high r l = let h = leb-true low k r.0 in rows_from bound k ms high r.1 (omega (arith, h, l))
rows_from bound low (Row n e ∷ ms) high r l =
    let h = leb-true low e.offset r.0 in let w = ends_after e in
    (omega (arith, h, l), rows_from bound (end_of e) ms high r.1 (omega (arith, h, l, w)))
rows_from bound low (Fault n f ∷ ms) high r l = absurd r

-- ---- a leaf

pub up_to_offset : (bound : ℕ) (x : Xad) → (up_to bound x).offset ≡ x.offset
up_to_offset bound x = by (nat_le (end_of x) bound)
  where
    by : (t : Bool) → (if t then x else record { flag = x.flag; offset = x.offset; at = record { len = bound - x.offset; addr = x.at.addr } }).offset ≡ x.offset
    by true = refl
    by false = refl

pub up_to_end : (bound : ℕ) (x : Xad) → x.offset < bound → end_of (up_to bound x) ≤ end_of x
up_to_end bound x l = by (nat_le (end_of x) bound) refl
  where
    shorter : bound < end_of x → x.offset + (if bound - x.offset == 0 then 1 else bound - x.offset) ≤ end_of x
    shorter h = grind (arith, h, l)

    by : (t : Bool) → nat_le (end_of x) bound ≡ t → end_of (if t then x else record { flag = x.flag; offset = x.offset; at = record { len = bound - x.offset; addr = x.at.addr } }) ≤ end_of x
    by true e = omega arith
    by false e = shorter (leb-false (end_of x) bound e)

rises_kept : (bound n low : ℕ) (es : List Xad) (high : Option ℕ) → Rises xt_scale low (map (Row n) es) high → Rises xt_scale low (map (Row n) (kept_below bound es)) high
rises_kept bound n low [] high r = r
rises_kept bound n low (e ∷ es) high r = by (nat_le bound e.offset) refl (rises_kept bound n (end_of e) es high r.1)
  where
    by : (t : Bool) → nat_le bound e.offset ≡ t → Rises xt_scale (end_of e) (map (Row n) (kept_below bound es)) high
        → Rises xt_scale low (map (Row n) (if t then kept_below bound es else up_to bound e ∷ kept_below bound es)) high
    by true is h =
        let a = leb-true low e.offset r.0 in let w = ends_after e in
        rises_lower xt_scale order low (end_of e) (map (Row n) (kept_below bound es)) high (le-leb low (end_of e) (omega (arith, a, w))) h
    by false is h = (
      subst (λ k. nat_le low k ≡ true) (sym (up_to_offset bound e)) r.0,
      rises_lower xt_scale order (end_of (up_to bound e)) (end_of e) (map (Row n) (kept_below bound es)) high (le-leb (end_of (up_to bound e)) (end_of e) (up_to_end bound e (leb-false bound e.offset is))) h,
    )

-- the first extent that is left begins where the first one did
fits_kept : (bound key low n : ℕ) (es : List Xad) (high : Option ℕ) → Rises xt_scale low (map (Row n) es) high → FitsFirst xt_scale key es → 0 < length (kept_below bound es) → FitsFirst xt_scale key (kept_below bound es)
fits_kept bound key low n [] high r fits some = fits
fits_kept bound key low n (e ∷ es) high r fits some = by (nat_le bound e.offset) refl some
  where
    none : (xs : List Xad) → xs ≡ [] → 0 < length xs → FitsFirst xt_scale key xs
    none [] is h = absurd (omega (arith, h))
    none (x ∷ xs) is h = absurd cc

    by : (t : Bool) → nat_le bound e.offset ≡ t → 0 < length (if t then kept_below bound es else up_to bound e ∷ kept_below bound es) → FitsFirst xt_scale key (if t then kept_below bound es else up_to bound e ∷ kept_below bound es)
    by true is h =
        let a = leb-true bound e.offset is in let w = ends_after e in
        none (kept_below bound es) (kept_none bound es (subst (AllFrom bound) (rows_leaf ℕ n es) (rows_from bound (end_of e) (map (Row n) es) high r.1 (omega (arith, a, w))))) h
    by false is h = subst (λ k. (key == 0 || key == k) ≡ true) (sym (up_to_offset bound e)) fits

leaf_shows : (f : Child ℕ → Marks ℕ Xad) (c : Child ℕ) (es : List Xad) (high : Option ℕ) → Rises xt_scale c.key (body f c (placed xt_scale zero c.key (Leaf es))) high → (body f c (placed xt_scale zero c.key (Leaf es)) ≡ map (Row c.page) es) × FitsFirst xt_scale c.key es
leaf_shows f c [] high r = absurd r
leaf_shows f c (e ∷ es) high r = by (xt_scale.fits c.key e) r
  where
    by : (b : Bool) → Rises xt_scale c.key (body f c (if b then Leaf (e ∷ es) else Broken rules.Order)) high → (body f c (if b then Leaf (e ∷ es) else Broken rules.Order) ≡ map (Row c.page) (e ∷ es)) × (b ≡ true)
    by true r = (refl, refl)
    by false r = absurd r

-- a leaf that keeps its extents below the bound
pub leaf_cuts : (blocks bound : ℕ) (before after : ℕ → List ℕ) (es : List Xad) (kept : Bool) (freed : List ℕ) (runs : List Pxd) → ((n : ℕ) → after n ≡ before n) → freed ≡ [] → runs ≡ gone_past bound es → (kept ≡ true → 0 < length (kept_below bound es)) → (kept ≡ false → kept_below bound es ≡ [])
    → CutsNode blocks bound before after (Leaf es) (Leaf (kept_below bound es)) kept freed runs
leaf_cuts blocks bound before after es kept freed runs same none gone some gone_all (suc below) c high r once = absurd r
leaf_cuts blocks bound before after es true freed runs same none gone some nothing zero c high r once =
    let t = leaf_shows (walk xt_scale (page_nodes blocks before) zero) c es high r in
    let rr = subst (λ ms. Rises xt_scale c.key ms high) t.0 r in
    let fits = fits_kept bound c.key c.key c.page es high rr t.1 (some refl) in
    let new : shows (page_nodes blocks after) zero c (Leaf (kept_below bound es)) ≡ map (Row c.page) (kept_below bound es) = ap (body (walk xt_scale (page_nodes blocks after) zero) c) (placed_leaf xt_scale c.key (kept_below bound es) fits) in (
      record {
        rows = ap rows_of new ∙ rows_leaf ℕ c.page (kept_below bound es) ∙ sym (ap (kept_below bound) (ap rows_of t.0 ∙ rows_leaf ℕ c.page es));
        gone = gone ∙ sym (ap (gone_past bound) (ap rows_of t.0 ∙ rows_leaf ℕ c.page es));
        rises = subst (λ ms. Rises xt_scale c.key ms high) (sym new) (rises_kept bound c.page c.key es high rr);
        pages = λ n. (let a = ap (times n) new in let b = times_leaf ℕ n c.page (kept_below bound es) in let d = ap (times n) t.0 in let e = times_leaf ℕ n c.page es in let f = ap (count_in n) none in omega (arith, a, b, d, e, f));
        keeps = λ n z. same n;
      },
      λ e least depth line. tt,
    )
leaf_cuts blocks bound before after es false freed runs same none gone some nothing zero c high r once =
    let t = leaf_shows (walk xt_scale (page_nodes blocks before) zero) c es high r in (
      record {
        rows = sym (ap (kept_below bound) (ap rows_of t.0 ∙ rows_leaf ℕ c.page es) ∙ nothing refl);
        gone = gone ∙ sym (ap (gone_past bound) (ap rows_of t.0 ∙ rows_leaf ℕ c.page es));
        rises = span c.key (shows (page_nodes blocks before) zero c (Leaf es)) high r;
        pages = λ n. (let d = ap (times n) t.0 in let e = times_leaf ℕ n c.page es in let f = ap (count_in n) none in omega (arith, d, e, f));
        keeps = λ n z. same n;
      },
      λ e least depth line. tt,
    )
