-- What is to stand at a root into whose list a range is written: a leaf, or an inner page.
use Rattle.std.proofs.Common.{◌≡◌, ◌≢◌, ◌≤◌, ◌<◌, inl, inr, refl, sym, ap, ◌∙◌, subst, ℕ, suc, ◌+◌, Bool, true, false, List, [], ◌∷◌, length, map, ◌==◌, if◌then◌else◌, Some, None, Ok, arith}
use Rattle.std.specs.List.{flat_map}
use Rattle.std.proofs.lemmas.Bool.{le-leb}
use Rattle.jfs_bits.specs.declared.extent.Xad.{Xad}
use Rattle.jfs_bits.specs.declared.rule.Rule.{Rule}
use Rattle.jfs_disk.specs.Image.{Image}
use Rattle.jfs_tree.specs.Walk.{Child, Node, Leaf, Inner, Page, Key, Row, Marks, Rises, rows_of, times, under, walk}
use Rattle.jfs_tree.specs.Spells.{no_page, with_root, levels_of, top, tree_of, spells}
use Rattle.jfs_tree.specs.Edit.{FitsFirst, count_in}
use Rattle.jfs_tree.specs.Levels.{InLine, IsFilledTo, pages_below}
use Rattle.jfs_tree.specs.Form.{AllBelow, IsFront}
use Rattle.jfs_tree.specs.Root.{IsSpare}
use Rattle.jfs_tree.specs.Draft.{shown}
use Rattle.jfs_tree.specs.declared.draft.Drafted.{Drafted}
use Rattle.jfs_tree.specs.declared.form.TreeError.TheVariants.{Bad}
use Rattle.jfs_tree.proofs.Filling.{children_stay, numbers, numbers_under, page_filled}
use Rattle.jfs_tree.proofs.Finding.{inner_level}
use Rattle.jfs_tree.proofs.Leaves.{cons_rows, rows_leaf, times_leaf}
use Rattle.jfs_tree.proofs.Once.{each_once}
use Rattle.jfs_tree.proofs.Spelled.{stands, Stands, levels_found}
use Rattle.jfs_tree.proofs.Tops.{count_below, off_root, root_else, unfooted}
use Rattle.jfs_xtpage.specs.declared.head.XtForm.TheVariants.{Full}
use Rattle.jfs_xtpage.specs.Page.{end_of, rises_from}
use Rattle.jfs_xtree.specs.Laws.{order}
use Rattle.jfs_xtree.specs.Node.{xt_scale, xt_node, child_of}
use Rattle.jfs_xtree.specs.Spells.{page_nodes}
use Rattle.jfs_xtree.specs.CutParts.{pages_of_entries}
use Rattle.jfs_xtree.specs.WriteParts.{drafted}
use Rattle.jfs_xtree.proofs.Pages.{rises_less}
use Rattle.jfs_written.specs.Range.{with_range}
use Rattle.jfs_put_range.specs.Call.{IsShortRange}
use Rattle.jfs_put_range.specs.Parts.{Framed, Takes, WroteChildren, RefutesChildren, parts_under}
use Rattle.jfs_put_range.specs.Tops.{AreFilled}
use Rattle.jfs_put_range.proofs.Filled.{pages_are}
use Rattle.jfs_put_range.proofs.Lists.{from_start}
use Rattle.jfs_put_range.proofs.Pages.{walk_inner}
use Rattle.jfs_put_range.proofs.Settling.{Stood, fewer_left}

-- ---- the free pages beside a tree

one_or : (t f : ℕ) → t ≤ 1 → f ≤ 1 → (0 < f → t ≡ 0) → t + f ≤ 1
one_or t f h i j = grind (arith, h, i, j)

none_free : (n f : ℕ) → f ≡ 0 → 0 < n → n ≡ f → ⊥
none_free n f z p e = omega (arith, z, p, e)

pub spare_once : (blocks : ℕ) (pages : ℕ → Node ℕ Xad) (root : Node ℕ Xad) (free : List ℕ) → AllBelow blocks free → blocks ≤ no_page → IsSpare xt_scale pages root free
    → ((n : ℕ) → times n (tree_of xt_scale pages root) ≤ 1) → (n : ℕ) → times n (tree_of xt_scale pages root) + count_in n free ≤ 1
spare_once blocks pages root free below within spare once n =
    one_or (times n (tree_of xt_scale pages root)) (count_in n free) (once n) (spare.once n)
    (λ p. let ne : n ≢ no_page = λ e. none_free (count_in n free) (count_in no_page free) (count_below blocks no_page free below within) p (ap (λ m. count_in m free) e) in
    sym (unfooted xt_scale pages root n ne) ∙ spare.apart n p)

-- ---- a leaf

rows_up : (n low : ℕ) (es : List Xad) → rises_from low es ≡ true → Rises xt_scale low (map (Row n) es) None
rows_up n low [] r = tt
rows_up n low (e ∷ es) r = let t = rises_less low e es r in (le-leb low e.offset t.0, rows_up n (end_of e) es t.1)

fits_first : (es : List Xad) → 0 < length es → FitsFirst xt_scale 0 es
fits_first [] h = absurd (omega (arith, h))
fits_first (e ∷ es) h = refl

leaf_walk : (pages : ℕ → Node ℕ Xad) (es : List Xad) → 0 < length es → walk xt_scale (with_root (Leaf es) pages) 1 (top xt_scale) ≡ Key no_page 0 ∷ Page no_page ∷ map (Row no_page) es
leaf_walk pages es h = cons_rows xt_scale (with_root (Leaf es) pages) (top xt_scale) es (fits_first es h) refl

leaf_whole : (pages : ℕ → Node ℕ Xad) (e : Xad) (es : List Xad) → tree_of xt_scale pages (Leaf (e ∷ es)) ≡ walk xt_scale (with_root (Leaf (e ∷ es)) pages) 1 (top xt_scale)
unfolding levels_of
leaf_whole pages e es = refl

more : (e : Xad) (es : List Xad) → 0 < length (e ∷ es)
more e es = omega arith

leaf_times : (pages : ℕ → Node ℕ Xad) (es : List Xad) (n : ℕ) → times n (tree_of xt_scale pages (Leaf es)) ≡ (if no_page == n then 1 else 0)
leaf_times pages [] n = omega arith
leaf_times pages (e ∷ es) n =
    ap (times n) (leaf_whole pages e es ∙ leaf_walk pages (e ∷ es) (more e es))
    ∙ (let z = times_leaf ℕ n no_page es in omega (arith, z))

at_most : (b : Bool) → (if b then 1 else 0) ≤ 1
at_most true = omega arith
at_most false = omega arith

-- a root that is a leaf is to have another list
pub leaf_stood : (blocks : ℕ) (image : Image) (list rest es : List Xad) (old : List Drafted) (root : Node ℕ Xad) (free : List ℕ) → root ≡ Leaf rest → 0 < length list → rises_from 0 list ≡ true
    → AllBelow blocks free → blocks ≤ no_page → spells xt_scale (drafted blocks old image) root ≡ Ok es → IsSpare xt_scale (drafted blocks old image) root free
    → Stood xt_scale (xt_node Full blocks) image list old old root (Leaf list) 1 free free
leaf_stood blocks image list rest es old root free is some rises below within spelled spare =
    let pages = drafted blocks old image in
    let now = leaf_walk pages list some in
    let was = λ (n : ℕ). ap (λ r. times n (tree_of xt_scale pages r)) is ∙ leaf_times pages rest n in
    record {
      most = omega arith;
      before = tree_of xt_scale pages root;
      was = refl;
      once = spare_once blocks pages root free below within spare (λ n. subst (λ m. m ≤ 1) (sym (was n)) (at_most (no_page == n)));
      rows = ap rows_of now ∙ rows_leaf ℕ no_page list;
      rises = subst (λ ms. Rises xt_scale 0 ms None) (sym now) (refl, rows_up no_page 0 list rises);
      pages = λ n. (let a = ap (times n) now in let z = times_leaf ℕ n no_page list in let b = was n in omega (arith, a, z, b));
      keeps = λ n h e. refl;
      fewer = λ n. omega arith;
    }

-- its levels are filled, with no page below it
pub leaf_filled : (least : ℕ) (pages : ℕ → Node ℕ Xad) (root : Node ℕ Xad) (list : List Xad) → AreFilled least (with_root root pages) → AreFilled least (with_root (Leaf list) pages)
leaf_filled least pages root list filled depth = page_filled least (with_root root pages) (with_root (Leaf list) pages) no_page (Leaf list) (λ d line. tt) refl depth (filled depth)

-- ---- an inner page

abbrev inner : List Xad → Node ℕ Xad
inner xs = Inner (map child_of xs)

inner_walk : (pages : ℕ → Node ℕ Xad) (root : Node ℕ Xad) (lower : ℕ) (xs : List Xad) → 0 < length xs → root ≡ inner xs
    → walk xt_scale (with_root root pages) (suc (suc lower)) (top xt_scale) ≡ Key no_page 0 ∷ Page no_page ∷ flat_map (walk xt_scale (with_root root pages) (suc lower)) (under 0 (map child_of xs))
inner_walk pages root lower xs some is = walk_inner (with_root root pages) lower (top xt_scale) xs some is

not_named : (w a : ℕ) → w ≡ (if no_page == no_page then 1 else 0) + a → w ≤ 1 → a ≡ 0
not_named w a e h = omega (arith, e, h)

part_once : (b w a f : ℕ) → w ≡ b + a → w + f ≤ 1 → a + f ≤ 1
part_once b w a f e h = omega (arith, e, h)

none_of : (b w a : ℕ) → w ≡ b + a → w ≡ 0 → a ≡ 0
none_of b w a e h = omega (arith, e, h)

away : (ms : Marks ℕ Xad) → times no_page ms ≡ 0 → (n : ℕ) → 0 < times n ms → n ≢ no_page
away ms none n p e = let h = ap (λ m. times m ms) e in omega (arith, none, p, h)

-- pages that are the same leave levels filled
line_stays : (least : ℕ) (old new : ℕ → Node ℕ Xad) (levels depth : ℕ) (xs : List Xad) → Rises xt_scale 0 (flat_map (walk xt_scale old levels) (under 0 (map child_of xs))) None
    → ((n : ℕ) → 0 < times n (flat_map (walk xt_scale old levels) (under 0 (map child_of xs))) → new n ≡ old n)
    → InLine (IsFilledTo least old depth) true (pages_of_entries xs) → InLine (IsFilledTo least new depth) true (pages_of_entries xs)
line_stays least old new levels depth xs rises agree line =
    let cs = under 0 (map child_of xs) in
    let is : numbers cs ≡ pages_of_entries xs = numbers_under 0 (map child_of xs) ∙ pages_are xs in
    subst (InLine (IsFilledTo least new depth) true) is (children_stay least xt_scale order old new levels depth cs 0 None true rises agree (subst (InLine (IsFilledTo least old depth) true) (sym is) line))

-- the part below a root, as the walk of the whole tree has it
record Below (blocks : ℕ) (pages : ℕ → List ℕ) (root : Node ℕ Xad) (entries es : List Xad) (free : List ℕ) (ms : Marks ℕ Xad) : Type 0 where
  lower : ℕ
  most : suc (suc lower) ≤ 8
  deep : levels_of (with_root root (page_nodes blocks pages)) 8 no_page ≡ Some (suc (suc lower))
  is : (n : ℕ) → times n ms ≡ (if no_page == n then 1 else 0) + times n (parts_under blocks pages (suc lower) 0 entries)
  rises : Rises xt_scale 0 (parts_under blocks pages (suc lower) 0 entries) None
  rows : rows_of (parts_under blocks pages (suc lower) 0 entries) ≡ es
  once : (n : ℕ) → times n ms + count_in n free ≤ 1
  off : times no_page (parts_under blocks pages (suc lower) 0 entries) ≡ 0
  line : (least depth : ℕ) → InLine (IsFilledTo least (with_root root (page_nodes blocks pages)) depth) true (pages_of_entries entries) → InLine (IsFilledTo least (page_nodes blocks pages) depth) true (pages_of_entries entries)

abbrev an_inner : List (Child ℕ) → Node ℕ Xad
an_inner cs = Inner cs

abbrev a_leaf : List Xad → Node ℕ Xad
a_leaf xs = Leaf xs

inner_not_leaf : (cs : List (Child ℕ)) → an_inner cs ≡ a_leaf [] → ⊥
inner_not_leaf cs e = cc

below_root : (blocks : ℕ) (image : Image) (entries es : List Xad) (old : List Drafted) (root : Node ℕ Xad) (free : List ℕ) → root ≡ inner entries → 0 < length entries
    → AllBelow blocks free → blocks ≤ no_page → spells xt_scale (drafted blocks old image) root ≡ Ok es → IsSpare xt_scale (drafted blocks old image) root free
    → Below blocks (shown old image) root entries es free (tree_of xt_scale (drafted blocks old image) root)
below_root blocks image entries es old root free is some below within spelled spare = elim (stands xt_scale pages root es spelled) [
  | inl e ↦ absurd (inner_not_leaf (map child_of entries) (sym is ∙ e.0))
  | inr st ↦ by st (inner_level xt_scale (with_root root pages) st.levels (top xt_scale) (map child_of entries) 0 None is st.rises)
]
  where
    pages : ℕ → Node ℕ Xad
    pages = drafted blocks old image

    by : (st : Stands xt_scale (with_root root pages) (tree_of xt_scale pages root) es) → ((lower : ℕ) × (st.levels ≡ suc (suc lower))) → Below blocks (shown old image) root entries es free (tree_of xt_scale pages root)
    by st (lower, level) =
        let cs = under 0 (map child_of entries) in
        let tree : tree_of xt_scale pages root ≡ walk xt_scale (with_root root pages) (suc (suc lower)) (top xt_scale) = st.is ∙ ap (λ l. walk xt_scale (with_root root pages) l (top xt_scale)) level in
        let whole = tree ∙ inner_walk pages root lower entries some is in
        let rises = subst (λ l. Rises xt_scale 0 (walk xt_scale (with_root root pages) l (top xt_scale)) None) level st.rises in
        let each = λ (n : ℕ). subst (λ ms. times n ms ≤ 1) (sym tree) (each_once xt_scale order (with_root root pages) (suc (suc lower)) (top xt_scale) 0 None rises n) in
        let none = not_named (times no_page (tree_of xt_scale pages root)) (times no_page (flat_map (walk xt_scale (with_root root pages) (suc lower)) cs)) (ap (times no_page) whole) (each no_page) in
        let same : flat_map (walk xt_scale pages (suc lower)) cs ≡ flat_map (walk xt_scale (with_root root pages) (suc lower)) cs
        = off_root xt_scale (with_root root pages) pages (suc lower) cs (λ n ne. sym (root_else root pages n ne)) none in
        let inside = (subst (λ ms. Rises xt_scale 0 ms None) (sym tree ∙ whole) rises).1 in
        record {
          lower = lower;
          most = let m = st.most in omega (arith, m, level);
          deep = levels_found xt_scale order (with_root root pages) (suc (suc lower)) 8 (top xt_scale) 0 None (let m = st.most in omega (arith, m, level)) rises;
          is = λ n. (let a = ap (times n) whole in let b = ap (times n) same in omega (arith, a, b));
          rises = subst (λ ms. Rises xt_scale 0 ms None) (sym same) inside;
          rows = ap rows_of same ∙ ap rows_of (sym whole ∙ tree) ∙ ap (λ l. rows_of (walk xt_scale (with_root root pages) l (top xt_scale))) (sym level) ∙ st.rows;
          once = spare_once blocks pages root free below within spare each;
          off = ap (times no_page) same ∙ none;
          line = λ least depth. line_stays least (with_root root pages) pages (suc lower) depth entries inside
              (λ n p. sym (root_else root pages n (away (flat_map (walk xt_scale (with_root root pages) (suc lower)) cs) none n p)));
        }

-- so a range can be written into it
takes_below : (blocks : ℕ) (xs entries es : List Xad) (pages : ℕ → List ℕ) (root : Node ℕ Xad) (free : List ℕ) (ms : Marks ℕ Xad) → (range : IsShortRange blocks xs) → (b : Below blocks pages root entries es free ms)
    → Takes xs true true range.first 0 0 (parts_under blocks pages (suc b.lower) 0 entries) None free
takes_below blocks xs entries es pages root free ms range b = record {
  lies = range.lies;
  rises = b.rises;
  above = from_start xs;
  below = tt;
  begins = λ e. absurd cc;
  ends = λ e. absurd cc;
  once = λ n. part_once (if no_page == n then 1 else 0) (times n ms) (times n (parts_under blocks pages (suc b.lower) 0 entries)) (count_in n free) (b.is n) (b.once n);
}

new_off : (c l b f : ℕ) → c + l ≡ b + f → b ≡ 0 → f ≡ 0 → c ≡ 0
new_off c l b f e h i = omega (arith, e, h, i)

-- a root that is an inner page is to have other children
pub record InnerStood (blocks : ℕ) (image : Image) (xs entries made es : List Xad) (old mid : List Drafted) (root : Node ℕ Xad) (levels : ℕ) (free between : List ℕ) : Type 0 where
  pub deep : levels_of (with_root root (drafted blocks old image)) 8 no_page ≡ Some (levels + 1)
  pub most : levels + 1 ≤ 8
  pub rises : rises_from 0 made ≡ true
  pub fills : (least : ℕ) → least ≤ 127 → AreFilled least (with_root root (drafted blocks old image)) → AreFilled least (with_root (inner made) (drafted blocks mid image))
  pub stood : Stood xt_scale (xt_node Full blocks) image (with_range xs es) old mid root (inner made) (levels + 1) free between

pub inner_stood : (blocks : ℕ) (image : Image) (xs entries made es : List Xad) (old mid : List Drafted) (root : Node ℕ Xad) (levels : ℕ) (free between : List ℕ) → IsShortRange blocks xs → root ≡ inner entries
    → 0 < length entries → rises_from 0 entries ≡ true → 0 < length made → AllBelow blocks free → blocks ≤ no_page → IsFront between free
    → WroteChildren true blocks xs true true true (shown old image) (shown mid image) levels entries made free between
    → spells xt_scale (drafted blocks old image) root ≡ Ok es → IsSpare xt_scale (drafted blocks old image) root free
    → InnerStood blocks image xs entries made es old mid root levels free between
inner_stood blocks image xs entries made es old mid root levels free between range is some rising some_made below within front wrote spelled spare =
    let b = below_root blocks image entries es old root free is some below within spelled spare in
    let w = wrote (suc b.lower) 0 0 None range.first rising (λ e. absurd cc) (takes_below blocks xs entries es (shown old image) root free (tree_of xt_scale (drafted blocks old image) root) range b) in
    let level = w.2 range.some in
    let pages = drafted blocks mid image in
    let cs = under 0 (map child_of made) in
    let new = parts_under blocks (shown mid image) (suc b.lower) 0 made in
    let off : times no_page new ≡ 0 = new_off (times no_page new) (count_in no_page between) (times no_page (parts_under blocks (shown old image) (suc b.lower) 0 entries)) (count_in no_page free) (w.0.pages no_page) b.off (count_below blocks no_page free below within) in
    let same : flat_map (walk xt_scale (with_root (inner made) pages) (suc b.lower)) cs ≡ new = off_root xt_scale pages (with_root (inner made) pages) (suc b.lower) cs (λ n ne. root_else (inner made) pages n ne) off in
    let whole : walk xt_scale (with_root (inner made) pages) (suc (suc b.lower)) (top xt_scale) ≡ Key no_page 0 ∷ Page no_page ∷ new = inner_walk pages (inner made) b.lower made some_made refl ∙ ap (λ ms. Key no_page 0 ∷ Page no_page ∷ ms) same in
    let all : suc (suc b.lower) ≡ levels + 1 = omega (arith, level) in
    record {
      deep = b.deep ∙ ap (λ l. Some l) all;
      most = subst (λ l. l ≤ 8) all b.most;
      rises = w.3.order 0 rising (λ e. refl);
      fills = λ least bound filled depth. page_filled least (with_root root (drafted blocks old image)) (with_root (inner made) pages) no_page (inner made)
          (λ d line. subst (InLine (IsFilledTo least (with_root (inner made) pages) d) true) (sym (pages_are made))
          (line_stays least pages (with_root (inner made) pages) (suc b.lower) d made w.0.rises (λ n p. root_else (inner made) pages n (away new off n p))
          (w.5 least bound d true (λ e. refl) (b.line least d (subst (InLine (IsFilledTo least (with_root root (drafted blocks old image)) d) true) (pages_are entries)
          (subst (λ (node : Node ℕ Xad). InLine (IsFilledTo least (with_root root (drafted blocks old image)) d) true (pages_below node)) is line)))))) refl depth (filled depth);
      stood = subst (λ l. Stood xt_scale (xt_node Full blocks) image (with_range xs es) old mid root (inner made) l free between) all (record {
        most = b.most;
        before = tree_of xt_scale (drafted blocks old image) root;
        was = refl;
        once = b.once;
        rows = ap rows_of whole ∙ w.0.rows ∙ ap (with_range xs) b.rows;
        rises = subst (λ ms. Rises xt_scale 0 ms None) (sym whole) (refl, w.0.rises);
        pages = λ n. (let p = w.0.pages n in let e = ap (times n) whole in let i = b.is n in omega (arith, p, e, i));
        keeps = λ n h e. w.0.keeps n (elim h [ inl i ↦ subst (λ m. times m (parts_under blocks (shown old image) (suc b.lower) 0 entries) ≡ 0) (sym i) b.off | inr z ↦ none_of (if no_page == n then 1 else 0) _ (times n (parts_under blocks (shown old image) (suc b.lower) 0 entries)) (b.is n) z ]) e;
        fewer = λ n. (let f = fewer_left n free between front in omega (arith, f));
      });
    }

-- the frames of the pages below it
pub inner_framed : (blocks : ℕ) (image : Image) (xs entries made es : List Xad) (old mid : List Drafted) (root : Node ℕ Xad) (levels : ℕ) (free between : List ℕ) → IsShortRange blocks xs → root ≡ inner entries
    → 0 < length entries → rises_from 0 entries ≡ true → AllBelow blocks free → blocks ≤ no_page → WroteChildren true blocks xs true true true (shown old image) (shown mid image) levels entries made free between
    → spells xt_scale (drafted blocks old image) root ≡ Ok es → IsSpare xt_scale (drafted blocks old image) root free → Framed (shown old image) (shown mid image) free between
inner_framed blocks image xs entries made es old mid root levels free between range is some rising below within wrote spelled spare =
    let b = below_root blocks image entries es old root free is some below within spelled spare in
    (wrote (suc b.lower) 0 0 None range.first rising (λ e. absurd cc) (takes_below blocks xs entries es (shown old image) root free (tree_of xt_scale (drafted blocks old image) root) range b)).0.framed

-- where a page below it is named, it spells no list
pub inner_refuted : (blocks : ℕ) (image : Image) (xs entries es : List Xad) (old : List Drafted) (root : Node ℕ Xad) (free : List ℕ) (bad : ℕ) (rule : Rule) → IsShortRange blocks xs → root ≡ inner entries
    → 0 < length entries → rises_from 0 entries ≡ true → AllBelow blocks free → blocks ≤ no_page → RefutesChildren blocks xs true true true (shown old image) 7 entries free (Bad bad rule)
    → spells xt_scale (drafted blocks old image) root ≡ Ok es → IsSpare xt_scale (drafted blocks old image) root free → ⊥
inner_refuted blocks image xs entries es old root free bad rule range is some rising below within refutes spelled spare =
    let b = below_root blocks image entries es old root free is some below within spelled spare in
    let m = b.most in
    refutes (suc b.lower) 0 0 None range.first (omega (arith, m)) rising (λ e. absurd cc) (takes_below blocks xs entries es (shown old image) root free (tree_of xt_scale (drafted blocks old image) root) range b)
