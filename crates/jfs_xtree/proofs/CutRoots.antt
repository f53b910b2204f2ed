-- A whole tree that is cut at a block of the file, seen from the transaction.
use Rattle.std.proofs.Common.{◌≡◌, ◌≢◌, ◌≤◌, ◌<◌, ◌⊎◌, inl, inr, refl, sym, ap, ◌∙◌, subst, ℕ, zero, suc, ◌+◌, ◌*◌, ◌/◌, ◌%◌, ◌==◌, ◌||◌, Bool, true, false, if◌then◌else◌, List, [], ◌∷◌, ◌++◌, length, None, Ok, arith}
use Rattle.std.proofs.lemmas.Bool.{eqb-true, le-leb}
use Rattle.std.proofs.lemmas.Bool.Decides.{nat_tests}
use Rattle.jfs_bits.specs.declared.extent.Xad.{Xad}
use Rattle.jfs_bits.specs.declared.descriptor.Pxd.{Pxd}
use Rattle.jfs_disk.specs.Image.{Image, page_of}
use Rattle.jfs_ranges.specs.declared.edit.Edit.{Edit}
use Rattle.jfs_tree.specs.Walk.{Node, Leaf, Page, Key, Rises, rows_of, times, placed, walk}
use Rattle.jfs_tree.specs.Spells.{no_page, with_root, top, tree_of, spells, footprint}
use Rattle.jfs_tree.specs.Edit.{count_in}
use Rattle.jfs_tree.specs.Call.{nodes}
use Rattle.jfs_tree.specs.Draft.{shown}
use Rattle.jfs_tree.specs.Tell.{TellsDraft, TellsThen}
use Rattle.jfs_tree.specs.declared.draft.Drafted.{Drafted}
use Rattle.jfs_tree.proofs.Frame.{frame, same_body}
use Rattle.jfs_tree.specs.Levels.{InLine, IsFilledTo, HoldsLeast, pages_below}
use Rattle.jfs_tree.proofs.Filling.{below_stays, page_filled, filled_same, filled_of, filled_not_thin}
use Rattle.jfs_tree.proofs.Once.{each_once}
use Rattle.jfs_tree.proofs.Spelled.{stands, tree_rises, spelled}
use Rattle.jfs_tree.proofs.Tops.{root_else, page_or}
use Rattle.jfs_tree.proofs.Footprint.{spells_frame, footprint_frame}
use Rattle.jfs_tree.proofs.Within.{footprint_within}
use Rattle.jfs_xtpage.specs.declared.head.XtForm.{XtForm}
use Rattle.jfs_xtpage.specs.declared.head.XtForm.TheVariants.{Root, Full, Small}
use Rattle.jfs_xtpage.specs.declared.head.XtHead.{XtHead}
use Rattle.jfs_xtpage.specs.Page.{head_of, entries_of, rises_from, kind_flag}
use Rattle.jfs_xtree.specs.Laws.{order}
use Rattle.jfs_xtree.specs.Node.{xt_scale, xt_node, fits_flag, fits_max, is_leaf, all_within, IsSound, SameKind}
use Rattle.jfs_xtree.specs.Spells.{root_form, page_nodes}
use Rattle.jfs_tree.specs.Fresh.{after_tx}
use Rattle.jfs_tree.specs.Removes.{page_frees}
use Rattle.jfs_xtree.specs.Cutting.{kept_below, gone_past, run_frees, HasOnlyBelow, CutsExtents}
use Rattle.jfs_xtree.specs.CutParts.{CutPart, CutsNode, KeepsSome, shows, if_kept}
use Rattle.jfs_xtree.proofs.Reading.{leaf_is, sound_leaf}
use Rattle.jfs_xtree.proofs.Adds.{has_pages}
use Rattle.jfs_xtree.proofs.CutInners.{differs, here_zero}

-- ---- the root of a tree that was cut

record RootCut (blocks bound : ℕ) (before after : ℕ → List ℕ) (es : List Xad) (root new : Node ℕ Xad) (freed : List ℕ) (runs : List Pxd) : Type 0 where
  spelled : spells xt_scale (page_nodes blocks after) new ≡ Ok (kept_below bound es)
  gone : runs ≡ gone_past bound es
  owned : (n : ℕ) → footprint xt_scale (page_nodes blocks after) new n + count_in n freed ≡ footprint xt_scale (page_nodes blocks before) root n
  keeps : (n : ℕ) → n ≢ no_page → footprint xt_scale (page_nodes blocks after) new n ≡ 0 → after n ≡ before n
  filled : (least : ℕ) → ((depth : ℕ) → IsFilledTo least (with_root root (page_nodes blocks before)) depth true no_page) → (depth : ℕ) → IsFilledTo least (with_root new (page_nodes blocks after)) depth true no_page

foot : (pages : ℕ → Node ℕ Xad) (root : Node ℕ Xad) (n : ℕ) → n ≢ no_page → footprint xt_scale pages root n ≡ times n (tree_of xt_scale pages root)
unfolding footprint
foot pages root n ne = by (n == no_page) refl
  where
    by : (b : Bool) → (n == no_page) ≡ b → (if b then 0 else times n (tree_of xt_scale pages root)) ≡ times n (tree_of xt_scale pages root)
    by true e = absurd (ne (eqb-true n no_page e))
    by false e = refl

no_foot : (pages : ℕ → Node ℕ Xad) (root : Node ℕ Xad) → footprint xt_scale pages root no_page ≡ 0
unfolding footprint
no_foot pages root = refl

spells_none : (pages : ℕ → Node ℕ Xad) → spells xt_scale pages (Leaf []) ≡ Ok []
unfolding spells
spells_none pages = refl

not_named : (n : ℕ) → n ≢ no_page → times {P = ℕ} {E = Xad} n (Page no_page ∷ []) ≡ 0
not_named n ne = by (no_page == n) refl
  where
    by : (b : Bool) → (no_page == n) ≡ b → (if b then 1 else 0) + 0 ≡ 0
    by true e = absurd (ne (sym (eqb-true no_page n e)))
    by false e = refl

-- the root among the pages, or apart from them
apart : (pages : ℕ → Node ℕ Xad) (root : Node ℕ Xad) (below : ℕ) → times no_page (shows pages below (top xt_scale) root) ≡ 0 → shows (with_root root pages) below (top xt_scale) root ≡ shows pages below (top xt_scale) root
apart pages root below none =
    same_body pages (with_root root pages) (walk xt_scale pages below) (walk xt_scale (with_root root pages) below) (top xt_scale) (placed xt_scale below 0 root) (frame xt_scale pages (with_root root pages) below)
    (λ n p. root_else root pages n (differs n no_page 0 (λ m. times m (shows pages below (top xt_scale) root)) none p))

pub among : (pages : ℕ → Node ℕ Xad) (root : Node ℕ Xad) (below : ℕ) → times no_page (shows (with_root root pages) below (top xt_scale) root) ≡ 0 → shows pages below (top xt_scale) root ≡ shows (with_root root pages) below (top xt_scale) root
among pages root below none =
    same_body (with_root root pages) pages (walk xt_scale (with_root root pages) below) (walk xt_scale pages below) (top xt_scale) (placed xt_scale below 0 root) (frame xt_scale (with_root root pages) pages below)
    (λ n p. sym (root_else root pages n (differs n no_page 0 (λ m. times m (shows (with_root root pages) below (top xt_scale) root)) none p)))

top_kept : (blocks bound : ℕ) (before after : ℕ → List ℕ) (es : List Xad) (root new : Node ℕ Xad) (freed : List ℕ) (runs : List Pxd) (below : ℕ) → suc below ≤ 8 → tree_of xt_scale (page_nodes blocks before) root ≡ Key no_page 0 ∷ Page no_page ∷ shows (page_nodes blocks before) below (top xt_scale) root
    → rows_of (shows (page_nodes blocks before) below (top xt_scale) root) ≡ es → times no_page (shows (page_nodes blocks before) below (top xt_scale) root) ≡ 0 → CutPart bound before after 0 (shows (page_nodes blocks before) below (top xt_scale) root) (shows (page_nodes blocks after) below (top xt_scale) new) None freed runs
    → ((least depth : ℕ) → InLine (IsFilledTo least (with_root root (page_nodes blocks before)) depth) true (pages_below root) → InLine (IsFilledTo least (page_nodes blocks after) depth) true (pages_below new))
    → RootCut blocks bound before after es root new freed runs
unfolding walk
top_kept blocks bound before after es root new freed runs below most tree rows none cut fill =
    let M = shows (page_nodes blocks after) below (top xt_scale) new in
    let off : times no_page M ≡ 0 = let p = cut.pages no_page in omega (arith, p, none) in
    let same = apart (page_nodes blocks after) new below off in
    let rises : Rises xt_scale 0 (walk xt_scale (with_root new (page_nodes blocks after)) (suc below) (top xt_scale)) None = (refl, subst (λ ms. Rises xt_scale 0 ms None) (sym same) cut.rises) in
    let now = tree_rises xt_scale order (page_nodes blocks after) new (suc below) most rises in
    record {
      spelled = spelled xt_scale order (page_nodes blocks after) new (suc below) most rises ∙ ap (λ ms. Ok (rows_of ms)) same ∙ ap (λ xs. Ok xs) (cut.rows ∙ ap (kept_below bound) rows);
      gone = cut.gone ∙ ap (gone_past bound) rows;
      owned = λ n. elim (page_or n) [
        | inl e ↦ subst (λ m. footprint xt_scale (page_nodes blocks after) new m + count_in m freed ≡ footprint xt_scale (page_nodes blocks before) root m) (sym e) (let a = no_foot (page_nodes blocks after) new in let b = no_foot (page_nodes blocks before) root in let p = cut.pages no_page in omega (arith, a, b, p, none))
        | inr ne ↦ (let a = foot (page_nodes blocks after) new n ne in let b = foot (page_nodes blocks before) root n ne in let d = ap (times n) now in let f = ap (times n) tree in let g = ap (times n) same in let p = cut.pages n in omega (arith, a, b, d, f, g, p))
      ];
      keeps = λ n ne z. cut.keeps n (let a = foot (page_nodes blocks after) new n ne in let d = ap (times n) now in let g = ap (times n) same in omega (arith, a, d, g, z));
      filled = λ least h depth. page_filled least (with_root root (page_nodes blocks before)) (with_root new (page_nodes blocks after)) no_page new
          (λ d line. below_stays least xt_scale order (page_nodes blocks after) (with_root new (page_nodes blocks after)) below d (top xt_scale) new 0 None true cut.rises
          (λ n p. root_else new (page_nodes blocks after) n (differs n no_page 0 (λ m. times m M) off p)) (fill least d line)) refl depth (h depth);
    }

top_gone : (blocks bound : ℕ) (before after : ℕ → List ℕ) (es : List Xad) (root : Node ℕ Xad) (freed : List ℕ) (runs : List Pxd) (below : ℕ) → tree_of xt_scale (page_nodes blocks before) root ≡ Key no_page 0 ∷ Page no_page ∷ shows (page_nodes blocks before) below (top xt_scale) root
    → rows_of (shows (page_nodes blocks before) below (top xt_scale) root) ≡ es → times no_page (shows (page_nodes blocks before) below (top xt_scale) root) ≡ 0 → CutPart bound before after 0 (shows (page_nodes blocks before) below (top xt_scale) root) [] None freed runs
    → RootCut blocks bound before after es root (Leaf []) freed runs
top_gone blocks bound before after es root freed runs below tree rows none cut = record {
  spelled = spells_none (page_nodes blocks after) ∙ ap (λ xs. Ok xs) (cut.rows ∙ ap (kept_below bound) rows);
  gone = cut.gone ∙ ap (gone_past bound) rows;
  owned = λ n. elim (page_or n) [
    | inl e ↦ subst (λ m. footprint xt_scale (page_nodes blocks after) (Leaf []) m + count_in m freed ≡ footprint xt_scale (page_nodes blocks before) root m) (sym e) (let a = no_foot (page_nodes blocks after) (Leaf []) in let b = no_foot (page_nodes blocks before) root in let p = cut.pages no_page in omega (arith, a, b, p, none))
    | inr ne ↦ (let a = foot (page_nodes blocks after) (Leaf []) n ne in let b = foot (page_nodes blocks before) root n ne in let d = not_named n ne in let f = ap (times n) tree in let p = cut.pages n in omega (arith, a, b, d, f, p))
  ];
  keeps = λ n ne z. cut.keeps n refl;
  filled = λ least h depth. page_filled least (with_root root (page_nodes blocks before)) (with_root (Leaf []) (page_nodes blocks after)) no_page (Leaf []) (λ d line. tt) refl depth (h depth);
}

root_by : (blocks bound : ℕ) (before after : ℕ → List ℕ) (es : List Xad) (root mid new : Node ℕ Xad) (kept : Bool) (freed : List ℕ) (runs : List Pxd) (levels : ℕ) → levels ≤ 8 → tree_of xt_scale (page_nodes blocks before) root ≡ walk xt_scale (with_root root (page_nodes blocks before)) levels (top xt_scale)
    → Rises xt_scale 0 (walk xt_scale (with_root root (page_nodes blocks before)) levels (top xt_scale)) None → rows_of (walk xt_scale (with_root root (page_nodes blocks before)) levels (top xt_scale)) ≡ es
    → CutsNode blocks bound before after root mid kept freed runs → (kept ≡ true → new ≡ mid) → (kept ≡ false → new ≡ Leaf []) → RootCut blocks bound before after es root new freed runs
unfolding walk
root_by blocks bound before after es root mid new kept freed runs zero most tree r rows cuts stays empties = absurd r
root_by blocks bound before after es root mid new kept freed runs (suc below) most tree r rows cuts stays empties =
    let S = shows (with_root root (page_nodes blocks before)) below (top xt_scale) root in
    let once = each_once xt_scale order (with_root root (page_nodes blocks before)) (suc below) (top xt_scale) 0 None r in
    let none : times no_page S ≡ 0 = let h = once no_page in here_zero no_page (times no_page S) (times no_page S) 0 h (omega arith) in
    let same = among (page_nodes blocks before) root below none in
    let part = cuts below (top xt_scale) None (subst (λ ms. Rises xt_scale 0 ms None) (sym same) r.1) (λ n. let h = once n in let e = ap (times n) same in omega (arith, h, e)) in
    by kept refl (tree ∙ ap (λ ms. Key no_page 0 ∷ Page no_page ∷ ms) (sym same)) (ap rows_of same ∙ rows) (ap (times no_page) same ∙ none) part.0
    (λ e least depth line. part.1 e least depth (below_stays least xt_scale order (with_root root (page_nodes blocks before)) (page_nodes blocks before) below depth (top xt_scale) root 0 None true r.1
    (λ n p. sym (root_else root (page_nodes blocks before) n (differs n no_page 0 (λ m. times m S) none p))) line))
  where
    by : (k : Bool) → kept ≡ k → tree_of xt_scale (page_nodes blocks before) root ≡ Key no_page 0 ∷ Page no_page ∷ shows (page_nodes blocks before) below (top xt_scale) root → rows_of (shows (page_nodes blocks before) below (top xt_scale) root) ≡ es → times no_page (shows (page_nodes blocks before) below (top xt_scale) root) ≡ 0
        → CutPart bound before after 0 (shows (page_nodes blocks before) below (top xt_scale) root) (if_kept k (shows (page_nodes blocks after) below (top xt_scale) mid)) None freed runs
        → (kept ≡ true → (least depth : ℕ) → InLine (IsFilledTo least (with_root root (page_nodes blocks before)) depth) true (pages_below root) → InLine (IsFilledTo least (page_nodes blocks after) depth) true (pages_below mid)) → RootCut blocks bound before after es root new freed runs
    by true e tree rows none cut fill = subst (λ node. RootCut blocks bound before after es root node freed runs) (sym (stays e)) (top_kept blocks bound before after es root mid freed runs below most tree rows none cut (fill e))
    by false e tree rows none cut fill = subst (λ node. RootCut blocks bound before after es root node freed runs) (sym (empties e)) (top_gone blocks bound before after es root freed runs below tree rows none cut)

-- a root without extents
root_empty : (blocks bound : ℕ) (before after : ℕ → List ℕ) (freed : List ℕ) (runs : List Pxd) → freed ≡ [] → runs ≡ [] → ((n : ℕ) → after n ≡ before n) → RootCut blocks bound before after [] (Leaf []) (Leaf []) freed runs
root_empty blocks bound before after freed runs none empty same = record {
  spelled = spells_none (page_nodes blocks after);
  gone = empty;
  owned = λ n. elim (page_or n) [
    | inl e ↦ subst (λ m. footprint xt_scale (page_nodes blocks after) (Leaf []) m + count_in m freed ≡ footprint xt_scale (page_nodes blocks before) (Leaf []) m) (sym e) (let a = no_foot (page_nodes blocks after) (Leaf []) in let b = no_foot (page_nodes blocks before) (Leaf []) in let f = ap (count_in no_page) none in omega (arith, a, b, f))
    | inr ne ↦ (let a = foot (page_nodes blocks after) (Leaf []) n ne in let b = foot (page_nodes blocks before) (Leaf []) n ne in let f = ap (count_in n) none in omega (arith, a, b, f))
  ];
  keeps = λ n ne z. same n;
  filled = λ least h depth. page_filled least (with_root (Leaf []) (page_nodes blocks before)) (with_root (Leaf []) (page_nodes blocks after)) no_page (Leaf []) (λ d line. tt) refl depth (h depth);
}

-- ---- by the code's names

three : (f : ℕ) → (f % 8 == 3 || f % 8 == 5) ≡ true → (f / 8 * 8 + f % 2 + 2) % 8 ≡ 3
three f e = odd f (side f e)
  where
    side : (f : ℕ) → (f % 8 == 3 || f % 8 == 5) ≡ true → (f % 8 ≡ 3) ⊎ (f % 8 ≡ 5)
    side f e = grind (arith, nat_tests)

    odd : (f : ℕ) → (f % 8 ≡ 3) ⊎ (f % 8 ≡ 5) → (f / 8 * 8 + f % 2 + 2) % 8 ≡ 3
    odd f (inl h) = omega (arith, h)
    odd f (inr h) = omega (arith, h)

two : (f : ℕ) → (f % 8 == 2 || f % 8 == 4) ≡ true → (f / 8 * 8 + f % 2 + 2) % 8 ≡ 2
two f e = even f (side f e)
  where
    side : (f : ℕ) → (f % 8 == 2 || f % 8 == 4) ≡ true → (f % 8 ≡ 2) ⊎ (f % 8 ≡ 4)
    side f e = grind (arith, nat_tests)

    even : (f : ℕ) → (f % 8 ≡ 2) ⊎ (f % 8 ≡ 4) → (f / 8 * 8 + f % 2 + 2) % 8 ≡ 2
    even f (inl h) = omega (arith, h)
    even f (inr h) = omega (arith, h)

leaf_flag : (form : XtForm) (f : ℕ) → fits_flag form f ≡ true → (fits_flag form (kind_flag f true) ≡ true) × (is_leaf (kind_flag f true) ≡ true)
leaf_flag Root f e = let h = three f e in (rw h refl, rw h refl)
leaf_flag Small f e = let h = three f e in (rw h refl, rw h refl)
leaf_flag Full f e = let h = two f e in (rw h refl, rw h refl)

-- a root whose entries are all gone
closed : (form : XtForm) (blocks : ℕ) (root mid new : List ℕ) (kept : Bool) → IsSound form blocks (head_of root) (entries_of root) → SameKind (head_of root) (head_of mid) → KeepsSome (entries_of mid) kept
    → (kept ≡ false → (head_of new ≡ record (head_of mid) { flag = kind_flag (head_of mid).flag true }) × (entries_of new ≡ entries_of mid)) → kept ≡ false → xt_node form blocks new ≡ Leaf []
closed form blocks root mid new true sound kind some done e = absurd cc
closed form blocks root mid new false sound kind some done e =
    let d = done refl in
    let none : entries_of new ≡ [] = d.1 ∙ some in
    let k = leaf_flag form (head_of root).flag sound.flag in
    let f : (head_of new).flag ≡ kind_flag (head_of root).flag true = ap (λ (h : XtHead). h.flag) d.0 ∙ ap (λ n. kind_flag n true) kind.flag in
    let m : (head_of new).maxentry ≡ (head_of root).maxentry = ap (λ (h : XtHead). h.maxentry) d.0 ∙ kind.max in
    let n : (head_of new).nextindex ≡ (head_of mid).nextindex = ap (λ (h : XtHead). h.nextindex) d.0 in
    let l = kind.least in let a = kind.most in let x = kind.max in
    sound_leaf form blocks new (record {
      flag = ap (fits_flag form) f ∙ k.0;
      max = ap (fits_max form) m ∙ sound.max;
      count = rw (le-leb 2 (head_of new).nextindex (omega (arith, n, l)), le-leb (head_of new).nextindex (head_of new).maxentry (omega (arith, n, m, a, x))) refl;
      order = ap (rises_from 0) none;
      range = ap (all_within blocks) none;
    }) (ap is_leaf f ∙ k.1) ∙ ap (λ xs. Leaf xs) none

kept_none_is : (xs : List Xad) (kept : Bool) → xs ≡ [] → KeepsSome xs kept → kept ≡ false
kept_none_is xs true e k = absurd (let l = ap length e in omega (arith, l, k))
kept_none_is xs false e k = refl

root_done : (form : XtForm) (blocks bound : ℕ) (root mid new : List ℕ) (image : Image) (drafts : List Drafted) (kept : Bool) (freed : List ℕ) (runs : List Pxd) (es : List Xad) → IsSound form blocks (head_of root) (entries_of root)
    → CutsNode blocks bound (page_of image) (shown drafts image) (xt_node form blocks root) (xt_node form blocks mid) kept freed runs
    → (is_leaf (head_of root).flag ≡ true → (entries_of mid ≡ kept_below bound (entries_of root)) × (runs ≡ gone_past bound (entries_of root)) × (drafts ≡ []) × (freed ≡ [])) → SameKind (head_of root) (head_of mid) → KeepsSome (entries_of mid) kept
    → (kept ≡ true → new ≡ mid) → (kept ≡ false → (head_of new ≡ record (head_of mid) { flag = kind_flag (head_of mid).flag true }) × (entries_of new ≡ entries_of mid))
    → spells xt_scale (page_nodes blocks (page_of image)) (xt_node form blocks root) ≡ Ok es
    → RootCut blocks bound (page_of image) (shown drafts image) es (xt_node form blocks root) (xt_node form blocks new) freed runs
root_done form blocks bound root mid new image drafts kept freed runs es sound cuts leaf kind some stays empties spelt =
    let before = page_of image in
    let after = shown drafts image in
    let ends = closed form blocks root mid new kept sound kind some empties in
    elim (stands xt_scale (page_nodes blocks before) (xt_node form blocks root) es spelt) [
      | inl e ↦
          let t = leaf_is form blocks root [] e.0 in
          let l = leaf t.1 in
          let z = kept_none_is (entries_of mid) kept (l.0 ∙ ap (kept_below bound) t.2) some in
          subst (λ xs. RootCut blocks bound before after xs (xt_node form blocks root) (xt_node form blocks new) freed runs) (sym e.1)
          (subst (λ node. RootCut blocks bound before after [] node (xt_node form blocks new) freed runs) (sym e.0)
          (subst (λ node. RootCut blocks bound before after [] (Leaf []) node freed runs) (sym (ends z))
          (root_empty blocks bound before after freed runs l.3 (l.1 ∙ ap (gone_past bound) t.2) (λ n. ap (λ ds. shown ds image n) l.2))))
      | inr st ↦ root_by blocks bound before after es (xt_node form blocks root) (xt_node form blocks mid) (xt_node form blocks new) kept freed runs st.levels st.most st.is st.rises st.rows cuts (λ e. ap (xt_node form blocks) (stays e)) ends
    ]

less_page : (n blocks : ℕ) → n < blocks → blocks < 4294967296 → n ≢ no_page
less_page n blocks l b e = by n e l b
  where
    by : (n : ℕ) → n ≡ 4294967295 → n < blocks → blocks < 4294967296 → ⊥
    by n e l b = omega (arith, e, l, b)

-- with the root in this form
record HasOnlyBelowIn (form : XtForm) (blocks bound : ℕ) (es : List Xad) (pages later : ℕ → List ℕ) (root after : List ℕ) (freed : List ℕ) : Type 0 where
  spelled : spells xt_scale (page_nodes blocks later) (xt_node form blocks after) ≡ Ok (kept_below bound es)
  owned : (n : ℕ) → footprint xt_scale (page_nodes blocks later) (xt_node form blocks after) n + count_in n freed ≡ footprint xt_scale (page_nodes blocks pages) (xt_node form blocks root) n
  keeps : (n : ℕ) → n < blocks → footprint xt_scale (page_nodes blocks later) (xt_node form blocks after) n ≡ 0 → later n ≡ pages n
  holds : (least : ℕ) → HoldsLeast least (with_root (xt_node form blocks root) (page_nodes blocks pages)) → HoldsLeast least (with_root (xt_node form blocks after) (page_nodes blocks later))

as_root : (form : XtForm) (blocks bound : ℕ) (es : List Xad) (pages later : ℕ → List ℕ) (root after : List ℕ) (freed : List ℕ) → form ≡ root_form (length root) → HasOnlyBelowIn form blocks bound es pages later root after freed → HasOnlyBelow blocks bound es pages later root after freed
as_root form blocks bound es pages later root after freed is h =
    let g = subst (λ f. HasOnlyBelowIn f blocks bound es pages later root after freed) is h in
    record { spelled = g.spelled; owned = g.owned; keeps = g.keeps; holds = g.holds }

-- the draft's pages are those that all edits lead to
pub cuts_extents : (blocks bound : ℕ) (form : XtForm) (image : Image) (root mid new : List ℕ) (drafts : List Drafted) (kept : Bool) (freed : List ℕ) (runs : List Pxd) (tx later : List Edit) → blocks < 4294967296 → form ≡ root_form (length root) → IsSound form blocks (head_of root) (entries_of root)
    → CutsNode blocks bound (page_of image) (shown drafts image) (xt_node form blocks root) (xt_node form blocks mid) kept freed runs
    → (is_leaf (head_of root).flag ≡ true → (entries_of mid ≡ kept_below bound (entries_of root)) × (runs ≡ gone_past bound (entries_of root)) × (drafts ≡ []) × (freed ≡ [])) → SameKind (head_of root) (head_of mid) → KeepsSome (entries_of mid) kept
    → (kept ≡ true → new ≡ mid) → (kept ≡ false → (head_of new ≡ record (head_of mid) { flag = kind_flag (head_of mid).flag true }) × (entries_of new ≡ entries_of mid))
    → TellsDraft blocks image drafts tx later → TellsThen (page_frees freed ++ run_frees runs) tx later → CutsExtents blocks (page_of image) bound root new tx later
cuts_extents blocks bound form image root mid new drafts kept freed runs tx later small is sound cuts leaf kind some stays empties told ends es spelt =
    let drafted = nodes (xt_node Full blocks) drafts image in
    let spells_old = subst (λ f. spells xt_scale (page_nodes blocks (page_of image)) (xt_node f blocks root) ≡ Ok es) (sym is) spelt in
    let c = root_done form blocks bound root mid new image drafts kept freed runs es sound cuts leaf kind some stays empties spells_old in (
      freed,
      subst (λ ps. TellsThen (page_frees freed ++ run_frees ps) tx later) c.gone ends,
      λ base leads.
          let now = page_nodes blocks (after_tx base later) in
          let agree = λ (n : ℕ) (h : n < blocks). ap (xt_node Full blocks) (told n h (base n) (leads n h).0 (leads n h).1) in
          let frame = λ (n : ℕ) (h : 0 < footprint xt_scale drafted (xt_node form blocks new) n). agree n (footprint_within xt_scale drafted (xt_node form blocks new) n blocks (has_pages form blocks new) (λ m. has_pages Full blocks (shown drafts image m)) h) in
          let whole : HasOnlyBelowIn form blocks bound es (page_of image) (after_tx base later) root new freed = record {
            spelled = spells_frame xt_scale drafted now (xt_node form blocks new) frame ∙ c.spelled;
            owned = λ n. (let f = footprint_frame xt_scale drafted now (xt_node form blocks new) frame n in let p = c.owned n in omega (arith, f, p));
            keeps = λ n h z. told n h (base n) (leads n h).0 (leads n h).1 ∙ c.keeps n (less_page n blocks h small) (sym (footprint_frame xt_scale drafted now (xt_node form blocks new) frame n) ∙ z);
            holds = λ least none page. filled_not_thin least (with_root (xt_node form blocks new) now) page
                (filled_same least xt_scale order drafted now (xt_node form blocks new) (kept_below bound es) c.spelled frame (c.filled least (filled_of least xt_scale order (page_nodes blocks (page_of image)) (xt_node form blocks root) es spells_old none)));
          } in
          as_root form blocks bound es (page_of image) (after_tx base later) root new freed is whole,
    )
