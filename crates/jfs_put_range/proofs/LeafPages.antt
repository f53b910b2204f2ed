-- A leaf into which a part of a range is written.
use Rattle.std.proofs.Common.{◌≡◌, ◌≤◌, ◌<◌, inl, inr, refl, sym, ap, ◌∙◌, subst, ℕ, ◌+◌, ◌^◌, ◌==◌, ◌||◌, Bool, true, false, List, [], ◌∷◌, ◌++◌, map, length, Option, Some, None, arith}
use Rattle.std.specs.Prelude.{nat_le}
use Rattle.std.specs.List.{All, AllByRecursion as Each}
use Rattle.std.proofs.lemmas.Bool.{le-leb, leb-true, cases_lt}
use Rattle.std.proofs.lemmas.Bool.Decides.{nat_tests}
use Rattle.std.proofs.lemmas.List.Elements.{All-from_recursion, recursion_from_All}
use Rattle.jfs_bits.specs.declared.extent.Xad.{Xad}
use Rattle.jfs_bits.specs.declared.rule.Rule.{Rule}
use Rattle.jfs_bits.specs.Extent.{FitsXad}
use Rattle.jfs_disk.specs.Image.{Image}
use Rattle.jfs_tree.specs.Walk.{Child, Node, Leaf, Page, Key, Row, UpTo, Rises, rows_of, times}
use Rattle.jfs_tree.specs.Edit.{count_in, FitsFirst, IsCons}
use Rattle.jfs_tree.specs.Levels.{entry_count}
use Rattle.jfs_tree.specs.Call.{StaysOff}
use Rattle.jfs_tree.specs.Draft.{shown}
use Rattle.jfs_tree.specs.declared.draft.Drafted.{Drafted}
use Rattle.jfs_tree.specs.declared.form.Sibling.{Sibling}
use Rattle.jfs_tree.specs.declared.form.TreeError.TheVariants.{Bad}
use Rattle.jfs_tree.proofs.Between.{append_nil}
use Rattle.jfs_tree.proofs.Finding.{leaf_level}
use Rattle.jfs_tree.proofs.Frame.{times-append, rows-append}
use Rattle.jfs_tree.proofs.Growing.{apart, once_itself}
use Rattle.jfs_tree.proofs.Leaves.{rows_leaf, times_leaf, cons_rows, leaf_fits}
use Rattle.jfs_tree.proofs.Taking.{itself, taken_last, two_first, two_last}
use Rattle.jfs_xtpage.specs.declared.head.XtForm.TheVariants.{Full}
use Rattle.jfs_xtpage.specs.Page.{end_of, rises_from}
use Rattle.jfs_xtree.specs.Laws.{ends_after}
use Rattle.jfs_xtree.specs.Node.{xt_scale, xt_node, frame_of, is_within, all_within, IsGood, BeginsAt}
use Rattle.jfs_xtree.specs.Spells.{page_nodes}
use Rattle.jfs_xtree.specs.CutParts.{AllFrom}
use Rattle.jfs_xtree.specs.Writing.{AllTo}
use Rattle.jfs_xtree.proofs.CutWalks.{span}
use Rattle.jfs_xtree.proofs.Pages.{rises_less, rises_weaker, within_both}
use Rattle.jfs_xtree.proofs.Reading.{and_true}
use Rattle.jfs_written.specs.Range.{parts_of, with_range}
use Rattle.jfs_written.proofs.Sides.{parts_to, all_written_to}
use Rattle.jfs_written.proofs.Each.{rises_still, begins_still, is_good_still}
use Rattle.jfs_written.proofs.Counts.{loses_none, adds_few}
use Rattle.jfs_refill.specs.Refilled.{IsList}
use Rattle.jfs_refill.specs.Stored.{Stored}
use Rattle.jfs_put_range.specs.Parts.{Framed, Takes, Wrote, WrotePage, RefutesPage, IsPart, IsOpened, AllUpTo, EndsBy, part_of, parts_below}
use Rattle.jfs_put_range.proofs.Framed.{framed_none, stored_framed}
use Rattle.jfs_put_range.proofs.Rows.{rows_to, rows_rise}
use Rattle.jfs_put_range.proofs.Filled.{leaf_keeps, leaf_fills, not_full}
use Rattle.jfs_put_range.proofs.Pages.{one_page, two_pages}

-- ---- lists of extents and entries of leaves

pub all_good : (blocks : ℕ) (es : List Xad) → all_within blocks es ≡ true → All FitsXad es → All (IsGood blocks) es
all_good blocks es w f = All-from_recursion (IsGood blocks) es (by es w (recursion_from_All FitsXad es f))
  where
    by : (es : List Xad) → all_within blocks es ≡ true → Each FitsXad es → Each (IsGood blocks) es
    by [] w f = tt
    by (e ∷ es) w f =
        let t = and_true (is_within blocks e) (all_within blocks es) w in
        let u = and_true (nat_le 1 e.at.len) (nat_le (e.at.addr + e.at.len) blocks) t.0 in
        (record { fits = f.0; some = leb-true 1 e.at.len u.0; within = leb-true (e.at.addr + e.at.len) blocks u.1 }, by es t.1 f.1)

good_within : (blocks : ℕ) (es : List Xad) → All (IsGood blocks) es → all_within blocks es ≡ true
good_within blocks es g = by es (recursion_from_All (IsGood blocks) es g)
  where
    by : (es : List Xad) → Each (IsGood blocks) es → all_within blocks es ≡ true
    by [] g = refl
    by (e ∷ es) g = within_both blocks e es (let s = g.0.some in let w = g.0.within in rw (le-leb 1 e.at.len s, le-leb (e.at.addr + e.at.len) blocks w) refl) (by es g.1)

marks_rise : (n low : ℕ) (es : List Xad) (high : Option ℕ) → rises_from low es ≡ true → AllUpTo es high → UpTo xt_scale low high → Rises xt_scale low (map (Row n) es) high
marks_rise n low [] high r a u = u
marks_rise n low (e ∷ es) high r a u =
    let t = rises_less low e es r in
    (le-leb low e.offset t.0, marks_rise n (end_of e) es high t.1 (rest high a) (first high a))
  where
    rest : (high : Option ℕ) → AllUpTo (e ∷ es) high → AllUpTo es high
    rest None a = tt
    rest (Some h) a = a.1

    first : (high : Option ℕ) → AllUpTo (e ∷ es) high → UpTo xt_scale (end_of e) high
    first None a = tt
    first (Some h) a = le-leb (end_of e) h a.0

leaf_rise : (n low : ℕ) (es : List Xad) (high : Option ℕ) → Rises xt_scale low (map (Row n) es) high → rises_from low es ≡ true
leaf_rise n low es high r = ap (rises_from low) (sym (rows_leaf ℕ n es)) ∙ rows_rise low (map (Row n) es) high r

leaf_to : (n low : ℕ) (es : List Xad) (high : Option ℕ) → Rises xt_scale low (map (Row n) es) high → AllUpTo es high
leaf_to n low es None r = tt
leaf_to n low es (Some h) r = subst (AllTo h) (rows_leaf ℕ n es) (rows_to low (map (Row n) es) h r)

-- the entries of another leaf
relabel : (n m low : ℕ) (es : List Xad) (high : Option ℕ) → Rises xt_scale low (map (Row n) es) high → Rises xt_scale low (map (Row m) es) high
relabel n m low [] high r = r
relabel n m low (e ∷ es) high r = (r.0, relabel n m (end_of e) es high r.1)

range_to : (xs es : List Xad) (high : Option ℕ) → AllUpTo xs high → AllUpTo es high → AllUpTo (with_range xs es) high
range_to xs es None a b = tt
range_to xs es (Some h) a b = all_written_to h (parts_of es xs) es b (parts_to h es xs a)

fits_zero : (key offset : ℕ) → key ≡ 0 → (key == 0 || key == offset) ≡ true
fits_zero key offset e = grind (arith, nat_tests)

fits_same : (key offset : ℕ) → key ≡ offset → (key == 0 || key == offset) ≡ true
fits_same key offset e = grind (arith, nat_tests)

first_fits : (key : ℕ) (es : List Xad) → 0 < length es → (0 < key → BeginsAt key es) → FitsFirst xt_scale key es
first_fits key [] some h = absurd (omega (arith, some))
first_fits key (e ∷ es) some h = elim (cases_lt 0 key) [
  | inl p ↦ fits_same key e.offset (h p)
  | inr p ↦ fits_zero key e.offset (let z : key ≡ 0 = omega (arith, p) in z)
]

is_same : (key offset : ℕ) → 0 < key → (key == 0 || key == offset) ≡ true → key ≡ offset
is_same key offset p e = grind (arith, nat_tests)

fits_begins : (key : ℕ) (es : List Xad) → 0 < key → FitsFirst xt_scale key es → BeginsAt key es
fits_begins key [] p h = absurd h
fits_begins key (e ∷ es) p h = is_same key e.offset p h

front_fits : (key : ℕ) (a b : List Xad) → IsCons a → FitsFirst xt_scale key (a ++ b) → FitsFirst xt_scale key a
front_fits key [] b h f = absurd h
front_fits key (e ∷ a) b h f = f

-- ---- the leaf before, and the list that stands for its entries

record Before (blocks : ℕ) (xs es : List Xad) (left right : Bool) (before : ℕ → List ℕ) (n height key low : ℕ) (high : Option ℕ) (first : ℕ) (free : List ℕ) : Type 0 where
  level : height ≡ 1
  was : part_of blocks before 1 (record { key = key; page = n }) ≡ Key n key ∷ Page n ∷ map (Row n) es
  takes : Takes xs left right first key low (Key n key ∷ Page n ∷ map (Row n) es) high free
  fits : FitsFirst xt_scale key (with_range xs es)
  rise : rises_from key (with_range xs es) ≡ true
  marks : (m : ℕ) → Rises xt_scale key (map (Row m) (with_range xs es)) high

before_leaf : (blocks : ℕ) (xs es : List Xad) (left right : Bool) (before : ℕ → List ℕ) (n height key low : ℕ) (high : Option ℕ) (first : ℕ) (free : List ℕ) → page_nodes blocks before n ≡ Leaf es → rises_from 0 xs ≡ true
    → Takes xs left right first key low (part_of blocks before height (record { key = key; page = n })) high free → Before blocks xs es left right before n height key low high first free
before_leaf blocks xs es left right before n height key low high first free is up takes =
    let c : Child ℕ = record { key = key; page = n } in
    let nodes = page_nodes blocks before in
    let at : height ≡ 1 = leaf_level xt_scale nodes height c es low high is takes.rises in
    let t = subst (λ l. Takes xs left right first key low (part_of blocks before l c) high free) at takes in
    let fits = leaf_fits xt_scale nodes c es low high is t.rises in
    let was = cons_rows xt_scale nodes c es fits is in
    let u = subst (λ ms. Takes xs left right first key low ms high free) was t in
    let rows = u.rises.1 in
    let rise = leaf_rise n key es high rows in
    let least = rises_weaker es key 0 (omega arith) rise in
    let list = rises_still xs es key u.above rise in
    record {
      level = at;
      was = was;
      takes = u;
      fits = first_fits key (with_range xs es) (let k = loses_none xs es up least in let s = some es fits in omega (arith, k, s)) (λ p. begins_still xs es key u.above rise (fits_begins key es p fits));
      rise = list;
      marks = λ m. marks_rise m key (with_range xs es) high list (range_to xs es high u.below (leaf_to n key es high rows)) (span key (map (Row n) es) high rows);
    }
  where
    some : (es : List Xad) → FitsFirst xt_scale key es → 0 < length es
    some [] f = absurd f
    some (e ∷ es) f = omega arith

-- the list as if it stood on the leaf
leaf_lists : (xs es : List Xad) (pages : ℕ → List ℕ) (n key : ℕ) (high : Option ℕ) (free : List ℕ) → Rises xt_scale key (map (Row n) (with_range xs es)) high
    → Wrote xs pages pages key (map (Row n) es) (map (Row n) (with_range xs es)) high free free
leaf_lists xs es pages n key high free r = record {
  rows = rows_leaf ℕ n (with_range xs es) ∙ ap (with_range xs) (sym (rows_leaf ℕ n es));
  rises = r;
  pages = λ m. (let a = times_leaf ℕ m n es in let b = times_leaf ℕ m n (with_range xs es) in omega (arith, a, b));
  keeps = λ m z e. refl;
  framed = framed_none pages free;
}

pub leaf_list : (blocks : ℕ) (xs es : List Xad) → blocks ≤ 2 ^ 40 → IsPart blocks xs → rises_from 0 es ≡ true → all_within blocks es ≡ true → All FitsXad es → IsList blocks (with_range xs es) × All FitsXad (with_range xs es)
leaf_list blocks xs es top part rise within fits =
    let good = is_good_still xs es blocks top part.range.good part.range.ends (all_good blocks es within fits) in (
      record { order = rises_still xs es 0 (zero_from xs) rise; range = good_within blocks (with_range xs es) good },
      All-from_recursion FitsXad (with_range xs es) (fit (with_range xs es) (recursion_from_All (IsGood blocks) (with_range xs es) good)),
    )
  where
    fit : (ys : List Xad) → Each (IsGood blocks) ys → Each FitsXad ys
    fit [] g = tt
    fit (y ∷ ys) g = (g.0.fits, fit ys g.1)

    zero_from : (ys : List Xad) → AllFrom 0 ys
    zero_from [] = tt
    zero_from (y ∷ ys) = (omega arith, zero_from ys)

-- ---- the leaf as it is now

pub leaf_wrote : (end full : Bool) (blocks : ℕ) (xs es list : List Xad) (left right : Bool) (old new : List Drafted) (image : Image) (n : ℕ) (bytes : List ℕ) (free rest : List ℕ) (more : Option (Sibling ℕ)) → blocks ≤ 2 ^ 40
    → IsOpened blocks bytes es true → IsPart blocks xs → list ≡ with_range xs es → bytes ≡ shown old image n → (full ≡ true → end ≡ true) → Stored list full bytes n old new free rest more → StaysOff n old new free rest
    → WrotePage end blocks xs left right (shown old image) (shown new image) 1 n more free rest
leaf_wrote end full blocks xs es list left right old new image n bytes free rest None top o part is_list read fulls (few, left_is, stored) keeps height key low high first takes =
    let before = shown old image in
    let after = shown new image in
    let c : Child ℕ = record { key = key; page = n } in
    let is = ap (xt_node Full blocks) (sym read) ∙ o.node in
    let b = before_leaf blocks xs es left right before n height key low high first free is part.range.rises takes in
    let good = (leaf_list blocks xs es top part o.order o.range o.fits).0 in
    let there : page_nodes blocks after n ≡ Leaf (with_range xs es) =
    ap (xt_node Full blocks) (stored.puts image n ∙ itself n stored.page (before n)) ∙ (stored.reads blocks (subst (IsList blocks) (sym is_list) good)).leaf es o.node ∙ ap (λ ys. Leaf ys) is_list in
    let now = append_nil (part_of blocks after 1 c) ∙ cons_rows xt_scale (page_nodes blocks after) c (with_range xs es) b.fits there in
    let same = λ (m : ℕ). ap (count_in m) (sym left_is) in
    let framed = stored_framed full list bytes n old new image free rest None (ap (frame_of Full) read) (few, left_is, stored) in
    let w = one_page xs before before after key low n (map (Row n) es) (map (Row n) (with_range xs es)) high free free b.takes.rises.0 (λ m ne. keeps image m ne (same m)) (subst (Framed before after free) left_is framed)
    (leaf_lists xs es before n key high free (b.marks n)) in (
      subst (λ l. Wrote xs before after low (part_of blocks before l c) (parts_below blocks after l (c ∷ [])) high free rest) (sym b.level)
          (subst (λ ms. Wrote xs before after low ms (parts_below blocks after 1 (c ∷ [])) high free rest) (sym b.was)
          (subst (λ ms. Wrote xs before after low (Key n key ∷ Page n ∷ map (Row n) es) ms high free rest) (sym now)
          (subst (λ f. Wrote xs before after low (Key n key ∷ Page n ∷ map (Row n) es) (Key n key ∷ Page n ∷ map (Row n) (with_range xs es)) high free f) (sym left_is) w))),
      b.level,
      leaf_keeps end blocks before after n es (with_range xs es) is there (loses_none xs es part.range.rises o.order),
    )
leaf_wrote end full blocks xs es list left right old new image n bytes free rest (Some s) top o part is_list read fulls (long, popped, stored) keeps height key low high first takes =
    let before = shown old image in
    let after = shown new image in
    let q = s.page in
    let c : Child ℕ = record { key = key; page = n } in
    let d : Child ℕ = record { key = s.key; page = q } in
    let is = ap (xt_node Full blocks) (sym read) ∙ o.node in
    let b = before_leaf blocks xs es left right before n height key low high first free is part.range.rises takes in
    let good = (leaf_list blocks xs es top part o.order o.range o.fits).0 in
    let reads = (stored.divided.reads blocks (subst (IsList blocks) (sym is_list) good)).leaf es o.node in
    let p = reads.0 in
    let fills = reads.1 in
    let all : with_range xs es ≡ p.front ++ p.back = sym is_list ∙ p.all in
    let taken = taken_last free rest q popped in
    let ne = apart n q (count_in n free) (count_in n free) (count_in n rest) (once_itself n (times n (map (Row n) es)) (count_in n free) (b.takes.once n)) (omega arith) (taken n) in
    let first_is : page_nodes blocks after n ≡ Leaf p.front = ap (xt_node Full blocks) (two_first old new n q stored.first stored.second stored.puts ne image) ∙ p.left_is in
    let second_is : page_nodes blocks after q ≡ Leaf p.back = ap (xt_node Full blocks) (two_last old new n q stored.first stored.second stored.puts image) ∙ p.right_is in
    let x = map (Row n) p.front in
    let y = map (Row q) p.back in
    let now : parts_below blocks after 1 (c ∷ d ∷ []) ≡ Key n key ∷ Page n ∷ (x ++ (Key q s.key ∷ Page q ∷ y)) =
    ap (λ ms. ms ++ (part_of blocks after 1 d ++ [])) (cons_rows xt_scale (page_nodes blocks after) c p.front (front_fits key p.front p.back p.some (subst (FitsFirst xt_scale key) all b.fits)) first_is)
    ∙ ap (λ ms. Key n key ∷ Page n ∷ (x ++ ms)) (append_nil (part_of blocks after 1 d) ∙ cons_rows xt_scale (page_nodes blocks after) d p.back p.parts.fits second_is) in
    let rise = p.parts.rises n key high (subst (λ ys. Rises xt_scale key (map (Row n) ys) high) all (b.marks n)) in
    let w = two_pages xs before before after key low n q s.key (map (Row n) es) (map (Row n) (with_range xs es)) x y high free free rest b.takes.rises.0 (λ m. omega arith) taken (λ m off e. keeps image m off e)
    (rows-append x y ∙ ap (λ ys. ys ++ rows_of y) (rows_leaf ℕ n p.front) ∙ ap (λ ys. p.front ++ ys) (rows_leaf ℕ q p.back) ∙ sym all ∙ sym (rows_leaf ℕ n (with_range xs es)))
    (λ m. (let e = times-append m x y in let f = times_leaf ℕ m n p.front in let g = times_leaf ℕ m q p.back in let h = times_leaf ℕ m n (with_range xs es) in omega (arith, e, f, g, h)))
    rise.0 (relabel n q s.key p.back high rise.1) (stored_framed full list bytes n old new image free rest (Some s) (ap (frame_of Full) read) (long, popped, stored)) (leaf_lists xs es before n key high free (b.marks n)) in (
      subst (λ l. Wrote xs before after low (part_of blocks before l c) (parts_below blocks after l (c ∷ d ∷ [])) high free rest) (sym b.level)
          (subst (λ ms. Wrote xs before after low ms (parts_below blocks after 1 (c ∷ d ∷ [])) high free rest) (sym b.was)
          (subst (λ ms. Wrote xs before after low (Key n key ∷ Page n ∷ map (Row n) es) ms high free rest) (sym now) w)),
      b.level,
      leaf_fills end blocks before after n q p.front p.back first_is second_is
          (subst (λ (m : Node ℕ Xad). 127 ≤ entry_count m) p.left_is fills.left_has) (λ e. subst (λ (m : Node ℕ Xad). 127 ≤ entry_count m) p.right_is (fills.right_has (not_full end full fulls e))),
    )

-- ---- a part that has entries only in the 17 blocks

few_rows : (low : ℕ) (es : List Xad) (high : ℕ) → rises_from low es ≡ true → AllTo high es → low ≤ high → length es + low ≤ high
few_rows low [] high r a l = omega (arith, l)
few_rows low (e ∷ es) high r a l =
    let t = rises_less low e es r in let k = t.0 in let w = ends_after e in let m = a.0 in
    let h = few_rows (end_of e) es high t.1 a.1 m in omega (arith, k, w, h)

pub leaf_refuted : (blocks : ℕ) (xs es list : List Xad) (left right : Bool) (old : List Drafted) (image : Image) (n most bad : ℕ) (rule : Rule) (bytes : List ℕ) (free : List ℕ) → IsOpened blocks bytes es true → IsPart blocks xs → list ≡ with_range xs es → bytes ≡ shown old image n
    → left ≡ false → right ≡ false → 254 < length list → RefutesPage blocks xs left right (shown old image) most n free (Bad bad rule)
leaf_refuted blocks xs es list left right old image n most bad rule bytes free o part is_list read no_left no_right long height key low high first within takes =
    let is = ap (xt_node Full blocks) (sym read) ∙ o.node in
    let b = before_leaf blocks xs es left right (shown old image) n height key low high first free is part.range.rises takes in
    by high (b.takes.ends no_right) (leaf_to n key (with_range xs es) high (b.marks n)) (span key (map (Row n) (with_range xs es)) high (b.marks n)) b.rise (b.takes.begins no_left) (subst (λ ys. 254 < length ys) is_list long)
  where
    by : (high : Option ℕ) → EndsBy (first + 17) high → AllUpTo (with_range xs es) high → UpTo xt_scale key high → rises_from key (with_range xs es) ≡ true → first ≤ key → 254 < length (with_range xs es) → ⊥
    by None e a u r f l = e
    by (Some h) e a u r f l = let k = few_rows key (with_range xs es) h r a (leb-true key h u) in omega (arith, e, f, l, k)

-- the list isn't much longer than the leaf's
pub leaf_few : (blocks : ℕ) (xs es : List Xad) → IsPart blocks xs → rises_from 0 es ≡ true → length es ≤ 254 → length (with_range xs es) ≤ 508
leaf_few blocks xs es part rise few = let h = adds_few xs es part.first 17 part.lies.from part.lies.to rise in omega (arith, h, few)
