-- The steps of a cut, from what the code says of its pages.
use Rattle.std.proofs.Common.{◌≡◌, ◌≤◌, ◌<◌, refl, sym, ap, ◌∙◌, subst, ℕ, ◌+◌, ◌-◌, ◌==◌, Bool, true, false, ◌&&◌, if◌then◌else◌, List, [], ◌∷◌, ◌++◌, map, length, take, drop, Result, Ok, Err, IfOk, OnOk, arith}
use Rattle.std.specs.Prelude.{nat_le, nat_lt}
use Rattle.std.proofs.lemmas.Bool.{leb-true, leb-false, le-leb, ne_eqb}
use Rattle.std.proofs.lemmas.Bool.Decides.{nat_tests}
use Rattle.std.proofs.lemmas.List.{take-append-drop}
use Rattle.jfs_bits.specs.declared.extent.Xad.{Xad}
use Rattle.jfs_bits.specs.declared.descriptor.Pxd.{Pxd}
use Rattle.jfs_bits.specs.Field.{field_of}
use Rattle.jfs_disk.specs.Image.{Image, page_of}
use Rattle.jfs_tree.specs.Walk.{Child, Leaf, Inner}
use Rattle.jfs_tree.specs.Edit.{IsCons}
use Rattle.jfs_tree.specs.Shrink.{kept_of}
use Rattle.jfs_tree.specs.Removal.{Settles}
use Rattle.jfs_tree.specs.Draft.{shown}
use Rattle.jfs_tree.specs.declared.draft.Drafted.{Drafted}
use Rattle.jfs_tree.specs.declared.form.TreeError.{TreeError}
use Rattle.jfs_xtpage.specs.declared.head.XtForm.{XtForm}
use Rattle.jfs_xtpage.specs.declared.head.XtForm.TheVariants.{Full}
use Rattle.jfs_xtpage.specs.declared.head.XtHead.{XtHead}
use Rattle.jfs_xtpage.specs.Page.{head_of, entries_of, entry_of, count_of, end_of, rises_from, IsLaidOut}
use Rattle.jfs_tree.proofs.Between.{append_nil}
use Rattle.jfs_xtpage.proofs.Entries.{first, length-entries}
use Rattle.jfs_xtree.specs.Laws.{ends_after}
use Rattle.jfs_xtree.specs.Node.{xt_node, is_leaf, is_within, all_within, child_of, IsSound, SameKind, LeadsAt}
use Rattle.jfs_xtree.specs.Spells.{page_nodes}
use Rattle.jfs_xtree.specs.Cutting.{up_to, kept_below, gone_past}
use Rattle.jfs_xtree.specs.CutParts.{CutsNode, CutsPage, FreesUnder, KeepsSome, AllFrom}
use Rattle.jfs_xtree.proofs.Reading.{and_true, sound_leaf, sound_inner}
use Rattle.jfs_xtree.proofs.Pages.{leaf_made, inner_made, rises_less, rises_more, rises_weaker, rises_front, within_both, within_front}
use Rattle.jfs_xtree.proofs.Ways.{cut_at, length_front, map_cut}
use Rattle.jfs_xtree.proofs.CutRows.{from_place, take_one_more}
use Rattle.jfs_xtree.proofs.CutWalks.{leaf_cuts, up_to_end, up_to_offset}
use Rattle.jfs_xtree.proofs.CutInners.{IsAbove, FirstFrom, inner_cuts, page_kept, page_gone}

-- ---- a leaf

kept_rises : (bound low : ℕ) (es : List Xad) → rises_from low es ≡ true → rises_from low (kept_below bound es) ≡ true
kept_rises bound low [] r = refl
kept_rises bound low (e ∷ es) r = let t = rises_less low e es r in by t.0 (nat_le bound e.offset) refl (kept_rises bound (end_of e) es t.1)
  where
    by : low ≤ e.offset → (t : Bool) → nat_le bound e.offset ≡ t → rises_from (end_of e) (kept_below bound es) ≡ true → rises_from low (if t then kept_below bound es else up_to bound e ∷ kept_below bound es) ≡ true
    by l true is h = let w = ends_after e in rises_weaker (kept_below bound es) (end_of e) low (omega (arith, l, w)) h
    by l false is h =
        let o = up_to_offset bound e in
        rises_more low (up_to bound e) (kept_below bound es) (omega (arith, l, o)) (rises_weaker (kept_below bound es) (end_of e) (end_of (up_to bound e)) (up_to_end bound e (leb-false bound e.offset is)) h)

within_up_to : (blocks bound : ℕ) (e : Xad) → e.offset < bound → is_within blocks e ≡ true → is_within blocks (up_to bound e) ≡ true
within_up_to blocks bound e l w = by (nat_le (end_of e) bound) refl
  where
    both : (a b : Bool) → a ≡ true → b ≡ true → (a && b) ≡ true
    both a b p q = rw (p, q) refl

    shorter : bound < end_of e → e.at.addr + (bound - e.offset) ≤ e.at.addr + e.at.len
    shorter h = grind (arith, h, l)

    by : (t : Bool) → nat_le (end_of e) bound ≡ t → is_within blocks (if t then e else record { flag = e.flag; offset = e.offset; at = record { len = bound - e.offset; addr = e.at.addr } }) ≡ true
    by true is = w
    by false is =
        let p = and_true (nat_le 1 e.at.len) (nat_le (e.at.addr + e.at.len) blocks) w in
        let m = leb-true (e.at.addr + e.at.len) blocks p.1 in
        let s = shorter (leb-false (end_of e) bound is) in
        both (nat_le 1 (bound - e.offset)) (nat_le (e.at.addr + (bound - e.offset)) blocks) (le-leb 1 (bound - e.offset) (omega (arith, l))) (le-leb (e.at.addr + (bound - e.offset)) blocks (omega (arith, m, s)))

kept_within : (blocks bound : ℕ) (es : List Xad) → all_within blocks es ≡ true → all_within blocks (kept_below bound es) ≡ true
kept_within blocks bound [] w = refl
kept_within blocks bound (e ∷ es) w = let t = and_true (is_within blocks e) (all_within blocks es) w in by t.0 (nat_le bound e.offset) refl (kept_within blocks bound es t.1)
  where
    by : is_within blocks e ≡ true → (t : Bool) → nat_le bound e.offset ≡ t → all_within blocks (kept_below bound es) ≡ true → all_within blocks (if t then kept_below bound es else up_to bound e ∷ kept_below bound es) ≡ true
    by w true is h = h
    by w false is h = within_both blocks (up_to bound e) (kept_below bound es) (within_up_to blocks bound e (leb-false bound e.offset is) w) h

some_if : (xs : List Xad) (kept : Bool) → KeepsSome xs kept → kept ≡ true → 0 < length xs
some_if xs true k e = k
some_if xs false k e = absurd cc

none_if : (xs : List Xad) (kept : Bool) → KeepsSome xs kept → kept ≡ false → xs ≡ []
none_if xs true k e = absurd cc
none_if xs false k e = k

pub leaf_done : (form : XtForm) (blocks bound : ℕ) (bytes new : List ℕ) (image : Image) (drafts : List Drafted) (freed : List ℕ) (old runs : List Pxd) (r : Result Bool TreeError) → IsSound form blocks (head_of bytes) (entries_of bytes) → is_leaf (head_of bytes).flag ≡ true
    → drafts ≡ [] → freed ≡ [] → old ≡ [] → OnOk r (entries_of new ≡ kept_below bound (entries_of bytes)) → OnOk r (runs ≡ old ++ gone_past bound (entries_of bytes)) → OnOk r (SameKind (head_of bytes) (head_of new)) → IfOk r (KeepsSome (entries_of new))
    → IfOk r (λ kept. CutsNode blocks bound (page_of image) (shown drafts image) (xt_node form blocks bytes) (xt_node form blocks new) kept freed runs)
leaf_done form blocks bound bytes new image drafts freed old runs (Err e) sound leaf none free empty rows gone kind some = tt
leaf_done form blocks bound bytes new image drafts freed old runs (Ok kept) sound leaf none free empty rows gone kind some =
    let was = sound_leaf form blocks bytes sound leaf in
    let is = leaf_made form blocks bytes new (entries_of bytes) (kept_below bound (entries_of bytes)) sound leaf kind rows (kept_rises bound 0 (entries_of bytes) sound.order) (kept_within blocks bound (entries_of bytes) sound.range) in
    let keeps = subst (λ xs. KeepsSome xs kept) rows some in
    subst (λ o. CutsNode blocks bound (page_of image) (shown drafts image) o (xt_node form blocks new) kept freed runs) (sym was)
    (subst (λ o. CutsNode blocks bound (page_of image) (shown drafts image) (Leaf (entries_of bytes)) o kept freed runs) (sym is)
    (leaf_cuts blocks bound (page_of image) (shown drafts image) (entries_of bytes) kept freed runs (λ n. ap (λ ds. shown ds image n) none) free
    (gone ∙ ap (λ ps. ps ++ gone_past bound (entries_of bytes)) empty) (some_if (kept_below bound (entries_of bytes)) kept keeps) (none_if (kept_below bound (entries_of bytes)) kept keeps)))

-- ---- a page that was cut is put or freed

itself : (n : ℕ) → (n == n) ≡ true
itself n = grind (arith, nat_tests)

pub page_settled : (blocks bound page : ℕ) (image view : Image) (bytes new : List ℕ) (kept : Bool) (one two : List Drafted) (first free : List ℕ) (runs later : List Pxd) → view ≡ image → bytes ≡ page_of image page
    → CutsNode blocks bound (page_of view) (shown one view) (xt_node Full blocks bytes) (xt_node Full blocks new) kept first runs → Settles kept page new one two first free → later ≡ runs
    → CutsPage blocks bound (page_of image) (shown two image) page kept free later
page_settled blocks bound page image view bytes new kept one two first free runs later same is cuts settles run =
    subst (CutsPage blocks bound (page_of image) (shown two image) page kept free) (sym run)
    (by kept (subst (λ b. CutsNode blocks bound (page_of image) (shown one image) (xt_node Full blocks b) (xt_node Full blocks new) kept first runs) is
    (subst (λ (i : Image). CutsNode blocks bound (page_of i) (shown one i) (xt_node Full blocks bytes) (xt_node Full blocks new) kept first runs) same cuts)) settles)
  where
    by : (kept : Bool) → CutsNode blocks bound (page_of image) (shown one image) (page_nodes blocks (page_of image) page) (xt_node Full blocks new) kept first runs → Settles kept page new one two first free
        → CutsPage blocks bound (page_of image) (shown two image) page kept free runs
    by true cuts s =
        subst (λ f. CutsPage blocks bound (page_of image) (shown two image) page true f runs) (sym s.1)
        (page_kept blocks bound (page_of image) (shown one image) (shown two image) page (xt_node Full blocks new) first runs cuts
        (ap (xt_node Full blocks) (s.0 image page ∙ ap (λ t. if t then new else shown one image page) (itself page)))
        (λ n ne. s.0 image n ∙ ap (λ t. if t then new else shown one image n) (ne_eqb n page ne)))
    by false cuts s = page_gone blocks bound (page_of image) (shown one image) (shown two image) page (xt_node Full blocks new) first free runs cuts s.1 (λ n. ap (λ ds. shown ds image n) s.0)

-- ---- an inner page

pub first_of_all : (bound : ℕ) (xs : List Xad) → AllFrom bound xs → FirstFrom bound (map child_of xs)
first_of_all bound [] h = tt
first_of_all bound (x ∷ xs) h = h.0

above_of : (limit : ℕ) (front : List Xad) (t : Child ℕ) → (0 < length front → t.key ≤ limit) → IsAbove limit (map child_of front) t
above_of limit [] t h = tt
above_of limit (x ∷ front) t h = h (omega arith)

cons_of : (front : List Xad) → 0 < length front → IsCons (map child_of front)
cons_of [] h = absurd (omega (arith, h))
cons_of (x ∷ front) h = tt

none_of : (front : List Xad) → length front ≡ 0 → map child_of front ≡ []
none_of [] h = refl
none_of (x ∷ front) h = absurd (omega (arith, h))

-- the children that are left
left_is : (bytes : List ℕ) (place left : ℕ) (k : Bool) → place < count_of bytes → left ≡ place + (if k then 1 else 0) → map child_of (take left (entries_of bytes)) ≡ map child_of (take place (entries_of bytes)) ++ kept_of k (child_of (entry_of bytes place))
left_is bytes place left true l e =
    ap (λ n. map child_of (take n (entries_of bytes))) e ∙ ap (λ xs. map child_of (take (place + 1) xs)) (cut_at bytes place l)
    ∙ ap (map child_of) (take_one_more (take place (entries_of bytes)) (entry_of bytes place) (drop (place + 1) (entries_of bytes)) place (sym (length_front bytes place l)))
    ∙ map_cut (take place (entries_of bytes)) (entry_of bytes place) []
left_is bytes place left false l e =
    ap (λ n. map child_of (take n (entries_of bytes))) (let h : left ≡ place = omega (arith, e) in h) ∙ sym (append_nil (map child_of (take place (entries_of bytes))))

left_sound : (form : XtForm) (blocks : ℕ) (bytes new : List ℕ) (left : ℕ) → IsSound form blocks (head_of bytes) (entries_of bytes) → is_leaf (head_of bytes).flag ≡ false → SameKind (head_of bytes) (head_of new) → entries_of new ≡ take left (entries_of bytes) → 0 < length (take left (entries_of bytes))
    → xt_node form blocks new ≡ Inner (map child_of (take left (entries_of bytes)))
left_sound form blocks bytes new left sound flag kind entries some =
    let whole = take-append-drop left (entries_of bytes) in
    inner_made form blocks bytes new (entries_of bytes) (take left (entries_of bytes)) sound flag kind entries some
    (rises_front (take left (entries_of bytes)) (drop left (entries_of bytes)) 0 (ap (rises_from 0) whole ∙ sound.order))
    (within_front blocks (take left (entries_of bytes)) (drop left (entries_of bytes)) (ap (all_within blocks) whole ∙ sound.range))

length_left : (bytes : List ℕ) (left : ℕ) → left ≤ count_of bytes → length (take left (entries_of bytes)) ≡ left
length_left bytes left l = ap length (sym (first bytes 0 left (count_of bytes) l)) ∙ length-entries bytes 0 left

pub left_some : (bytes new : List ℕ) (left : ℕ) (kept : Bool) → left ≤ count_of bytes → entries_of new ≡ take left (entries_of bytes) → (kept ≡ true → 0 < left) → (kept ≡ false → left ≡ 0) → KeepsSome (entries_of new) kept
left_some bytes new left true l entries some none = let h = length_left bytes left l in let e = ap length entries in let s = some refl in omega (arith, h, e, s)
left_some bytes new left false l entries some none = entries ∙ ap (λ n. take n (entries_of bytes)) (none refl)

pub inner_done : (form : XtForm) (blocks bound last place left : ℕ) (k kept : Bool) (bytes new : List ℕ) (image : Image) (after : ℕ → List ℕ) (n : ℕ) (one freed : List ℕ) (first runs : List Pxd) → IsSound form blocks (head_of bytes) (entries_of bytes) → is_leaf (head_of bytes).flag ≡ false
    → last ≡ bound - 1 → LeadsAt bytes last place → n ≡ (entry_of bytes place).at.addr → left ≡ place + (if k then 1 else 0) → (kept ≡ true → 0 < left) → (kept ≡ false → left ≡ 0) → SameKind (head_of bytes) (head_of new) → entries_of new ≡ take left (entries_of bytes)
    → CutsPage blocks bound (page_of image) after n k one first → FreesUnder (page_nodes blocks (page_of image)) (drop (place + 1) (entries_of bytes)) one freed first runs
    → CutsNode blocks bound (page_of image) after (xt_node form blocks bytes) (xt_node form blocks new) kept freed runs
inner_done form blocks bound last place left k kept bytes new image after n one freed first runs sound flag is_last leads at is_left some none kind entries cuts frees =
    let a = take place (entries_of bytes) in
    let b = drop (place + 1) (entries_of bytes) in
    let size = length-entries bytes 0 (count_of bytes) in
    let inside = leads.within in
    let long = length_front bytes place inside in
    let was = sound_inner form blocks bytes sound flag (omega (arith, size, inside)) ∙ ap (λ xs. Inner (map child_of xs)) (cut_at bytes place inside) ∙ ap (λ cs. Inner cs) (map_cut a (entry_of bytes place) b) in
    let most : left ≤ count_of bytes = fits k is_left inside in
    subst (λ o. CutsNode blocks bound (page_of image) after o (xt_node form blocks new) kept freed runs) (sym was)
    (inner_cuts blocks bound (page_of image) after (map child_of a) (child_of (entry_of bytes place)) b k kept (xt_node form blocks new) one freed first runs (subst (λ m. CutsPage blocks bound (page_of image) after m k one first) at cuts) frees
    (above_of bound a (child_of (entry_of bytes place)) (λ h. let l = leads.above (omega (arith, h, long)) in omega (arith, l, is_last)))
    (first_of_all bound b (from_place bytes bound (place + 1) (omega (arith, inside)) (λ j p q. let l = leads.past j (omega (arith, p)) q in omega (arith, l, is_last))))
    (λ e. let s = some e in let m = length_left bytes left most in (
      left_sound form blocks bytes new left sound flag kind entries (omega (arith, s, m)) ∙ ap (λ cs. Inner cs) (left_is bytes place left k inside is_left),
      λ z. cons_of a (positive k z is_left s long),
    ))
    (λ e. let z = none e in (none_of a (nothing k is_left z long), not_kept k is_left z)))
  where
    fits : (k : Bool) → left ≡ place + (if k then 1 else 0) → place < count_of bytes → left ≤ count_of bytes
    fits true e l = omega (arith, e, l)
    fits false e l = omega (arith, e, l)

    positive : (k : Bool) → k ≡ false → left ≡ place + (if k then 1 else 0) → 0 < left → length (take place (entries_of bytes)) ≡ place → 0 < length (take place (entries_of bytes))
    positive true z e l h = absurd cc
    positive false z e l h = omega (arith, e, l, h)

    nothing : (k : Bool) → left ≡ place + (if k then 1 else 0) → left ≡ 0 → length (take place (entries_of bytes)) ≡ place → length (take place (entries_of bytes)) ≡ 0
    nothing true e z h = absurd (omega (arith, e, z))
    nothing false e z h = omega (arith, e, z, h)

    not_kept : (k : Bool) → left ≡ place + (if k then 1 else 0) → left ≡ 0 → k ≡ false
    not_kept true e z = absurd (omega (arith, e, z))
    not_kept false e z = refl

-- ---- by the code's numbers

pub is_some : (n : ℕ) → nat_lt 0 n ≡ true → 0 < n
is_some n e = grind (arith, nat_tests)

pub is_none : (n : ℕ) → nat_lt 0 n ≡ false → n ≡ 0
is_none n e = grind (arith, nat_tests)

pub one_or_none : (k : Bool) → (if k then 1 else 0) ≤ 1
one_or_none true = omega arith
one_or_none false = omega arith

pub kind_cut : (bytes new : List ℕ) (left : ℕ) → IsLaidOut bytes → left ≤ count_of bytes → head_of new ≡ record (head_of bytes) { nextindex = left + 2 } → SameKind (head_of bytes) (head_of new)
kind_cut bytes new left laid l is =
    let n : field_of new 18 2 ≡ left + 2 = ap (λ (h : XtHead). h.nextindex) is in
    let m : field_of new 20 2 ≡ field_of bytes 20 2 = ap (λ (h : XtHead). h.maxentry) is in
    let a = laid.least in let b = laid.most in
    record { flag = ap (λ (h : XtHead). h.flag) is; max = m; least = omega (arith, n); most = omega (arith, n, m, l, a, b) }
