-- A list that goes to a root, or from there to a page.
use Rattle.std.proofs.Common.{◌≡◌, ◌≤◌, ◌<◌, ◌⊎◌, inl, inr, refl, sym, ap, ◌∙◌, subst, ℕ, ◌+◌, ◌*◌, ◌/◌, ◌%◌, ◌==◌, ◌||◌, Bool, true, false, List, [], ◌∷◌, ◌++◌, map, length, Result, Ok, Err, OnOk, arith}
use Rattle.std.proofs.lemmas.Bool.{le-leb}
use Rattle.std.proofs.lemmas.Bool.Decides.{nat_tests}
use Rattle.jfs_bits.specs.declared.extent.Xad.{Xad}
use Rattle.jfs_bits.specs.Field.{field_of}
use Rattle.jfs_disk.specs.Image.{Image}
use Rattle.jfs_tree.specs.Walk.{Node, Leaf, Inner}
use Rattle.jfs_tree.specs.Edit.{count_in}
use Rattle.jfs_tree.specs.Form.{AllBelow}
use Rattle.jfs_tree.specs.Draft.{shown}
use Rattle.jfs_tree.specs.Call.{PutsOne, PutsTwo, StaysOff, StaysTaken}
use Rattle.jfs_tree.specs.declared.draft.Drafted.{Drafted}
use Rattle.jfs_tree.specs.declared.form.TreeError.{TreeError}
use Rattle.jfs_tree.proofs.Growing.{not_taken}
use Rattle.jfs_tree.proofs.Taking.{another, below_popped, itself, taken_last, two_others}
use Rattle.jfs_xtpage.specs.declared.head.XtForm.{XtForm}
use Rattle.jfs_xtpage.specs.declared.head.XtForm.TheVariants.{Root, Full, Small}
use Rattle.jfs_xtpage.specs.declared.head.XtHead.{XtHead}
use Rattle.jfs_xtpage.specs.Page.{behind_slots, head_of, entries_of, rises_from, new_head, kind_flag}
use Rattle.jfs_xtree.specs.Node.{xt_node, fits_flag, fits_max, is_leaf, all_within, child_of, root_frame, IsRoot, IsSound, KeepsFrame}
use Rattle.jfs_xtree.proofs.Reading.{leaf_is, inner_is, sound_inner}
use Rattle.jfs_xtree.proofs.Inners.{child_within}
use Rattle.jfs_xtree.proofs.Pages.{IsNew, new_leaf, new_inner}
use Rattle.jfs_refill.specs.Refilled.{IsList}
use Rattle.jfs_refill.specs.Rooted.{RootHas, RootMoved, MovesRoot, SettlesList}
use Rattle.jfs_refill.proofs.Listed.{relisted, same_kind}

-- ---- what a draft keeps

pub two_off : (old new : List Drafted) (page q : ℕ) (one other : List ℕ) (free left : List ℕ) → PutsTwo old new page one q other → free ≡ left ++ q ∷ [] → StaysOff page old new free left
two_off old new page q one other free left puts popped image m ne e =
    two_others old new page q one other puts image m ne (not_taken q m (count_in m left) (count_in m free) (taken_last free left q popped m) e)

pub one_off : (old new : List Drafted) (q : ℕ) (page : List ℕ) (free left : List ℕ) → PutsOne old new q page → free ≡ left ++ q ∷ [] → StaysTaken old new free left
one_off old new q page free left puts popped image m e = puts image m ∙ another m q page (shown old image m) (not_taken q m (count_in m left) (count_in m free) (taken_last free left q popped m) e)

-- ---- what a root keeps

pub frame_kept : (old new : List ℕ) (n : ℕ) → head_of new ≡ record (head_of old) { nextindex = n } → behind_slots new ≡ behind_slots old → KeepsFrame old new
frame_kept old new n head tail = ap (λ (h : XtHead). root_frame h (behind_slots new)) head ∙ ap (root_frame (head_of old)) tail

pub frame_moved : (old mid new : List ℕ) (flag n : ℕ) → head_of mid ≡ record (head_of old) { flag = flag } → behind_slots mid ≡ behind_slots old → head_of new ≡ record (head_of mid) { nextindex = n } → behind_slots new ≡ behind_slots mid → KeepsFrame old new
frame_moved old mid new flag n head tail next rest = frame_kept mid new n next rest ∙ (ap (λ (h : XtHead). root_frame h (behind_slots mid)) head ∙ ap (root_frame (head_of old)) tail)

-- ---- a root that keeps its list

pub has_settled : (form : XtForm) (blocks levels : ℕ) (list : List Xad) (root after : List ℕ) (drafts : List Drafted) (free : List ℕ) → IsList blocks list → RootHas list root after → SettlesList form blocks levels list root after drafts drafts free free
has_settled form blocks levels list root after drafts free good has =
    let r = relisted form blocks list root after (same_kind root after (length list) has.head has.room) has.entries good in
    record {
      leaf = λ image es node. inl (r.leaf es node, (λ n. refl), (λ n. refl));
      inner = λ image cs node some. inl (r.inner cs node some, (λ n. refl), (λ n. refl));
    }

-- ---- a root that gives its list away

three_or_five : (f : ℕ) → (f % 8 == 3 || f % 8 == 5) ≡ true → (f / 8 * 8 + f % 2 + 4) % 8 ≡ 5
three_or_five f e = odd f (side f e)
  where
    side : (f : ℕ) → (f % 8 == 3 || f % 8 == 5) ≡ true → (f % 8 ≡ 3) ⊎ (f % 8 ≡ 5)
    side f e = grind (arith, nat_tests)

    odd : (f : ℕ) → (f % 8 ≡ 3) ⊎ (f % 8 ≡ 5) → (f / 8 * 8 + f % 2 + 4) % 8 ≡ 5
    odd f (inl h) = omega (arith, h)
    odd f (inr h) = omega (arith, h)

inner_flag : (form : XtForm) (f : ℕ) → IsRoot form → fits_flag form f ≡ true → (fits_flag form (kind_flag f false) ≡ true) × (is_leaf (kind_flag f false) ≡ false)
inner_flag Root f r e = let h = three_or_five f e in (rw h refl, rw h refl)
inner_flag Small f r e = let h = three_or_five f e in (rw h refl, rw h refl)
inner_flag Full f r e = absurd r

only_child : (form : XtForm) (blocks q : ℕ) (list : List Xad) (root after page : List ℕ) → q < blocks → IsRoot form → IsSound form blocks (head_of root) (entries_of root) → 3 ≤ (head_of root).maxentry → RootMoved list q root after page
    → xt_node form blocks after ≡ Inner (record { key = 0; page = q } ∷ [])
only_child form blocks q list root after page inside top sound room moved =
    let f : (head_of after).flag ≡ kind_flag (head_of root).flag false = ap (λ (h : XtHead). h.flag) moved.root_head in
    let m : field_of after 20 2 ≡ field_of root 20 2 = ap (λ (h : XtHead). h.maxentry) moved.root_head in
    let n : field_of after 18 2 ≡ 3 = ap (λ (h : XtHead). h.nextindex) moved.root_head in
    let k = inner_flag form (head_of root).flag top sound.flag in
    sound_inner form blocks after (record {
      flag = ap (fits_flag form) f ∙ k.0;
      max = ap (fits_max form) m ∙ sound.max;
      count = rw (le-leb 2 (head_of after).nextindex (omega (arith, n)), le-leb (head_of after).nextindex (head_of after).maxentry (omega (arith, n, m, room))) refl;
      order = ap (rises_from 0) moved.only;
      range = ap (all_within blocks) moved.only ∙ rw (child_within blocks 0 q inside) refl;
    }) (ap is_leaf f ∙ k.1) (subst (λ ys. 0 < length ys) (sym moved.only) (omega arith)) ∙ ap (λ ys. Inner (map child_of ys)) moved.only

new_page : (list : List Xad) (q : ℕ) (leaf : Bool) (root after page : List ℕ) → is_leaf (head_of root).flag ≡ leaf → length list ≤ 254 → RootMoved list q root after page → IsNew Full leaf (head_of page)
new_page list q leaf root after page kind most moved =
    let n : field_of page 18 2 ≡ length list + 2 = ap (λ (h : XtHead). h.nextindex) moved.head in
    let as_leaf = ap (λ b. new_head Full b (record { len = 1; addr = q })) kind in (
      ap (λ (h : XtHead). h.flag) moved.head ∙ ap (λ (h : XtHead). h.flag) as_leaf,
      ap (λ (h : XtHead). h.maxentry) moved.head,
      omega (arith, n),
      omega (arith, n, most),
    )

pub moves_settled : (form : XtForm) (blocks levels : ℕ) (list : List Xad) (root after : List ℕ) (old new : List Drafted) (free left : List ℕ) → IsRoot form → AllBelow blocks free → IsList blocks list → length list ≤ 254 → 3 ≤ (head_of root).maxentry → levels < 8
    → MovesRoot list root after old new free left → SettlesList form blocks levels list root after old new free left
moves_settled form blocks levels list root after old new free left top within good most room few m =
    let inside = (below_popped blocks m.q free left m.taken within).1 in
    let placed = λ (node : Node ℕ Xad) (image : Image) (is : xt_node Full blocks m.page ≡ node). ap (xt_node Full blocks) (m.puts image m.q ∙ itself m.q m.page (shown old image m.q)) ∙ is in
    let others = λ (image : Image) (n : ℕ) (ne : n ≡ m.q → ⊥). ap (xt_node Full blocks) (m.puts image n ∙ another n m.q m.page (shown old image n) ne) in
    record {
      leaf = λ image es node. (
          let t = leaf_is form blocks root es node in
          inr (
            m.q,
            few,
            only_child form blocks m.q list root after m.page inside top t.0 room m.moved,
            placed (Leaf list) image (new_leaf Full blocks m.page list (new_page list m.q true root after m.page t.1 most m.moved) m.moved.entries good.order good.range),
            others image,
            taken_last free left m.q m.taken,
          )
          );
      inner = λ image cs node some. (
          let t = inner_is form blocks root cs node in
          inr (
            m.q,
            few,
            only_child form blocks m.q list root after m.page inside top t.0 room m.moved,
            placed (Inner (map child_of list)) image (new_inner Full blocks m.page list (new_page list m.q false root after m.page t.1 most m.moved) m.moved.entries some good.order good.range),
            others image,
            taken_last free left m.q m.taken,
          )
          );
    }

pub moves_settled_by : (r : Result (Unit {0}) TreeError) (form : XtForm) (blocks levels : ℕ) (list : List Xad) (root after : List ℕ) (old new : List Drafted) (free left : List ℕ) → IsRoot form → AllBelow blocks free → IsList blocks list → length list ≤ 254 → 3 ≤ (head_of root).maxentry → levels < 8
    → OnOk r (MovesRoot list root after old new free left) → OnOk r (SettlesList form blocks levels list root after old new free left)
moves_settled_by (Ok it) form blocks levels list root after old new free left top within good most room few m = moves_settled form blocks levels list root after old new free left top within good most room few m
moves_settled_by (Err e) form blocks levels list root after old new free left top within good most room few m = tt

pub moves_kept : (r : Result (Unit {0}) TreeError) (list : List Xad) (root after : List ℕ) (old new : List Drafted) (free left : List ℕ) → OnOk r (MovesRoot list root after old new free left) → OnOk r (StaysTaken old new free left)
moves_kept (Ok it) list root after old new free left m = one_off old new m.q m.page free left m.puts m.taken
moves_kept (Err e) list root after old new free left m = tt
