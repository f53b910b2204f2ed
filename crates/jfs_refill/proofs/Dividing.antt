-- A list that goes to two pages.
use Rattle.std.proofs.Common.{◌≡◌, ◌≤◌, ◌<◌, refl, sym, ap, ◌∙◌, subst, ℕ, zero, suc, ◌+◌, ◌-◌, Bool, true, false, List, [], ◌∷◌, ◌++◌, map, length, take, drop, arith}
use Rattle.std.proofs.lemmas.List.{take-append-drop, length-take-le, length-drop, length-map, map-append}
use Rattle.jfs_bits.specs.declared.extent.Xad.{Xad}
use Rattle.jfs_bits.specs.Field.{field_of}
use Rattle.jfs_tree.specs.Walk.{Node, Inner}
use Rattle.jfs_tree.specs.Edit.{IsCons}
use Rattle.jfs_tree.specs.Levels.{entry_count}
use Rattle.jfs_tree.specs.Filled.{FillsBoth}
use Rattle.jfs_tree.specs.Form.{SplitsChildren}
use Rattle.jfs_xtpage.specs.declared.head.XtForm.TheVariants.{Full}
use Rattle.jfs_xtpage.specs.declared.head.XtHead.{XtHead}
use Rattle.jfs_xtpage.specs.Page.{head_of, entry_of, entries_of, entries_from, rises_from, new_head, new_flag}
use Rattle.jfs_xtree.specs.Node.{xt_node, is_leaf, all_within, child_of, BeginsAt, SameKind}
use Rattle.jfs_xtree.proofs.Reading.{leaf_is, inner_is}
use Rattle.jfs_xtree.proofs.Pages.{IsNew, leaf_made, inner_made, new_leaf, new_inner, parts_rows, rises_front, rises_back, within_front, within_back}
use Rattle.jfs_refill.specs.Refilled.{IsList}
use Rattle.jfs_refill.specs.Stored.{Parted, Divided, border}

some_row : (xs : List Xad) → 0 < length xs → IsCons xs
some_row [] l = absurd (omega (arith, l))
some_row (x ∷ xs) l = tt

pub some_child : (xs : List Xad) → 0 < length xs → IsCons (map child_of xs)
some_child [] l = absurd (omega (arith, l))
some_child (x ∷ xs) l = tt

begins_at : (bytes : List ℕ) (m key : ℕ) → 0 < m → key ≡ (entry_of bytes 0).offset → BeginsAt key (entries_from bytes 0 m)
begins_at bytes zero key l e = absurd (omega (arith, l))
begins_at bytes (suc m) key l e = e

fills_both : (full : Bool) (first second : Node ℕ Xad) (a b : ℕ) → entry_count first ≡ a → entry_count second ≡ b → 127 ≤ a → (full ≡ false → 127 ≤ b) → FillsBoth 127 full first second
fills_both full first second a b l r ha hb = record { left_has = omega (arith, l, ha); right_has = λ e. (let h = hb e in omega (arith, r, h)) }

-- children in two parts
split_children : (all xs ys : List Xad) (first second : Node ℕ Xad) (key : ℕ) → all ≡ xs ++ ys → 0 < length xs → BeginsAt key ys → first ≡ Inner (map child_of xs) → second ≡ Inner (map child_of ys)
    → SplitsChildren (map child_of all) first second key
split_children all xs [] first second key e some begins left right = absurd begins
split_children all xs (y ∷ ys) first second key e some begins left right = record {
  front = map child_of xs;
  first = child_of y;
  back = map child_of ys;
  is = ap (map child_of) e ∙ map-append child_of xs (y ∷ ys);
  some = some_child xs some;
  left_is = record { children = map child_of xs; is = left; some = some_child xs some; same = λ k. refl };
  right_is = record { children = map child_of (y ∷ ys); is = right; some = tt; same = λ k. refl };
  key_is = begins;
}

-- what the two pages read as
parted : (blocks : ℕ) (full : Bool) (list : List Xad) (old first second : List ℕ) (key : ℕ) → IsList blocks list → list ≡ entries_of first ++ entries_of second → 127 ≤ length (entries_of first) → 0 < length (entries_of second) → (full ≡ false → 127 ≤ length (entries_of second))
    → BeginsAt key (entries_of second) → SameKind (head_of old) (head_of first) → IsNew Full (is_leaf (head_of old).flag) (head_of second) → Parted blocks full list old first second key
parted blocks full list old first second key good all many more half begins kind fresh =
    let xs = entries_of first in
    let ys = entries_of second in
    let up = ap (rises_from 0) (sym all) ∙ good.order in
    let win = ap (all_within blocks) (sym all) ∙ good.range in
    record {
      leaf = λ es node. (
          let t = leaf_is Full blocks old es node in
          let left = leaf_made Full blocks old first (entries_of old) xs t.0 t.1 kind refl (rises_front xs ys 0 up) (within_front blocks xs ys win) in
          let right = new_leaf Full blocks second ys (subst (λ b. IsNew Full b (head_of second)) t.1 fresh) refl (rises_back xs ys 0 up) (within_back blocks xs ys win) in (
            record { front = xs; back = ys; all = all; some = some_row xs (omega (arith, many)); parts = parts_rows xs ys key begins; left_is = left; right_is = right },
            fills_both full (xt_node Full blocks first) (xt_node Full blocks second) (length xs) (length ys) (ap (λ (n : Node ℕ Xad). entry_count n) left) (ap (λ (n : Node ℕ Xad). entry_count n) right) (omega (arith, many)) half,
          )
          );
      inner = λ cs node. (
          let t = inner_is Full blocks old cs node in
          let left = inner_made Full blocks old first (entries_of old) xs t.0 t.1 kind refl (omega (arith, many)) (rises_front xs ys 0 up) (within_front blocks xs ys win) in
          let right = new_inner Full blocks second ys (subst (λ b. IsNew Full b (head_of second)) t.1 fresh) refl (omega (arith, more)) (rises_back xs ys 0 up) (within_back blocks xs ys win) in (
            split_children list xs ys (xt_node Full blocks first) (xt_node Full blocks second) key all (omega (arith, many)) begins left right,
            fills_both full (xt_node Full blocks first) (xt_node Full blocks second) (length xs) (length ys) (ap (λ (n : Node ℕ Xad). entry_count n) left ∙ length-map xs child_of) (ap (λ (n : Node ℕ Xad). entry_count n) right ∙ length-map ys child_of)
                (omega (arith, many)) half,
          )
          );
    }

-- where the border lies
within : (full : Bool) (m count : ℕ) → 254 < count → count ≤ 508 → m ≡ border full count → (127 ≤ m) × (m ≤ 254) × (m < count) × (count ≤ m + 254) × (full ≡ false → 127 ≤ count - m)
within true m count long most is = (omega (arith, is), omega (arith, is), omega (arith, is, long), omega (arith, is, most), (λ e. absurd cc))
within false m count long most is = (omega (arith, is, long), omega (arith, is, most), omega (arith, is, long), omega (arith, is, most), (λ e. omega (arith, is, long)))

-- both pages, from what the steps leave
pub divided : (list front back : List Xad) (full : Bool) (n q key next prev m : ℕ) (leaf : Bool) (old one first fresh two second : List ℕ) → m ≡ border full (length list) → front ≡ take m list → back ≡ drop m list → 254 < length list → length list ≤ 508
    → (head_of old).maxentry ≡ 256 → leaf ≡ is_leaf (head_of old).flag → head_of fresh ≡ new_head Full leaf (record { len = 1; addr = q }) → head_of one ≡ record (head_of old) { nextindex = length front + 2 } → entries_of one ≡ front
    → head_of two ≡ record (head_of fresh) { nextindex = length back + 2 } → entries_of two ≡ back → next ≡ field_of one 0 8 → prev ≡ field_of one 8 8
    → head_of first ≡ record (head_of one) { next = q; prev = prev } → entries_of first ≡ entries_of one → head_of second ≡ record (head_of two) { next = next; prev = n } → entries_of second ≡ entries_of two
    → key ≡ (entry_of second 0).offset → Divided list full n q key old first second
divided list front back full n q key next prev m leaf old one first fresh two second mid fr bk long most max kind hf ho eo ht et nx pv hl el hr er at =
    let lies = within full m (length list) long most mid in
    let low = lies.0 in
    let first_most = lies.1 in
    let less = lies.2 in
    let second_most = lies.3 in
    let size : length front ≡ m = ap length fr ∙ length-take-le m list (omega (arith, less)) in
    let rest : length back ≡ length list - m = ap length bk ∙ length-drop m list in
    let rows : list ≡ entries_of first ++ entries_of second = sym (take-append-drop m list) ∙ ap (λ xs. xs ++ drop m list) (sym (el ∙ eo ∙ fr)) ∙ ap (λ ys. entries_of first ++ ys) (sym (er ∙ et ∙ bk)) in
    let many : length (entries_of first) ≡ m = ap length (el ∙ eo) ∙ size in
    let more : length (entries_of second) ≡ length list - m = ap length (er ∙ et) ∙ rest in
    let next_first : field_of first 18 2 ≡ length front + 2 = ap (λ (h : XtHead). h.nextindex) hl ∙ ap (λ (h : XtHead). h.nextindex) ho in
    let next_second : field_of second 18 2 ≡ length back + 2 = ap (λ (h : XtHead). h.nextindex) hr ∙ ap (λ (h : XtHead). h.nextindex) ht in
    let max_first : field_of first 20 2 ≡ field_of old 20 2 = ap (λ (h : XtHead). h.maxentry) hl ∙ ap (λ (h : XtHead). h.maxentry) ho in
    let max_second : field_of second 20 2 ≡ 256 = ap (λ (h : XtHead). h.maxentry) hr ∙ ap (λ (h : XtHead). h.maxentry) ht ∙ ap (λ (h : XtHead). h.maxentry) hf in
    let flag : (head_of second).flag ≡ new_flag Full (is_leaf (head_of old).flag) = ap (λ (h : XtHead). h.flag) hr ∙ ap (λ (h : XtHead). h.flag) ht ∙ ap (λ (h : XtHead). h.flag) hf ∙ ap (new_flag Full) kind in
    let same : SameKind (head_of old) (head_of first) = record {
      flag = ap (λ (h : XtHead). h.flag) hl ∙ ap (λ (h : XtHead). h.flag) ho;
      max = max_first;
      least = omega (arith, next_first);
      most = omega (arith, next_first, max_first, max, size, first_most);
    } in
    let begins : BeginsAt key (entries_of second) = begins_at second (field_of second 18 2 - 2) key (omega (arith, next_second, rest, less)) at in
    record {
      all = rows;
      parted = many ∙ mid;
      begins = begins;
      kind = (same, ap (λ (h : XtHead). h.at) hl ∙ ap (λ (h : XtHead). h.at) ho);
      fresh = (flag, max_second, ap (λ (h : XtHead). h.at) hr ∙ ap (λ (h : XtHead). h.at) ht ∙ ap (λ (h : XtHead). h.at) hf);
      links = (
        ap (λ (h : XtHead). h.next) hl,
        ap (λ (h : XtHead). h.prev) hl ∙ pv ∙ ap (λ (h : XtHead). h.prev) ho,
        ap (λ (h : XtHead). h.next) hr ∙ nx ∙ ap (λ (h : XtHead). h.next) ho,
        ap (λ (h : XtHead). h.prev) hr,
      );
      reads = λ blocks good. parted blocks full list old first second key good rows (omega (arith, many, low)) (omega (arith, more, less)) (λ e. (let h = lies.4 e in omega (arith, more, h))) begins same
          (flag, max_second, (omega (arith, next_second)), (omega (arith, next_second, rest, mid, most)));
    }
