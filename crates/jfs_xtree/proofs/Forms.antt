-- What the calls of a page's form leave, from what its parts say.
use Rattle.std.proofs.Common.{◌≡◌, ◌≤◌, ◌<◌, ◌⊎◌, inl, inr, refl, sym, ap, ◌∙◌, subst, ℕ, suc, ◌+◌, ◌-◌, ◌*◌, ◌/◌, ◌%◌, ◌==◌, ◌||◌, ◌&&◌, List, [], ◌∷◌, ◌++◌, map, length, take, drop, Bool, true, false, arith}
use Rattle.std.specs.Prelude.{nat_le}
use Rattle.std.proofs.lemmas.Bool.{le-leb, leb-true, ne_eqb, cases_lt}
use Rattle.std.proofs.lemmas.Bool.Decides.{nat_tests}
use Rattle.jfs_bits.specs.declared.extent.Xad.{Xad}
use Rattle.jfs_bits.specs.declared.descriptor.Pxd.{Pxd}
use Rattle.jfs_bits.specs.Field.{field_of}
use Rattle.jfs_tree.specs.Walk.{Child, Leaf, Inner}
use Rattle.jfs_tree.specs.Edit.{IsApart, IsCons, with_entry}
use Rattle.jfs_tree.specs.Form.{SplitsRows}
use Rattle.jfs_xtpage.specs.declared.head.XtForm.{XtForm}
use Rattle.jfs_xtpage.specs.declared.head.XtForm.TheVariants.{Root, Full, Small}
use Rattle.jfs_xtpage.specs.declared.head.XtHead.{XtHead}
use Rattle.jfs_xtpage.specs.Page.{head_of, entries_of, count_of, rises_from, new_head, kind_flag, IsRising}
use Rattle.jfs_xtpage.proofs.Entries.{length-entries}
use Rattle.jfs_xtree.specs.Node.{xt_scale, xt_node, fits_flag, fits_max, fits_count, is_leaf, is_within, all_within, child_of, child_entry, with_at, IsGood, IsRoot, HasNoRoom, IsSound, SameKind, BeginsAt, IsPlace, GoesBetween}
use Rattle.jfs_xtree.proofs.Reading.{leaf_is, inner_is, is_rising, and_true, sound_inner}
use Rattle.jfs_xtree.proofs.Pages.{IsNew, leaf_made, new_leaf, new_inner, rises_entry, within_entry, rises_front, rises_back, within_front, within_back, parts_rows}
use Rattle.jfs_xtree.proofs.Found.{entry_placed, apart_goes}
use Rattle.jfs_xtree.proofs.Inners.{child_within}

pub sound_laid : (form : XtForm) (blocks : ℕ) (head : XtHead) (xs : List Xad) → IsSound form blocks head xs → (fits_flag form head.flag && fits_max form head.maxentry && fits_count head) ≡ true
sound_laid form blocks head xs s = rw (s.flag, s.max, s.count) refl

differ : (r b : Bool) → r ≡ b → r ≡ false → b ≡ true → ⊥
differ r b e f t = cc

pub not_laid : (form : XtForm) (blocks : ℕ) (head : XtHead) (xs : List Xad) (r : Bool) → r ≡ (fits_flag form head.flag && fits_max form head.maxentry && fits_count head) → r ≡ false → IsSound form blocks head xs → ⊥
not_laid form blocks head xs r is f s = differ r (fits_flag form head.flag && fits_max form head.maxentry && fits_count head) is f (sound_laid form blocks head xs s)

pub good_within : (blocks : ℕ) (x : Xad) → IsGood blocks x → is_within blocks x ≡ true
good_within blocks x g = rw (le-leb 1 x.at.len g.some, le-leb (x.at.addr + x.at.len) blocks g.within) refl

pub same_kind : (old new : List ℕ) → head_of new ≡ record (head_of old) { nextindex = field_of old 18 2 + 1 } → 2 ≤ field_of old 18 2 → field_of old 18 2 < field_of old 20 2 → SameKind (head_of old) (head_of new)
same_kind old new is least room =
    let n : field_of new 18 2 ≡ field_of old 18 2 + 1 = ap (λ (h : XtHead). h.nextindex) is in
    let m : field_of new 20 2 ≡ field_of old 20 2 = ap (λ (h : XtHead). h.maxentry) is in
    record { flag = ap (λ (h : XtHead). h.flag) is; max = m; least = omega (arith, n, least); most = omega (arith, n, m, room) }

-- a leaf that had room
pub leaf_put : (form : XtForm) (blocks : ℕ) (old new : List ℕ) (place : ℕ) (x : Xad) (es : List Xad) → xt_node form blocks old ≡ Leaf es → IsApart xt_scale x es → IsGood blocks x → (IsRising old (count_of old) → IsPlace old x.offset place)
    → SameKind (head_of old) (head_of new) → entries_of new ≡ with_at (entries_of old) place x → xt_node form blocks new ≡ Leaf (with_entry xt_scale x es)
leaf_put form blocks old new place x es leaf apart good at kind entries =
    let t = leaf_is form blocks old es leaf in
    let clear = subst (IsApart xt_scale x) (sym t.2) apart in
    let placed = entry_placed old place x (at (is_rising old t.0.order)) clear in
    leaf_made form blocks old new (entries_of old) (with_entry xt_scale x (entries_of old)) t.0 t.1 kind (entries ∙ sym placed)
    (rises_entry (entries_of old) 0 x t.0.order (omega arith) clear) (within_entry blocks (entries_of old) x (good_within blocks x good) t.0.range)
    ∙ ap (λ xs. Leaf (with_entry xt_scale x xs)) t.2

pub clash_refuted : (form : XtForm) (blocks : ℕ) (old : List ℕ) (place : ℕ) (x : Xad) (es : List Xad) → (GoesBetween old place x → ⊥) → (IsRising old (count_of old) → IsPlace old x.offset place) → xt_node form blocks old ≡ Leaf es → IsApart xt_scale x es → ⊥
clash_refuted form blocks old place x es clash at leaf apart =
    let t = leaf_is form blocks old es leaf in
    clash (apart_goes old place x (at (is_rising old t.0.order)) (subst (IsApart xt_scale x) (sym t.2) apart))

-- a full leaf that became two
pub leaf_split : (form : XtForm) (blocks : ℕ) (old new right : List ℕ) (place key : ℕ) (x : Xad) (es : List Xad) → xt_node form blocks old ≡ Leaf es → IsApart xt_scale x es → IsGood blocks x → (IsRising old (count_of old) → IsPlace old x.offset place)
    → with_at (entries_of old) place x ≡ entries_of new ++ entries_of right → IsCons (entries_of new) → BeginsAt key (entries_of right) → SameKind (head_of old) (head_of new) → IsNew form true (head_of right)
    → SplitsRows xt_scale (with_entry xt_scale x es) (xt_node form blocks new) (xt_node form blocks right) key
leaf_split form blocks old new right place key x es leaf apart good at rows some begins kind fresh =
    let t = leaf_is form blocks old es leaf in
    let clear = subst (IsApart xt_scale x) (sym t.2) apart in
    let placed = entry_placed old place x (at (is_rising old t.0.order)) clear in
    let all : with_entry xt_scale x (entries_of old) ≡ entries_of new ++ entries_of right = placed ∙ rows in
    let up = ap (rises_from 0) (sym all) ∙ rises_entry (entries_of old) 0 x t.0.order (omega arith) clear in
    let win = ap (all_within blocks) (sym all) ∙ within_entry blocks (entries_of old) x (good_within blocks x good) t.0.range in
    record {
      front = entries_of new;
      back = entries_of right;
      all = ap (with_entry xt_scale x) (sym t.2) ∙ all;
      some = some;
      parts = parts_rows (entries_of new) (entries_of right) key begins;
      left_is = leaf_made form blocks old new (entries_of old) (entries_of new) t.0 t.1 kind refl (rises_front (entries_of new) (entries_of right) 0 up) (within_front blocks (entries_of new) (entries_of right) win);
      right_is = new_leaf form blocks right (entries_of right) fresh refl (rises_back (entries_of new) (entries_of right) 0 up) (within_back blocks (entries_of new) (entries_of right) win);
    }

pub less_of : (a b : ℕ) → a ≤ b → (a ≡ b → ⊥) → a < b
less_of a b l n = elim (cases_lt a b) [ inl h ↦ h | inr h ↦ absurd (n (omega (arith, h, l))) ]

-- ---- a root that moves down

fewer : (form : XtForm) (m : ℕ) → IsRoot form → fits_max form m ≡ true → m ≤ 18
fewer Root m r e = most m e
  where
    most : (m : ℕ) → (m == 10 || m == 18) ≡ true → m ≤ 18
    most m e = grind (arith, nat_tests)
fewer Full m r e = absurd r
fewer Small m r e = most m e
  where
    most : (m : ℕ) → (m == 6) ≡ true → m ≤ 18
    most m e = grind (arith, nat_tests)

moved_head : (form : XtForm) (leaf : Bool) (blocks : ℕ) (root first page : List ℕ) (at : Pxd) → IsRoot form → IsSound form blocks (head_of root) (entries_of root) → head_of first ≡ new_head Full leaf at → head_of page ≡ record (head_of first) { nextindex = field_of root 18 2 - 0 } → IsNew Full leaf (head_of page)
moved_head form leaf blocks root first page at top sound made moved =
    let next : field_of page 18 2 ≡ field_of root 18 2 - 0 = ap (λ (h : XtHead). h.nextindex) moved in
    let c = and_true (nat_le 2 (field_of root 18 2)) (nat_le (field_of root 18 2) (field_of root 20 2)) sound.count in
    let least = leb-true 2 (field_of root 18 2) c.0 in
    let most = leb-true (field_of root 18 2) (field_of root 20 2) c.1 in
    let few = fewer form (field_of root 20 2) top sound.max in (
      ap (λ (h : XtHead). h.flag) moved ∙ ap (λ (h : XtHead). h.flag) made,
      ap (λ (h : XtHead). h.maxentry) moved ∙ ap (λ (h : XtHead). h.maxentry) made,
      omega (arith, next, least),
      omega (arith, next, most, few),
    )

pub moved_leaf : (form : XtForm) (blocks : ℕ) (root first page : List ℕ) (leaf : Bool) (at : Pxd) (es : List Xad) → IsRoot form → xt_node form blocks root ≡ Leaf es → leaf ≡ is_leaf (head_of root).flag → head_of first ≡ new_head Full leaf at
    → head_of page ≡ record (head_of first) { nextindex = field_of root 18 2 - 0 } → entries_of page ≡ drop 0 (entries_of root) → xt_node Full blocks page ≡ Leaf es
moved_leaf form blocks root first page leaf at es top is kind made moved entries =
    let t = leaf_is form blocks root es is in
    new_leaf Full blocks page (entries_of root) (moved_head form true blocks root first page at top t.0 (made ∙ ap (λ b. new_head Full b at) (kind ∙ t.1)) moved) entries t.0.order t.0.range ∙ ap (λ xs. Leaf xs) t.2

pub moved_inner : (form : XtForm) (blocks : ℕ) (root first page : List ℕ) (leaf : Bool) (at : Pxd) (cs : List (Child ℕ)) → IsRoot form → xt_node form blocks root ≡ Inner cs → leaf ≡ is_leaf (head_of root).flag → head_of first ≡ new_head Full leaf at
    → head_of page ≡ record (head_of first) { nextindex = field_of root 18 2 - 0 } → entries_of page ≡ drop 0 (entries_of root) → xt_node Full blocks page ≡ Inner cs
moved_inner form blocks root first page leaf at cs top is kind made moved entries =
    let t = inner_is form blocks root cs is in
    new_inner Full blocks page (entries_of root) (moved_head form false blocks root first page at top t.0 (made ∙ ap (λ b. new_head Full b at) (kind ∙ t.1)) moved) entries t.3 t.0.order t.0.range ∙ ap (λ xs. Inner xs) t.2

three_or_five : (f : ℕ) → (f % 8 == 3 || f % 8 == 5) ≡ true → (f / 8 * 8 + f % 2 + 4) % 8 ≡ 5
three_or_five f e = odd f (side f e)
  where
    side : (f : ℕ) → (f % 8 == 3 || f % 8 == 5) ≡ true → (f % 8 ≡ 3) ⊎ (f % 8 ≡ 5)
    side f e = grind (arith, nat_tests)

    odd : (f : ℕ) → (f % 8 ≡ 3) ⊎ (f % 8 ≡ 5) → (f / 8 * 8 + f % 2 + 4) % 8 ≡ 5
    odd f (inl h) = omega (arith, h)
    odd f (inr h) = omega (arith, h)

two_or_four : (f : ℕ) → (f % 8 == 2 || f % 8 == 4) ≡ true → (f / 8 * 8 + f % 2 + 4) % 8 ≡ 4
two_or_four f e = even f (side f e)
  where
    side : (f : ℕ) → (f % 8 == 2 || f % 8 == 4) ≡ true → (f % 8 ≡ 2) ⊎ (f % 8 ≡ 4)
    side f e = grind (arith, nat_tests)

    even : (f : ℕ) → (f % 8 ≡ 2) ⊎ (f % 8 ≡ 4) → (f / 8 * 8 + f % 2 + 4) % 8 ≡ 4
    even f (inl h) = omega (arith, h)
    even f (inr h) = omega (arith, h)

kept_root : (form : XtForm) (f : ℕ) → fits_flag form f ≡ true → (fits_flag form (kind_flag f false) ≡ true) × (is_leaf (kind_flag f false) ≡ false)
kept_root Root f e = let h = three_or_five f e in (rw h refl, rw h refl)
kept_root Small f e = let h = three_or_five f e in (rw h refl, rw h refl)
kept_root Full f e = let h = two_or_four f e in (rw h refl, rw h refl)

-- the root keeps one child
pub moved_root : (form : XtForm) (blocks : ℕ) (root cut kind new : List ℕ) (q : ℕ) → q < blocks → HasNoRoom form root → 6 ≤ (head_of root).maxentry → head_of cut ≡ record (head_of root) { nextindex = 0 + 2 } → entries_of cut ≡ take 0 (entries_of root)
    → head_of kind ≡ record (head_of cut) { flag = kind_flag (head_of cut).flag false } → entries_of kind ≡ entries_of cut → head_of new ≡ record (head_of kind) { nextindex = (head_of kind).nextindex + 1 } → entries_of new ≡ with_at (entries_of kind) 0 (child_entry 0 q)
    → xt_node form blocks new ≡ Inner (record { key = 0; page = q } ∷ [])
moved_root form blocks root cut kind new q inside full most hc ec hk ek hn en =
    let xs : entries_of new ≡ child_entry 0 q ∷ [] = en ∙ ap (λ ys. with_at ys 0 (child_entry 0 q)) (ek ∙ ec) in
    let f : (head_of new).flag ≡ kind_flag (head_of root).flag false = ap (λ (h : XtHead). h.flag) hn ∙ ap (λ (h : XtHead). h.flag) hk ∙ ap (λ (h : XtHead). kind_flag h.flag false) hc in
    let m : (head_of new).maxentry ≡ (head_of root).maxentry = ap (λ (h : XtHead). h.maxentry) hn ∙ ap (λ (h : XtHead). h.maxentry) hk ∙ ap (λ (h : XtHead). h.maxentry) hc in
    let nc : (head_of cut).nextindex ≡ 0 + 2 = ap (λ (h : XtHead). h.nextindex) hc in
    let nk : (head_of kind).nextindex ≡ (head_of cut).nextindex = ap (λ (h : XtHead). h.nextindex) hk in
    let nn : (head_of new).nextindex ≡ (head_of kind).nextindex + 1 = ap (λ (h : XtHead). h.nextindex) hn in
    let k = kept_root form (head_of root).flag full.flag in
    sound_inner form blocks new (record {
      flag = ap (fits_flag form) f ∙ k.0;
      max = ap (fits_max form) m ∙ full.max;
      count = rw (le-leb 2 (head_of new).nextindex (omega (arith, nc, nk, nn)), le-leb (head_of new).nextindex (head_of new).maxentry (omega (arith, nc, nk, nn, m, most))) refl;
      order = ap (rises_from 0) xs;
      range = ap (all_within blocks) xs ∙ rw (child_within blocks 0 q inside) refl;
    }) (ap is_leaf f ∙ k.1) (subst (λ ys. 0 < length ys) (sym xs) (omega arith)) ∙ ap (λ ys. Inner (map child_of ys)) xs

pub same_through : (old mid new : List ℕ) → head_of mid ≡ head_of old → head_of new ≡ record (head_of mid) { nextindex = (head_of mid).nextindex + 1 } → 2 ≤ field_of old 18 2 → field_of old 18 2 < field_of old 20 2 → SameKind (head_of old) (head_of new)
same_through old mid new same is least room =
    let a : field_of mid 18 2 ≡ field_of old 18 2 = ap (λ (h : XtHead). h.nextindex) same in
    let n : field_of new 18 2 ≡ field_of mid 18 2 + 1 = ap (λ (h : XtHead). h.nextindex) is in
    let m : field_of new 20 2 ≡ field_of old 20 2 = ap (λ (h : XtHead). h.maxentry) is ∙ ap (λ (h : XtHead). h.maxentry) same in
    record { flag = ap (λ (h : XtHead). h.flag) is ∙ ap (λ (h : XtHead). h.flag) same; max = m; least = omega (arith, n, a, least); most = omega (arith, n, a, m, room) }

pub kind_through : (old mid new : List ℕ) → head_of mid ≡ head_of old → SameKind (head_of mid) (head_of new) → SameKind (head_of old) (head_of new)
kind_through old mid new same k = subst (λ (h : XtHead). SameKind h (head_of new)) same k

pub new_as : (form : XtForm) (bytes : List ℕ) (leaf : Bool) (at : Pxd) → form ≡ Full → head_of bytes ≡ new_head form leaf at → head_of bytes ≡ new_head Full leaf at
new_as form bytes leaf at is made = made ∙ ap (λ f. new_head f leaf at) is

-- ---- a leaf without entries

bare_as : (es : List Xad) (n : ℕ) → length es ≡ n - 2 → 2 ≤ n → (n == 2) ≡ (length es == 0)
bare_as [] n is least = ap (λ m. m == 2) (let h : n ≡ 2 = omega (arith, is, least) in h)
bare_as (x ∷ es) n is least = ne_eqb n 2 (λ h. omega (arith, is, h)) ∙ sym (ne_eqb (suc (length es)) 0 (λ h. omega (arith, h)))

pub bare_is : (form : XtForm) (blocks next : ℕ) (bytes : List ℕ) → next ≡ field_of bytes 18 2 → (es : List Xad) → xt_node form blocks bytes ≡ Leaf es → (next == 2) ≡ (length es == 0)
bare_is form blocks next bytes is es leaf =
    let t = leaf_is form blocks bytes es leaf in
    ap (λ n. n == 2) is ∙ bare_as es (field_of bytes 18 2) (ap length (sym t.2) ∙ length-entries bytes 0 (count_of bytes)) (leb-true 2 (field_of bytes 18 2) (and_true (nat_le 2 (field_of bytes 18 2)) (nat_le (field_of bytes 18 2) (field_of bytes 20 2)) t.0.count).0)
