-- Pages that are made from others.
use Rattle.std.proofs.Common.{◌≡◌, ◌≤◌, ◌<◌, ◌⊎◌, inl, inr, refl, sym, ap, ◌∙◌, subst, ℕ, List, [], ◌∷◌, ◌++◌, map, length, Bool, true, false, ◌&&◌, ◌||◌, ◌==◌, ◌*◌, Option, Some, if◌then◌else◌, arith}
use Rattle.std.specs.Prelude.{nat_le}
use Rattle.std.proofs.lemmas.Bool.{leb-true, leb-false, le-leb}
use Rattle.std.proofs.lemmas.Bool.Decides.{nat_tests}
use Rattle.jfs_bits.specs.declared.extent.Xad.{Xad}
use Rattle.jfs_tree.specs.Walk.{Leaf, Inner, Rises, Row}
use Rattle.jfs_tree.specs.Edit.{IsApart, PartsRows, with_entry}
use Rattle.jfs_xtpage.specs.declared.head.XtForm.{XtForm}
use Rattle.jfs_xtpage.specs.declared.head.XtForm.TheVariants.{Root, Full, Small}
use Rattle.jfs_xtpage.specs.declared.head.XtHead.{XtHead}
use Rattle.jfs_xtpage.specs.Page.{bytes_of, head_of, entries_of, end_of, rises_from, new_flag, slots_of, IsLaidOut}
use Rattle.jfs_xtree.specs.Node.{xt_scale, fits_flag, fits_max, is_leaf, is_within, all_within, child_of, xt_node, IsSound, SameKind, BeginsAt, HasNoRoom}
use Rattle.jfs_xtree.proofs.Reading.{truth, and_true, sound_leaf, sound_inner}

-- ---- heads

counted : (next most : ℕ) → 2 ≤ next → next ≤ most → (nat_le 2 next && nat_le next most) ≡ true
counted next most l m = rw (le-leb 2 next l, le-leb next most m) refl

pub sound_kept : (form : XtForm) (blocks : ℕ) (h g : XtHead) (xs ys : List Xad) → IsSound form blocks h xs → SameKind h g → rises_from 0 ys ≡ true → all_within blocks ys ≡ true → IsSound form blocks g ys
sound_kept form blocks h g xs ys s k r w = record {
  flag = ap (fits_flag form) k.flag ∙ s.flag;
  max = ap (fits_max form) k.max ∙ s.max;
  count = counted g.nextindex g.maxentry k.least k.most;
  order = r;
  range = w;
}

-- a page of the same kind with these entries
pub leaf_made : (form : XtForm) (blocks : ℕ) (old new : List ℕ) (xs ys : List Xad) → IsSound form blocks (head_of old) xs → is_leaf (head_of old).flag ≡ true → SameKind (head_of old) (head_of new) → entries_of new ≡ ys
    → rises_from 0 ys ≡ true → all_within blocks ys ≡ true → xt_node form blocks new ≡ Leaf ys
leaf_made form blocks old new xs ys s leaf k is r w =
    sound_leaf form blocks new (sound_kept form blocks (head_of old) (head_of new) xs (entries_of new) s k (ap (rises_from 0) is ∙ r) (ap (all_within blocks) is ∙ w)) (ap is_leaf k.flag ∙ leaf) ∙ ap (λ zs. Leaf zs) is

pub inner_made : (form : XtForm) (blocks : ℕ) (old new : List ℕ) (xs ys : List Xad) → IsSound form blocks (head_of old) xs → is_leaf (head_of old).flag ≡ false → SameKind (head_of old) (head_of new) → entries_of new ≡ ys → 0 < length ys
    → rises_from 0 ys ≡ true → all_within blocks ys ≡ true → xt_node form blocks new ≡ Inner (map child_of ys)
inner_made form blocks old new xs ys s leaf k is some r w =
    sound_inner form blocks new (sound_kept form blocks (head_of old) (head_of new) xs (entries_of new) s k (ap (rises_from 0) is ∙ r) (ap (all_within blocks) is ∙ w)) (ap is_leaf k.flag ∙ leaf) (subst (λ zs. 0 < length zs) (sym is) some)
    ∙ ap (λ zs. Inner (map child_of zs)) is

new_flag_fits : (form : XtForm) (leaf : Bool) → fits_flag form (new_flag form leaf) ≡ true
new_flag_fits Root true = refl
new_flag_fits Root false = refl
new_flag_fits Full true = refl
new_flag_fits Full false = refl
new_flag_fits Small true = refl
new_flag_fits Small false = refl

new_flag_kind : (form : XtForm) (leaf : Bool) → is_leaf (new_flag form leaf) ≡ leaf
new_flag_kind Root true = refl
new_flag_kind Root false = refl
new_flag_kind Full true = refl
new_flag_kind Full false = refl
new_flag_kind Small true = refl
new_flag_kind Small false = refl

slots_fit : (form : XtForm) → fits_max form (slots_of form) ≡ true
slots_fit Root = refl
slots_fit Full = refl
slots_fit Small = refl

-- the header of a new page
abbrev pub IsNew : XtForm → Bool → XtHead → Type 0
IsNew form leaf h = (h.flag ≡ new_flag form leaf) × (h.maxentry ≡ slots_of form) × (2 ≤ h.nextindex) × (h.nextindex ≤ slots_of form)

sound_new : (form : XtForm) (leaf : Bool) (blocks : ℕ) (h : XtHead) (ys : List Xad) → IsNew form leaf h → rises_from 0 ys ≡ true → all_within blocks ys ≡ true → IsSound form blocks h ys
sound_new form leaf blocks h ys n r w = record {
  flag = ap (fits_flag form) n.0 ∙ new_flag_fits form leaf;
  max = ap (fits_max form) n.1 ∙ slots_fit form;
  count = counted h.nextindex h.maxentry n.2 (subst (λ m. h.nextindex ≤ m) (sym n.1) n.3);
  order = r;
  range = w;
}

pub new_leaf : (form : XtForm) (blocks : ℕ) (new : List ℕ) (ys : List Xad) → IsNew form true (head_of new) → entries_of new ≡ ys → rises_from 0 ys ≡ true → all_within blocks ys ≡ true → xt_node form blocks new ≡ Leaf ys
new_leaf form blocks new ys n is r w =
    sound_leaf form blocks new (sound_new form true blocks (head_of new) (entries_of new) n (ap (rises_from 0) is ∙ r) (ap (all_within blocks) is ∙ w)) (ap is_leaf n.0 ∙ new_flag_kind form true) ∙ ap (λ zs. Leaf zs) is

pub new_inner : (form : XtForm) (blocks : ℕ) (new : List ℕ) (ys : List Xad) → IsNew form false (head_of new) → entries_of new ≡ ys → 0 < length ys → rises_from 0 ys ≡ true → all_within blocks ys ≡ true → xt_node form blocks new ≡ Inner (map child_of ys)
new_inner form blocks new ys n is some r w =
    sound_inner form blocks new (sound_new form false blocks (head_of new) (entries_of new) n (ap (rises_from 0) is ∙ r) (ap (all_within blocks) is ∙ w)) (ap is_leaf n.0 ∙ new_flag_kind form false) (subst (λ zs. 0 < length zs) (sym is) some)
    ∙ ap (λ zs. Inner (map child_of zs)) is

-- ---- lists of extents that rise, and lie within the blocks

pub if_parts : (a b : Bool) → (if a then b else false) ≡ true → (a ≡ true) × (b ≡ true)
if_parts true b e = (refl, e)
if_parts false b e = absurd cc

pub rises_more : (low : ℕ) (x : Xad) (xs : List Xad) → low ≤ x.offset → rises_from (end_of x) xs ≡ true → rises_from low (x ∷ xs) ≡ true
rises_more low x xs l r = rw (le-leb low x.offset l) r

pub rises_less : (low : ℕ) (x : Xad) (xs : List Xad) → rises_from low (x ∷ xs) ≡ true → (low ≤ x.offset) × (rises_from (end_of x) xs ≡ true)
rises_less low x xs r = let t = if_parts (nat_le low x.offset) (rises_from (end_of x) xs) r in (leb-true low x.offset t.0, t.1)

pub rises_weaker : (xs : List Xad) (low lower : ℕ) → lower ≤ low → rises_from low xs ≡ true → rises_from lower xs ≡ true
rises_weaker [] low lower l r = refl
rises_weaker (x ∷ xs) low lower l r = let t = rises_less low x xs r in let h = t.0 in rises_more lower x xs (omega (arith, l, h)) t.1

pub rises_front : (a b : List Xad) (low : ℕ) → rises_from low (a ++ b) ≡ true → rises_from low a ≡ true
rises_front [] b low r = refl
rises_front (x ∷ a) b low r = let t = rises_less low x (a ++ b) r in rises_more low x a t.0 (rises_front a b (end_of x) t.1)

pub rises_back : (a b : List Xad) (low : ℕ) → rises_from low (a ++ b) ≡ true → rises_from 0 b ≡ true
rises_back [] b low r = rises_weaker b low 0 (omega arith) r
rises_back (x ∷ a) b low r = let t = rises_less low x (a ++ b) r in rises_back a b (end_of x) t.1

pub within_both : (blocks : ℕ) (x : Xad) (xs : List Xad) → is_within blocks x ≡ true → all_within blocks xs ≡ true → all_within blocks (x ∷ xs) ≡ true
within_both blocks x xs a b = rw (a, b) refl

pub within_front : (blocks : ℕ) (a b : List Xad) → all_within blocks (a ++ b) ≡ true → all_within blocks a ≡ true
within_front blocks [] b w = refl
within_front blocks (x ∷ a) b w = let t = and_true (is_within blocks x) (all_within blocks (a ++ b)) w in within_both blocks x a t.0 (within_front blocks a b t.1)

pub within_back : (blocks : ℕ) (a b : List Xad) → all_within blocks (a ++ b) ≡ true → all_within blocks b ≡ true
within_back blocks [] b w = w
within_back blocks (x ∷ a) b w = let t = and_true (is_within blocks x) (all_within blocks (a ++ b)) w in within_back blocks a b t.1

-- with one more
pub rises_entry : (es : List Xad) (low : ℕ) (x : Xad) → rises_from low es ≡ true → low ≤ x.offset → IsApart xt_scale x es → rises_from low (with_entry xt_scale x es) ≡ true
rises_entry [] low x r l apart = rises_more low x [] l refl
rises_entry (e ∷ es) low x r l apart =
    let t = rises_less low e es r in
    elim (truth (nat_le (end_of e) x.offset)) [
      | inl is ↦ rw is (rises_more low e (with_entry xt_scale x es) t.0 (rises_entry es (end_of e) x t.1 (leb-true (end_of e) x.offset is) apart.1))
      | inr is ↦ rw is (rises_more low x (e ∷ es) l (rises_more (end_of x) e es (elim apart.0 [ inl y ↦ absurd (let a = leb-true (end_of e) x.offset y in let b = leb-false (end_of e) x.offset is in omega (arith, a, b)) | inr y ↦ leb-true (end_of x) e.offset y ]) t.1))
    ]

pub within_entry : (blocks : ℕ) (es : List Xad) (x : Xad) → is_within blocks x ≡ true → all_within blocks es ≡ true → all_within blocks (with_entry xt_scale x es) ≡ true
within_entry blocks [] x a w = within_both blocks x [] a refl
within_entry blocks (e ∷ es) x a w =
    let t = and_true (is_within blocks e) (all_within blocks es) w in
    elim (truth (nat_le (end_of e) x.offset)) [
      | inl is ↦ rw is (within_both blocks e (with_entry xt_scale x es) t.0 (within_entry blocks es x a t.1))
      | inr is ↦ rw is (within_both blocks x (e ∷ es) a w)
    ]

-- the key of a part is its first extent's offset
pub parts_rows : (front back : List Xad) (key : ℕ) → BeginsAt key back → PartsRows xt_scale front key back
parts_rows front [] key b = absurd b
parts_rows front (x ∷ back) key b = record {
  rises = λ n low high r. part front n low high r;
  fits = fits_itself key x b;
}
  where
    fits_itself : (key : ℕ) (x : Xad) → key ≡ x.offset → xt_scale.fits key x ≡ true
    fits_itself key x e = grind (arith, nat_tests)

    part : (front : List Xad) (n low : ℕ) (high : Option ℕ) → Rises xt_scale low (map (Row n) (front ++ x ∷ back)) high → Rises xt_scale low (map (Row n) front) (Some key) × Rises xt_scale key (map (Row n) (x ∷ back)) high
    part [] n low high r = (subst (λ k. nat_le low k ≡ true) (sym b) r.0, (le-leb key x.offset (omega (arith, b)), r.1))
    part (f ∷ front) n low high r = let t = part front n (end_of f) high r.1 in ((r.0, t.0), t.1)

-- the number of slots of a form
either_is : (m a b : ℕ) → (m == a || m == b) ≡ true → (m ≡ a) ⊎ (m ≡ b)
either_is m a b e = grind (arith, nat_tests)

only : (m a : ℕ) → (m == a) ≡ true → m ≡ a
only m a e = grind (arith, nat_tests)

pub slots : (form : XtForm) (m : ℕ) → fits_max form m ≡ true → (6 ≤ m) × (m ≤ slots_of form) × (16 * m ≤ bytes_of form)
slots Root m e = elim (either_is m 10 18 e) [ inl h ↦ (omega (arith, h), omega (arith, h), omega (arith, h)) | inr h ↦ (omega (arith, h), omega (arith, h), omega (arith, h)) ]
slots Full m e = let h = only m 256 e in (omega (arith, h), omega (arith, h), omega (arith, h))
slots Small m e = let h = only m 6 e in (omega (arith, h), omega (arith, h), omega (arith, h))

-- a full page's slots lie within its bytes
pub full_laid_out : (form : XtForm) (bytes : List ℕ) → length bytes ≡ bytes_of form → HasNoRoom form bytes → IsLaidOut bytes × (6 ≤ (head_of bytes).maxentry) × ((head_of bytes).maxentry ≤ slots_of form)
full_laid_out form bytes size full =
    let m = slots form (head_of bytes).maxentry full.max in
    let a = full.all in
    (record { least = (let h = m.0 in omega (arith, h, a)); most = omega (arith, a); within = (let h = m.2 in omega (arith, h, size)) }, m.0, m.1)
