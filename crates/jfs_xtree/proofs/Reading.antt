-- What a page reads as, by the answers of the code that looks at its rules.
use Rattle.std.proofs.Common.{◌≡◌, ◌≤◌, ◌<◌, ◌⊎◌, inl, inr, refl, sym, ap, ◌∙◌, subst, ℕ, zero, suc, ◌+◌, ◌-◌, ◌%◌, List, [], ◌∷◌, map, length, Bool, true, false, ◌&&◌, if◌then◌else◌, arith}
use Rattle.std.specs.Prelude.{nat_le}
use Rattle.std.proofs.lemmas.Bool.{leb-true, le-leb, ne_eqb}
use Rattle.jfs_bits.specs.declared.extent.Xad.{Xad}
use Rattle.jfs_bits.specs.declared.rule.Rule.{Rule}
use Rattle.jfs_bits.specs.declared.rule.Rule.TheVariants as rules
use Rattle.jfs_bits.specs.Field.{field_of}
use Rattle.jfs_bits.specs.Broken.{IsFirstBroken}
use Rattle.jfs_tree.specs.Walk.{Child, Node, Leaf, Inner, Broken}
use Rattle.jfs_tree.specs.Path.{below_root}
use Rattle.jfs_xtpage.specs.declared.head.XtForm.{XtForm}
use Rattle.jfs_xtpage.specs.declared.head.XtForm.TheVariants.{Root, Full, Small}
use Rattle.jfs_xtpage.specs.declared.head.XtHead.{XtHead}
use Rattle.jfs_xtpage.specs.Page.{head_of, entries_of, entries_from, entry_of, count_of, end_of, rises_from, FlagFits, MaxFits, IsRising, IsXtPage, Holds, xt_rules}
use Rattle.jfs_xtree.specs.Node.{fits_flag, fits_max, fits_count, is_leaf, is_within, all_within, child_of, by_kind, xt_node, IsSound}

pub truth : (b : Bool) → (b ≡ true) ⊎ (b ≡ false)
truth true = inl refl
truth false = inr refl

flag_true : (form : XtForm) (f : ℕ) → FlagFits form (f % 8) → fits_flag form f ≡ true
flag_true Root f (inl e) = rw e refl
flag_true Root f (inr e) = rw e refl
flag_true Full f (inl e) = rw e refl
flag_true Full f (inr e) = rw e refl
flag_true Small f (inl e) = rw e refl
flag_true Small f (inr e) = rw e refl

flag_false : (form : XtForm) (f : ℕ) → (FlagFits form (f % 8) → ⊥) → fits_flag form f ≡ false
flag_false Root f n = rw (ne_eqb (f % 8) 3 (λ e. n (inl e)), ne_eqb (f % 8) 5 (λ e. n (inr e))) refl
flag_false Full f n = rw (ne_eqb (f % 8) 2 (λ e. n (inl e)), ne_eqb (f % 8) 4 (λ e. n (inr e))) refl
flag_false Small f n = rw (ne_eqb (f % 8) 3 (λ e. n (inl e)), ne_eqb (f % 8) 5 (λ e. n (inr e))) refl

max_true : (form : XtForm) (m : ℕ) → MaxFits form m → fits_max form m ≡ true
max_true Root m (inl e) = rw e refl
max_true Root m (inr e) = rw e refl
max_true Full m e = rw e refl
max_true Small m e = rw e refl

max_false : (form : XtForm) (m : ℕ) → (MaxFits form m → ⊥) → fits_max form m ≡ false
max_false Root m n = rw (ne_eqb m 10 (λ e. n (inl e)), ne_eqb m 18 (λ e. n (inr e))) refl
max_false Full m n = ne_eqb m 256 n
max_false Small m n = ne_eqb m 6 n

count_true : (head : XtHead) → 2 ≤ head.nextindex → head.nextindex ≤ head.maxentry → fits_count head ≡ true
count_true head l m = rw (le-leb 2 head.nextindex l, le-leb head.nextindex head.maxentry m) refl

both_true : (a b : Bool) → (a && b) ≡ true → (a ≡ true) × (b ≡ true)
both_true true true e = (refl, refl)
both_true true false e = absurd cc
both_true false b e = absurd cc

pub and_true : (a b : Bool) → (a && b) ≡ true → (a ≡ true) × (b ≡ true)
and_true a b e = both_true a b e

count_false : (head : XtHead) → (2 ≤ head.nextindex × head.nextindex ≤ head.maxentry → ⊥) → fits_count head ≡ false
count_false head n = elim (truth (fits_count head)) [
  | inl e ↦ absurd (let t = both_true (nat_le 2 head.nextindex) (nat_le head.nextindex head.maxentry) e in n (leb-true 2 head.nextindex t.0, leb-true head.nextindex head.maxentry t.1))
  | inr e ↦ e
]

-- offsets that rise, by places
rises_true : (bytes : List ℕ) (p n low : ℕ) → (0 < n → low ≤ (entry_of bytes p).offset) → ((i : ℕ) → p ≤ i → suc i < p + n → end_of (entry_of bytes i) ≤ (entry_of bytes (suc i)).offset) → rises_from low (entries_from bytes p n) ≡ true
rises_true bytes p zero low first h = refl
rises_true bytes p (suc n) low first h =
    rw (le-leb low (entry_of bytes p).offset (first (omega arith)))
    (rises_true bytes (suc p) n (end_of (entry_of bytes p)) (λ l. h p (omega arith) (omega (arith, l))) (λ i a b. h i (omega (arith, a)) (omega (arith, b))))

if_true : (a b : Bool) → (if a then b else false) ≡ true → (a ≡ true) × (b ≡ true)
if_true true b e = (refl, e)
if_true false b e = absurd cc

pub rises_index : (bytes : List ℕ) (p n low : ℕ) → rises_from low (entries_from bytes p n) ≡ true → (0 < n → low ≤ (entry_of bytes p).offset) × ((i : ℕ) → p ≤ i → suc i < p + n → end_of (entry_of bytes i) ≤ (entry_of bytes (suc i)).offset)
rises_index bytes p zero low e = ((λ l. absurd (none l)), λ i a b. absurd (nowhere p i a b))
  where
    none : 0 < zero → ⊥
    none l = omega (arith, l)

    nowhere : (p i : ℕ) → p ≤ i → suc i < p + zero → ⊥
    nowhere p i a b = omega (arith, a, b)
rises_index bytes p (suc n) low e =
    let t = if_true (nat_le low (entry_of bytes p).offset) (rises_from (end_of (entry_of bytes p)) (entries_from bytes (suc p) n)) e in
    let r = rises_index bytes (suc p) n (end_of (entry_of bytes p)) t.1 in
    ((λ l. leb-true low (entry_of bytes p).offset t.0), λ i a b. at p n i r (cases p i a) b)
  where
    cases : (p i : ℕ) → p ≤ i → (i ≡ p) ⊎ (suc p ≤ i)
    cases zero zero h = inl refl
    cases zero (suc i) h = inr (omega arith)
    cases (suc p) zero h = absurd (nil p h)
      where
        nil : (p : ℕ) → suc p ≤ zero → ⊥
        nil p h = omega (arith, h)
    cases (suc p) (suc i) h = elim (cases p i (omega (arith, h))) [ inl e ↦ inl (ap (λ n. suc n) e) | inr l ↦ inr (omega (arith, l)) ]

    at : (p n i : ℕ) → (0 < n → end_of (entry_of bytes p) ≤ (entry_of bytes (suc p)).offset) × ((i : ℕ) → suc p ≤ i → suc i < suc p + n → end_of (entry_of bytes i) ≤ (entry_of bytes (suc i)).offset)
        → (i ≡ p) ⊎ (suc p ≤ i) → suc i < p + suc n → end_of (entry_of bytes i) ≤ (entry_of bytes (suc i)).offset
    at p n i r (inl e) b = subst (λ k. end_of (entry_of bytes k) ≤ (entry_of bytes (suc k)).offset) (sym e) (r.0 (omega (arith, b, e)))
    at p n i r (inr l) b = r.1 i l (omega (arith, b))

pub is_rising : (bytes : List ℕ) → rises_from 0 (entries_of bytes) ≡ true → IsRising bytes (count_of bytes)
is_rising bytes e i l = (rises_index bytes 0 (count_of bytes) 0 e).1 i (omega arith) (omega (arith, l))

pub rising_is : (bytes : List ℕ) → IsRising bytes (count_of bytes) → rises_from 0 (entries_of bytes) ≡ true
rising_is bytes r = rises_true bytes 0 (count_of bytes) 0 (λ l. omega arith) (λ i a b. r i (omega (arith, b)))

rises_false : (bytes : List ℕ) → (IsRising bytes (count_of bytes) → ⊥) → rises_from 0 (entries_of bytes) ≡ false
rises_false bytes n = elim (truth (rises_from 0 (entries_of bytes))) [ inl e ↦ absurd (n (is_rising bytes e)) | inr e ↦ e ]

-- the first rule that the page breaks by itself
pub broken_itself : (form : XtForm) (blocks : ℕ) (bytes : List ℕ) (rule : Rule) → IsFirstBroken (Holds form bytes) xt_rules rule → xt_node form blocks bytes ≡ Broken rule
unfolding xt_node
broken_itself form blocks bytes rule (inl b) = rw (flag_false form (head_of bytes).flag b.1, b.0) refl
broken_itself form blocks bytes rule (inr (flag, inl b)) = rw (flag_true form (head_of bytes).flag flag, max_false form (head_of bytes).maxentry b.1, b.0) refl
broken_itself form blocks bytes rule (inr (flag, inr (max, inl b))) = rw (flag_true form (head_of bytes).flag flag, max_true form (head_of bytes).maxentry max, count_false (head_of bytes) b.1, b.0) refl
broken_itself form blocks bytes rule (inr (flag, inr (max, inr (count, inl b)))) =
    rw (flag_true form (head_of bytes).flag flag, max_true form (head_of bytes).maxentry max, count_true (head_of bytes) count.0 count.1, rises_false bytes b.1, b.0) refl
broken_itself form blocks bytes rule (inr (flag, inr (max, inr (count, inr (order, b))))) = absurd b

pub broken_range : (form : XtForm) (blocks : ℕ) (bytes : List ℕ) → IsXtPage form bytes → all_within blocks (entries_of bytes) ≡ false → xt_node form blocks bytes ≡ Broken rules.Range
unfolding xt_node
broken_range form blocks bytes page e =
    rw (flag_true form (head_of bytes).flag page.0, max_true form (head_of bytes).maxentry page.1.0, count_true (head_of bytes) page.1.1.0.0 page.1.1.0.1, rising_is bytes page.1.1.1.0, e) refl

pub sound : (form : XtForm) (blocks : ℕ) (bytes : List ℕ) → IsXtPage form bytes → all_within blocks (entries_of bytes) ≡ true → IsSound form blocks (head_of bytes) (entries_of bytes)
sound form blocks bytes page e = record {
  flag = flag_true form (head_of bytes).flag page.0;
  max = max_true form (head_of bytes).maxentry page.1.0;
  count = count_true (head_of bytes) page.1.1.0.0 page.1.1.0.1;
  order = rising_is bytes page.1.1.1.0;
  range = e;
}

-- a sound page reads as what its kind says
pub sound_node : (form : XtForm) (blocks : ℕ) (bytes : List ℕ) → IsSound form blocks (head_of bytes) (entries_of bytes) → xt_node form blocks bytes ≡ by_kind (is_leaf (head_of bytes).flag) (entries_of bytes)
unfolding xt_node
sound_node form blocks bytes s = rw (s.flag, s.max, s.count, s.order, s.range) refl

pub broken_deep : (form : XtForm) (blocks : ℕ) (bytes : List ℕ) → IsSound form blocks (head_of bytes) (entries_of bytes) → is_leaf (head_of bytes).flag ≡ false → (head_of bytes).nextindex ≡ 2 → xt_node form blocks bytes ≡ Broken rules.Deep
broken_deep form blocks bytes s kind e =
    sound_node form blocks bytes s ∙ ap (λ b. by_kind b (entries_of bytes)) kind ∙ ap (λ n. by_kind false (entries_from bytes 0 n)) (let z : field_of bytes 18 2 - 2 ≡ 0 = omega (arith, e) in z)

pub sound_leaf : (form : XtForm) (blocks : ℕ) (bytes : List ℕ) → IsSound form blocks (head_of bytes) (entries_of bytes) → is_leaf (head_of bytes).flag ≡ true → xt_node form blocks bytes ≡ Leaf (entries_of bytes)
sound_leaf form blocks bytes s kind = sound_node form blocks bytes s ∙ ap (λ b. by_kind b (entries_of bytes)) kind

-- a page without entries, below a root
pub empty_breaks : (form : XtForm) (blocks : ℕ) (bytes : List ℕ) → IsSound form blocks (head_of bytes) (entries_of bytes) → (head_of bytes).nextindex ≡ 2 → below_root (xt_node form blocks bytes) ≡ Broken rules.Deep
empty_breaks form blocks bytes s e = by (is_leaf (head_of bytes).flag) refl
  where
    by : (kind : Bool) → is_leaf (head_of bytes).flag ≡ kind → below_root (xt_node form blocks bytes) ≡ Broken rules.Deep
    by true kind = ap below_root (sound_leaf form blocks bytes s kind) ∙ ap (λ n. below_root (by_kind true (entries_from bytes 0 n))) (let z : field_of bytes 18 2 - 2 ≡ 0 = omega (arith, e) in z)
    by false kind = ap below_root (broken_deep form blocks bytes s kind e)

inner_kind : (xs : List Xad) → 0 < length xs → by_kind false xs ≡ Inner (map child_of xs)
inner_kind [] h = absurd (omega (arith, h))
inner_kind (x ∷ xs) h = refl

pub sound_inner : (form : XtForm) (blocks : ℕ) (bytes : List ℕ) → IsSound form blocks (head_of bytes) (entries_of bytes) → is_leaf (head_of bytes).flag ≡ false → 0 < length (entries_of bytes) → xt_node form blocks bytes ≡ Inner (map child_of (entries_of bytes))
sound_inner form blocks bytes s kind some = sound_node form blocks bytes s ∙ ap (λ b. by_kind b (entries_of bytes)) kind ∙ inner_kind (entries_of bytes) some

-- ---- back from what a page reads as

abbrev a_leaf : List Xad → Node ℕ Xad
a_leaf xs = Leaf xs

abbrev an_inner : List (Child ℕ) → Node ℕ Xad
an_inner cs = Inner cs

abbrev pub a_broken : Rule → Node ℕ Xad
a_broken rule = Broken rule

chosen : {A : Type 0} (b : Bool) (n m : Node ℕ Xad) (rule : Rule) → (if b then n else Broken rule) ≡ m → ((b ≡ true) → (n ≡ m) → A) → (Broken rule ≡ m → A) → A
chosen true n m rule e f g = f refl e
chosen false n m rule e f g = g e

pub whole : (form : XtForm) (blocks : ℕ) (bytes : List ℕ) (m : Node ℕ Xad) → ((rule : Rule) → a_broken rule ≡ m → ⊥) → xt_node form blocks bytes ≡ m
    → IsSound form blocks (head_of bytes) (entries_of bytes) × (by_kind (is_leaf (head_of bytes).flag) (entries_of bytes) ≡ m)
unfolding xt_node
whole form blocks bytes m never e =
    let head = head_of bytes in let xs = entries_of bytes in
    chosen (fits_flag form head.flag) _ m rules.Flag e (λ f e1.
    chosen (fits_max form head.maxentry) _ m rules.Max e1 (λ x e2.
    chosen (fits_count head) _ m rules.Count e2 (λ c e3.
    chosen (rises_from 0 xs) _ m rules.Order e3 (λ o e4.
    chosen (all_within blocks xs) _ m rules.Range e4 (λ r e5. (record { flag = f; max = x; count = c; order = o; range = r }, e5)) (λ b. absurd (never rules.Range b)))
    (λ b. absurd (never rules.Order b)))
    (λ b. absurd (never rules.Count b)))
    (λ b. absurd (never rules.Max b)))
    (λ b. absurd (never rules.Flag b))

leaf_kind : (b : Bool) (xs es : List Xad) → by_kind b xs ≡ Leaf es → (b ≡ true) × (xs ≡ es)
leaf_kind true xs es e = (refl, leaf_same xs es e)
  where
    leaf_same : (xs es : List Xad) → a_leaf xs ≡ a_leaf es → xs ≡ es
    leaf_same xs es e = cc
leaf_kind false [] es e = absurd cc
leaf_kind false (x ∷ xs) es e = absurd cc

no_leaf : (rule : Rule) (es : List Xad) → a_broken rule ≡ a_leaf es → ⊥
no_leaf rule es e = cc

-- a page that reads as a leaf
pub leaf_is : (form : XtForm) (blocks : ℕ) (bytes : List ℕ) (es : List Xad) → xt_node form blocks bytes ≡ Leaf es → IsSound form blocks (head_of bytes) (entries_of bytes) × (is_leaf (head_of bytes).flag ≡ true) × (entries_of bytes ≡ es)
leaf_is form blocks bytes es e =
    let t = whole form blocks bytes (Leaf es) (λ rule b. no_leaf rule es b) e in
    let k = leaf_kind (is_leaf (head_of bytes).flag) (entries_of bytes) es t.1 in (t.0, k.0, k.1)

inner_same : (b : Bool) (xs : List Xad) (cs : List (Child ℕ)) → by_kind b xs ≡ Inner cs → (b ≡ false) × (map child_of xs ≡ cs) × (0 < length xs)
inner_same true xs cs e = absurd cc
inner_same false [] cs e = absurd cc
inner_same false (x ∷ xs) cs e = (refl, by (map child_of (x ∷ xs)) cs e, omega arith)
  where
    by : (ds cs : List (Child ℕ)) → an_inner ds ≡ an_inner cs → ds ≡ cs
    by ds cs e = cc

no_inner : (rule : Rule) (cs : List (Child ℕ)) → a_broken rule ≡ an_inner cs → ⊥
no_inner rule cs e = cc

-- a page that reads as an inner page
pub inner_is : (form : XtForm) (blocks : ℕ) (bytes : List ℕ) (cs : List (Child ℕ)) → xt_node form blocks bytes ≡ Inner cs
    → IsSound form blocks (head_of bytes) (entries_of bytes) × (is_leaf (head_of bytes).flag ≡ false) × (map child_of (entries_of bytes) ≡ cs) × (0 < length (entries_of bytes))
inner_is form blocks bytes cs e =
    let t = whole form blocks bytes (Inner cs) (λ rule b. no_inner rule cs b) e in
    let k = inner_same (is_leaf (head_of bytes).flag) (entries_of bytes) cs t.1 in (t.0, k.0, k.1, k.2)

-- ---- extents within the blocks

cut_more : (bytes : List ℕ) (i c m : ℕ) → c - i ≡ suc m → c - (i + 1) ≡ m → entries_from bytes i (c - i) ≡ entry_of bytes i ∷ entries_from bytes (i + 1) (c - (i + 1))
cut_more bytes i c m e f = ap (entries_from bytes i) e ∙ ap (λ p. entry_of bytes i ∷ entries_from bytes p m) next ∙ ap (λ n. entry_of bytes i ∷ entries_from bytes (i + 1) n) (sym f)
  where
    next : suc i ≡ i + 1
    next = omega arith

pub within_more : (blocks : ℕ) (bytes : List ℕ) (i c : ℕ) → i < c → all_within blocks (entries_from bytes i (c - i)) ≡ (is_within blocks (entry_of bytes i) && all_within blocks (entries_from bytes (i + 1) (c - (i + 1))))
within_more blocks bytes i c l = ap (all_within blocks) (cut_more bytes i c (c - (i + 1)) (omega (arith, l)) refl)

-- the code's answer
pub as_read : (blocks : ℕ) (bytes : List ℕ) (head : XtHead) (r b : Bool) → head ≡ head_of bytes → r ≡ all_within blocks (entries_from bytes 0 (head.nextindex - 2)) → r ≡ b → all_within blocks (entries_of bytes) ≡ b
as_read blocks bytes head r b is e f = ap (λ (h : XtHead). all_within blocks (entries_from bytes 0 (h.nextindex - 2))) (sym is) ∙ sym e ∙ f
