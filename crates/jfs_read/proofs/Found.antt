-- What is found on the way to a block of a file.
use Rattle.std.proofs.Common.{◌≡◌, ◌<◌, ◌≤◌, refl, sym, ap, ◌∙◌, subst, ℕ, zero, suc, ◌+◌, ◌-◌, Bool, true, false, ◌&&◌, ◌==◌, length, if◌then◌else◌, List, [], ◌∷◌, Option, Some, None, Result, Ok, Err, arith}
use Rattle.std.specs.Prelude.{nat_le, nat_lt}
use Rattle.std.specs.Int.RustNames.{bit_and}
use Rattle.std.proofs.lemmas.Bool.{leb-true}
use Rattle.std.proofs.lemmas.Bool.Decides.{nat_tests}
use Rattle.jfs_bits.specs.declared.extent.Xad.{Xad}
use Rattle.jfs_xtpage.specs.Page.{end_of}
use Rattle.jfs_xtpage.specs.declared.head.XtForm.{XtForm}
use Rattle.jfs_xtpage.specs.declared.head.XtForm.TheVariants.{Full}
use Rattle.jfs_tree.specs.Walk.{Node, Leaf, Inner, Broken, Marks, Page, Key, Row, Fault, Rises, rows_of}
use Rattle.jfs_tree.specs.Spells.{judge}
use Rattle.jfs_tree.proofs.Judge.{judged}
use Rattle.jfs_tree.proofs.Ways.{on_way}
use Rattle.jfs_xtree.specs.Laws.{order}
use Rattle.jfs_xtree.proofs.Roots.{is_point}
use Rattle.jfs_tree.specs.Edit.{found_in}
use Rattle.jfs_tree.specs.Path.{way_of, further, found_at, found_below}
use Rattle.jfs_xtree.specs.Node.{xt_scale, xt_node, is_within, all_within}
use Rattle.jfs_xtree.specs.Spells.{page_nodes, root_node, root_form, point, found_for, spells_extents}
use Rattle.jfs_xtree.proofs.Reading.{and_true, leaf_is}
use Rattle.jfs_way.specs.objects.specs.Contents.{block_of, block_in}
use Rattle.jfs_way.specs.reader.specs.Reading.{PageIs, IsPast}
use Rattle.jfs_way.specs.reader.specs.declared.error.ReadError.{ReadError}
use Rattle.jfs_way.specs.reader.specs.declared.error.ReadError.TheVariants.{View, Outside}
use Rattle.jfs_read.specs.Read.{block_by}

-- ---- it lies within the volume

-- a page whose extents do, if it is a leaf
abbrev Good : ℕ → Node ℕ Xad → Type 0
Good blocks node = (es : List Xad) → node ≡ Leaf es → all_within blocks es ≡ true

page_good : (form : XtForm) (blocks : ℕ) (bytes : List ℕ) → Good blocks (xt_node form blocks bytes)
page_good form blocks bytes es e = let t = leaf_is form blocks bytes es e in subst (λ (xs : List Xad). all_within blocks xs ≡ true) t.2 t.0.range

in_found : (blocks : ℕ) (x : Xad) (es : List Xad) (e : Xad) → found_in xt_scale x es ≡ Some e → all_within blocks es ≡ true → is_within blocks e ≡ true
in_found blocks x [] e h w = absurd cc
in_found blocks x (y ∷ ys) e h w = let t = and_true (is_within blocks y) (all_within blocks ys) w in by t.0 (nat_le (end_of y) x.offset) (nat_le (end_of x) y.offset) h (λ k. in_found blocks x ys e k t.1)
  where
    one_is : (a b : Xad) → ◌≡◌ {A = Option Xad} (Some a) (Some b) → a ≡ b
    one_is a b e = cc

    by : is_within blocks y ≡ true → (a b : Bool) → (if a then found_in xt_scale x ys else (if b then None else Some y)) ≡ Some e → (found_in xt_scale x ys ≡ Some e → is_within blocks e ≡ true) → is_within blocks e ≡ true
    by here true b h rest = rest h
    by here false true h rest = absurd cc
    by here false false h rest = subst (λ (z : Xad). is_within blocks z ≡ true) (one_is y e h) here

at_good : (blocks : ℕ) (x : Xad) (below : ℕ → Option Xad) (node : Node ℕ Xad) (e : Xad) → Good blocks node → ((n : ℕ) → below n ≡ Some e → is_within blocks e ≡ true) → found_at xt_scale x below node ≡ Some e → is_within blocks e ≡ true
at_good blocks x below (Leaf es) e g all h = in_found blocks x es e h (g es refl)
at_good blocks x below (Inner cs) e g all h = by (way_of xt_scale x.offset (Inner cs)) h
  where
    by : (o : Option ℕ) → further below o ≡ Some e → is_within blocks e ≡ true
    by None h = absurd cc
    by (Some n) h = all n h
at_good blocks x below (Broken rule) e g all h = absurd cc

below_good : (blocks : ℕ) (pages : ℕ → List ℕ) (x : Xad) (most page : ℕ) (e : Xad) → found_below xt_scale (page_nodes blocks pages) x most page ≡ Some e → is_within blocks e ≡ true
unfolding found_below
below_good blocks pages x zero page e h = absurd cc
below_good blocks pages x (suc most) page e h =
    at_good blocks x (found_below xt_scale (page_nodes blocks pages) x most) (page_nodes blocks pages page) e (page_good Full blocks (pages page)) (λ n k. below_good blocks pages x most n e k) h

pub found_within : (blocks : ℕ) (pages : ℕ → List ℕ) (root : List ℕ) (k : ℕ) (e : Xad) → found_for blocks pages root k ≡ Some e → is_within blocks e ≡ true
found_within blocks pages root k e h =
    at_good blocks (point k) (found_below xt_scale (page_nodes blocks pages) (point k) 7) (root_node blocks root) e (page_good (root_form (length root)) blocks root) (λ n l. below_good blocks pages (point k) 7 n e l) h

-- a block of it that is no page of the file system part
pub never_past : (blocks k b : ℕ) (e : Xad) → is_within blocks e ≡ true → block_of (e ∷ []) k ≡ Some b → b < blocks
never_past blocks k b e w h = by (nat_le e.offset k && nat_lt k (e.offset + e.at.len)) refl h
  where
    some_is : (a b : ℕ) → ◌≡◌ {A = Option ℕ} (Some a) (Some b) → a ≡ b
    some_is a b e = cc

    ltb_is : (a b : ℕ) → nat_lt a b ≡ true → a < b
    ltb_is a b e = grind (arith, nat_tests)

    inside : (nat_le e.offset k && nat_lt k (e.offset + e.at.len)) ≡ true → (t : Bool) → (if t then None else Some (e.at.addr + (k - e.offset))) ≡ Some b → b < blocks
    inside h true is = absurd cc
    inside h false is =
        let a = and_true (nat_le 1 e.at.len) (nat_le (e.at.addr + e.at.len) blocks) w in
        let c = and_true (nat_le e.offset k) (nat_lt k (e.offset + e.at.len)) h in
        let last = leb-true (e.at.addr + e.at.len) blocks a.1 in
        let first = leb-true e.offset k c.0 in
        let past = ltb_is k (e.offset + e.at.len) c.1 in
        let at = some_is (e.at.addr + (k - e.offset)) b is in
        omega (arith, last, first, past, at)

    by : (x : Bool) → (nat_le e.offset k && nat_lt k (e.offset + e.at.len)) ≡ x → (if x then block_in e k else None) ≡ Some b → b < blocks
    by true h is = inside h (bit_and e.flag 0x08 == 0x08) is
    by false h is = absurd cc

-- ---- it is the extent that has the block

-- extents in rising order, from an offset on
abbrev Rise : ℕ → List Xad → Type 0
Rise low [] = Unit {0}
Rise low (e ∷ es) = (low ≤ e.offset) × Rise (end_of e) es

module _ (k : ℕ) where
  abbrev test : Xad → Bool
  test e = nat_le e.offset k && nat_lt k (e.offset + e.at.len)

  abbrev ends : Xad → ℕ
  ends e = end_of e

  -- an extent that begins behind the block, or ends before it, hasn't it
  behind : (offset len : ℕ) → k < offset → (nat_le offset k && nat_lt k (offset + len)) ≡ false
  behind offset len l = grind (arith, nat_tests)

  before : (offset len : ℕ) → offset + (if len == 0 then 1 else len) ≤ k → (nat_le offset k && nat_lt k (offset + len)) ≡ false
  before offset len l = grind (arith, nat_tests)

  none_before : (low : ℕ) (es : List Xad) → Rise low es → k < low → block_of es k ≡ None
  none_before low [] r l = refl
  none_before low (e ∷ es) r l =
      ap (λ (x : Bool). if x then block_in e k else block_of es k) (behind e.offset e.at.len (let h = r.0 in omega (arith, h, l)))
      ∙ none_before (end_of e) es r.1 (past e.offset e.at.len (let h = r.0 in omega (arith, h, l)))
    where
      past : (offset len : ℕ) → k < offset → k < offset + (if len == 0 then 1 else len)
      past offset len l = grind (arith, nat_tests)

  found_block : (low : ℕ) (es : List Xad) → Rise low es → block_by (found_in xt_scale (point k) es) k ≡ block_of es k
  found_block low [] r = refl
  found_block low (e ∷ es) r = by (nat_le (end_of e) k) refl (nat_le (k + 1) e.offset) refl (found_block (end_of e) es r.1)
    where
      le_is : (a b : ℕ) → nat_le a b ≡ true → a ≤ b
      le_is a b e = leb-true a b e

      gt_is : (a b : ℕ) → nat_le a b ≡ false → b < a
      gt_is a b e = grind (arith, nat_tests)

      rest : (x : Bool) → block_of es k ≡ None → (if x then block_in e k else None) ≡ (if x then block_in e k else block_of es k)
      rest true h = refl
      rest false h = sym h

      by : (a : Bool) → nat_le (end_of e) k ≡ a → (b : Bool) → nat_le (k + 1) e.offset ≡ b → block_by (found_in xt_scale (point k) es) k ≡ block_of es k
          → block_by (if a then found_in xt_scale (point k) es else (if b then None else Some e)) k ≡ (if test e then block_in e k else block_of es k)
      by true h b g more = more ∙ ap (λ (x : Bool). if x then block_in e k else block_of es k) (sym (before e.offset e.at.len (le_is (end_of e) k h)))
      by false h true g more = sym (ap (λ (x : Bool). if x then block_in e k else block_of es k) (behind e.offset e.at.len (let l = le_is (k + 1) e.offset g in omega (arith, l))) ∙ none_before (end_of e) es r.1 (gt_is (end_of e) k h))
      by false h false g more = rest (test e) (none_before (end_of e) es r.1 (gt_is (end_of e) k h))

-- what a tree spells rises
pub listed_rise : (low : ℕ) (ms : Marks ℕ Xad) (es : List Xad) → judge xt_scale low ms ≡ Ok es → Rise low es
listed_rise low ms es h = let j = judged xt_scale low ms es h in subst (λ (xs : List Xad). Rise low xs) j.1 (rise low ms j.0)
  where
    le_of : (a b : ℕ) → nat_le a b ≡ true → a ≤ b
    le_of a b e = leb-true a b e

    lower : (low high : ℕ) (es : List Xad) → low ≤ high → Rise high es → Rise low es
    lower low high [] l r = r
    lower low high (e ∷ es) l r = ((let h = r.0 in omega (arith, h, l)), r.1)

    rise : (low : ℕ) (ms : Marks ℕ Xad) → Rises xt_scale low ms None → Rise low (rows_of ms)
    rise low [] r = tt
    rise low (Page n ∷ ms) r = rise low ms r
    rise low (Key n k ∷ ms) r = lower low k (rows_of ms) (le_of low k r.0) (rise k ms r.1)
    rise low (Row n e ∷ ms) r = (le_of low e.offset r.0, rise (end_of e) ms r.1)
    rise low (Fault n f ∷ ms) r = absurd r

pub block_found : (k low : ℕ) (ms : Marks ℕ Xad) (es : List Xad) → judge xt_scale low ms ≡ Ok es → block_by (found_in xt_scale (point k) es) k ≡ block_of es k
block_found k low ms es h = found_block k low es (listed_rise low ms es h)

-- no block of an extent that was found lies outside
pub never_outside : (blocks told k : ℕ) (e : Xad) (r : Result (Option ℕ) ReadError) {why : ReadError} → told ≡ blocks → is_within blocks e ≡ true → PageIs told (block_of (e ∷ []) k) r → r ≡ Err why → ⊥
never_outside blocks told k e (Ok page) same w h is = cc
never_outside blocks told k e (Err (View v)) same w h is = h
never_outside blocks told k e (Err Outside) same w h is = by (block_of (e ∷ []) k) refl h
  where
    by : (o : Option ℕ) → block_of (e ∷ []) k ≡ o → IsPast told o → ⊥
    by None is past = past
    by (Some b) is past = omega (arith, past, same, never_past blocks k b e w is)

-- what the way leads to is what the list has
pub found_is : (blocks : ℕ) (pages : ℕ → List ℕ) (root : List ℕ) (k : ℕ) (es : List Xad) → spells_extents blocks pages root ≡ Ok es → found_for blocks pages root k ≡ found_in xt_scale (point k) es
found_is blocks pages root k es spelled = on_way xt_scale order (point k) (is_point k) (page_nodes blocks pages) (root_node blocks root) es spelled
