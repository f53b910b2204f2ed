-- The extents that a tree spells lie within the file system part.
use Rattle.std.proofs.Common.{◌≡◌, ◌≤◌, refl, sym, ap, ◌∙◌, ℕ, zero, suc, ◌+◌, ◌-◌, Bool, true, false, ◌&&◌, ◌==◌, nat_le, nat_lt, if◌then◌else◌, List, [], ◌∷◌, ◌++◌, Option, Some, None, Ok, arith}
use Rattle.std.specs.List.{flat_map}
use Rattle.std.specs.Int.RustNames.{bit_and}
use Rattle.std.proofs.lemmas.Bool.{and_parts, leb-true, ltb-true}
use Rattle.jfs_bits.specs.declared.extent.Xad.{Xad}
use Rattle.jfs_bits.specs.declared.rule.Rule.TheVariants.{Order}
use Rattle.jfs_inode.specs.declared.fields.Dinode.{Dinode}
use Rattle.jfs_tree.specs.Walk.{Child, Node, Leaf, Inner, Broken, Marks, placed, under, body, walk, rows_of}
use Rattle.jfs_tree.specs.Spells.{no_page, with_root, levels_of, along_first, first_path, top, at_levels, tree_of}
use Rattle.jfs_tree.proofs.Judge.{judged}
use Rattle.jfs_tree.proofs.Frame.{rows-append}
use Rattle.jfs_tree.proofs.Leaves.{rows_leaf}
use Rattle.jfs_xtpage.specs.declared.head.XtForm.{XtForm}
use Rattle.jfs_xtpage.specs.declared.head.XtForm.TheVariants.{Root, Full}
use Rattle.jfs_xtree.specs.Node.{xt_scale, xt_node, is_within, all_within}
use Rattle.jfs_xtree.proofs.Reading.{leaf_is}
use Rattle.jfs_way.specs.objects.specs.Contents.{block_in, block_of}
use Rattle.jfs_way.specs.objects.specs.Objects.{has_extents, extents_of, listed}
use Rattle.jfs_way.specs.meaning.specs.Readers.{readers, root_of}
use Rattle.jfs_way.specs.reader.specs.Reading.{IsPast}

-- ---- of a list of extents

within_append : (blocks : ℕ) (xs ys : List Xad) → all_within blocks xs ≡ true → all_within blocks ys ≡ true → all_within blocks (xs ++ ys) ≡ true
within_append blocks [] ys x y = y
within_append blocks (e ∷ es) ys x y = let t = and_parts (is_within blocks e) (all_within blocks es) x in
    ap (λ (b : Bool). b && all_within blocks (es ++ ys)) t.0 ∙ within_append blocks es ys t.1 y

-- so no block of them is past the end
pub none_past : (blocks : ℕ) (es : List Xad) → all_within blocks es ≡ true → (j : ℕ) → IsPast blocks (block_of es j) → ⊥
none_past blocks [] h j past = past
none_past blocks (e ∷ es) h j past =
    let t = and_parts (is_within blocks e) (all_within blocks es) h in
    by (nat_le e.offset j && nat_lt j (e.offset + e.at.len)) refl t.0 past (none_past blocks es t.1 j)
  where
    in_extent : nat_le e.offset j ≡ true → nat_lt j (e.offset + e.at.len) ≡ true → nat_le (e.at.addr + e.at.len) blocks ≡ true → blocks ≤ e.at.addr + (j - e.offset) → ⊥
    in_extent l m w past = omega (arith, leb-true e.offset j l, ltb-true j (e.offset + e.at.len) m, leb-true (e.at.addr + e.at.len) blocks w, past)

    recorded : (x : Bool) → nat_le e.offset j ≡ true → nat_lt j (e.offset + e.at.len) ≡ true → nat_le (e.at.addr + e.at.len) blocks ≡ true → IsPast blocks (if x then None else Some (e.at.addr + (j - e.offset))) → ⊥
    recorded true l m w past = past
    recorded false l m w past = in_extent l m w past

    by : (x : Bool) → (nat_le e.offset j && nat_lt j (e.offset + e.at.len)) ≡ x → is_within blocks e ≡ true → IsPast blocks (if x then block_in e j else block_of es j) → (IsPast blocks (block_of es j) → ⊥) → ⊥
    by true i w past rest =
        let t = and_parts (nat_le e.offset j) (nat_lt j (e.offset + e.at.len)) i in
        recorded (bit_and e.flag 0x08 == 0x08) t.0 t.1 (and_parts (nat_le 1 e.at.len) (nat_le (e.at.addr + e.at.len) blocks) w).1 past
    by false i w past rest = rest past

-- ---- of a walk

module _ (blocks : ℕ) (nodes : ℕ → Node ℕ Xad) (leaves : (n : ℕ) (es : List Xad) → nodes n ≡ Leaf es → all_within blocks es ≡ true) where
  all_children : (f : Child ℕ → Marks ℕ Xad) → ((c : Child ℕ) → all_within blocks (rows_of (f c)) ≡ true) → (cs : List (Child ℕ)) → all_within blocks (rows_of (flat_map f cs)) ≡ true
  all_children f h [] = refl
  all_children f h (c ∷ cs) = ap (all_within blocks) (rows-append (f c) (flat_map f cs)) ∙ within_append blocks (rows_of (f c)) (rows_of (flat_map f cs)) (h c) (all_children f h cs)

  abbrev a_leaf : List Xad → Node ℕ Xad
  a_leaf es = Leaf es

  abbrev fits_or_not : Bool → List Xad → Node ℕ Xad
  fits_or_not b xs = if b then Leaf xs else Broken Order

  -- a page that is placed as a leaf reads as one
  placed_leaf : (below : ℕ) (key : ℕ) (node : Node ℕ Xad) (es : List Xad) → placed xt_scale below key node ≡ Leaf es → node ≡ Leaf es
  placed_leaf zero key (Leaf []) es e = cc (e)
  placed_leaf zero key (Leaf (x ∷ xs)) es e = by (xt_scale.fits key x) e
    where
      by : (b : Bool) → fits_or_not b (x ∷ xs) ≡ a_leaf es → a_leaf (x ∷ xs) ≡ a_leaf es
      by true e = e
      by false e = absurd (cc (e))
  placed_leaf zero key (Inner cs) es e = absurd (cc (e))
  placed_leaf zero key (Broken rule) es e = e
  placed_leaf (suc below) key (Leaf xs) es e = absurd (cc (e))
  placed_leaf (suc below) key (Inner []) es e = absurd (cc (e))
  placed_leaf (suc below) key (Inner (c ∷ cs)) es e = absurd (cc (e))
  placed_leaf (suc below) key (Broken rule) es e = e

  shown : (f : Child ℕ → Marks ℕ Xad) → ((c : Child ℕ) → all_within blocks (rows_of (f c)) ≡ true) → (c : Child ℕ) (node : Node ℕ Xad) → ((es : List Xad) → node ≡ Leaf es → all_within blocks es ≡ true) → all_within blocks (rows_of (body f c node)) ≡ true
  shown f h c (Leaf es) leaf = ap (all_within blocks) (rows_leaf ℕ c.page es) ∙ leaf es refl
  shown f h c (Inner cs) leaf = all_children f h (under c.key cs)
  shown f h c (Broken rule) leaf = refl

  pub walked : (levels : ℕ) (c : Child ℕ) → all_within blocks (rows_of (walk xt_scale nodes levels c)) ≡ true
  unfolding walk
  walked zero c = refl
  walked (suc below) c = shown (walk xt_scale nodes below) (walked below) c (placed xt_scale below c.key (nodes c.page)) (λ es e. leaves c.page es (placed_leaf below c.key (nodes c.page) es e))

  no_rows : (most page : ℕ) → all_within blocks (rows_of (first_path {P = ℕ} {E = Xad} nodes most page)) ≡ true
  unfolding first_path
  no_rows zero page = refl
  no_rows (suc most) page = by (nodes page) (no_rows most)
    where
      by : (node : Node ℕ Xad) → ((p : ℕ) → all_within blocks (rows_of (first_path {P = ℕ} {E = Xad} nodes most p)) ≡ true) → all_within blocks (rows_of (along_first (first_path nodes most) node)) ≡ true
      by (Inner []) h = refl
      by (Inner (c ∷ cs)) h = h c.page
      by (Leaf es) h = refl
      by (Broken rule) h = refl

  pub all_levels : (levels : Option ℕ) → all_within blocks (rows_of (at_levels xt_scale nodes levels)) ≡ true
  all_levels (Some levels) = walked levels (top xt_scale)
  all_levels None = no_rows 8 no_page

module _ (blocks : ℕ) (pages : ℕ → Node ℕ Xad) (root : Node ℕ Xad) (below : (n : ℕ) (es : List Xad) → pages n ≡ Leaf es → all_within blocks es ≡ true) (at_root : (es : List Xad) → root ≡ Leaf es → all_within blocks es ≡ true) where
  leaves : (node : Node ℕ Xad) → node ≡ root → (n : ℕ) (es : List Xad) → with_root node pages n ≡ Leaf es → all_within blocks es ≡ true
  leaves node same n es e = by (n == no_page) e
    where
      by : (x : Bool) → (if x then node else pages n) ≡ Leaf es → all_within blocks es ≡ true
      by true e = at_root es (sym same ∙ e)
      by false e = below n es e

  pub in_tree : (node : Node ℕ Xad) → node ≡ root → all_within blocks (rows_of (tree_of xt_scale pages node)) ≡ true
  in_tree (Leaf []) same = refl
  in_tree (Leaf (e ∷ es)) same = all_levels blocks (with_root (Leaf (e ∷ es)) pages) (leaves (Leaf (e ∷ es)) same) (levels_of (with_root (Leaf (e ∷ es)) pages) 8 no_page)
  in_tree (Inner cs) same = all_levels blocks (with_root (Inner cs) pages) (leaves (Inner cs) same) (levels_of (with_root (Inner cs) pages) 8 no_page)
  in_tree (Broken rule) same = all_levels blocks (with_root (Broken rule) pages) (leaves (Broken rule) same) (levels_of (with_root (Broken rule) pages) 8 no_page)

-- ---- of an object

leaf_within : (form : XtForm) (blocks : ℕ) (bytes : List ℕ) (es : List Xad) → xt_node form blocks bytes ≡ Leaf es → all_within blocks es ≡ true
leaf_within form blocks bytes es e = let t = leaf_is form blocks bytes es e in ap (all_within blocks) (sym t.2) ∙ t.0.range

pub extents_within : (blocks : ℕ) (pages : ℕ → List ℕ) (d : Dinode) (es : List Xad) → listed xt_scale (extents_of (readers blocks) pages d) ≡ Ok es → all_within blocks es ≡ true
extents_within blocks pages d es e = ap (all_within blocks) (sym (judged xt_scale 0 (extents_of (readers blocks) pages d) es e).1) ∙ by (has_extents d)
  where
    by : (x : Bool) → all_within blocks (rows_of (if x then tree_of xt_scale (λ b. (readers blocks).extents_page (pages b)) ((readers blocks).extents_root d) else [])) ≡ true
    by true = in_tree blocks (λ b. (readers blocks).extents_page (pages b)) ((readers blocks).extents_root d) (λ n es e. leaf_within Full blocks (pages n) es e) (λ es e. leaf_within Root blocks (root_of d) es e) ((readers blocks).extents_root d) refl
    by false = refl
