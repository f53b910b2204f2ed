-- What a file's tree spells: extents that rise, each with a length and within the volume.
use Rattle.std.proofs.Common.{◌≡◌, ◌≤◌, ◌<◌, refl, sym, ap, ◌∙◌, subst, ℕ, zero, suc, ◌+◌, ◌==◌, ◌&&◌, Bool, true, false, if◌then◌else◌, List, [], ◌∷◌, ◌++◌, length, Option, Some, None, Ok, arith}
use Rattle.std.specs.Prelude.{nat_le, nat_lt}
use Rattle.std.specs.List.{flat_map}
use Rattle.std.proofs.lemmas.Bool.{leb-true, le-leb}
use Rattle.std.proofs.lemmas.Bool.Decides.{nat_tests}
use Rattle.jfs_bits.specs.declared.extent.Xad.{Xad}
use Rattle.jfs_bits.specs.declared.rule.Rule.TheVariants as rules
use Rattle.jfs_xtpage.specs.Page.{end_of, rises_from}
use Rattle.jfs_xtpage.specs.declared.head.XtForm.{XtForm}
use Rattle.jfs_xtpage.specs.declared.head.XtForm.TheVariants.{Full}
use Rattle.jfs_tree.specs.Walk.{Child, Node, Leaf, Inner, Broken, Marks, Page, Key, Row, Fault, Rises, rows_of, placed, under, body, walk}
use Rattle.jfs_tree.specs.Spells.{spells, tree_of, with_root, at_levels, levels_of, first_path, along_first, whole, top, no_page}
use Rattle.jfs_tree.proofs.Frame.{rows-append}
use Rattle.jfs_tree.proofs.Judge.{judged}
use Rattle.jfs_tree.proofs.Leaves.{rows_leaf}
use Rattle.jfs_xtree.specs.Node.{xt_scale, xt_node, is_within, all_within}
use Rattle.jfs_xtree.specs.Spells.{page_nodes, root_node, root_form, spells_extents}
use Rattle.jfs_xtree.specs.Writing.{AllLong, AllTo}
use Rattle.jfs_xtree.proofs.Reading.{and_true, leaf_is}
use Rattle.jfs_write_pages.specs.objects.specs.Owners.{covers}

-- ---- within the volume

abbrev Good : ℕ → Node ℕ Xad → Type 0
Good blocks node = (es : List Xad) → node ≡ Leaf es → all_within blocks es ≡ true

page_good : (form : XtForm) (blocks : ℕ) (bytes : List ℕ) → Good blocks (xt_node form blocks bytes)
page_good form blocks bytes es e = let t = leaf_is form blocks bytes es e in subst (λ (xs : List Xad). all_within blocks xs ≡ true) t.2 t.0.range

append_within : (blocks : ℕ) (xs ys : List Xad) → all_within blocks xs ≡ true → all_within blocks ys ≡ true → all_within blocks (xs ++ ys) ≡ true
append_within blocks [] ys h g = g
append_within blocks (x ∷ xs) ys h g = let t = and_true (is_within blocks x) (all_within blocks xs) h in
    ap (λ (b : Bool). b && all_within blocks (xs ++ ys)) t.0 ∙ append_within blocks xs ys t.1 g

module _ (blocks : ℕ) where
  abbrev Within : Marks ℕ Xad → Type 0
  Within ms = all_within blocks (rows_of ms) ≡ true

  placed_good : (below key : ℕ) (node : Node ℕ Xad) → Good blocks node → Good blocks (placed xt_scale below key node)
  placed_good zero key (Leaf []) g es e = absurd (cc (e))
  placed_good zero key (Leaf (x ∷ xs)) g es e = by (xt_scale.fits key x) e
    where
      by : (b : Bool) → ◌≡◌ {A = Node ℕ Xad} (if b then Leaf (x ∷ xs) else Broken rules.Order) (Leaf es) → all_within blocks es ≡ true
      by true e = g es e
      by false e = absurd (cc (e))
  placed_good zero key (Inner cs) g es e = absurd (cc (e))
  placed_good zero key (Broken rule) g es e = absurd (cc (e))
  placed_good (suc below) key (Leaf xs) g es e = absurd (cc (e))
  placed_good (suc below) key (Inner []) g es e = absurd (cc (e))
  placed_good (suc below) key (Inner (c ∷ cs)) g es e = absurd (cc (e))
  placed_good (suc below) key (Broken rule) g es e = absurd (cc (e))

  all_children : (f : Child ℕ → Marks ℕ Xad) → ((c : Child ℕ) → Within (f c)) → (cs : List (Child ℕ)) → Within (flat_map f cs)
  all_children f h [] = refl
  all_children f h (c ∷ cs) = ap (all_within blocks) (rows-append (f c) (flat_map f cs)) ∙ append_within blocks (rows_of (f c)) (rows_of (flat_map f cs)) (h c) (all_children f h cs)

  body_good : (f : Child ℕ → Marks ℕ Xad) → ((c : Child ℕ) → Within (f c)) → (c : Child ℕ) (node : Node ℕ Xad) → Good blocks node → Within (body f c node)
  body_good f h c (Leaf es) g = ap (all_within blocks) (rows_leaf ℕ c.page es) ∙ g es refl
  body_good f h c (Inner cs) g = all_children f h (under c.key cs)
  body_good f h c (Broken rule) g = refl

  module _ (nodes : ℕ → Node ℕ Xad) (good : (n : ℕ) → Good blocks (nodes n)) where
    walk_good : (levels : ℕ) (c : Child ℕ) → Within (walk xt_scale nodes levels c)
    unfolding walk
    walk_good zero c = refl
    walk_good (suc below) c = body_good (walk xt_scale nodes below) (walk_good below) c (placed xt_scale below c.key (nodes c.page)) (placed_good below c.key (nodes c.page) (good c.page))

    first_good : (most page : ℕ) → Within (first_path nodes most page)
    unfolding first_path
    first_good zero page = refl
    first_good (suc most) page = by (nodes page) (first_good most)
      where
        by : (node : Node ℕ Xad) → ((n : ℕ) → Within (first_path nodes most n)) → Within (along_first (first_path nodes most) node)
        by (Leaf es) h = refl
        by (Inner []) h = refl
        by (Inner (c ∷ cs)) h = h c.page
        by (Broken rule) h = refl

    whole_good : Within (whole xt_scale nodes)
    whole_good = by (levels_of nodes 8 no_page)
      where
        by : (o : Option ℕ) → Within (at_levels xt_scale nodes o)
        by (Some levels) = walk_good levels (top xt_scale)
        by None = first_good 8 no_page

  root_good : (pages : ℕ → Node ℕ Xad) (root : Node ℕ Xad) → ((n : ℕ) → Good blocks (pages n)) → Good blocks root → (n : ℕ) → Good blocks (with_root root pages n)
  root_good pages root all one n = by (n == no_page)
    where
      by : (b : Bool) → Good blocks (if b then root else pages n)
      by true = one
      by false = all n

  tree_good : (pages : ℕ → Node ℕ Xad) (root : Node ℕ Xad) → ((n : ℕ) → Good blocks (pages n)) → Good blocks root → Within (tree_of xt_scale pages root)
  tree_good pages (Leaf []) all one = refl
  tree_good pages (Leaf (e ∷ es)) all one = whole_good (with_root (Leaf (e ∷ es)) pages) (root_good pages (Leaf (e ∷ es)) all one)
  tree_good pages (Inner cs) all one = whole_good (with_root (Inner cs) pages) (root_good pages (Inner cs) all one)
  tree_good pages (Broken rule) all one = whole_good (with_root (Broken rule) pages) (root_good pages (Broken rule) all one)

pub spelled_within : (blocks : ℕ) (pages : ℕ → List ℕ) (root : List ℕ) (es : List Xad) → spells_extents blocks pages root ≡ Ok es → all_within blocks es ≡ true
unfolding spells
spelled_within blocks pages root es h =
    let j = judged xt_scale 0 (tree_of xt_scale (page_nodes blocks pages) (root_node blocks root)) es h in
    subst (λ (xs : List Xad). all_within blocks xs ≡ true) j.1
    (tree_good blocks (page_nodes blocks pages) (root_node blocks root) (λ n. page_good Full blocks (pages n)) (page_good (root_form (length root)) blocks root))

-- ---- rising

pub rises_lower : (low high : ℕ) (es : List Xad) → low ≤ high → rises_from high es ≡ true → rises_from low es ≡ true
rises_lower low high [] l r = refl
rises_lower low high (x ∷ xs) l r = by (nat_le high x.offset) refl r
  where
    by : (b : Bool) → nat_le high x.offset ≡ b → (if b then rises_from (end_of x) xs else false) ≡ true → (if nat_le low x.offset then rises_from (end_of x) xs else false) ≡ true
    by true e h = ap (λ (b : Bool). if b then rises_from (end_of x) xs else false) (le-leb low x.offset (let p = leb-true high x.offset e in omega (arith, p, l))) ∙ h
    by false e h = absurd (cc (h))

rises : (low : ℕ) (ms : Marks ℕ Xad) → Rises xt_scale low ms None → rises_from low (rows_of ms) ≡ true
rises low [] r = refl
rises low (Page n ∷ ms) r = rises low ms r
rises low (Key n k ∷ ms) r = rises_lower low k (rows_of ms) (leb-true low k r.0) (rises k ms r.1)
rises low (Row n e ∷ ms) r = ap (λ (b : Bool). if b then rises_from (end_of e) (rows_of ms) else false) r.0 ∙ rises (end_of e) ms r.1
rises low (Fault n f ∷ ms) r = absurd r

pub spelled_rises : (blocks : ℕ) (pages : ℕ → List ℕ) (root : List ℕ) (es : List Xad) → spells_extents blocks pages root ≡ Ok es → rises_from 0 es ≡ true
unfolding spells
spelled_rises blocks pages root es h =
    let j = judged xt_scale 0 (tree_of xt_scale (page_nodes blocks pages) (root_node blocks root)) es h in
    subst (λ (xs : List Xad). rises_from 0 xs ≡ true) j.1 (rises 0 (tree_of xt_scale (page_nodes blocks pages) (root_node blocks root)) j.0)

-- ---- what lies within the volume

pub one_within : (blocks : ℕ) (x : Xad) → is_within blocks x ≡ true → (1 ≤ x.at.len) × (x.at.addr + x.at.len ≤ blocks)
one_within blocks x h = let t = and_true (nat_le 1 x.at.len) (nat_le (x.at.addr + x.at.len) blocks) h in (leb-true 1 x.at.len t.0, leb-true (x.at.addr + x.at.len) blocks t.1)

pub within_long : (blocks : ℕ) (es : List Xad) → all_within blocks es ≡ true → AllLong es
within_long blocks [] h = tt
within_long blocks (x ∷ xs) h = let t = and_true (is_within blocks x) (all_within blocks xs) h in ((one_within blocks x t.0).0, within_long blocks xs t.1)

pub within_low : (blocks : ℕ) (es : List Xad) → all_within blocks es ≡ true → (b : ℕ) → 0 < covers b es → b < blocks
within_low blocks [] h b l = absurd (omega (arith, l))
within_low blocks (x ∷ xs) h b l = let t = and_true (is_within blocks x) (all_within blocks xs) h in by (nat_le x.at.addr b && nat_lt b (x.at.addr + x.at.len)) refl l (within_low blocks xs t.1 b) (one_within blocks x t.0).1
  where
    inside : (addr len b most : ℕ) → (nat_le addr b && nat_lt b (addr + len)) ≡ true → addr + len ≤ most → b < most
    inside addr len b most h l = grind (arith, nat_tests, h, l)

    by : (t : Bool) → (nat_le x.at.addr b && nat_lt b (x.at.addr + x.at.len)) ≡ t → 0 < (if t then 1 else 0) + covers b xs → (0 < covers b xs → b < blocks) → x.at.addr + x.at.len ≤ blocks → b < blocks
    by true e l rest w = inside x.at.addr x.at.len b blocks e w
    by false e l rest w = rest (omega (arith, l))

-- there is a bound behind them all
pub to_more : (low high : ℕ) (es : List Xad) → low ≤ high → AllTo low es → AllTo high es
to_more low high [] l h = tt
to_more low high (x ∷ xs) l h = ((let e = h.0 in omega (arith, e, l)), to_more low high xs l h.1)

pub bounded : (es : List Xad) (least : ℕ) → (bound : ℕ) × (least ≤ bound) × AllTo bound es
bounded [] least = (least, omega arith, tt)
bounded (x ∷ xs) least = let r = bounded xs (least + end_of x) in (r.0, (let l = r.1 in omega (arith, l)), ((let l = r.1 in omega (arith, l)), r.2))

-- a list that a tree spells isn't refused
pub never_wide : (blocks told : ℕ) (pages : ℕ → List ℕ) (root : List ℕ) (es seen : List Xad) (b : Bool) → told ≡ blocks → seen ≡ es → spells_extents blocks pages root ≡ Ok es → b ≡ all_within told seen → b ≡ false → ⊥
never_wide blocks told pages root es seen b same list h is off = cc (sym off ∙ is ∙ ap (λ (k : ℕ). all_within k seen) same ∙ ap (all_within blocks) list ∙ spelled_within blocks pages root es h)
