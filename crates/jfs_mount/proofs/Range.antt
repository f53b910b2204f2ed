-- The extents that a tree spells lie within the file system part, where those of each of its pages do.
use Rattle.std.proofs.Common.{◌≡◌, refl, ap, ◌∙◌, ℕ, zero, suc, Bool, true, false, ◌==◌, if◌then◌else◌, List, [], ◌∷◌, ◌++◌, Option, Some, None}
use Rattle.std.specs.List.{flat_map}
use Rattle.std.proofs.lemmas.Bool.{and_parts, and_from}
use Rattle.jfs_bits.specs.declared.extent.Xad.{Xad}
use Rattle.jfs_bits.specs.declared.rule.Rule.{Rule}
use Rattle.jfs_reader.specs.xtree.specs.Node.{all_within, is_within}
use Rattle.jfs_reader.specs.page_tree.specs.Walk.{Child, Node, Leaf, Inner, Broken, Marks, Scale, placed, under, body, walk, rows_of}
use Rattle.jfs_reader.specs.page_tree.specs.Spells.{no_page, with_root, levels_of, along_first, first_path, top, at_levels, tree_of}
use Rattle.jfs_reader.specs.page_tree.proofs.Frame.{rows-append}
use Rattle.jfs_reader.specs.page_tree.proofs.Leaves.{rows_leaf}

-- a leaf's extents lie within so many blocks
abbrev pub HasRows : ℕ → Node ℕ Xad → Type 0
HasRows blocks node = (es : List Xad) → node ≡ Leaf es → all_within blocks es ≡ true

abbrev AreWithin : ℕ → Marks ℕ Xad → Type 0
AreWithin blocks ms = all_within blocks (rows_of ms) ≡ true

join : (blocks : ℕ) (a b : List Xad) → all_within blocks a ≡ true → all_within blocks b ≡ true → all_within blocks (a ++ b) ≡ true
join blocks [] b e f = f
join blocks (x ∷ a) b e f = let p = and_parts (is_within blocks x) (all_within blocks a) e in and_from (is_within blocks x) (all_within blocks (a ++ b)) p.0 (join blocks a b p.1 f)

joined : (blocks : ℕ) (a b : Marks ℕ Xad) → AreWithin blocks a → AreWithin blocks b → AreWithin blocks (a ++ b)
joined blocks a b e f = ap (all_within blocks) (rows-append a b) ∙ join blocks (rows_of a) (rows_of b) e f

module _ (blocks : ℕ) (s : Scale ℕ Xad) where
  kids : (f : Child ℕ → Marks ℕ Xad) (cs : List (Child ℕ)) → ((d : Child ℕ) → AreWithin blocks (f d)) → AreWithin blocks (flat_map f cs)
  kids f [] h = refl
  kids f (c ∷ cs) h = joined blocks (f c) (flat_map f cs) (h c) (kids f cs h)

  in_body : (f : Child ℕ → Marks ℕ Xad) (c : Child ℕ) (node : Node ℕ Xad) → HasRows blocks node → ((d : Child ℕ) → AreWithin blocks (f d)) → AreWithin blocks (body f c node)
  in_body f c (Leaf es) has h = ap (all_within blocks) (rows_leaf ℕ c.page es) ∙ has es refl
  in_body f c (Inner cs) has h = kids f (under c.key cs) h
  in_body f c (Broken rule) has h = refl

  no_rows : (rule : Rule) → HasRows blocks (Broken rule)
  no_rows rule es e = cc e

  none_inner : (cs : List (Child ℕ)) → HasRows blocks (Inner cs)
  none_inner cs es e = cc e

  fits : (b : Bool) (node : Node ℕ Xad) (rule : Rule) → HasRows blocks node → HasRows blocks (if b then node else Broken rule)
  fits true node rule has = has
  fits false node rule has = no_rows rule

  placed_has : (below key : ℕ) (node : Node ℕ Xad) → HasRows blocks node → HasRows blocks (placed s below key node)
  placed_has zero key (Leaf []) has = no_rows _
  placed_has zero key (Leaf (e ∷ es)) has = fits (s.fits key e) (Leaf (e ∷ es)) _ has
  placed_has zero key (Inner cs) has = no_rows _
  placed_has zero key (Broken rule) has = no_rows rule
  placed_has (suc below) key (Leaf es) has = no_rows _
  placed_has (suc below) key (Inner []) has = no_rows _
  placed_has (suc below) key (Inner (c ∷ cs)) has = none_inner (c ∷ cs)
  placed_has (suc below) key (Broken rule) has = no_rows rule

  module _ (nodes : ℕ → Node ℕ Xad) (has : (m : ℕ) → HasRows blocks (nodes m)) where
    in_walk : (levels : ℕ) (c : Child ℕ) → AreWithin blocks (walk s nodes levels c)
    unfolding walk
    in_walk zero c = refl
    in_walk (suc below) c = in_body (walk s nodes below) c (placed s below c.key (nodes c.page)) (placed_has below c.key (nodes c.page) (has c.page)) (in_walk below)

    along : (f : ℕ → Marks ℕ Xad) (node : Node ℕ Xad) → ((page : ℕ) → AreWithin blocks (f page)) → AreWithin blocks (along_first f node)
    along f (Leaf es) h = refl
    along f (Inner []) h = refl
    along f (Inner (c ∷ cs)) h = h c.page
    along f (Broken rule) h = refl

    in_path : (most page : ℕ) → AreWithin blocks (first_path nodes most page)
    unfolding first_path
    in_path zero page = refl
    in_path (suc most) page = along (first_path nodes most) (nodes page) (in_path most)

    in_levels : (o : Option ℕ) → AreWithin blocks (at_levels s nodes o)
    in_levels (Some levels) = in_walk levels (top s)
    in_levels None = in_path 8 no_page

  module _ (pages : ℕ → Node ℕ Xad) (all : (m : ℕ) → HasRows blocks (pages m)) where
    root_has : (root : Node ℕ Xad) → HasRows blocks root → (m : ℕ) → HasRows blocks (with_root root pages m)
    root_has root has m = by (m == no_page)
      where
        by : (b : Bool) → HasRows blocks (if b then root else pages m)
        by true = has
        by false = all m

    in_whole : (root : Node ℕ Xad) → HasRows blocks root → AreWithin blocks (at_levels s (with_root root pages) (levels_of (with_root root pages) 8 no_page))
    in_whole root has = in_levels (with_root root pages) (root_has root has) (levels_of (with_root root pages) 8 no_page)

    pub tree_rows : (root : Node ℕ Xad) → HasRows blocks root → all_within blocks (rows_of (tree_of s pages root)) ≡ true
    tree_rows (Leaf []) has = refl
    tree_rows (Leaf (e ∷ es)) has = in_whole (Leaf (e ∷ es)) has
    tree_rows (Inner cs) has = in_whole (Inner cs) has
    tree_rows (Broken rule) has = in_whole (Broken rule) has
