-- What a tree of extents spells lies within the blocks of the file system part.
use Rattle.std.proofs.Common.{◌≡◌, ◌<◌, refl, subst, ap, ◌∙◌, ℕ, zero, suc, ◌+◌, ◌-◌, Bool, true, false, ◌&&◌, ◌==◌, if◌then◌else◌, List, [], ◌∷◌, ◌++◌, Option, Some, None, Result, Ok, Err, arith}
use Rattle.std.specs.Prelude.{nat_le, nat_lt}
use Rattle.std.specs.Int.RustNames.{bit_and}
use Rattle.std.specs.List.{flat_map}
use Rattle.std.proofs.lemmas.Bool.{leb-true}
use Rattle.std.proofs.lemmas.Bool.Decides.{nat_tests}
use Rattle.jfs_bits.specs.declared.extent.Xad.{Xad}
use Rattle.jfs_bits.specs.declared.rule.Rule.{Rule}
use Rattle.jfs_xtpage.specs.declared.head.XtForm.{XtForm}
use Rattle.jfs_xtpage.specs.declared.head.XtForm.TheVariants.{Root, Full}
use Rattle.jfs_owners.specs.page_tree.specs.Walk.{Child, Node, Leaf, Inner, Broken, Marks, Scale, placed, under, body, walk, rows_of}
use Rattle.jfs_owners.specs.page_tree.specs.Spells.{no_page, with_root, levels_of, along_first, first_path, top, at_levels, tree_of, judge}
use Rattle.jfs_owners.specs.page_tree.proofs.Frame.{rows-append}
use Rattle.jfs_owners.specs.page_tree.proofs.Leaves.{rows_leaf}
use Rattle.jfs_owners.specs.page_tree.proofs.Judge.{judged}
use Rattle.jfs_xtree.specs.Node.{xt_scale, xt_node, is_within, all_within}
use Rattle.jfs_xtree.proofs.Reading.{and_true, leaf_is}
use Rattle.jfs_reader.specs.objects.specs.Owners.{entries}
use Rattle.jfs_reader.specs.objects.specs.Objects.{listed}
use Rattle.jfs_reader.specs.objects.specs.Contents.{block_in, block_of}
use Rattle.jfs_reader.specs.objects.specs.Image.{file_extents, file_walk, aggregate_at}
use Rattle.jfs_reader.specs.meaning.specs.Readers.{readers, root_of}

both : (a b : Bool) → a ≡ true → b ≡ true → (a && b) ≡ true
both a b e f = rw (e, f) refl

within_append : (blocks : ℕ) (a b : List Xad) → all_within blocks a ≡ true → all_within blocks b ≡ true → all_within blocks (a ++ b) ≡ true
within_append blocks [] b h k = k
within_append blocks (x ∷ a) b h k = let t = and_true (is_within blocks x) (all_within blocks a) h in both (is_within blocks x) (all_within blocks (a ++ b)) t.0 (within_append blocks a b t.1 k)

-- a page whose extents lie within the blocks, if it is a leaf
abbrev Good : ℕ → Node ℕ Xad → Type 0
Good blocks node = (es : List Xad) → node ≡ Leaf es → all_within blocks es ≡ true

abbrev RowsGood : ℕ → Marks ℕ Xad → Type 0
RowsGood blocks ms = all_within blocks (rows_of ms) ≡ true

kids : (blocks : ℕ) (f : Child ℕ → Marks ℕ Xad) (cs : List (Child ℕ)) → ((d : Child ℕ) → RowsGood blocks (f d)) → RowsGood blocks (flat_map f cs)
kids blocks f [] h = refl
kids blocks f (c ∷ cs) h = ap (all_within blocks) (rows-append (f c) (flat_map f cs)) ∙ within_append blocks (rows_of (f c)) (rows_of (flat_map f cs)) (h c) (kids blocks f cs h)

body_good : (blocks : ℕ) (f : Child ℕ → Marks ℕ Xad) (c : Child ℕ) (node : Node ℕ Xad) → Good blocks node → ((d : Child ℕ) → RowsGood blocks (f d)) → RowsGood blocks (body f c node)
body_good blocks f c (Leaf es) g h = ap (all_within blocks) (rows_leaf ℕ c.page es) ∙ g es refl
body_good blocks f c (Inner cs) g h = kids blocks f (under c.key cs) h
body_good blocks f c (Broken rule) g h = refl

broken_good : (blocks : ℕ) (rule : Rule) → (let b : Node ℕ Xad = Broken rule in Good blocks b)
broken_good blocks rule = λ es e. absurd cc

inner_good : (blocks : ℕ) (cs : List (Child ℕ)) → (let b : Node ℕ Xad = Inner cs in Good blocks b)
inner_good blocks cs = λ es e. absurd cc

fits_good : (blocks : ℕ) (b : Bool) (node : Node ℕ Xad) (rule : Rule) → Good blocks node → Good blocks (if b then node else Broken rule)
fits_good blocks true node rule g = g
fits_good blocks false node rule g = broken_good blocks rule

placed_good : (s : Scale ℕ Xad) (blocks below : ℕ) (key : ℕ) (node : Node ℕ Xad) → Good blocks node → Good blocks (placed s below key node)
placed_good s blocks zero key (Leaf []) g = broken_good blocks _
placed_good s blocks zero key (Leaf (e ∷ es)) g = fits_good blocks (s.fits key e) (Leaf (e ∷ es)) _ g
placed_good s blocks zero key (Inner cs) g = broken_good blocks _
placed_good s blocks zero key (Broken rule) g = broken_good blocks rule
placed_good s blocks (suc below) key (Leaf es) g = broken_good blocks _
placed_good s blocks (suc below) key (Inner []) g = broken_good blocks _
placed_good s blocks (suc below) key (Inner (c ∷ cs)) g = inner_good blocks (c ∷ cs)
placed_good s blocks (suc below) key (Broken rule) g = broken_good blocks rule

walk_good : (s : Scale ℕ Xad) (nodes : ℕ → Node ℕ Xad) (blocks : ℕ) → ((m : ℕ) → Good blocks (nodes m)) → (levels : ℕ) (c : Child ℕ) → RowsGood blocks (walk s nodes levels c)
unfolding walk
walk_good s nodes blocks g zero c = refl
walk_good s nodes blocks g (suc below) c = body_good blocks (walk s nodes below) c (placed s below c.key (nodes c.page)) (placed_good s blocks below c.key (nodes c.page) (g c.page)) (walk_good s nodes blocks g below)

along_good : (blocks : ℕ) (f : ℕ → Marks ℕ Xad) (node : Node ℕ Xad) → ((page : ℕ) → RowsGood blocks (f page)) → RowsGood blocks (along_first f node)
along_good blocks f (Leaf es) h = refl
along_good blocks f (Inner []) h = refl
along_good blocks f (Inner (c ∷ cs)) h = h c.page
along_good blocks f (Broken rule) h = refl

path_good : (nodes : ℕ → Node ℕ Xad) (blocks : ℕ) (most page : ℕ) → RowsGood blocks (first_path nodes most page)
unfolding first_path
path_good nodes blocks zero page = refl
path_good nodes blocks (suc most) page = along_good blocks (first_path nodes most) (nodes page) (path_good nodes blocks most)

levels_good : (s : Scale ℕ Xad) (nodes : ℕ → Node ℕ Xad) (blocks : ℕ) → ((m : ℕ) → Good blocks (nodes m)) → (o : Option ℕ) → RowsGood blocks (at_levels s nodes o)
levels_good s nodes blocks g (Some levels) = walk_good s nodes blocks g levels (top s)
levels_good s nodes blocks g None = path_good nodes blocks 8 no_page

root_good : (blocks : ℕ) (root : Node ℕ Xad) (pages : ℕ → Node ℕ Xad) → Good blocks root → ((m : ℕ) → Good blocks (pages m)) → (m : ℕ) → Good blocks (with_root root pages m)
root_good blocks root pages g all m = by (m == no_page)
  where
    by : (b : Bool) → Good blocks (if b then root else pages m)
    by true = g
    by false = all m

tree_good : (s : Scale ℕ Xad) (pages : ℕ → Node ℕ Xad) (root : Node ℕ Xad) (blocks : ℕ) → Good blocks root → ((m : ℕ) → Good blocks (pages m)) → RowsGood blocks (tree_of s pages root)
tree_good s pages (Leaf []) blocks g all = refl
tree_good s pages (Leaf (e ∷ es)) blocks g all = levels_good s (with_root (Leaf (e ∷ es)) pages) blocks (root_good blocks (Leaf (e ∷ es)) pages g all) (levels_of (with_root (Leaf (e ∷ es)) pages) 8 no_page)
tree_good s pages (Inner cs) blocks g all = levels_good s (with_root (Inner cs) pages) blocks (root_good blocks (Inner cs) pages g all) (levels_of (with_root (Inner cs) pages) 8 no_page)
tree_good s pages (Broken rule) blocks g all = levels_good s (with_root (Broken rule) pages) blocks (root_good blocks (Broken rule) pages g all) (levels_of (with_root (Broken rule) pages) 8 no_page)

page_good : (form : XtForm) (blocks : ℕ) (bytes : List ℕ) → Good blocks (xt_node form blocks bytes)
page_good form blocks bytes es e = let t = leaf_is form blocks bytes es e in subst (λ (xs : List Xad). all_within blocks xs ≡ true) t.2 t.0.range

entries_good : (s : Scale ℕ Xad) (blocks : ℕ) (ms : Marks ℕ Xad) → RowsGood blocks ms → all_within blocks (entries (listed s ms)) ≡ true
entries_good s blocks ms g = by (judge s s.least ms) refl
  where
    by : (r : Result (List Xad) (ℕ × Rule)) → judge s s.least ms ≡ r → all_within blocks (entries r) ≡ true
    by (Ok es) e = subst (λ (xs : List Xad). all_within blocks xs ≡ true) (judged s s.least ms es e).1 g
    by (Err fault) e = refl

-- the extents of a file of the aggregate
pub file_within : (blocks : ℕ) (page : ℕ → List ℕ) (k : ℕ) → all_within blocks (file_extents (readers blocks) page k) ≡ true
file_within blocks page k =
    entries_good xt_scale blocks (file_walk (readers blocks) page k)
    (tree_good xt_scale (λ b. xt_node Full blocks (page b)) (xt_node Root blocks (root_of (aggregate_at page k))) blocks (page_good Root blocks (root_of (aggregate_at page k))) (λ m. page_good Full blocks (page m)))

-- a block that extents name
some_is : (a b : ℕ) → Some a ≡ Some b → a ≡ b
some_is a b e = cc

in_extent : (blocks : ℕ) (e : Xad) (k b : ℕ) → is_within blocks e ≡ true → (nat_le e.offset k && nat_lt k (e.offset + e.at.len)) ≡ true → block_in e k ≡ Some b → b < blocks
in_extent blocks e k b w h is = by (bit_and e.flag 0x08 == 0x08) is
  where
    by : (t : Bool) → (if t then None else Some (e.at.addr + (k - e.offset))) ≡ Some b → b < blocks
    by true is = absurd cc
    by false is =
        let a = and_true (nat_le 1 e.at.len) (nat_le (e.at.addr + e.at.len) blocks) w in
        let c = and_true (nat_le e.offset k) (nat_lt k (e.offset + e.at.len)) h in
        let last = leb-true (e.at.addr + e.at.len) blocks a.1 in
        let first = leb-true e.offset k c.0 in
        let past = ltb_is k (e.offset + e.at.len) c.1 in
        let at = some_is (e.at.addr + (k - e.offset)) b is in
        omega (arith, last, first, past, at)
      where
        ltb_is : (a b : ℕ) → nat_lt a b ≡ true → a < b
        ltb_is a b e = grind (arith, nat_tests)

pub block_within : (blocks : ℕ) (es : List Xad) (k b : ℕ) → all_within blocks es ≡ true → block_of es k ≡ Some b → b < blocks
block_within blocks [] k b w is = absurd cc
block_within blocks (e ∷ es) k b w is = let t = and_true (is_within blocks e) (all_within blocks es) w in by t.0 (nat_le e.offset k && nat_lt k (e.offset + e.at.len)) refl is (block_within blocks es k b t.1)
  where
    by : is_within blocks e ≡ true → (h : Bool) → (nat_le e.offset k && nat_lt k (e.offset + e.at.len)) ≡ h → (if h then block_in e k else block_of es k) ≡ Some b → (block_of es k ≡ Some b → b < blocks) → b < blocks
    by here true h is rest = in_extent blocks e k b here h is
    by here false h is rest = rest is
