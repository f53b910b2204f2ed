-- What a leaf, a line of pages and a whole tree hold, as it is counted.
use Rattle.std.proofs.Common.{◌≡◌, refl, sym, ap, ◌∙◌, subst, ℕ, suc, ◌+◌, ◌<◌, ◌≤◌, Bool, true, false, if◌then◌else◌, List, [], ◌∷◌, ◌++◌, length, get_or, take, Some, Result, Ok, Err, arith}
use Rattle.std.specs.Prelude.{slice_get, OnOk}
use Rattle.std.proofs.lemmas.List.{take_more}
use Rattle.std.proofs.lemmas.Option.{slice_get_within, get_or_from_slice_get}
use Rattle.jfs_bits.specs.declared.extent.Xad.{Xad}
use Rattle.jfs_bits.specs.declared.rule.Rule.{Rule}
use Rattle.jfs_inode.specs.declared.fields.Dinode.{Dinode}
use Rattle.jfs_ranges.specs.declared.view.ViewError.{ViewError}
use Rattle.jfs_tree.specs.Walk.{Node, Marks}
use Rattle.jfs_tree.specs.Spells.{no_page, with_root, tree_of, spells}
use Rattle.jfs_tree.specs.Levels.{level}
use Rattle.jfs_tree.specs.Form.{AllBelow}
use Rattle.jfs_tree.proofs.Judge.{judged}
use Rattle.jfs_tree.proofs.Tops.{root_else}
use Rattle.jfs_xtpage.specs.declared.head.XtForm.TheVariants as forms
use Rattle.jfs_xtree.specs.Node.{xt_scale, xt_node}
use Rattle.jfs_xtree.specs.Spells.{page_nodes}
use Rattle.jfs_owners.specs.objects.specs.Objects.{met, listed, has_extents, extents_of}
use Rattle.jfs_owners.specs.objects.specs.Owners.{covers, run_has, unless_broken, entries}
use Rattle.jfs_owners.specs.meaning.specs.Readers.{readers, root_of}
use Rattle.jfs_owners.specs.Counts.{OwnerSets, Adds, page_has}
use Rattle.jfs_owners.specs.Held.{extents_held}
use Rattle.jfs_owners.proofs.Counted.{adds_same, adds_both, adds_no_page}
use Rattle.jfs_object_check.specs.Lines.{rows_have, page_holds, line_has, levels_have, tree_nodes}
use Rattle.jfs_object_check.proofs.Beside.{root_level}
use Rattle.jfs_object_check.proofs.Bottom.{levels_held}

-- ---- extent by extent

covers_both : (b : ℕ) (xs ys : List Xad) → covers b (xs ++ ys) ≡ covers b xs + covers b ys
covers_both b [] ys = omega arith
covers_both b (x ∷ xs) ys = let r = covers_both b xs ys in omega (arith, r)

pub row_more : (rows : List Xad) (i : ℕ) (x : Xad) (o p w : OwnerSets) → slice_get rows i ≡ Some x → Adds (λ b. covers b (take i rows)) o p → Adds (run_has x.at) p w → Adds (λ b. covers b (take (i + 1) rows)) o w
row_more rows i x o p w at h a = adds_both (λ b. covers b (take i rows)) (run_has x.at) (λ b. covers b (take (i + 1) rows)) o p w h a (λ b.
    (let e = ap (covers b) (take_more rows i x (slice_get_within rows i x at) ∙ ap (λ y. take i rows ++ y ∷ []) (get_or_from_slice_get rows i x x at)) in
    let f = covers_both b (take i rows) (x ∷ []) in omega (arith, e, f)))

-- ---- page by page

line_both : (nodes : ℕ → Node ℕ Xad) (b : ℕ) (xs ys : List ℕ) → line_has nodes (xs ++ ys) b ≡ line_has nodes xs b + line_has nodes ys b
line_both nodes b [] ys = omega arith
line_both nodes b (x ∷ xs) ys = let r = line_both nodes b xs ys in omega (arith, r)

pub page_more : (nodes : ℕ → Node ℕ Xad) (line : List ℕ) (i page : ℕ) (o p w : OwnerSets) → i < length line → page ≡ get_or line i 0 → Adds (line_has nodes (take i line)) o p → Adds (page_holds nodes page) p w
    → Adds (line_has nodes (take (i + 1) line)) o w
page_more nodes line i page o p w l at h a = adds_both (line_has nodes (take i line)) (page_holds nodes page) (line_has nodes (take (i + 1) line)) o p w h a (λ b.
    (let e = ap (λ ns. line_has nodes ns b) (take_more line i 0 l ∙ ap (λ y. take i line ++ y ∷ []) (sym at)) in
    let f = line_both nodes b (take i line) (page ∷ []) in omega (arith, e, f)))

-- ---- level by level

-- the root is no page
pub root_adds : (nodes : ℕ → Node ℕ Xad) (o w : OwnerSets) → Adds (rows_have (nodes no_page)) o w → Adds (levels_have nodes 1) o w
unfolding levels_have
root_adds nodes o w h = adds_both (page_has no_page) (rows_have (nodes no_page)) (levels_have nodes 1) o o w (adds_no_page o no_page refl) h (λ b.
    (let e = ap (λ ns. line_has nodes ns b) (root_level nodes) in omega (arith, e)))

module _ (root : Node ℕ Xad) (pages : ℕ → Node ℕ Xad) (most : ℕ) (w : most ≤ no_page) where
  line_on_tree : (b : ℕ) (line : List ℕ) → AllBelow most line → line_has pages line b ≡ line_has (with_root root pages) line b
  line_on_tree b [] h = refl
  line_on_tree b (n ∷ line) h =
      let less = h.0 in
      let e = ap (λ (node : Node ℕ Xad). rows_have node b) (root_else root pages n (λ e. absurd (omega (arith, e, less, w)))) in
      let r = line_on_tree b line h.1 in omega (arith, e, r)

  pub level_adds : (d e : ℕ) (line : List ℕ) (o p q : OwnerSets) → AllBelow most line → line ≡ level (with_root root pages) d → e ≡ suc d → Adds (levels_have (with_root root pages) d) o p → Adds (line_has pages line) p q
      → Adds (levels_have (with_root root pages) e) o q
  unfolding levels_have
  level_adds d e line o p q below is next h a =
      let nodes = with_root root pages in
      subst (λ k. Adds (levels_have nodes k) o q) (sym next) (adds_both (levels_have nodes d) (line_has pages line) (levels_have nodes (suc d)) o p q h a (λ b.
      (let r = line_on_tree b line below in let f = ap (λ ns. line_has nodes ns b) is in omega (arith, r, f))))

-- ---- the whole tree

module _ (blocks : ℕ) (page : ℕ → List ℕ) (d : Dinode) (has : has_extents d ≡ true) (es : List Xad) (sound : listed xt_scale (extents_of (readers blocks) page d) ≡ Ok es) where
  tree_held : (b : ℕ) → levels_have (tree_nodes blocks page (root_of d)) 8 b ≡ extents_held (extents_of (readers blocks) page d) b
  unfolding spells
  tree_held b = by (has_extents d) has sound
    where
      ms : Marks ℕ Xad
      ms = tree_of xt_scale (page_nodes blocks page) (xt_node forms.Root blocks (root_of d))

      as_listed : (l : Result (List Xad) (ℕ × Rule)) (n : ℕ) → l ≡ Ok es → n + covers b es ≡ unless_broken l n + covers b (entries l)
      as_listed l n e = rw e refl

      by : (t : Bool) → t ≡ true → listed xt_scale (if t then ms else []) ≡ Ok es → levels_have (tree_nodes blocks page (root_of d)) 8 b ≡ extents_held (if t then ms else []) b
      by true e h =
          levels_held xt_scale (page_nodes blocks page) (xt_node forms.Root blocks (root_of d)) es b h ∙ ap (λ rows. met ms b + covers b rows) (judged xt_scale 0 ms es h).1 ∙ as_listed (listed xt_scale ms) (met ms b) h
      by false e h = absurd (cc e)

  pub tree_adds : {T : Type 0} (root : List ℕ) (r : Result T ViewError) (o w : OwnerSets) → root ≡ root_of d → OnOk r (Adds (levels_have (tree_nodes blocks page root) 8) o w)
      → OnOk r (Adds (extents_held (extents_of (readers blocks) page d)) o w)
  tree_adds root (Ok it) o w is h = adds_same (levels_have (tree_nodes blocks page (root_of d)) 8) (extents_held (extents_of (readers blocks) page d)) o w tree_held (subst (λ k. Adds (levels_have (tree_nodes blocks page k) 8) o w) is h)
  tree_adds root (Err e) o w is h = tt
