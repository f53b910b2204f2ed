-- An inner page whose first key is made empty, and what the directory's tree says of it.
use Rattle.std.proofs.Common.{◌≡◌, refl, sym, ap, ◌∙◌, subst, ℕ, true, false, List, [], ◌∷◌, map, Some, None}
use Rattle.std.specs.List.{list_all}
use Rattle.std.specs.Ordering.{is_lt, nat_cmp}
use Rattle.std.specs.Cmp.Lexicographic.{slice_cmp}
use Rattle.std.proofs.lemmas.Option.{same_Some}
use Rattle.jfs_disk.specs.Image.{Image, page_of}
use Rattle.jfs_bits.specs.declared.descriptor.Pxd.{Pxd}
use Rattle.jfs_bits.specs.declared.rule.Rule.{Rule}
use Rattle.jfs_name.specs.declared.name.NameEntry.{NameEntry}
use Rattle.jfs_ranges.specs.declared.edit.Edit.{Edit}
use Rattle.jfs_dtpage.specs.declared.head.DtForm.{DtForm}
use Rattle.jfs_dtpage.specs.declared.head.DtForm.TheVariants.{Root, Full}
use Rattle.jfs_dtpage.specs.Form.{is_leaf, KeepsHead}
use Rattle.jfs_dtpage.specs.Page.{Entry, Below, entries_of, IsDtPage}
use Rattle.jfs_tree.specs.Walk.{Child, Node, Leaf, Inner, Broken, under}
use Rattle.jfs_tree.specs.Edit.{IsCons}
use Rattle.jfs_tree.specs.Fresh.{after_tx}
use Rattle.jfs_tree.specs.Leftmost.{LowersFirst, LeastDown, StaysLeftmost, lowest}
use Rattle.jfs_dtree.specs.Leftmost.{HasEmptyFirstKeys, KeepsEmptyFirstKeys}
use Rattle.jfs_dtree.specs.Node.{name_scale, named, below, child_within, dt_node}
use Rattle.jfs_dtree.specs.Parts.{lowered}
use Rattle.jfs_dtree.specs.Place.{IsChildAt}
use Rattle.jfs_dtree.specs.Spells.{root_node, page_nodes}
use Rattle.jfs_dtree.proofs.Losses.{kind_kept}
use Rattle.jfs_dtree.proofs.Nodes.{leaf_read, inner_read}

-- ---- a page

-- the entries before and after
record EmptiesFirst (blocks : ℕ) (old new : List Entry) (page : ℕ) : Type 0 where
  first : Child (List ℕ)
  rest : List (Child (List ℕ))
  was : map below old ≡ first ∷ rest
  is : map below new ≡ under [] (first ∷ rest)
  to : page ≡ first.page
  within : list_all (child_within blocks) new ≡ true
  some : IsCons new

not_below_none : (key : List ℕ) → is_lt (slice_cmp nat_cmp key []) ≡ false
not_below_none [] = refl
not_below_none (x ∷ key) = refl

first_low : (at : Pxd) (key : List ℕ) (es : List Entry) → lowered [] (Below at key ∷ es) ≡ Below at [] ∷ es
first_low at key es = rw (not_below_none key) refl

empties : (blocks : ℕ) (old new : List Entry) (page : ℕ) → list_all (child_within blocks) old ≡ true → IsChildAt old 0 page → new ≡ lowered [] old → EmptiesFirst blocks old new page
empties blocks [] new page within (at, key, is, to) low = absurd cc
empties blocks (e ∷ es) new page within (at, key, is, to) low =
    let one = same_Some e (Below at key) is in
    let now : new ≡ Below at [] ∷ es = low ∙ ap (λ (d : Entry). lowered [] (d ∷ es)) one ∙ first_low at key es in
    record {
      first = below (Below at key);
      rest = map below es;
      was = ap (λ (d : Entry). below d ∷ map below es) one;
      is = ap (map below) now;
      to = to;
      within = ap (list_all (child_within blocks)) now ∙ subst (λ (d : Entry). list_all (child_within blocks) (d ∷ es) ≡ true) one within;
      some = subst IsCons (sym now) tt;
    }

pub first_emptied : (form : DtForm) (blocks page : ℕ) (old new : List ℕ) → IsDtPage form old → is_leaf old ≡ false → list_all (child_within blocks) (entries_of form old) ≡ true → IsCons (entries_of form old) → IsChildAt (entries_of form old) 0 page
    → IsDtPage form new → KeepsHead form old new → entries_of form new ≡ lowered [] (entries_of form old) → LowersFirst name_scale (dt_node form blocks old) (dt_node form blocks new) (Some page)
first_emptied form blocks page old new sound kind within some at now head entries =
    let e = empties blocks (entries_of form old) (entries_of form new) page within at entries in
    let was : dt_node form blocks old ≡ Inner (e.first ∷ e.rest) = inner_read form blocks old sound kind within some ∙ ap Inner e.was in
    (e.first, e.rest, was, inner_read form blocks new now (kind_kept form old new false head kind) e.within e.some ∙ ap Inner e.is ∙ ap (lowest name_scale) (sym was), e.to)

no_inner : (es : List NameEntry) (cs : List (Child (List ℕ))) → ◌≡◌ {A = Node (List ℕ) NameEntry} (Leaf es) (Inner cs) → ⊥
no_inner es cs e = cc

not_broken : (rule : Rule) (cs : List (Child (List ℕ))) → ◌≡◌ {A = Node (List ℕ) NameEntry} (Broken rule) (Inner cs) → ⊥
not_broken rule cs e = cc

-- a leaf, and a page that breaks a rule, stay as they are
pub leaf_stays : (form : DtForm) (blocks : ℕ) (bytes : List ℕ) → IsDtPage form bytes → is_leaf bytes ≡ true → LowersFirst name_scale (dt_node form blocks bytes) (dt_node form blocks bytes) None
leaf_stays form blocks bytes sound kind = (refl, λ c cs is. no_inner (map named (entries_of form bytes)) (c ∷ cs) (sym (leaf_read form blocks bytes sound kind) ∙ is))

pub broken_stays : (form : DtForm) (blocks : ℕ) (bytes : List ℕ) (rule : Rule) → dt_node form blocks bytes ≡ Broken rule → LowersFirst name_scale (dt_node form blocks bytes) (dt_node form blocks bytes) None
broken_stays form blocks bytes rule broken = (refl, λ c cs is. not_broken rule (c ∷ cs) (sym broken ∙ is))

-- ---- a directory

pub left_as : (b blocks : ℕ) (image : Image) (root mid after : List ℕ) (tx later : List Edit) → b ≡ blocks → ((k : ℕ) → dt_node Root k after ≡ dt_node Root k mid)
    → StaysLeftmost name_scale (dt_node Full b) blocks (page_of image) (dt_node Root b root) (dt_node Root b mid) tx later → KeepsEmptyFirstKeys blocks (page_of image) root after tx later
left_as b blocks image root mid after tx later eb same stays h base leads =
    let told = subst (λ n. StaysLeftmost name_scale (dt_node Full n) blocks (page_of image) (dt_node Root n root) (dt_node Root n mid) tx later) eb stays in
    subst (LeastDown name_scale (page_nodes blocks (after_tx base later)) 8) (sym (same blocks)) (told h base leads)

pub leaf_left : (blocks : ℕ) (pages : ℕ → List ℕ) (root : List ℕ) → root_node blocks root ≡ Leaf [] → HasEmptyFirstKeys blocks pages root
unfolding LeastDown
leaf_left blocks pages root is = subst (LeastDown name_scale (page_nodes blocks pages) 8) (sym is) tt
