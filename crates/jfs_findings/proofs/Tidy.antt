-- A consistent volume that is tidy is sound.
use Rattle.std.proofs.Common.{◌≡◌, ◌≢◌, ◌≤◌, ◌<◌, inl, inr, refl, sym, ap, ◌∙◌, subst, ℕ, zero, suc, ◌==◌, Bool, true, false, not, List, [], ◌∷◌, ◌++◌, Option, Some, None, is_some, option_map, arith}
use Rattle.std.specs.Prelude.{cond}
use Rattle.std.specs.declared.result.Result.{Result}
use Rattle.std.proofs.lemmas.Bool.{cases_lt, eq-eqb, ne_eqb, and_from}
use Rattle.std.proofs.lemmas.Bool.Decides.{nat_tests}
use Rattle.std.proofs.lemmas.List.Sums.{sum_by-cons}
use Rattle.jfs_bits.specs.declared.rule.Rule.{Rule}
use Rattle.jfs_name.specs.declared.name.NameEntry.{NameEntry}
use Rattle.jfs_mount.specs.plain.specs.Tree.{root}
use Rattle.jfs_mount.specs.plain.specs.declared.node.Node.{Node}
use Rattle.jfs_mount.specs.page_tree.specs.Walk.{Marks, Page, Key, Row, Fault, rows_of}
use Rattle.jfs_mount.specs.page_tree.proofs.Judge.{judged}
use Rattle.jfs_mount.specs.objects.specs.Objects.{Object, has_names}
use Rattle.jfs_mount.specs.objects.specs.Changes.{put}
use Rattle.jfs_mount.specs.objects.specs.Owners.{bit, entries, sum_below}
use Rattle.jfs_mount.specs.objects.proofs.Owned.{outside}
use Rattle.jfs_mount.specs.objects.proofs.Sums.{eq_or_not, sum_put, sum_zero, put_here, put_other}
use Rattle.jfs_mount.specs.meaning.specs.Node.{node_in}
use Rattle.jfs_mount.specs.meaning.specs.Consistent.{is_reserved, leading_to, names_in, names_for, names_to, links_due, IsConsistent}
use Rattle.jfs_mount.specs.Subject.{Subject, volume, object}
use Rattle.jfs_findings.specs.Names.{readable, readable_node, most, leads, StandsAt, HasOneName}
use Rattle.jfs_findings.specs.Clean.{IsSoundVolume, IsTidy}
use Rattle.jfs_findings.specs.Laws.{ConsistentLaw}
use Rattle.jfs_mount.specs.Subject.{subject_of}
use Rattle.jfs_findings.proofs.Consistent.{consistent, tidy}
use Rattle.jfs_findings.proofs.Readable.{file_tree, same_nodes, kind_is, same_for, same_counts, same_links}

-- an entry that stands on a walk is counted
from_front : (front back : Marks (List ℕ) NameEntry) (page : ℕ) (e : NameEntry) → 0 < leading_to e.inode (rows_of (front ++ Row page e ∷ back))
from_front [] back page e =
    let c = sum_by-cons (λ (x : NameEntry). cond (x.inode == e.inode) 1 0) e (rows_of back) in
    let one : (let n : ℕ = cond (e.inode == e.inode) 1 0 in n) ≡ 1 = ap (λ (b : Bool). let n : ℕ = cond b 1 0 in n) (eq-eqb e.inode e.inode refl) in
    omega (arith, c, one)
from_front (Page n ∷ front) back page e = from_front front back page e
from_front (Key n k ∷ front) back page e = from_front front back page e
from_front (Fault n r ∷ front) back page e = from_front front back page e
from_front (Row n x ∷ front) back page e =
    let c = sum_by-cons (λ (y : NameEntry). cond (y.inode == e.inode) 1 0) x (rows_of (front ++ Row page e ∷ back)) in
    let more = from_front front back page e in
    omega (arith, c, more)

-- a sum of which one part is 1 and the others are 0
one_part : (n : ℕ) (f : ℕ → ℕ) (m : ℕ) → m < n → f m ≡ 1 → ((k : ℕ) → k ≢ m → f k ≡ 0) → sum_below n f ≡ 1
one_part n f m l here others =
    let changed = sum_put n f (put m 0 f) m l (λ k _ h. put_other m 0 f k h) in
    let there = put_here m 0 f in
    let none = sum_zero n (put m 0 f) (λ k. elim (eq_or_not k m) [ inl e ↦ ap (put m 0 f) e ∙ put_here m 0 f | inr h ↦ put_other m 0 f k h ∙ others k h ]) in
    omega (arith, changed, there, none, here)

from_four : (n : ℕ) → 4 ≤ n → is_reserved n ≡ false
from_four n l = grind (arith, nat_tests)

four_on : (n : ℕ) → is_reserved n ≡ false → n ≢ root → 4 ≤ n
four_on zero h other = absurd (cc h)
four_on (suc zero) h other = absurd (cc h)
four_on (suc (suc zero)) h other = absurd (other refl)
four_on (suc (suc (suc zero))) h other = absurd (cc h)
four_on (suc (suc (suc (suc n)))) h other = omega arith

module _ (s : Subject) (c : IsConsistent s.readers (volume s)) (t : IsTidy s) where
  nodes_are : (n : ℕ) → (file_tree s).nodes n ≡ (readable s).nodes n
  nodes_are = same_nodes s c.sound.whole

  node_is : (n : ℕ) (o : Object) → object s n ≡ Some o → (file_tree s).nodes n ≡ Some (readable_node s o)
  node_is n o e = nodes_are n ∙ ap (option_map (readable_node s)) e

  few_past : (dir n : ℕ) → most s ≤ dir → names_for (file_tree s) dir n ≡ 0
  few_past dir n l = ap (λ (o : Option Node). leading_to n (names_in o)) (ap (node_in s.readers s.page) (outside s.readers (volume s) dir l))

  names_lead : (dir : ℕ) (o : Object) → object s dir ≡ Some o → (page : ℕ) (e : NameEntry) → StandsAt page e o.names → leads s e.inode ≡ true
  names_lead dir o e page x at =
      let w = c.sound.whole dir o e in
      let j = judged s.readers.names_order s.readers.names_order.least o.names w.names w.names_are in
      let same : names_for (file_tree s) dir x.inode ≡ leading_to x.inode (rows_of o.names) =
      ap (λ (o : Option Node). leading_to x.inode (names_in o)) (node_is dir o e)
      ∙ ap (λ (r : Result (List NameEntry) (ℕ × Rule)). leading_to x.inode (entries r)) w.names_are
      ∙ ap (leading_to x.inode) (sym j.1) in
      let some : 0 < leading_to x.inode (rows_of o.names) = subst (λ (ms : Marks (List ℕ) NameEntry). 0 < leading_to x.inode (rows_of ms)) (sym at.at) (from_front at.front at.back page x) in
      let named = c.tree.names dir x.inode (subst (λ (k : ℕ). 0 < k) (sym same) some) in
      and_from (is_some (object s x.inode)) (not (is_reserved x.inode)) (mapped (object s x.inode) (sym (ap is_some (nodes_are x.inode)) ∙ named.1)) (ap not (from_four x.inode named.0))
    where
      mapped : (o : Option Object) → is_some (option_map (readable_node s) o) ≡ true → is_some o ≡ true
      mapped None h = h
      mapped (Some o) h = refl

  links_are : (n : ℕ) (o : Object) → object s n ≡ Some o → is_reserved n ≡ false → o.inode.nlink ≡ links_due (most s) (readable s) n (readable_node s o)
  links_are n o e h = c.tree.links n (readable_node s o) (node_is n o e) h ∙ same_links (file_tree s) (readable s) nodes_are (most s) n (readable_node s o)

  root_unnamed : names_to (most s) (file_tree s) root ≡ 0
  root_unnamed = sum_zero (most s) (λ dir. names_for (file_tree s) dir root) (λ dir. elim (cases_lt 0 (names_for (file_tree s) dir root)) [
    | inl some ↦ absurd (let m = (c.tree.names dir root some).0 in omega (arith, m))
    | inr none ↦ omega (arith, none)
  ])

  top_parent : (n : ℕ) (o : Object) → object s n ≡ Some o → n ≡ root → (readable_node s o).parent ≡ root
  top_parent n o e r = let top = c.tree.top in ap (λ (x : Node). x.parent) (some_is (sym (node_is n o e) ∙ ap (file_tree s).nodes r ∙ top.1.there)) ∙ top.1.parent
    where
      some_is : {x y : Node} → Some x ≡ Some y → x ≡ y
      some_is h = cc h

  one_name : (n : ℕ) (o : Object) → object s n ≡ Some o → has_names o.inode ≡ true → n ≢ root → HasOneName s n (readable_node s o)
  one_name n o e d other =
      let its = c.tree.parents n (readable_node s o) (node_is n o e) (kind_is o.inode ∙ d) (four_on n (t.reserved n o e d) other) in
      let here : names_for (file_tree s) (readable_node s o).parent n ≡ 1 = its (readable_node s o).parent ∙ ap bit (eq-eqb (readable_node s o).parent (readable_node s o).parent refl) in
      let l : (readable_node s o).parent < most s = elim (cases_lt (readable_node s o).parent (most s)) [ inl w ↦ w | inr past ↦ absurd (let z = few_past (readable_node s o).parent n past in omega (arith, z, here)) ] in
      record {
        one = sym (same_counts (file_tree s) (readable s) nodes_are (most s) n) ∙ one_part (most s) (λ dir. names_for (file_tree s) dir n) (readable_node s o).parent l here (λ dir h. its dir ∙ ap bit (ne_eqb dir (readable_node s o).parent h));
        by_parent = sym (same_for (file_tree s) (readable s) nodes_are (readable_node s o).parent n) ∙ here;
      }

  pub sound : IsSoundVolume s
  sound = record {
    mounts = t.mounts;
    sound = c.sound;
    files = t.files;
    inodes = c.inodes;
    names = names_lead;
    links = links_are;
    parents = λ n o e d. record {
      top = λ r. (top_parent n o e r, sym (same_counts (file_tree s) (readable s) nodes_are (most s) root) ∙ root_unnamed);
      below = one_name n o e d;
    };
    nblocks = t.nblocks;
    ends = t.ends;
    full = t.full;
    block_map = t.block_map;
    inode_map = t.inode_map;
  }

pub consistent_law : ConsistentLaw
consistent_law = record {
  consistent = λ super page is. consistent (subject_of super page) is;
  tidy = λ super page is. tidy (subject_of super page) is;
  sound = λ super page c t. sound (subject_of super page) c t;
}
