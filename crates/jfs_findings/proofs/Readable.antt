-- Where no tree breaks a rule, what can be read of the file tree is all of it.
use Rattle.std.proofs.Common.{◌≡◌, refl, sym, ap, ap₂, ◌∙◌, subst, ℕ, ◌+◌, ◌%◌, ◌==◌, Bool, true, false, if◌then◌else◌, List, Option, Some, None, option_map}
use Rattle.std.specs.declared.result.Result.{Result}
use Rattle.jfs_bits.specs.declared.extent.Xad.{Xad}
use Rattle.jfs_bits.specs.declared.rule.Rule.{Rule}
use Rattle.jfs_inode.specs.Rules.{type_of}
use Rattle.jfs_inode.specs.declared.fields.Dinode.{Dinode}
use Rattle.jfs_name.specs.declared.name.NameEntry.{NameEntry}
use Rattle.jfs_mount.specs.plain.specs.Tree.{Tree, is_dir}
use Rattle.jfs_mount.specs.plain.specs.declared.node.Node.{Node}
use Rattle.jfs_mount.specs.plain.specs.declared.reply.NodeKind.TheVariants.{Dir, File, Link, Other}
use Rattle.jfs_mount.specs.objects.specs.Readers.{Readers}
use Rattle.jfs_mount.specs.objects.specs.Volume.{Volume, home, slot_of}
use Rattle.jfs_mount.specs.objects.specs.Objects.{Object, IsWhole, has_names, is_live, objects, object_in, spelled}
use Rattle.jfs_mount.specs.objects.specs.Owners.{entries}
use Rattle.jfs_mount.specs.objects.proofs.Sums.{sum_same}
use Rattle.jfs_mount.specs.meaning.specs.Node.{kind_of, node_with, node_from, node_in, target_in}
use Rattle.jfs_mount.specs.meaning.specs.Tree.{tree_on}
use Rattle.jfs_mount.specs.meaning.specs.Consistent.{leading_to, names_in, names_to, names_for, is_directory, links_due}
use Rattle.jfs_mount.specs.meaning.proofs.Books.{same_subdirectories}
use Rattle.jfs_mount.specs.Subject.{Subject, volume, object}
use Rattle.jfs_findings.specs.Names.{readable, readable_node}

-- the whole tree of a subject
abbrev pub file_tree : Subject → Tree
file_tree s = tree_on s.readers (volume s)

whole_node : (s : Subject) (o : Object) → IsWhole s.readers o → node_in s.readers s.page (Some o) ≡ Some (readable_node s o)
whole_node s o w =
    ap₂ (λ (names : Result (List NameEntry) (ℕ × Rule)) (extents : Result (List Xad) (ℕ × Rule)). node_from o.inode (target_in s.readers s.page o) names extents) w.names_are w.extents_are
    ∙ sym (ap (λ (names : Result (List NameEntry) (ℕ × Rule)). Some (node_with o.inode (target_in s.readers s.page o) (entries names))) w.names_are)

pub same_nodes : (s : Subject) → ((n : ℕ) (o : Object) → object s n ≡ Some o → IsWhole s.readers o) → (n : ℕ) → (file_tree s).nodes n ≡ (readable s).nodes n
same_nodes s whole n = by (object s n) refl
  where
    by : (o : Option Object) → object s n ≡ o → node_in s.readers s.page (object s n) ≡ option_map (readable_node s) (object s n)
    by None e = ap (node_in s.readers s.page) e ∙ sym (ap (option_map (readable_node s)) e)
    by (Some o) e = ap (node_in s.readers s.page) e ∙ whole_node s o (whole n o e) ∙ sym (ap (option_map (readable_node s)) e)

-- an object is what its inode spells
pub spelled_object : (r : Readers) (v : Volume) (n : ℕ) (o : Object) → objects r v n ≡ Some o → o ≡ spelled r v.page o.inode
unfolding objects spelled
spelled_object r v n o e = by (home v.extents n) refl
  where
    none_is : (o : Object) → None ≡ Some o → ⊥
    none_is o h = cc h

    some_is : {x y : Object} → Some x ≡ Some y → x ≡ y
    some_is h = cc h

    from : (d : Dinode) (x : Bool) → (if x then Some (spelled r v.page d) else None) ≡ Some o → o ≡ spelled r v.page o.inode
    from d true h = subst (λ (o : Object). o ≡ spelled r v.page o.inode) (some_is h) refl
    from d false h = absurd (none_is o h)

    by : (h : Option ℕ) → home v.extents n ≡ h → o ≡ spelled r v.page o.inode
    by None h = absurd (none_is o (sym (ap (object_in r v.page n) h) ∙ e))
    by (Some p) h = from (slot_of (v.page p) (n % 8)) (is_live n (slot_of (v.page p) (n % 8))) (sym (ap (object_in r v.page n) h) ∙ e)

-- a directory's node is a directory
pub kind_is : (d : Dinode) → is_dir (kind_of (type_of d)) ≡ has_names d
kind_is d = by (type_of d == 0x4000) (type_of d == 0x8000) (type_of d == 0xa000)
  where
    by : (a b c : Bool) → is_dir (if a then Dir else (if b then File else (if c then Link else Other))) ≡ a
    by true b c = refl
    by false true c = refl
    by false false true = refl
    by false false false = refl

-- ---- what is counted in one tree is counted in another with the same nodes

module _ (t u : Tree) (same : (n : ℕ) → t.nodes n ≡ u.nodes n) where
  pub same_for : (dir n : ℕ) → names_for t dir n ≡ names_for u dir n
  same_for dir n = ap (λ o. leading_to n (names_in o)) (same dir)

  pub same_counts : (most n : ℕ) → names_to most t n ≡ names_to most u n
  same_counts most n = sum_same most (λ dir. names_for u dir n) (λ dir. names_for t dir n) (λ dir l. same_for dir n)

  pub same_links : (most n : ℕ) (o : Node) → links_due most t n o ≡ links_due most u n o
  same_links most n o = ap₂ (λ (a b : ℕ). if is_dir o.kind then 2 + a else b) (same_subdirectories u t o.names (λ k _. ap is_directory (same k))) (same_counts most n)
