-- Trees with the same nodes are consistent together.
use Rattle.std.proofs.Common.{◌≡◌, sym, ap, ◌∙◌, subst, ℕ, ◌+◌, ◌<◌, Bool, true, false, if◌then◌else◌, Option, Some}
use Rattle.std.specs.Prelude.{is_some}
use Rattle.jfs_plain.specs.Tree.{Tree, root, is_dir}
use Rattle.jfs_plain.specs.declared.node.Node.{Node}
use Rattle.jfs_objects.proofs.Sums.{sum_same}
use Rattle.jfs_meaning.specs.Consistent.{leading_to, names_in, names_for, names_to, is_directory, subdirectories, IsConsistentTree}
use Rattle.jfs_meaning.proofs.Books.{same_subdirectories}

pub same_consistent : (most : ℕ) (t u : Tree) → ((n : ℕ) → u.nodes n ≡ t.nodes n) → IsConsistentTree most t → IsConsistentTree most u
same_consistent most t u s c = record {
  within = λ n l. s n ∙ c.within n l;
  top = (c.top.0, record { there = s root ∙ c.top.1.there; directory = c.top.1.directory; parent = c.top.1.parent });
  files = λ n o there file. c.files n o (was n o there) file;
  names = λ dir n l. (let m = c.names dir n (subst (λ (k : ℕ). 0 < k) (names_same dir n) l) in (m.0, ap is_some (s n) ∙ m.1));
  links = λ n o there free. c.links n o (was n o there) free ∙ sym (due_same n o (is_dir o.kind));
  parents = λ n o there dir late wh. names_same wh n ∙ c.parents n o (was n o there) dir late wh;
}
  where
    was : (n : ℕ) (o : Node) → u.nodes n ≡ Some o → t.nodes n ≡ Some o
    was n o there = sym (s n) ∙ there

    names_same : (dir n : ℕ) → names_for u dir n ≡ names_for t dir n
    names_same dir n = ap (λ (x : Option Node). leading_to n (names_in x)) (s dir)

    due_same : (n : ℕ) (o : Node) (x : Bool) → (if x then 2 + subdirectories u o.names else names_to most u n) ≡ (if x then 2 + subdirectories t o.names else names_to most t n)
    due_same n o true = ap (λ (k : ℕ). 2 + k) (same_subdirectories t u o.names (λ k l. ap is_directory (s k)))
    due_same n o false = sum_same most (λ dir. names_for t dir n) (λ dir. names_for u dir n) (λ dir _. names_same dir n)
