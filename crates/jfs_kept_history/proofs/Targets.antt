-- A volume with the objects of a consistent one is consistent: what stands on pages that no inode or tree is read from, as a link's long target, says nothing of that.
use Rattle.std.proofs.Common.{◌≡◌, ◌+◌, ◌<◌, ◌*◌, ◌==◌, ℕ, Bool, true, false, if◌then◌else◌, List, [], length, Option, Some, None, refl, sym, ap, subst, ◌∙◌}
use Rattle.std.specs.Prelude.{is_some, option_map}
use Rattle.jfs_legal.specs.served.specs.shown.specs.kinds.specs.Images.{IsSameVolume}
use Rattle.jfs_legal.specs.served.specs.shown.specs.meaning.specs.Consistent.{leading_to, names_in, names_for, names_to, is_directory, subdirectories, links_due, IsConsistent, IsConsistentTree}
use Rattle.jfs_legal.specs.served.specs.shown.specs.meaning.specs.Tree.{node_on, tree_on}
use Rattle.jfs_legal.specs.served.specs.shown.specs.meaning.proofs.Books.{same_subdirectories}
use Rattle.jfs_legal.specs.served.specs.shown.specs.meaning.specs.plain.specs.Tree.{Tree, root, is_dir}
use Rattle.jfs_legal.specs.served.specs.shown.specs.meaning.specs.plain.specs.declared.node.Node.{Node}
use Rattle.jfs_legal.specs.served.specs.shown.specs.objects.proofs.Sums.{sum_same}
use Rattle.jfs_legal.specs.served.specs.shown.specs.objects.specs.Owners.{IsSound, bit}
use Rattle.jfs_legal.specs.served.specs.shown.specs.objects.specs.Readers.{Readers}
use Rattle.jfs_legal.specs.served.specs.shown.specs.objects.specs.Volume.{Volume, room}
use Rattle.jfs_kept_history.specs.Tree.{has_long_target, without_blocks}
use Rattle.jfs_kept_history.proofs.Nodes.{nodes_law}

-- a node but for its target
abbrev pub bare : Option Node → Option Node
bare None = None
bare (Some o) = Some (record o { target = [] })

-- a node that is another one's, but for the target
record Like (x : Option Node) (o : Node) : Type 0 where
  of : Node
  there : x ≡ Some of
  same : record of { target = [] } ≡ record o { target = [] }

abbrev some_node : Node → Option Node → Node
some_node default None = default
some_node default (Some o) = o

like : (x y : Option Node) (o : Node) → bare y ≡ bare x → y ≡ Some o → Like x o
like None y o same there = absurd (cc (sym (sym same ∙ ap bare there)))
like (Some of) y o same there = record { of = of; there = refl; same = ap (some_node o) (sym same ∙ ap bare there) }

names_bare : (x : Option Node) → names_in (bare x) ≡ names_in x
names_bare None = refl
names_bare (Some o) = refl

dir_bare : (x : Option Node) → is_directory (bare x) ≡ is_directory x
dir_bare None = refl
dir_bare (Some o) = refl

some_bare : (x : Option Node) → is_some (bare x) ≡ is_some x
some_bare None = refl
some_bare (Some o) = refl

none_bare : (x : Option Node) → bare x ≡ None → x ≡ None
none_bare None e = refl
none_bare (Some o) e = absurd (cc (e))

-- ---- trees

module _ (most : ℕ) (t u : Tree) (s : (n : ℕ) → bare (u.nodes n) ≡ bare (t.nodes n)) (c : IsConsistentTree most t) where
  names_same : (dir n : ℕ) → names_for u dir n ≡ names_for t dir n
  names_same dir n = ap (leading_to n) (sym (names_bare (u.nodes dir)) ∙ ap names_in (s dir) ∙ names_bare (t.nodes dir))

  dir_same : (n : ℕ) → is_directory (u.nodes n) ≡ is_directory (t.nodes n)
  dir_same n = sym (dir_bare (u.nodes n)) ∙ ap is_directory (s n) ∙ dir_bare (t.nodes n)

  was : (n : ℕ) (o : Node) → u.nodes n ≡ Some o → Like (t.nodes n) o
  was n o there = like (t.nodes n) (u.nodes n) o (s n) there

  due_same : (n : ℕ) (o : Node) (x : Bool) → (if x then 2 + subdirectories u o.names else names_to most u n) ≡ (if x then 2 + subdirectories t o.names else names_to most t n)
  due_same n o true = ap (λ (k : ℕ). 2 + k) (same_subdirectories t u o.names (λ k l. dir_same k))
  due_same n o false = sum_same most (λ dir. names_for t dir n) (λ dir. names_for u dir n) (λ dir _. names_same dir n)

  pub targets_consistent : IsConsistentTree most u
  targets_consistent = record {
    within = λ n l. none_bare (u.nodes n) (s n ∙ ap bare (c.within n l));
    top =
        let top = like (u.nodes root) (t.nodes root) c.top.0 (sym (s root)) c.top.1.there in (
          top.of,
          record {
            there = top.there;
            directory = ap (λ (o : Node). is_dir o.kind) top.same ∙ c.top.1.directory;
            parent = ap (λ (o : Node). o.parent) top.same ∙ c.top.1.parent;
          },
        );
    files = λ n o there file. (let w = was n o there in sym (ap (λ (x : Node). x.names) w.same) ∙ c.files n w.of w.there (ap (λ (x : Node). is_dir x.kind) w.same ∙ file));
    names = λ dir n l. (let m = c.names dir n (subst (λ (k : ℕ). 0 < k) (names_same dir n) l) in (m.0, sym (some_bare (u.nodes n)) ∙ ap is_some (s n) ∙ some_bare (t.nodes n) ∙ m.1));
    links = λ n o there free. (
        let w = was n o there in
        sym (ap (λ (x : Node). x.links) w.same) ∙ c.links n w.of w.there free ∙ ap (λ (x : Node). links_due most t n x) w.same ∙ sym (due_same n o (is_dir o.kind)));
    parents = λ n o there dir late wh. (
        let w = was n o there in
        names_same wh n ∙ subst (λ (x : Node). c_has wh n x.parent) w.same (c.parents n w.of w.there (ap (λ (x : Node). is_dir x.kind) w.same ∙ dir) late wh));
  }
    where
      c_has : ℕ → ℕ → ℕ → Type 0
      c_has wh n parent = names_for t wh n ≡ bit (wh == parent)

-- ---- volumes

-- but for its target a node is what it is without a long one
bare_kept : (x : Option Node) → bare (option_map without_blocks x) ≡ bare x
bare_kept None = refl
bare_kept (Some o) = by (has_long_target o)
  where
    by : (long : Bool) → bare (Some (if long then record o { target = [] } else o)) ≡ bare (Some o)
    by true = refl
    by false = refl

-- Of two volumes like one another the first is consistent where the second is.
pub same_consistent : (r : Readers) (v w : Volume) → IsSameVolume r v w → IsSound r v → IsConsistent r w → IsConsistent r v
same_consistent r v w same sound c = record {
  sound = sound;
  inodes = λ n o there. c.inodes n o (same.objects n ∙ there);
  tree = targets_consistent (room v) (tree_on r w) (tree_on r v) (λ n. sym (bare_kept (node_on r v n)) ∙ ap bare (sym ((nodes_law r v w same).nodes n)) ∙ bare_kept (node_on r w n))
      (subst (λ (most : ℕ). IsConsistentTree most (tree_on r w)) (ap (λ (extents : List (Option ℕ)). 32 * length extents) same.extents) c.tree);
}
