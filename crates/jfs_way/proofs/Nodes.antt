-- What the inodes of a consistent volume are in its tree.
use Rattle.std.proofs.Common.{◌≡◌, ◌<◌, refl, sym, ap, ◌∙◌, subst, ℕ, ◌%◌, Bool, true, false, true≢false, ◌==◌, if◌then◌else◌, List, Option, Some, None, is_some, Ok, Err}
use Rattle.jfs_bits.specs.Broken.{first_broken}
use Rattle.jfs_inode.specs.Rules.{type_of, rows}
use Rattle.jfs_inode.specs.declared.fields.Dinode.{Dinode}
use Rattle.jfs_name.specs.declared.name.NameEntry.{NameEntry}
use Rattle.jfs_name.specs.Directory.{named}
use Rattle.jfs_tree.specs.Spells.{spells}
use Rattle.jfs_reader.specs.dtree.specs.Spells.{spells_names}
use Rattle.jfs_reader.specs.plain.specs.Tree.{is_dir, enter, enter_from, wanted}
use Rattle.jfs_reader.specs.plain.specs.declared.node.Node.{Node}
use Rattle.jfs_reader.specs.plain.specs.declared.refusal.Refusal.TheVariants.{NotDir}
use Rattle.jfs_reader.specs.plain.specs.declared.reply.NodeKind.TheVariants.{Dir, File, Link, Other}
use Rattle.jfs_reader.specs.objects.specs.Readers.{Readers}
use Rattle.jfs_reader.specs.objects.specs.Volume.{Volume, home, slot_of}
use Rattle.jfs_reader.specs.objects.specs.Objects.{Object, IsWhole, objects, spelled, is_live, has_names, listed}
use Rattle.jfs_reader.specs.objects.proofs.Found.{object_at, no_object_at, no_home}
use Rattle.jfs_reader.specs.meaning.specs.Readers.{readers, root_of}
use Rattle.jfs_reader.specs.meaning.specs.Node.{kind_of, node_with, node_from, node_in, target_in}
use Rattle.jfs_reader.specs.meaning.specs.Tree.{node_on, tree_on}
use Rattle.jfs_reader.specs.meaning.specs.Consistent.{IsConsistent, MayBeNamed, leading_to, names_in}
use Rattle.jfs_reader.specs.meaning.proofs.Found.{is_among, among_leads}

is_dir_is : (type : ℕ) → is_dir (kind_of type) ≡ (type == 0x4000)
is_dir_is type = by (type == 0x4000) (type == 0x8000) (type == 0xa000)
  where
    by : (a b c : Bool) → is_dir (if a then Dir else (if b then File else (if c then Link else Other))) ≡ a
    by true b c = refl
    by false true c = refl
    by false false true = refl
    by false false false = refl

module _ (blocks : ℕ) (v : Volume) (c : IsConsistent (readers blocks) v) where
  abbrev r : Readers
  r = readers blocks

  abbrev inode_on : ℕ → ℕ → Dinode
  inode_on n p = slot_of (v.page p) (n % 8)

  no_node : (n : ℕ) → objects r v n ≡ None → is_some (node_on r v n) ≡ true → ⊥
  no_node n none some = true≢false (sym some ∙ ap (λ (o : Option Object). is_some (node_in r v.page o)) none)

  pub there : (n p : ℕ) → home v.extents n ≡ Some p → is_some (node_on r v n) ≡ true → objects r v n ≡ Some (spelled r v.page (inode_on n p))
  there n p h some = by (is_live n (inode_on n p)) refl
    where
      by : (x : Bool) → is_live n (inode_on n p) ≡ x → objects r v n ≡ Some (spelled r v.page (inode_on n p))
      by true l = object_at r v n p (inode_on n p) h refl l
      by false l = absurd (no_node n (no_object_at r v n p (inode_on n p) h refl l) some)

  pub lives : (n p : ℕ) → home v.extents n ≡ Some p → is_some (node_on r v n) ≡ true → is_live n (inode_on n p) ≡ true
  lives n p h some = by (is_live n (inode_on n p)) refl
    where
      by : (x : Bool) → is_live n (inode_on n p) ≡ x → is_live n (inode_on n p) ≡ true
      by true l = l
      by false l = absurd (no_node n (no_object_at r v n p (inode_on n p) h refl l) some)

  -- its extent is there
  pub stands : (n : ℕ) → is_some (node_on r v n) ≡ true → (p : ℕ) × (home v.extents n ≡ Some p)
  stands n some = by (home v.extents n) refl
    where
      by : (x : Option ℕ) → home v.extents n ≡ x → (p : ℕ) × (home v.extents n ≡ Some p)
      by None h = absurd (no_node n (no_home r v n h) some)
      by (Some p) h = (p, h)

  pub inode_is : (d : Dinode) → (spelled r v.page d).inode ≡ d
  unfolding spelled
  inode_is d = refl

  -- so it breaks no rule
  pub unbroken : (n p : ℕ) → home v.extents n ≡ Some p → is_some (node_on r v n) ≡ true → first_broken (rows (inode_on n p) n) ≡ None
  unbroken n p h some = ap (λ (d : Dinode). first_broken (rows d n)) (sym (inode_is (inode_on n p))) ∙ c.inodes n (spelled r v.page (inode_on n p)) (there n p h some)

  module _ (n p : ℕ) (h : home v.extents n ≡ Some p) (some : is_some (node_on r v n) ≡ true) where
    abbrev o : Object
    o = spelled r v.page (inode_on n p)

    pub whole : IsWhole r o
    whole = c.sound.whole n o (there n p h some)

    pub node_is : node_on r v n ≡ Some (node_with o.inode (target_in r v.page o) whole.names)
    node_is = ap (node_in r v.page) (there n p h some)
        ∙ ap (λ a. node_from o.inode (target_in r v.page o) a (listed r.extents_order o.extents)) whole.names_are
        ∙ ap (λ b. node_from o.inode (target_in r v.page o) (Ok whole.names) b) whole.extents_are

    entered : (name : List ℕ) → enter (tree_on r v) n name ≡ (if is_dir (kind_of (type_of o.inode)) then wanted (named name whole.names) else Err NotDir)
    entered name = ap (λ (x : Option Node). enter_from x name) node_is

    by_kind : (name : List ℕ) (x : Bool) → has_names (inode_on n p) ≡ x → enter (tree_on r v) n name ≡ (if x then wanted (named name whole.names) else Err NotDir)
    by_kind name x e = entered name ∙ ap (λ (y : Bool). if y then wanted (named name whole.names) else Err NotDir)
        (ap (λ (d : Dinode). is_dir (kind_of (type_of d))) (inode_is (inode_on n p)) ∙ is_dir_is (type_of (inode_on n p)) ∙ e)

    spelled_names : has_names (inode_on n p) ≡ true → spells_names blocks v.page (root_of (inode_on n p)) ≡ listed r.names_order o.names
    unfolding spells spelled
    spelled_names e = rw e refl

    pub in_directory : has_names (inode_on n p) ≡ true → (es : List NameEntry) × (spells_names blocks v.page (root_of (inode_on n p)) ≡ Ok es)
        × ((name : List ℕ) → enter (tree_on r v) n name ≡ wanted (named name es)) × ((name : List ℕ) (m : ℕ) → named name es ≡ Some m → MayBeNamed (tree_on r v) m)
    in_directory e = (whole.names, spelled_names e ∙ whole.names_are, (λ name. by_kind name true e), (λ name m is. c.tree.names n m (leads name m is)))
      where
        leads : (name : List ℕ) (m : ℕ) → named name whole.names ≡ Some m → 0 < leading_to m (names_in (node_on r v n))
        leads name m is = subst (λ (x : Option Node). 0 < leading_to m (names_in x)) (sym node_is) (among_leads name whole.names m (is_among name whole.names m is))

    pub in_other : has_names (inode_on n p) ≡ false → (name : List ℕ) → enter (tree_on r v) n name ≡ Err NotDir
    in_other e name = by_kind name false e
