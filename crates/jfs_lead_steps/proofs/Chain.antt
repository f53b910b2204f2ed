-- Steps of one object each, one after the other, and the plain tree beside them.
use Rattle.std.proofs.Common.{◌≡◌, ◌≢◌, refl, sym, ap, ◌∙◌, subst, inl, inr, ℕ, Bool, eq-eqb, ne_eqb, if◌then◌else◌, List, Option, Some, None}
use Rattle.std.specs.Option.{option_map}
use Rattle.jfs_bits.specs.Broken.{first_broken}
use Rattle.jfs_inode.specs.Rules.{rows}
use Rattle.jfs_inode.specs.declared.fields.Dinode.{Dinode}
use Rattle.jfs_meaning.specs.plain.specs.Tree.{Tree}
use Rattle.jfs_meaning.specs.plain.specs.Moves.{Same, changed, dropped}
use Rattle.jfs_meaning.specs.plain.specs.declared.node.Node.{Node}
use Rattle.jfs_meaning.specs.objects.specs.Readers.{Readers}
use Rattle.jfs_meaning.specs.objects.specs.Volume.{Volume}
use Rattle.jfs_meaning.specs.objects.specs.Objects.{Object, objects, spelled}
use Rattle.jfs_meaning.specs.objects.specs.Changes.{put, SetsObject, DropsObject}
use Rattle.jfs_meaning.specs.objects.specs.Laws.{ChangesOne}
use Rattle.jfs_meaning.specs.objects.proofs.Sums.{put_here, put_other, eq_or_not}
use Rattle.jfs_meaning.specs.objects.proofs.Set.{object_is_set}
use Rattle.jfs_meaning.specs.objects.proofs.Drop.{object_goes}
use Rattle.jfs_meaning.specs.Contents.{byte_in}
use Rattle.jfs_meaning.specs.Node.{node_of}
use Rattle.jfs_meaning.specs.Tree.{node_on, byte_on, tree_on}
use Rattle.jfs_meaning.specs.Laws.{ChangesOneNode}
use Rattle.jfs_meaning.proofs.Changed.{set_tree, drop_tree}
use Rattle.jfs_lead_steps.specs.Reached.{HasTree}

-- ---- trees that are the same are one

pub one_tree : (t u : Tree) → Same t u → u ≡ t
one_tree t u s = λ i. record { nodes = λ n. s.nodes n i; bytes = λ n k. s.bytes n k i }

pub same_tree : (t u : Tree) → u ≡ t → Same t u
same_tree t u e = record { nodes = λ n. ap (λ (x : Tree). x.nodes n) e; bytes = λ n i. ap (λ (x : Tree). x.bytes n i) e }

pub at_changed : (n k : ℕ) (f : Node → Node) (t : Tree) → k ≡ n → (changed n f t).nodes k ≡ option_map f (t.nodes n)
at_changed n k f t e = ap (λ (x : Bool). if x then option_map f (t.nodes n) else t.nodes k) (eq-eqb n k (sym e))

pub off_changed : (n k : ℕ) (f : Node → Node) (t : Tree) → k ≢ n → (changed n f t).nodes k ≡ t.nodes k
off_changed n k f t h = ap (λ (x : Bool). if x then option_map f (t.nodes n) else t.nodes k) (ne_eqb n k (λ s. h (sym s)))

-- two changes of one node, and changes of two nodes in either order
pub twice : (n : ℕ) (f g : Node → Node) (t : Tree) → changed n g (changed n f t) ≡ changed n (λ o. g (f o)) t
twice n f g t = one_tree (changed n (λ o. g (f o)) t) (changed n g (changed n f t)) (record { nodes = nodes; bytes = λ k i. refl })
  where
    both : (x : Option Node) → option_map g (option_map f x) ≡ option_map (λ o. g (f o)) x
    both None = refl
    both (Some o) = refl

    nodes : (k : ℕ) → (changed n g (changed n f t)).nodes k ≡ (changed n (λ o. g (f o)) t).nodes k
    nodes k = elim (eq_or_not k n) [
      | inl e ↦ at_changed n k g (changed n f t) e ∙ ap (option_map g) (at_changed n n f t refl) ∙ both (t.nodes n) ∙ sym (at_changed n k (λ o. g (f o)) t e)
      | inr h ↦ off_changed n k g (changed n f t) h ∙ off_changed n k f t h ∙ sym (off_changed n k (λ o. g (f o)) t h)
    ]

pub either_order : (n m : ℕ) (f g : Node → Node) (t : Tree) → n ≢ m → changed n f (changed m g t) ≡ changed m g (changed n f t)
either_order n m f g t apart = one_tree (changed m g (changed n f t)) (changed n f (changed m g t)) (record { nodes = nodes; bytes = λ k i. refl })
  where
    nodes : (k : ℕ) → (changed n f (changed m g t)).nodes k ≡ (changed m g (changed n f t)).nodes k
    nodes k = elim (eq_or_not k n) [
      | inl e ↦ at_changed n k f (changed m g t) e ∙ ap (option_map f) (off_changed m n g t apart)
          ∙ sym (off_changed m k g (changed n f t) (λ s. apart (sym e ∙ s)) ∙ at_changed n k f t e)
      | inr h ↦ off_changed n k f (changed m g t) h ∙ elim (eq_or_not k m) [
        | inl e ↦ at_changed m k g t e ∙ sym (at_changed m k g (changed n f t) e ∙ ap (option_map g) (off_changed n m f t (λ s. apart (sym s))))
        | inr a ↦ off_changed m k g t a ∙ sym (off_changed m k g (changed n f t) a ∙ off_changed n k f t h)
      ]
    ]

-- ---- a step

pub some_is : {x y : Object} → Some x ≡ Some y → x ≡ y
some_is h = cc (h)

module _ (r : Readers) (v w : Volume) (t : Tree) (has : HasTree r v t) (n : ℕ) where
  module _ (set : Dinode) (mid : ℕ → List ℕ) (taken freed : List ℕ) (s : SetsObject r v w n set mid taken freed) where
    abbrev after : Object
    after = spelled r mid set

    set_one : ChangesOne r v w n (Some after)
    set_one = (object_is_set r v w n set mid taken freed has.sound s).0

    set_node : ChangesOneNode r v w n (node_of r mid after) (byte_in r mid (Some after))
    set_node = set_tree r v w n set mid taken freed has.sound s

    pub set_here : objects r w n ≡ Some after
    set_here = set_one.objects_are n ∙ put_here n (Some after) (objects r v)

    pub set_other : (k : ℕ) → k ≢ n → objects r w k ≡ objects r v k
    set_other k apart = set_one.objects_are k ∙ put_other n (Some after) (objects r v) k apart

    inode_after : after.inode ≡ set
    unfolding spelled
    inode_after = refl

    set_inodes : first_broken (rows set n) ≡ None → (k : ℕ) (o : Object) → objects r w k ≡ Some o → first_broken (rows o.inode k) ≡ None
    set_inodes rules k o h = elim (eq_or_not k n) [
      | inl e ↦ subst (λ (j : ℕ). first_broken (rows o.inode j) ≡ None) (sym e)
          (ap (λ (x : Object). first_broken (rows x.inode n)) (sym (some_is (sym set_here ∙ ap (objects r w) (sym e) ∙ h))) ∙ ap (λ (d : Dinode). first_broken (rows d n)) inode_after ∙ rules)
      | inr a ↦ has.inodes k o (sym (set_other k a) ∙ h)
    ]

    -- An object was set whose node is another one, and whose contents are as they were: so it is in the tree.
    pub set_has : (f : Node → Node) → node_of r mid after ≡ option_map f (node_on r v n) → ((i : ℕ) → byte_in r mid (Some after) i ≡ byte_on r v n i) → first_broken (rows set n) ≡ None
        → HasTree r w (changed n f t)
    set_has f node bytes rules = record { sound = set_one.sound; inodes = set_inodes rules; tree = one_tree (changed n f (tree_on r v)) (tree_on r w) (record { nodes = nodes; bytes = same_bytes }) ∙ ap (changed n f) has.tree }
      where
        nodes : (k : ℕ) → node_on r w k ≡ (changed n f (tree_on r v)).nodes k
        nodes k = elim (eq_or_not k n) [
          | inl e ↦ ap (node_on r w) e ∙ set_node.nodes n ∙ put_here n (node_of r mid after) (node_on r v) ∙ node ∙ sym (at_changed n k f (tree_on r v) e)
          | inr a ↦ set_node.nodes k ∙ put_other n (node_of r mid after) (node_on r v) k a ∙ sym (off_changed n k f (tree_on r v) a)
        ]

        same_bytes : (k i : ℕ) → byte_on r w k i ≡ byte_on r v k i
        same_bytes k i = elim (eq_or_not k n) [
          | inl e ↦ set_node.contents k i ∙ ap (λ (j : ℕ). put n (byte_in r mid (Some after)) (byte_on r v) j i) e ∙ ap (λ (g : ℕ → ℕ). g i) (put_here n (byte_in r mid (Some after)) (byte_on r v)) ∙ bytes i
              ∙ ap (λ (j : ℕ). byte_on r v j i) (sym e)
          | inr a ↦ set_node.contents k i ∙ ap (λ (g : ℕ → ℕ). g i) (put_other n (byte_in r mid (Some after)) (byte_on r v) k a)
        ]

  module _ (left : Dinode) (freed : List ℕ) (s : DropsObject r v w n left freed) where
    drop_one : ChangesOne r v w n None
    drop_one = object_goes r v w n left freed has.sound s

    drop_node : ChangesOneNode r v w n None (λ i. 0)
    drop_node = drop_tree r v w n left freed has.sound s

    pub drop_other : (k : ℕ) → k ≢ n → objects r w k ≡ objects r v k
    drop_other k apart = drop_one.objects_are k ∙ put_other n None (objects r v) k apart

    drop_inodes : (k : ℕ) (o : Object) → objects r w k ≡ Some o → first_broken (rows o.inode k) ≡ None
    drop_inodes k o h = elim (eq_or_not k n) [
      | inl e ↦ absurd (none (sym (ap (objects r w) e ∙ drop_one.objects_are n ∙ put_here n None (objects r v)) ∙ h))
      | inr a ↦ has.inodes k o (sym (drop_other k a) ∙ h)
    ]
      where
        none : None ≡ Some o → ⊥
        none h = cc (h)

    -- an object that goes is no node any more
    pub drop_has : HasTree r w (dropped n t)
    drop_has = record { sound = drop_one.sound; inodes = drop_inodes; tree = one_tree (dropped n (tree_on r v)) (tree_on r w) (record { nodes = nodes; bytes = bytes }) ∙ ap (dropped n) has.tree }
      where
        nodes : (k : ℕ) → node_on r w k ≡ (dropped n (tree_on r v)).nodes k
        nodes k = elim (eq_or_not k n) [
          | inl e ↦ ap (node_on r w) e ∙ drop_node.nodes n ∙ put_here n None (node_on r v) ∙ sym (ap (λ (x : Bool). if x then None else node_on r v k) (eq-eqb n k (sym e)))
          | inr a ↦ drop_node.nodes k ∙ put_other n None (node_on r v) k a ∙ sym (ap (λ (x : Bool). if x then None else node_on r v k) (ne_eqb n k (λ s. a (sym s))))
        ]

        bytes : (k i : ℕ) → byte_on r w k i ≡ (dropped n (tree_on r v)).bytes k i
        bytes k i = elim (eq_or_not k n) [
          | inl e ↦ drop_node.contents k i ∙ ap (λ (j : ℕ). put n (λ (i : ℕ). 0) (byte_on r v) j i) e ∙ ap (λ (g : ℕ → ℕ). g i) (put_here n (λ (i : ℕ). 0) (byte_on r v))
              ∙ sym (ap (λ (x : Bool). if x then 0 else byte_on r v k i) (eq-eqb n k (sym e)))
          | inr a ↦ drop_node.contents k i ∙ ap (λ (g : ℕ → ℕ). g i) (put_other n (λ (i : ℕ). 0) (byte_on r v) k a)
              ∙ sym (ap (λ (x : Bool). if x then 0 else byte_on r v k i) (ne_eqb n k (λ s. a (sym s))))
        ]
