-- A new object is made: the step, and the plain tree beside it.
use Rattle.std.proofs.Common.{◌≡◌, ◌≢◌, refl, sym, ap, ◌∙◌, subst, inl, inr, ℕ, Bool, true, eq-eqb, ne_eqb, if◌then◌else◌, List, [], Option, Some, None, arith}
use Rattle.std.specs.Option.{option_map}
use Rattle.jfs_bits.specs.Broken.{first_broken}
use Rattle.jfs_bits.specs.declared.descriptor.Moment.{Moment}
use Rattle.jfs_inode.specs.Rules.{rows}
use Rattle.jfs_inode.specs.declared.fields.Dinode.{Dinode}
use Rattle.jfs_plain.specs.Tree.{Tree}
use Rattle.jfs_plain.specs.Moves.{changed, made}
use Rattle.jfs_plain.specs.declared.node.Node.{Node}
use Rattle.jfs_link.specs.objects.specs.Readers.{Readers}
use Rattle.jfs_link.specs.objects.specs.Volume.{Volume}
use Rattle.jfs_link.specs.objects.specs.Objects.{Object, objects, spelled}
use Rattle.jfs_link.specs.objects.specs.Owners.{holds, bit}
use Rattle.jfs_link.specs.objects.specs.Changes.{put, PutsInode, SetsObject, AddsExtent}
use Rattle.jfs_link.specs.objects.specs.Laws.{ChangesOne, ChangesNone}
use Rattle.jfs_link.specs.objects.proofs.Owned.{holds_none}
use Rattle.jfs_link.specs.objects.proofs.Set.{object_is_set}
use Rattle.jfs_link.specs.objects.proofs.Extent.{extent_law}
use Rattle.jfs_link.specs.objects.proofs.Sums.{put_here, put_other, eq_or_not}
use Rattle.jfs_link.specs.meaning.specs.Contents.{byte_in}
use Rattle.jfs_link.specs.meaning.specs.Laws.{ChangesOneNode}
use Rattle.jfs_link.specs.meaning.specs.Node.{node_of}
use Rattle.jfs_link.specs.meaning.specs.Readers.{readers}
use Rattle.jfs_link.specs.meaning.specs.Tree.{node_on, byte_on, tree_on}
use Rattle.jfs_link.specs.meaning.proofs.Changed.{set_tree, extent_tree}
use Rattle.jfs_link.specs.lead_steps.specs.Reached.{HasTree}
use Rattle.jfs_link.specs.lead_steps.proofs.Chain.{one_tree, at_changed, off_changed}
use Rattle.jfs_create.specs.New.{FitsNew, IsRest, inode_with, node_for}
use Rattle.jfs_create.specs.declared.new.NewObject.{NewObject}
use Rattle.jfs_create.specs.declared.new.Seat.{Seat}
use Rattle.jfs_create.proofs.Made.{HasNothing, nothing, node_is, is_live_new, rules_new}

-- ---- the plain tree

pub at_made : (m k : ℕ) (o : Node) (t : Tree) → k ≡ m → (made m o t).nodes k ≡ Some o
at_made m k o t e = ap (λ (x : Bool). if x then Some o else t.nodes k) (eq-eqb m k (sym e))

pub off_made : (m k : ℕ) (o : Node) (t : Tree) → k ≢ m → (made m o t).nodes k ≡ t.nodes k
off_made m k o t h = ap (λ (x : Bool). if x then Some o else t.nodes k) (ne_eqb m k (λ s. h (sym s)))

-- a new node and a change of another one, in either order
pub made_then : (n m : ℕ) (f : Node → Node) (o : Node) (t : Tree) → n ≢ m → made m o (changed n f t) ≡ changed n f (made m o t)
made_then n m f o t apart = one_tree (changed n f (made m o t)) (made m o (changed n f t)) (record { nodes = nodes; bytes = λ k i. refl })
  where
    nodes : (k : ℕ) → (made m o (changed n f t)).nodes k ≡ (changed n f (made m o t)).nodes k
    nodes k = elim (eq_or_not k m) [
      | inl e ↦ at_made m k o (changed n f t) e ∙ sym (off_changed n k f (made m o t) (λ s. apart (sym s ∙ e)) ∙ at_made m k o t e)
      | inr h ↦ off_made m k o (changed n f t) h ∙ elim (eq_or_not k n) [
        | inl e ↦ at_changed n k f t e ∙ sym (at_changed n k f (made m o t) e ∙ ap (option_map f) (off_made m n o t apart))
        | inr a ↦ off_changed n k f t a ∙ sym (off_changed n k f (made m o t) a ∙ off_made m k o t h)
      ]
    ]

-- changes that agree on a node are one
pub same_change : (n : ℕ) (f g : Node → Node) (t : Tree) → option_map f (t.nodes n) ≡ option_map g (t.nodes n) → changed n f t ≡ changed n g t
same_change n f g t same = one_tree (changed n g t) (changed n f t) (record { nodes = nodes; bytes = λ k i. refl })
  where
    nodes : (k : ℕ) → (changed n f t).nodes k ≡ (changed n g t).nodes k
    nodes k = elim (eq_or_not k n) [
      | inl e ↦ at_changed n k f t e ∙ same ∙ sym (at_changed n k g t e)
      | inr a ↦ off_changed n k f t a ∙ sym (off_changed n k g t a)
    ]

-- ---- the step

some_is : {x y : Object} → Some x ≡ Some y → x ≡ y
some_is h = cc (h)

module _ (blocks : ℕ) (v w : Volume) (t : Tree) (has : HasTree (readers blocks) v t) where
  abbrev r : Readers
  r = readers blocks

  -- a new inode is put into its slot, and nothing else changes
  module _ (object : NewObject) (seat : Seat) (now : Moment) (rest : List ℕ) (few : FitsNew object) (rest_is : IsRest object seat.parent rest) (none : objects r v seat.number ≡ None)
      (puts : PutsInode v.page w.page v.extents seat.number (inode_with object seat now rest)) (used : w.used ≡ v.used) (extents : w.extents ≡ v.extents) (area : w.area ≡ v.area)
      (in_use : (k : ℕ) → w.in_use k ≡ put seat.number true v.in_use k) where
    abbrev m : ℕ
    m = seat.number

    abbrev d : Dinode
    d = inode_with object seat now rest

    abbrev o : Node
    o = node_for object seat.parent now

    empty : HasNothing r v.page d
    empty = nothing blocks v.page seat now rest object few rest_is

    sets : SetsObject r v w m d v.page [] []
    sets = record {
      live = is_live_new object seat now rest;
      whole = record { names = []; extents = []; names_are = empty.names; extents_are = empty.extents };
      blocks = λ b. (let a = empty.blocks b in let z = ap (λ (x : Option Object). holds r x b) none ∙ holds_none r b in omega (arith, a, z));
      keeps = λ b h k. refl;
      puts = puts;
      takes = record { fresh = λ b h. absurd (omega (arith, h)); used = λ b. (let u = ap (λ (f : ℕ → Bool). bit (f b)) used in omega (arith, u)) };
      extents = extents;
      area = area;
      in_use = in_use;
    }

    one : ChangesOne r v w m (Some (spelled r v.page d))
    one = (object_is_set r v w m d v.page [] [] has.sound sets).0

    one_node : ChangesOneNode r v w m (node_of r v.page (spelled r v.page d)) (byte_in r v.page (Some (spelled r v.page d)))
    one_node = set_tree r v w m d v.page [] [] has.sound sets

    nodes : (k : ℕ) → node_on r w k ≡ (made m o (tree_on r v)).nodes k
    nodes k = elim (eq_or_not k m) [
      | inl e ↦ ap (node_on r w) e ∙ one_node.nodes m ∙ put_here m (node_of r v.page (spelled r v.page d)) (node_on r v) ∙ node_is blocks v.page seat now rest object few rest_is ∙ sym (at_made m k o (tree_on r v) e)
      | inr a ↦ one_node.nodes k ∙ put_other m (node_of r v.page (spelled r v.page d)) (node_on r v) k a ∙ sym (off_made m k o (tree_on r v) a)
    ]

    bytes : (k i : ℕ) → byte_on r w k i ≡ (made m o (tree_on r v)).bytes k i
    bytes k i = elim (eq_or_not k m) [
      | inl e ↦ one_node.contents k i ∙ ap (λ (j : ℕ). put m (byte_in r v.page (Some (spelled r v.page d))) (byte_on r v) j i) e
          ∙ ap (λ (g : ℕ → ℕ). g i) (put_here m (byte_in r v.page (Some (spelled r v.page d))) (byte_on r v)) ∙ empty.bytes i ∙ sym (ap (λ (x : Bool). if x then 0 else byte_on r v k i) (eq-eqb m k (sym e)))
      | inr a ↦ one_node.contents k i ∙ ap (λ (g : ℕ → ℕ). g i) (put_other m (byte_in r v.page (Some (spelled r v.page d))) (byte_on r v) k a)
          ∙ sym (ap (λ (x : Bool). if x then 0 else byte_on r v k i) (ne_eqb m k (λ s. a (sym s))))
    ]

    inode_after : (spelled r v.page d).inode ≡ d
    unfolding spelled
    inode_after = refl

    inodes : (k : ℕ) (x : Object) → objects r w k ≡ Some x → first_broken (rows x.inode k) ≡ None
    inodes k x h = elim (eq_or_not k m) [
      | inl e ↦ subst (λ (j : ℕ). first_broken (rows x.inode j) ≡ None) (sym e)
          (ap (λ (y : Object). first_broken (rows y.inode m)) (sym (some_is (sym (one.objects_are m ∙ put_here m (Some (spelled r v.page d)) (objects r v)) ∙ ap (objects r w) (sym e) ∙ h)))
          ∙ ap (λ (y : Dinode). first_broken (rows y m)) inode_after ∙ rules_new object seat now rest few)
      | inr a ↦ has.inodes k x (sym (one.objects_are k ∙ put_other m (Some (spelled r v.page d)) (objects r v) k a) ∙ h)
    ]

    pub made_has : HasTree r w (made m o t)
    made_has = record { sound = one.sound; inodes = inodes; tree = one_tree (made m o (tree_on r v)) (tree_on r w) (record { nodes = nodes; bytes = bytes }) ∙ ap (made m o) has.tree }

  -- an inode extent is added
  pub extent_has : (place first : ℕ) → AddsExtent v w place first → HasTree r w t
  extent_has place first adds = record {
    sound = none.sound;
    inodes = λ k x h. has.inodes k x (sym (none.objects_stay k) ∙ h);
    tree = one_tree (tree_on r v) (tree_on r w) (extent_tree r v w place first has.sound adds) ∙ has.tree;
  }
    where
      none : ChangesNone r v w
      none = (extent_law r v w place first has.sound adds).0
