-- Volumes with the same objects have trees with the same nodes.
use Rattle.std.proofs.Common.{◌≡◌, ◌⊎◌, ◌≤◌, ◌==◌, ℕ, true, false, if◌then◌else◌, List, [], Option, Some, None, refl, sym, ap, ◌∙◌, inl, inr, arith}
use Rattle.std.specs.Prelude.{nat_lt, nat_le, option_map, Result, Ok, Err}
use Rattle.std.specs.Int.RustNames.{bit_and}
use Rattle.std.proofs.lemmas.Bool.{cases_Bool, cond-true, cond-false, and_from, eqb-true, ltb-false, le-leb}
use Rattle.jfs_bits.specs.Field.{range_of}
use Rattle.jfs_legal.specs.served.specs.shown.specs.meaning.specs.Contents.{stored}
use Rattle.jfs_legal.specs.served.specs.shown.specs.meaning.specs.Node.{kind_of, size_of, is_symbolic, target_in, node_with, node_from, node_in}
use Rattle.jfs_legal.specs.served.specs.plain.specs.Step.{bytes_from}
use Rattle.jfs_legal.specs.served.specs.plain.specs.Tree.{is_link}
use Rattle.jfs_legal.specs.served.specs.plain.specs.declared.node.Node.{Node}
use Rattle.jfs_legal.specs.served.specs.shown.specs.objects.specs.Objects.{Object, objects, listed}
use Rattle.jfs_legal.specs.served.specs.shown.specs.objects.specs.Readers.{Readers}
use Rattle.jfs_kept_history.specs.Tree.{has_long_target, without_blocks, NodesLaw}

-- ---- a target

-- a node of this object, but for its target
module _ (r : Readers) (o : Object) (base : Node) (kind_is : base.kind ≡ kind_of (bit_and o.inode.mode 0xf000)) (size_is : base.size ≡ size_of o.inode) where
  abbrev node : List ℕ → Node
  node target = record base { target = target }

  -- no other object has one
  no_target : (page : ℕ → List ℕ) → is_symbolic o.inode ≡ false → target_in r page o ≡ []
  no_target page e = cond-false (is_symbolic o.inode) (if nat_lt o.inode.size 256 then range_of o.inode.rest 128 o.inode.size else bytes_from (stored r page (Some o)) 0 o.inode.size) [] e

  -- a short one stands in the inode
  short : (page : ℕ → List ℕ) → is_symbolic o.inode ≡ true → nat_lt o.inode.size 256 ≡ true → target_in r page o ≡ range_of o.inode.rest 128 o.inode.size
  short page e low =
      cond-true (is_symbolic o.inode) (if nat_lt o.inode.size 256 then range_of o.inode.rest 128 o.inode.size else bytes_from (stored r page (Some o)) 0 o.inode.size) [] e
      ∙ cond-true (nat_lt o.inode.size 256) (range_of o.inode.rest 128 o.inode.size) (bytes_from (stored r page (Some o)) 0 o.inode.size) low

  -- and a long one doesn't count
  long : is_symbolic o.inode ≡ true → nat_lt o.inode.size 256 ≡ false → (target : List ℕ) → has_long_target (node target) ≡ true
  long e high target = and_from (is_link base.kind) (nat_le 256 base.size) (ap is_link kind_is ∙ ap (λ (t : ℕ). is_link (kind_of t)) is) (le-leb 256 base.size (omega (arith, size_is, size, least)))
    where
      is : bit_and o.inode.mode 0xf000 ≡ 0xa000
      is = eqb-true (bit_and o.inode.mode 0xf000) 0xa000 e

      size : size_of o.inode ≡ o.inode.size
      size = ap (λ (t : ℕ). if t == 0x4000 then 0 else o.inode.size) is

      least : 256 ≤ o.inode.size
      least = ltb-false o.inode.size 256 high

  target_same : (p q : ℕ → List ℕ) → without_blocks (node (target_in r p o)) ≡ without_blocks (node (target_in r q o))
  target_same p q = by (cases_Bool (is_symbolic o.inode)) (cases_Bool (nat_lt o.inode.size 256))
    where
      same : target_in r p o ≡ target_in r q o → without_blocks (node (target_in r p o)) ≡ without_blocks (node (target_in r q o))
      same e = ap (λ (target : List ℕ). without_blocks (node target)) e

      cut : (target : List ℕ) → has_long_target (node target) ≡ true → without_blocks (node target) ≡ node []
      cut target e = cond-true (has_long_target (node target)) (node []) (node target) e

      by : (is_symbolic o.inode ≡ true) ⊎ (is_symbolic o.inode ≡ false) → (nat_lt o.inode.size 256 ≡ true) ⊎ (nat_lt o.inode.size 256 ≡ false) → without_blocks (node (target_in r p o)) ≡ without_blocks (node (target_in r q o))
      by (inr other) size = same (no_target p other ∙ sym (no_target q other))
      by (inl link) (inl low) = same (short p link low ∙ sym (short q link low))
      by (inl link) (inr high) = cut (target_in r p o) (long link high (target_in r p o)) ∙ sym (cut (target_in r q o) (long link high (target_in r q o)))

-- ---- a node

-- said of what is read from a directory and of the extents, each or a fault
by_both : {N X E F Y : Type 0} (f g : Result N E → Result X F → Y) → ((n : N) (x : X) → f (Ok n) (Ok x) ≡ g (Ok n) (Ok x)) → ((n : N) (e : F) → f (Ok n) (Err e) ≡ g (Ok n) (Err e))
    → ((e : E) (b : Result X F) → f (Err e) b ≡ g (Err e) b) → (a : Result N E) (b : Result X F) → f a b ≡ g a b
by_both f g both no_extents no_names (Ok n) (Ok x) = both n x
by_both f g both no_extents no_names (Ok n) (Err e) = no_extents n e
by_both f g both no_extents no_names (Err e) b = no_names e b

node_same : (r : Readers) (p q : ℕ → List ℕ) (x : Option Object) → option_map without_blocks (node_in r p x) ≡ option_map without_blocks (node_in r q x)
node_same r p q None = refl
node_same r p q (Some o) = by_both (λ names extents. option_map without_blocks (node_from o.inode (target_in r p o) names extents)) (λ names extents. option_map without_blocks (node_from o.inode (target_in r q o) names extents))
    (λ names extents. ap Some (target_same r o (node_with o.inode [] names) refl refl p q)) (λ names e. refl) (λ e extents. refl) (listed r.names_order o.names) (listed r.extents_order o.extents)

pub nodes_law : NodesLaw
nodes_law r v w same = record { nodes = λ n. ap (λ (x : Option Object). option_map without_blocks (node_in r w.page x)) (same.objects n) ∙ node_same r w.page v.page (objects r v n) }
