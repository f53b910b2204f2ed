-- Edits of one object change one node.
use Rattle.std.proofs.Common.{◌≡◌, ◌≢◌, refl, sym, ap, ◌∙◌, ℕ, inl, inr, Option, Some, None}
use Rattle.jfs_plain.specs.declared.node.Node.{Node}
use Rattle.jfs_objects.specs.Readers.{Readers}
use Rattle.jfs_objects.specs.Volume.{Volume}
use Rattle.jfs_objects.specs.Objects.{Object, objects, spelled}
use Rattle.jfs_objects.specs.Contents.{contents, contents_of}
use Rattle.jfs_objects.specs.Changes.{put}
use Rattle.jfs_objects.specs.Laws.{ChangesOne}
use Rattle.jfs_objects.proofs.Sums.{put_here, put_other, put_is, eq_or_not}
use Rattle.jfs_objects.proofs.Set.{object_is_set}
use Rattle.jfs_objects.proofs.Drop.{object_goes}
use Rattle.jfs_objects.proofs.Extent.{extent_law}
use Rattle.jfs_objects.proofs.Data.{data_law}
use Rattle.jfs_meaning.specs.Contents.{byte_in}
use Rattle.jfs_meaning.specs.Node.{node_of, node_in}
use Rattle.jfs_meaning.specs.Tree.{node_on, byte_on}
use Rattle.jfs_meaning.specs.Laws.{ChangesOneNode, SetTreeLaw, DropTreeLaw, ExtentTreeLaw, DataTreeLaw}
use Rattle.jfs_meaning.proofs.Stays.{SameBlocks, same_node, same_byte, no_link}

module _ (r : Readers) (v w : Volume) where
  -- an object that stays, with its contents
  blocks_stay : (m : ℕ) → objects r w m ≡ objects r v m → ((k : ℕ) → contents r w m k ≡ contents r v m k) → SameBlocks r v.page w.page (objects r v m)
  blocks_stay m is h k = sym (ap (λ (o : Option Object). contents_of r w.page o k) is) ∙ h k

  node_stays : (m : ℕ) → objects r w m ≡ objects r v m → ((k : ℕ) → contents r w m k ≡ contents r v m k) → node_on r w m ≡ node_on r v m
  node_stays m is h = ap (node_in r w.page) is ∙ same_node r v.page w.page (objects r v m) (blocks_stay m is h)

  byte_stays : (m : ℕ) → objects r w m ≡ objects r v m → ((k : ℕ) → contents r w m k ≡ contents r v m k) → (i : ℕ) → byte_on r w m i ≡ byte_on r v m i
  byte_stays m is h i = ap (λ (o : Option Object). byte_in r w.page o i) is ∙ same_byte r v.page w.page (objects r v m) (blocks_stay m is h) i

  module _ (n : ℕ) (x : Option Object) (c : ChangesOne r v w n x) where
    other : (m : ℕ) → m ≢ n → objects r w m ≡ objects r v m
    other m apart = c.objects_are m ∙ put_other n x (objects r v) m apart

    one_node : (node : Option Node) (bytes : ℕ → ℕ) → node_in r w.page x ≡ node → ((i : ℕ) → byte_in r w.page x i ≡ bytes i) → ChangesOneNode r v w n node bytes
    one_node node bytes is_node is_bytes = record {
      nodes = put_is (node_on r v) (node_on r w) n node (ap (node_in r w.page) (c.objects_are n ∙ put_here n x (objects r v)) ∙ is_node) (λ m apart. node_stays m (other m apart) (λ k. c.contents_stay m k apart));
      contents = λ m i. contents_at m i;
    }
      where
        contents_at : (m i : ℕ) → byte_on r w m i ≡ put n bytes (byte_on r v) m i
        contents_at m i = elim (eq_or_not m n) [
          | inl e ↦ ap (λ (k : ℕ). byte_on r w k i) e ∙ ap (λ (o : Option Object). byte_in r w.page o i) (c.objects_are n ∙ put_here n x (objects r v)) ∙ is_bytes i
              ∙ sym (ap (λ (f : ℕ → ℕ). f i) (put_here n bytes (byte_on r v))) ∙ ap (λ (k : ℕ). put n bytes (byte_on r v) k i) (sym e)
          | inr e ↦ byte_stays m (other m e) (λ k. c.contents_stay m k e) i ∙ sym (ap (λ (f : ℕ → ℕ). f i) (put_other n bytes (byte_on r v) m e))
        ]

pub set_tree : SetTreeLaw
set_tree r v w n after mid taken freed sound s =
    let done = object_is_set r v w n after mid taken freed sound s in
    let x = Some (spelled r mid after) in
    let same : SameBlocks r mid w.page x = λ k. sym (ap (λ (o : Option Object). contents_of r w.page o k) (done.0.objects_are n ∙ put_here n x (objects r v))) ∙ done.1 k in
    one_node r v w n x done.0 (node_of r mid (spelled r mid after)) (byte_in r mid x) (same_node r mid w.page x same) (same_byte r mid w.page x same)

pub drop_tree : DropTreeLaw
drop_tree r v w n left freed sound s = one_node r v w n None (object_goes r v w n left freed sound s) None (λ i. 0) refl (λ i. refl)

pub extent_tree : ExtentTreeLaw
extent_tree r v w place first sound s =
    let done = extent_law r v w place first sound s in
    record {
      nodes = λ m. node_stays r v w m (done.0.objects_stay m) (done.1 m);
      bytes = λ m i. byte_stays r v w m (done.0.objects_stay m) (done.1 m) i;
    }

pub data_tree : DataTreeLaw
data_tree r v w n sound s =
    let done = data_law r v w n sound s in
    record {
      others = λ m apart. node_stays r v w m (done.0.objects_stay m) (λ k. done.1 m k apart);
      own = λ o is no. (ap (node_in r w.page) (done.0.objects_stay n ∙ is) ∙ no_link r v.page w.page o no ∙ sym (ap (node_in r v.page) is));
      contents = λ m i apart. byte_stays r v w m (done.0.objects_stay m) (λ k. done.1 m k apart) i;
    }
