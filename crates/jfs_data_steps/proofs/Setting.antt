-- An object's data is put, and then a transaction sets the object.
use Rattle.std.proofs.Common.{◌≡◌, ◌<◌, refl, sym, ap, ◌∙◌, subst, inl, inr, ℕ, Bool, true, false, List, Option, Some, None, arith}
use Rattle.std.proofs.lemmas.Bool.{cases_lt}
use Rattle.jfs_inode.specs.declared.fields.Dinode.{Dinode}
use Rattle.jfs_ranges.specs.declared.edit.Edit.{Edit}
use Rattle.jfs_loss.specs.objects.specs.Readers.{Readers}
use Rattle.jfs_loss.specs.objects.specs.Volume.{Volume}
use Rattle.jfs_loss.specs.objects.specs.Objects.{Object, objects, spelled, listed}
use Rattle.jfs_loss.specs.objects.specs.Owners.{IsSound, is_data, owners, bit, entries, holds}
use Rattle.jfs_loss.specs.objects.specs.Contents.{contents, contents_of, block_of, bytes_at}
use Rattle.jfs_loss.specs.objects.specs.Changes.{put, WritesData}
use Rattle.jfs_loss.specs.objects.specs.Laws.{ChangesOne}
use Rattle.jfs_loss.specs.objects.proofs.Sums.{put_here, put_other, put_is, eq_or_not}
use Rattle.jfs_loss.specs.objects.proofs.Blocks.{covered}
use Rattle.jfs_loss.specs.objects.proofs.Data.{data_law}
use Rattle.jfs_loss.specs.objects.proofs.Set.{object_is_set}
use Rattle.jfs_kinds.proofs.Edits.{edit_law}
use Rattle.jfs_loss.specs.meaning.specs.Readers.{readers}
use Rattle.jfs_loss.specs.meaning.specs.Contents.{byte_in}
use Rattle.jfs_loss.specs.meaning.specs.Node.{node_of, node_in}
use Rattle.jfs_loss.specs.meaning.specs.Tree.{node_on, byte_on}
use Rattle.jfs_loss.specs.meaning.specs.Laws.{ChangesOneNode}
use Rattle.jfs_loss.specs.meaning.proofs.Changed.{set_tree, data_tree}
use Rattle.jfs_loss.specs.meaning.proofs.Stays.{SameBlocks, same_node, same_byte}
use Rattle.jfs_loss.specs.steps.specs.Call.{LeavesAreas}
use Rattle.jfs_loss.specs.steps.specs.Gains.{after_set}
use Rattle.jfs_loss.specs.steps.proofs.After.{after_is}
use Rattle.jfs_loss.specs.steps.proofs.Areas.{then_leaves, set_leaves, data_leaves}
use Rattle.jfs_loss.specs.steps.proofs.Puts.{put_within, put_past}
use Rattle.jfs_data_steps.specs.declared.pages.DataPage.{DataPage}
use Rattle.jfs_data_steps.specs.After.{is_put, page_put, put_data, with_data, after_writes}
use Rattle.jfs_data_steps.specs.Laws.{MayPut, PutsAlone, BeforeLaw, SetsWithData, IsSetWithData, SetLaw}
use Rattle.jfs_data_steps.proofs.Putting.{put_off, either_order}

-- ---- before the transaction

puts_data : (r : Readers) (v : Volume) (n : ℕ) (ds : List DataPage) → IsSound r v → MayPut r v n ds → WritesData r v (with_data ds v) n
puts_data r v n ds sound may = record { keeps = keeps; extents = refl; area = refl; used = refl; in_use = refl }
  where
    keeps : (b : ℕ) → 0 < owners r v b → is_data r (objects r v n) b ≡ 0 → put_data ds v.page b ≡ v.page b
    keeps b own none = by (is_put b ds) refl
      where
        by : (x : Bool) → is_put b ds ≡ x → put_data ds v.page b ≡ v.page b
        by false e = put_off ds b (v.page b) e
        by true e = elim (may b e) [
          | inl free ↦ absurd (let o = sound.agrees.blocks b in let z = ap bit free in omega (arith, o, z, own))
          | inr l ↦ absurd (omega (arith, l, none))
        ]

pub puts_alone : BeforeLaw
puts_alone r v n ds sound may = record {
  writes = s;
  none = (data_law r v (with_data ds v) n sound s).0;
  contents_stay = (data_law r v (with_data ds v) n sound s).1;
  tree = data_tree r v (with_data ds v) n sound s;
  logged = (edit_law.writes r v (with_data ds v) n sound s).0;
  owners = (edit_law.writes r v (with_data ds v) n sound s).1;
}
  where
    s : WritesData r v (with_data ds v) n
    s = puts_data r v n ds sound may

-- ---- after it

-- the block that holds a place of an object is its data
data_block : (r : Readers) (o : Object) (k b : ℕ) → block_of (entries (listed r.extents_order o.extents)) k ≡ Some b → 0 < is_data r (Some o) b
unfolding is_data
data_block r o k b h = covered (entries (listed r.extents_order o.extents)) k b h

module _ (blocks : ℕ) (v : Volume) (n : ℕ) (set : Dinode) (mid : ℕ → List ℕ) (taken freed : List ℕ) (ds : List DataPage) (tx : List Edit) (sound : IsSound (readers blocks) v) (s : SetsWithData blocks v n set mid taken freed ds tx) where
  abbrev r : Readers
  r = readers blocks

  abbrev o : Object
  o = spelled r mid set

  -- without the data, and with it
  abbrev w : Volume
  w = after_set blocks tx n v

  abbrev u : Volume
  u = with_data ds w

  set_one : ChangesOne r v w n (Some o)
  set_one = (object_is_set r v w n set mid taken freed sound s.sets).0

  is_set : objects r w n ≡ Some o
  is_set = set_one.objects_are n ∙ put_here n (Some o) (objects r v)

  alone : PutsAlone r w u n
  alone = puts_alone r w n ds set_one.sound (λ b e. inr (subst (λ x. 0 < is_data r x b) (sym is_set) (s.after b e)))

  -- it is the volume after both
  is_after : u ≡ after_writes blocks ds tx v
  is_after = after_is blocks tx (with_data ds v) u (record {
    page = either_order blocks ds tx v.page s.whole (λ b e. s.untold b (s.after b e));
    extents = sym s.extents_stay;
    area = refl;
    used = λ b. refl;
    in_use = alone.none.sound.agrees.inodes;
  })

  one : ChangesOne r v u n (Some o)
  one = record {
    sound = alone.none.sound;
    objects_are = λ k. alone.none.objects_stay k ∙ set_one.objects_are k;
    contents_stay = λ m k apart. alone.contents_stay m k apart ∙ set_one.contents_stay m k apart;
    owners_stay = λ b k was now. ap (λ x. holds r x b) (alone.none.objects_stay k) ∙ set_one.owners_stay b k was now;
  }

  now_is : objects r u n ≡ Some o
  now_is = one.objects_are n ∙ put_here n (Some o) (objects r v)

  -- ---- contents

  -- the transaction leaves the object's data
  stays : (b : ℕ) → 0 < is_data r (Some o) b → w.page b ≡ v.page b
  stays b l = elim (cases_lt b blocks) [
    | inl low ↦ put_within blocks tx v.page b low ∙ s.untold b l (v.page b) (s.pages b low)
    | inr high ↦ put_past blocks tx v.page b high
  ]

  at_block : (k : ℕ) (x : Option ℕ) → block_of (entries (listed r.extents_order o.extents)) k ≡ x → bytes_at (put_data ds w.page) x ≡ bytes_at (put_data ds v.page) x
  at_block k None e = refl
  at_block k (Some b) e = ap (λ (page : List ℕ). Some (page_put ds b page)) (stays b (data_block r o k b e))

  same_blocks : SameBlocks r (put_data ds v.page) u.page (Some o)
  same_blocks k = at_block k (block_of (entries (listed r.extents_order o.extents)) k) refl

  contents_are : (k : ℕ) → contents r u n k ≡ contents_of r (put_data ds v.page) (Some o) k
  contents_are k = ap (λ x. contents_of r u.page x k) now_is ∙ same_blocks k

  node_here : node_on r u n ≡ node_of r (put_data ds v.page) o
  node_here = ap (node_in r u.page) now_is ∙ same_node r (put_data ds v.page) u.page (Some o) same_blocks

  byte_here : (i : ℕ) → byte_on r u n i ≡ byte_in r (put_data ds v.page) (Some o) i
  byte_here i = ap (λ x. byte_in r u.page x i) now_is ∙ same_byte r (put_data ds v.page) u.page (Some o) same_blocks i

  set_node : ChangesOneNode r v w n (node_of r mid o) (byte_in r mid (Some o))
  set_node = set_tree r v w n set mid taken freed sound s.sets

  tree : ChangesOneNode r v u n (node_of r (put_data ds v.page) o) (byte_in r (put_data ds v.page) (Some o))
  tree = record {
    nodes = put_is (node_on r v) (node_on r u) n (node_of r (put_data ds v.page) o) node_here (λ k apart. alone.tree.others k apart ∙ set_node.nodes k ∙ put_other n (node_of r mid o) (node_on r v) k apart);
    contents = λ k i. at k i;
  }
    where
      at : (k i : ℕ) → byte_on r u k i ≡ put n (byte_in r (put_data ds v.page) (Some o)) (byte_on r v) k i
      at k i = elim (eq_or_not k n) [
        | inl e ↦ ap (λ (j : ℕ). byte_on r u j i) e ∙ byte_here i ∙ sym (ap (λ (f : ℕ → ℕ). f i) (put_here n (byte_in r (put_data ds v.page) (Some o)) (byte_on r v)))
            ∙ ap (λ (j : ℕ). put n (byte_in r (put_data ds v.page) (Some o)) (byte_on r v) j i) (sym e)
        | inr apart ↦ alone.tree.contents k i apart ∙ set_node.contents k i ∙ ap (λ (f : ℕ → ℕ). f i) (put_other n (byte_in r mid (Some o)) (byte_on r v) k apart)
            ∙ sym (ap (λ (f : ℕ → ℕ). f i) (put_other n (byte_in r (put_data ds v.page) (Some o)) (byte_on r v) k apart))
      ]

  areas : LeavesAreas v u
  areas = then_leaves v w u refl (set_leaves r v sound.agrees w n set mid taken freed s.sets) (data_leaves r w set_one.sound.agrees u n alone.writes)

  pub is_set_with_data : IsSetWithData r v (after_writes blocks ds tx v) n o ds
  is_set_with_data = subst (λ (x : Volume). IsSetWithData r v x n o ds) is_after (record { one = one; contents_are = contents_are; tree = tree; areas = areas })

pub set_law : SetLaw
set_law blocks v n set mid taken freed ds tx sound s = (puts_alone (readers blocks) v n ds sound s.before, is_set_with_data blocks v n set mid taken freed ds tx sound s)
