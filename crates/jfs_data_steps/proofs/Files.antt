-- A regular file whose extents, size and data are others.
use Rattle.std.proofs.Common.{◌≡◌, refl, sym, ap, ◌∙◌, subst, inl, inr, ℕ, ◌*◌, ◌/◌, ◌%◌, ◌&&◌, true, false, nat_lt, if◌then◌else◌, List, [], length, Option, Some, None, Result, Ok, eqb-true}
use Rattle.std.specs.Option.{option_map}
use Rattle.std.specs.Int.RustNames.{bit_and}
use Rattle.jfs_bits.specs.Broken.{first_broken}
use Rattle.jfs_bits.specs.declared.descriptor.Moment.{Moment}
use Rattle.jfs_bits.specs.declared.extent.Xad.{Xad}
use Rattle.jfs_bits.specs.declared.rule.Rule.{Rule}
use Rattle.jfs_inode.specs.Rules.{rows}
use Rattle.jfs_inode.specs.declared.fields.Dinode.{Dinode}
use Rattle.jfs_name.specs.declared.name.NameEntry.{NameEntry}
use Rattle.jfs_ranges.specs.declared.edit.Edit.{Edit}
use Rattle.jfs_loss.specs.plain.specs.Tree.{Tree}
use Rattle.jfs_loss.specs.plain.specs.Moves.{sized, changed}
use Rattle.jfs_loss.specs.plain.specs.declared.node.Node.{Node}
use Rattle.jfs_loss.specs.objects.specs.Readers.{Readers}
use Rattle.jfs_loss.specs.objects.specs.Volume.{Volume, room}
use Rattle.jfs_loss.specs.objects.specs.Objects.{Object, objects, spelled, listed}
use Rattle.jfs_loss.specs.objects.specs.Owners.{entries}
use Rattle.jfs_loss.specs.objects.specs.Contents.{block_of, bytes_at}
use Rattle.jfs_loss.specs.objects.specs.Changes.{put}
use Rattle.jfs_loss.specs.objects.proofs.Sums.{put_here, put_other, eq_or_not}
use Rattle.jfs_loss.specs.meaning.specs.Readers.{readers}
use Rattle.jfs_loss.specs.meaning.specs.Contents.{byte_of, stored, byte_in, is_regular}
use Rattle.jfs_loss.specs.meaning.specs.Node.{is_symbolic, node_with, node_from, node_of, node_in, target_in}
use Rattle.jfs_loss.specs.meaning.specs.Tree.{node_on, byte_on, tree_on}
use Rattle.jfs_loss.specs.meaning.specs.Consistent.{IsConsistent, IsConsistentTree}
use Rattle.jfs_loss.specs.meaning.proofs.Books.{open_books, close_books}
use Rattle.jfs_loss.specs.meaning.proofs.Makes.{none, no_loose}
use Rattle.jfs_loss.specs.meaning.proofs.Same.{same_consistent}
use Rattle.jfs_loss.specs.meaning.proofs.Unlinks.{touched}
use Rattle.jfs_loss.specs.lead_steps.proofs.Again.{spelled_inode}
use Rattle.jfs_loss.specs.lead_steps.proofs.Chain.{at_changed, off_changed, some_is}
use Rattle.jfs_data_steps.specs.declared.pages.DataPage.{DataPage}
use Rattle.jfs_data_steps.specs.After.{put_data, with_data, after_writes}
use Rattle.jfs_data_steps.specs.File.{resized, bytes_held}
use Rattle.jfs_data_steps.specs.Laws.{MayPut, PutsAlone, IsSetWithData, SetsFile, IsFileSet, FileLaw, IsFilePut, FileBeforeLaw}
use Rattle.jfs_data_steps.proofs.Setting.{puts_alone, set_law}

-- ---- the node of a regular file

module _ (r : Readers) (q : ℕ → List ℕ) (e : Dinode) (type : bit_and e.mode 0xf000 ≡ 0x8000) where
  pub file_names : listed r.names_order (spelled r q e).names ≡ Ok []
  unfolding spelled
  file_names = rw type refl

  file_target : (page : ℕ → List ℕ) → target_in r page (spelled r q e) ≡ []
  unfolding spelled
  file_target page = rw type refl

  pub file_node : (page : ℕ → List ℕ) (es : List Xad) → listed r.extents_order (spelled r q e).extents ≡ Ok es → node_of r page (spelled r q e) ≡ Some (node_with e [] [])
  file_node page es is = ap (λ (target : List ℕ). node_from (spelled r q e).inode target (listed r.names_order (spelled r q e).names) (listed r.extents_order (spelled r q e).extents)) (file_target page)
      ∙ ap (λ (a : Result (List NameEntry) (ℕ × Rule)). node_from (spelled r q e).inode [] a (listed r.extents_order (spelled r q e).extents)) file_names
      ∙ ap (λ (b : Result (List Xad) (ℕ × Rule)). node_from (spelled r q e).inode [] (Ok []) b) is
      ∙ ap (λ (d : Dinode). Some (node_with d [] [])) (spelled_inode r q e)

  -- its bytes before its end are those of its blocks
  pub file_bytes : (page : ℕ → List ℕ) (es : List Xad) → listed r.extents_order (spelled r q e).extents ≡ Ok es → (i : ℕ) → byte_in r page (Some (spelled r q e)) i ≡ bytes_held page es e.size i
  file_bytes page es is i =
      ap (λ (d : Dinode). if is_regular d && nat_lt i d.size then stored r page (Some (spelled r q e)) i else 0) (spelled_inode r q e)
      ∙ regular
      ∙ ap (λ (l : Result (List Xad) (ℕ × Rule)). if nat_lt i e.size then byte_of (bytes_at page (block_of (entries l) (i / 4096))) (i % 4096) else 0) is
    where
      regular : (if is_regular e && nat_lt i e.size then stored r page (Some (spelled r q e)) i else 0) ≡ (if nat_lt i e.size then stored r page (Some (spelled r q e)) i else 0)
      regular = rw type refl

-- ---- the file, after data and a transaction

module _ (blocks : ℕ) (v : Volume) (n : ℕ) (d : Dinode) (root : List ℕ) (size own : ℕ) (now : Moment) (es : List Xad) (mid : ℕ → List ℕ) (taken freed : List ℕ) (ds : List DataPage) (tx : List Edit)
    (con : IsConsistent (readers blocks) v) (s : SetsFile blocks v n d root size own now es mid taken freed ds tx) where
  abbrev r : Readers
  r = readers blocks

  abbrev set : Dinode
  set = resized d root size own now

  abbrev o : Object
  o = spelled r mid set

  abbrev w : Volume
  w = after_writes blocks ds tx v

  abbrev page : ℕ → List ℕ
  page = put_data ds v.page

  abbrev t : Tree
  t = tree_on r v

  is_set : IsSetWithData r v w n o ds
  is_set = (set_law blocks v n set mid taken freed ds tx con.sound s.sets).1

  type : bit_and d.mode 0xf000 ≡ 0x8000
  type = eqb-true (bit_and d.mode 0xf000) 0x8000 s.regular

  node_was : node_on r v n ≡ Some (node_with d [] [])
  node_was = ap (node_in r v.page) s.was ∙ file_node r v.page d type v.page (con.sound.whole n (spelled r v.page d) s.was).extents (con.sound.whole n (spelled r v.page d) s.was).extents_are

  node_now : node_of r page o ≡ Some (sized size now (node_with d [] []))
  node_now = file_node r mid set type page es s.extents ∙ ap (λ (x : Node). Some x) same
    where
      same : node_with set [] [] ≡ sized size now (node_with d [] [])
      same = rw type refl

  nodes : (k : ℕ) → node_on r w k ≡ (changed n (sized size now) t).nodes k
  nodes k = elim (eq_or_not k n) [
    | inl e ↦ ap (node_on r w) e ∙ is_set.tree.nodes n ∙ put_here n (node_of r page o) (node_on r v) ∙ node_now ∙ ap (option_map (sized size now)) (sym node_was) ∙ sym (at_changed n k (sized size now) t e)
    | inr a ↦ is_set.tree.nodes k ∙ put_other n (node_of r page o) (node_on r v) k a ∙ sym (off_changed n k (sized size now) t a)
  ]

  bytes_now : (i : ℕ) → byte_in r page (Some o) i ≡ bytes_held page es size i
  bytes_now i = file_bytes r mid set type page es s.extents i

  bytes : (k i : ℕ) → byte_on r w k i ≡ put n (bytes_held page es size) t.bytes k i
  bytes k i = elim (eq_or_not k n) [
    | inl e ↦ ap (λ (j : ℕ). byte_on r w j i) e ∙ is_set.tree.contents n i ∙ ap (λ (f : ℕ → ℕ). f i) (put_here n (byte_in r page (Some o)) (byte_on r v)) ∙ bytes_now i
        ∙ sym (ap (λ (f : ℕ → ℕ). f i) (put_here n (bytes_held page es size) t.bytes)) ∙ ap (λ (j : ℕ). put n (bytes_held page es size) t.bytes j i) (sym e)
    | inr a ↦ is_set.tree.contents k i ∙ ap (λ (f : ℕ → ℕ). f i) (put_other n (byte_in r page (Some o)) (byte_on r v) k a) ∙ sym (ap (λ (f : ℕ → ℕ). f i) (put_other n (bytes_held page es size) t.bytes k a))
  ]

  -- ---- consistent

  rules_was : first_broken (rows d n) ≡ None
  rules_was = ap (λ (x : Dinode). first_broken (rows x n)) (sym (spelled_inode r v.page d)) ∙ con.inodes n (spelled r v.page d) s.was

  rules_now : first_broken (rows set n) ≡ None
  unfolding rows
  rules_now = rules_was

  here : objects r w n ≡ Some o
  here = is_set.one.objects_are n ∙ put_here n (Some o) (objects r v)

  inodes : (k : ℕ) (x : Object) → objects r w k ≡ Some x → first_broken (rows x.inode k) ≡ None
  inodes k x h = elim (eq_or_not k n) [
    | inl e ↦ subst (λ (j : ℕ). first_broken (rows x.inode j) ≡ None) (sym e)
        (ap (λ (y : Object). first_broken (rows y.inode n)) (sym (some_is (sym here ∙ ap (objects r w) (sym e) ∙ h))) ∙ ap (λ (e : Dinode). first_broken (rows e n)) (spelled_inode r mid set) ∙ rules_now)
    | inr a ↦ con.inodes k x (sym (is_set.one.objects_are k ∙ put_other n (Some o) (objects r v) k a) ∙ h)
  ]

  restyled : IsConsistentTree (room v) (changed n (sized size now) t)
  restyled = close_books (touched (room v) none t [] [] (open_books none con.tree) refl n (node_with d [] []) node_was (sized size now) refl refl (λ a. refl) refl) (λ k. refl) (λ k x there dir l. no_loose)

  same_room : room v ≡ room w
  same_room = ap (λ (xs : List (Option ℕ)). 32 * length xs) (sym s.sets.extents_stay)

  pub file_set : IsFileSet blocks v w n size (bytes_held page es size) now
  file_set = record {
    same = record { nodes = nodes; bytes = bytes };
    consistent = record {
      sound = is_set.one.sound;
      inodes = inodes;
      tree = subst (λ (most : ℕ). IsConsistentTree most (tree_on r w)) same_room (same_consistent (room v) (changed n (sized size now) t) (tree_on r w) nodes restyled);
    };
    areas = is_set.areas;
  }

pub file_law : FileLaw
file_law blocks v n d root size own now es mid taken freed ds tx con s = file_set blocks v n d root size own now es mid taken freed ds tx con s

-- ---- the file, once its data is put

module _ (blocks : ℕ) (v : Volume) (n : ℕ) (d : Dinode) (es : List Xad) (ds : List DataPage) (con : IsConsistent (readers blocks) v) (was : objects (readers blocks) v n ≡ Some (spelled (readers blocks) v.page d)) (regular : is_regular d ≡ true)
    (extents : listed (readers blocks).extents_order (spelled (readers blocks) v.page d).extents ≡ Ok es) (may : MayPut (readers blocks) v n ds) where
  abbrev q : Readers
  q = readers blocks

  abbrev u : Volume
  u = with_data ds v

  alone : PutsAlone q v u n
  alone = puts_alone q v n ds con.sound may

  file : bit_and d.mode 0xf000 ≡ 0x8000
  file = eqb-true (bit_and d.mode 0xf000) 0x8000 regular

  no_symbolic : (e : Dinode) → bit_and e.mode 0xf000 ≡ 0x8000 → is_symbolic e ≡ false
  no_symbolic e type = rw type refl

  same_nodes : (k : ℕ) → node_on q u k ≡ node_on q v k
  same_nodes k = elim (eq_or_not k n) [
    | inl e ↦ ap (node_on q u) e ∙ alone.tree.own (spelled q v.page d) was (ap (λ (x : Dinode). is_symbolic x) (spelled_inode q v.page d) ∙ no_symbolic d file) ∙ ap (node_on q v) (sym e)
    | inr a ↦ alone.tree.others k a
  ]

  own_bytes : (i : ℕ) → byte_on q u n i ≡ bytes_held (put_data ds v.page) es d.size i
  own_bytes i = ap (λ (x : Option Object). byte_in q u.page x i) (alone.none.objects_stay n ∙ was) ∙ file_bytes q v.page d file (put_data ds v.page) es extents i

  put_bytes_are : (k i : ℕ) → byte_on q u k i ≡ put n (bytes_held (put_data ds v.page) es d.size) (byte_on q v) k i
  put_bytes_are k i = elim (eq_or_not k n) [
    | inl e ↦ ap (λ (j : ℕ). byte_on q u j i) e ∙ own_bytes i ∙ sym (ap (λ (f : ℕ → ℕ). f i) (put_here n (bytes_held (put_data ds v.page) es d.size) (byte_on q v)))
        ∙ ap (λ (j : ℕ). put n (bytes_held (put_data ds v.page) es d.size) (byte_on q v) j i) (sym e)
    | inr a ↦ alone.tree.contents k i a ∙ sym (ap (λ (f : ℕ → ℕ). f i) (put_other n (bytes_held (put_data ds v.page) es d.size) (byte_on q v) k a))
  ]

  pub file_put : IsFilePut blocks v u n (bytes_held (put_data ds v.page) es d.size)
  file_put = record {
    same = record { nodes = same_nodes; bytes = put_bytes_are };
    consistent = record {
      sound = alone.none.sound;
      inodes = λ k o h. con.inodes k o (sym (alone.none.objects_stay k) ∙ h);
      tree = same_consistent (room v) (tree_on q v) (tree_on q u) same_nodes con.tree;
    };
  }

pub file_before : FileBeforeLaw
file_before blocks v n d es ds con was regular extents may = file_put blocks v n d es ds con was regular extents may
