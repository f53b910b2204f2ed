-- A regular file that a call holds, on a consistent volume: what stands there, and the plain tree.
use Rattle.std.proofs.Common.{◌≡◌, ◌<◌, ◌≢◌, refl, sym, ap, ◌∙◌, subst, ℕ, ◌%◌, ◌&&◌, ◌==◌, Bool, true, false, nat_lt, if◌then◌else◌, List, length, map, Option, Some, Result, Ok, Err, arith}
use Rattle.std.proofs.lemmas.Bool.Decides.{nat_tests}
use Rattle.jfs_inode.specs.Rules.{type_of}
use Rattle.jfs_inode.specs.declared.fields.Dinode.{Dinode}
use Rattle.jfs_loss.specs.imap.specs.Inodes.{Inodes}
use Rattle.jfs_loss.specs.bmap.specs.States.{Blocks, is_owned}
use Rattle.jfs_bits.specs.declared.descriptor.Moment.{Moment}
use Rattle.jfs_bits.specs.declared.extent.Xad.{Xad}
use Rattle.jfs_bits.proofs.Parts.{length-range_of}
use Rattle.jfs_loss.specs.xtree.specs.Spells.{spells_extents}
use Rattle.jfs_name.specs.declared.name.NameEntry.{NameEntry}
use Rattle.jfs_loss.specs.plain.specs.Tree.{Tree, Found, found, found_at, walk, root, and_then}
use Rattle.jfs_loss.specs.plain.specs.Moves.{Same}
use Rattle.jfs_loss.specs.plain.specs.Step.{Outcome, if_file, file}
use Rattle.jfs_loss.specs.plain.specs.declared.node.Node.{Node}
use Rattle.jfs_loss.specs.plain.specs.declared.refusal.Refusal.{Refusal}
use Rattle.jfs_loss.specs.plain.specs.declared.refusal.Refusal.TheVariants.{IsDir, NotFile}
use Rattle.jfs_loss.specs.plain.specs.declared.reply.NodeKind.TheVariants.{Dir, File, Link, Other}
use Rattle.jfs_loss.specs.plain.specs.declared.reply.Reply.TheVariants.{Done}
use Rattle.jfs_loss.specs.objects.specs.Image.{extent_place}
use Rattle.jfs_loss.specs.objects.specs.Volume.{Volume, home}
use Rattle.jfs_loss.specs.objects.specs.Objects.{Object, objects, spelled, is_live, has_names, listed}
use Rattle.jfs_loss.specs.objects.specs.Owners.{holds}
use Rattle.jfs_loss.specs.objects.proofs.Homes.{home_counts}
use Rattle.jfs_loss.specs.objects.proofs.Owned.{fixed_is_no_objects}
use Rattle.jfs_loss.specs.meaning.specs.Contents.{is_regular}
use Rattle.jfs_loss.specs.meaning.specs.Readers.{readers, root_of}
use Rattle.jfs_loss.specs.meaning.specs.Node.{node_with, node_from, node_in, target_in}
use Rattle.jfs_loss.specs.meaning.specs.Tree.{tree_on}
use Rattle.jfs_loss.specs.meaning.specs.Consistent.{IsConsistent}
use Rattle.jfs_loss.specs.way.specs.Volume.{volume_of}
use Rattle.jfs_loss.specs.way.specs.Walk.{IsHeld, IsShown, IsThere, tree_in}
use Rattle.jfs_loss.specs.way.specs.declared.object.Held.{Held}
use Rattle.jfs_loss.specs.way.proofs.Nodes.{lives}
use Rattle.jfs_loss.specs.lead_steps.proofs.Again.{rest_size, spelled_inode}
use Rattle.jfs_loss.proofs.Holds.{extents_listed}
use Rattle.jfs_loss.specs.steps.specs.Call.{IsDone}
use Rattle.jfs_loss.specs.steps.proofs.LastNames.{stood, object_is}
use Rattle.jfs_data_steps.specs.File.{refilled}
use Rattle.jfs_data_steps.specs.Laws.{IsFileSet}
use Rattle.jfs_data_steps.proofs.Extents.{some_extents}

-- a block in use lies within the file system part
pub used_below : (blocks : ℕ) (pages : ℕ → List ℕ) (area : ℕ → ℕ) (bm : Blocks) (inodes : Inodes) → length bm.states ≡ blocks → (b : ℕ) → (volume_of pages area bm inodes).used b ≡ true → b < blocks
used_below blocks pages area bm inodes many b h = subst (λ (k : ℕ). b < k) many (by (nat_lt b (length bm.states)) refl h)
  where
    below_it : (k j : ℕ) → nat_lt k j ≡ true → k < j
    below_it k j h = grind (arith, nat_tests)

    by : (x : Bool) → nat_lt b (length bm.states) ≡ x → (x && is_owned bm b) ≡ true → b < length bm.states
    by true e h = below_it b (length bm.states) e
    by false e h = absurd (cc (h))

-- a file is wanted, by the kind of what is found
by_kind : (a b c : Bool) (f : Found) → f.node.kind ≡ (if a then Dir else (if b then File else (if c then Link else Other))) → if_file f ≡ (if a then Err IsDir else if b then Ok f else Err NotFile)
by_kind true b c f e = rw e refl
by_kind false true c f e = rw e refl
by_kind false false true f e = rw e refl
by_kind false false false f e = rw e refl

module _ (blocks : ℕ) (pages : ℕ → List ℕ) (whole : (b : ℕ) → b < blocks → length (pages b) ≡ 4096) (area : ℕ → ℕ) (bm : Blocks) (inodes : Inodes) (con : IsConsistent (readers blocks) (volume_of pages area bm inodes))
    (at : Held) (held : IsHeld blocks inodes at) (shown : IsShown pages at) (some : IsThere (tree_in blocks pages area bm inodes) at.number) where
  abbrev v : Volume
  v = volume_of pages area bm inodes

  abbrev t : Tree
  t = tree_in blocks pages area bm inodes

  abbrev d : Dinode
  d = at.inode

  abbrev o : Object
  o = spelled (readers blocks) pages d

  pub at_home : home (map extent_place inodes.extents) at.number ≡ Some at.page
  at_home = stood blocks pages area bm inodes con at held shown some

  pub was : objects (readers blocks) v at.number ≡ Some o
  was = object_is blocks pages area bm inodes con at held shown some

  pub is_living : is_live at.number d ≡ true
  is_living = ap (is_live at.number) shown ∙ lives blocks v con at.number at.page at_home some

  pub rest_is : length d.rest ≡ 384
  rest_is = rest_size (pages at.page) (at.number % 8) d (whole at.page held.within) (omega arith) shown

  pub wide : length (root_of d) ≡ 288
  wide = length-range_of d.rest 96 288 (let e = rest_is in omega (arith, e))

  -- the page of the inode is no block of it
  pub not_home : (b : ℕ) → 0 < holds (readers blocks) (objects (readers blocks) v at.number) b → b ≢ at.page
  not_home b l same =
      let c = home_counts v.extents at.number at.page at_home in
      let z = fixed_is_no_objects (readers blocks) v con.sound.agrees at.number at.page (omega (arith, c)) in
      let e = ap (holds (readers blocks) (objects (readers blocks) v at.number)) same in
      omega (arith, l, z, e)

  -- its extents
  abbrev pub es : List Xad
  es = (con.sound.whole at.number o was).extents

  pub listed_es : listed (readers blocks).extents_order o.extents ≡ Ok es
  listed_es = (con.sound.whole at.number o was).extents_are

  pub spelled_es : is_regular d ≡ true → spells_extents blocks pages (root_of d) ≡ Ok es
  spelled_es regular = sym (extents_listed blocks pages d wide (some_extents d regular)) ∙ listed_es

  -- ---- the plain tree

  node_at : (names : List NameEntry) → listed (readers blocks).names_order o.names ≡ Ok names → t.nodes at.number ≡ Some (node_with d (target_in (readers blocks) pages o) names)
  node_at names is = ap (node_in (readers blocks) pages) was
      ∙ ap (λ a. node_from o.inode (target_in (readers blocks) pages o) a (listed (readers blocks).extents_order o.extents)) is
      ∙ ap (λ b. node_from o.inode (target_in (readers blocks) pages o) (Ok names) b) listed_es
      ∙ ap (λ (d : Dinode). Some (node_with d (target_in (readers blocks) pages o) names)) (spelled_inode (readers blocks) pages d)

  abbrev pub node : Node
  node = node_with d (target_in (readers blocks) pages o) (con.sound.whole at.number o was).names

  pub node_there : t.nodes at.number ≡ Some node
  node_there = node_at (con.sound.whole at.number o was).names (con.sound.whole at.number o was).names_are

  pub node_size : has_names d ≡ false → node.size ≡ d.size
  node_size e = ap (λ (x : Bool). if x then 0 else d.size) e

  -- A path that leads to it leads to a file, or to a directory, or to neither.
  pub file_is : (path : List (List ℕ)) → walk t root path ≡ Ok at.number → file t path ≡ (if has_names d then Err IsDir else if is_regular d then Ok (found_at at.number node) else Err NotFile)
  file_is path walked = ap (λ (x : Result ℕ Refusal). and_then (and_then x (λ n. found n (t.nodes n))) if_file) walked
      ∙ ap (λ (y : Option Node). and_then (found at.number y) if_file) node_there
      ∙ by_kind (type_of d == 0x4000) (type_of d == 0x8000) (type_of d == 0xa000) (found_at at.number node) same_kind
    where
      same_kind : node.kind ≡ (if type_of d == 0x4000 then Dir else (if type_of d == 0x8000 then File else (if type_of d == 0xa000 then Link else Other)))
      same_kind = refl

-- ---- a call that set a file

-- Where a plain step has this file's size and bytes, the call is done.
pub file_done : (blocks : ℕ) (v w : Volume) (n size : ℕ) (bytes : ℕ → ℕ) (now : Moment) (plain : Tree → Outcome) (u : Tree) → plain (tree_on (readers blocks) v) ≡ Ok (Done, u) → Same u (refilled n size bytes now (tree_on (readers blocks) v))
    → IsFileSet blocks v w n size bytes now → IsDone blocks v w plain
file_done blocks v w n size bytes now plain u outcome same set = record {
  tree = u;
  outcome = outcome;
  same = record { nodes = λ k. set.same.nodes k ∙ same.nodes k; bytes = λ k i. set.same.bytes k i ∙ same.bytes k i };
  consistent = set.consistent;
  areas = set.areas;
}
