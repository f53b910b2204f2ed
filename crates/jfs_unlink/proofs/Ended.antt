-- What the two ends of a path are on a consistent volume, and in its tree.
use Rattle.std.proofs.Common.{◌≡◌, ◌≤◌, ◌<◌, refl, sym, ap, ◌∙◌, subst, inl, ℕ, ◌%◌, ◌&&◌, ◌==◌, Bool, true, false, true≢false, nat_le, nat_lt, if◌then◌else◌, List, length, map, Option, Some, None, Result, Ok, Err, arith}
use Rattle.std.proofs.lemmas.Bool.Decides.{nat_tests}
use Rattle.jfs_bits.proofs.Parts.{length-range_of}
use Rattle.jfs_inode.specs.Rules.{type_of}
use Rattle.jfs_inode.specs.declared.fields.Dinode.{Dinode}
use Rattle.jfs_imap.specs.Inodes.{Inodes}
use Rattle.jfs_loss.specs.bmap.specs.States.{Blocks, is_owned}
use Rattle.jfs_name.specs.declared.name.NameEntry.{NameEntry}
use Rattle.jfs_name.specs.Directory.{named}
use Rattle.jfs_dtree.specs.Spells.{spells_names}
use Rattle.jfs_plain.specs.Tree.{Tree, found, found_at, object, place, place_at, place_as, in_directory, walk, enter, enter_from, wanted, root, and_then, is_dir, is_file}
use Rattle.jfs_plain.specs.Step.{is_last_of_big}
use Rattle.jfs_plain.specs.declared.node.Node.{Node}
use Rattle.jfs_plain.specs.declared.refusal.Refusal.{Refusal}
use Rattle.jfs_plain.specs.declared.refusal.Refusal.TheVariants.{NotDir}
use Rattle.jfs_plain.specs.declared.reply.NodeKind.TheVariants.{Dir, File, Link, Other}
use Rattle.jfs_loss.specs.objects.specs.Image.{extent_place}
use Rattle.jfs_loss.specs.objects.specs.Volume.{Volume, home, slot_of}
use Rattle.jfs_loss.specs.objects.specs.Objects.{Object, objects, spelled, is_live, has_names, listed}
use Rattle.jfs_loss.specs.meaning.specs.Readers.{readers, root_of}
use Rattle.jfs_loss.specs.meaning.specs.Node.{kind_of, node_in, node_from, node_with, target_in}
use Rattle.jfs_loss.specs.meaning.specs.Consistent.{IsConsistent, MayBeNamed}
use Rattle.jfs_loss.specs.meaning.proofs.Reached.{IsReached, walked as reaches}
use Rattle.jfs_loss.specs.way.specs.Volume.{volume_of}
use Rattle.jfs_loss.specs.way.specs.Walk.{IsHeld, IsShown, IsThere, tree_in}
use Rattle.jfs_loss.specs.way.specs.declared.object.Held.{Held}
use Rattle.jfs_loss.specs.way.proofs.Nodes.{in_directory as in_tree, in_other, lives}
use Rattle.jfs_loss.specs.lead_steps.proofs.Turned.{names_listed}
use Rattle.jfs_loss.specs.lead_steps.proofs.Again.{rest_size, few_links, spelled_inode, inode_same}
use Rattle.jfs_loss.specs.steps.specs.Place.{front_of, last_of}
use Rattle.jfs_loss.specs.steps.proofs.LastNames.{stood, object_is, IsDirectory, directory_is, place_is}
use Rattle.jfs_unlink.specs.Call as call
use Rattle.jfs_unlink.specs.Ends.{AreHeld, AreShown, AreEnds}
use Rattle.jfs_unlink.specs.declared.ends.Ends.{Ends}
use Rattle.jfs_unlink.proofs.Paths.{walk_is}

-- ---- an object's node

dir_kind : (type : ℕ) → is_dir (kind_of type) ≡ (type == 0x4000)
dir_kind type = by (type == 0x4000) (type == 0x8000) (type == 0xa000)
  where
    by : (a b c : Bool) → is_dir (if a then Dir else (if b then File else (if c then Link else Other))) ≡ a
    by true b c = refl
    by false true c = refl
    by false false true = refl
    by false false false = refl

-- what is no directory is a file by the bits of its type
file_kind : (type : ℕ) → (type == 0x4000) ≡ false → is_file (kind_of type) ≡ (type == 0x8000)
file_kind type other = by (type == 0x4000) (type == 0x8000) (type == 0xa000) other
  where
    by : (a b c : Bool) → a ≡ false → is_file (if a then Dir else (if b then File else (if c then Link else Other))) ≡ b
    by true b c h = absurd (true≢false h)
    by false true c h = refl
    by false false true h = refl
    by false false false h = refl

both_sides : (a b c : Bool) → (a && b && c) ≡ (a && (b && c))
both_sides true b c = refl
both_sides false b c = refl

-- the node of an inode
pub record IsNodeOf (blocks : ℕ) (pages : ℕ → List ℕ) (t : Tree) (at : Held) : Type 0 where
  pub node : Node
  pub there : t.nodes at.number ≡ Some node
  pub dir : is_dir node.kind ≡ has_names at.inode
  pub links : node.links ≡ at.inode.nlink
  pub names : has_names at.inode ≡ true → spells_names blocks pages (root_of at.inode) ≡ Ok node.names
  pub big : has_names at.inode ≡ false → (limit : ℕ) → is_last_of_big limit node ≡ call.is_last_of_big limit at.inode

module _ (blocks : ℕ) (pages : ℕ → List ℕ) (area : ℕ → ℕ) (bm : Blocks) (inodes : Inodes) (con : IsConsistent (readers blocks) (volume_of pages area bm inodes)) where
  abbrev v : Volume
  v = volume_of pages area bm inodes

  abbrev t : Tree
  t = tree_in blocks pages area bm inodes

  -- a block in use lies within the file system part
  pub used_within : length bm.states ≡ blocks → (b : ℕ) → v.used b ≡ true → b < blocks
  used_within many b h = subst (λ (k : ℕ). b < k) many (by (nat_lt b (length bm.states)) refl h)
    where
      below_it : (k j : ℕ) → nat_lt k j ≡ true → k < j
      below_it k j h = grind (arith, nat_tests)

      by : (x : Bool) → nat_lt b (length bm.states) ≡ x → (x && is_owned bm b) ≡ true → b < length bm.states
      by true e h = below_it b (length bm.states) e
      by false e h = absurd (cc (h))

  module _ (at : Held) (held : IsHeld blocks inodes at) (shown : IsShown pages at) (some : IsThere t at.number) where
    at_home : home (map extent_place inodes.extents) at.number ≡ Some at.page
    at_home = stood blocks pages area bm inodes con at held shown some

    was : objects (readers blocks) v at.number ≡ Some (spelled (readers blocks) pages at.inode)
    was = object_is blocks pages area bm inodes con at held shown some

    pub is_living : is_live at.number at.inode ≡ true
    is_living = ap (is_live at.number) shown ∙ lives blocks v con at.number at.page at_home some

    pub few : at.inode.nlink ≤ 65535
    few = few_links at.inode at.number held.rules

    pub rest_is : ((b : ℕ) → b < blocks → length (pages b) ≡ 4096) → length at.inode.rest ≡ 384
    rest_is whole = rest_size (pages at.page) (at.number % 8) at.inode (whole at.page held.within) (omega arith) shown

    pub root_is : ((b : ℕ) → b < blocks → length (pages b) ≡ 4096) → length (root_of at.inode) ≡ 288
    root_is whole = length-range_of at.inode.rest 96 288 (let e = rest_is whole in omega (arith, e))

    abbrev o : Object
    o = spelled (readers blocks) pages at.inode

    node_at : t.nodes at.number ≡ Some (node_with at.inode (target_in (readers blocks) pages o) (con.sound.whole at.number o was).names)
    node_at = ap (node_in (readers blocks) pages) was
        ∙ ap (λ a. node_from o.inode (target_in (readers blocks) pages o) a (listed (readers blocks).extents_order o.extents)) (con.sound.whole at.number o was).names_are
        ∙ ap (λ b. node_from o.inode (target_in (readers blocks) pages o) (Ok (con.sound.whole at.number o was).names) b) (con.sound.whole at.number o was).extents_are
        ∙ ap (λ (d : Dinode). Some (node_with d (target_in (readers blocks) pages o) (con.sound.whole at.number o was).names)) (spelled_inode (readers blocks) pages at.inode)

    pub node_of_it : IsNodeOf blocks pages t at
    node_of_it = record {
      node = node_with at.inode (target_in (readers blocks) pages o) (con.sound.whole at.number o was).names;
      there = node_at;
      dir = dir_kind (type_of at.inode);
      links = refl;
      names = λ h. sym (names_listed blocks pages at.inode h) ∙ (con.sound.whole at.number o was).names_are;
      big = λ file limit. (both_sides (is_file (kind_of (type_of at.inode))) (nat_le at.inode.nlink 1) (nat_lt limit (if has_names at.inode then 0 else at.inode.size))
          ∙ ap (λ (x : Bool). x && (nat_le at.inode.nlink 1 && nat_lt limit (if has_names at.inode then 0 else at.inode.size))) (file_kind (type_of at.inode) file)
          ∙ ap (λ (x : Bool). type_of at.inode == 0x8000 && (nat_le at.inode.nlink 1 && nat_lt limit (if x then 0 else at.inode.size))) file);
    }

  -- ---- both ends

  module _ (path : List (List ℕ)) (some : 1 ≤ length path) (e : Ends) (held : AreHeld blocks inodes e) (shown : AreShown pages e) (ends : AreEnds t path e) where
    -- the directory is one
    pub dir_is : has_names e.dir.inode ≡ true
    dir_is = by (has_names e.dir.inode) refl
      where
        by : (x : Bool) → has_names e.dir.inode ≡ x → has_names e.dir.inode ≡ true
        by true h = h
        by false h = absurd (no (sym (in_other blocks v con e.dir.number e.dir.page (at_home e.dir held.0 shown.0 ends.in_tree) ends.in_tree (ap has_names (sym shown.0) ∙ h) (last_of path)) ∙ ends.entered))
          where
            no : Err NotDir ≡ Ok e.at.number → ⊥
            no h = cc (h)

    pub directory : IsDirectory blocks pages t e.dir
    directory = directory_is blocks pages area bm inodes con e.dir held.0 shown.0 ends.in_tree dir_is

    -- the name names the object
    pub names_it : named (last_of path) directory.names ≡ Some e.at.number
    names_it = by (named (last_of path) directory.names) (sym opened ∙ ends.entered)
      where
        opened : enter t e.dir.number (last_of path) ≡ wanted (named (last_of path) directory.names)
        opened = ap (λ (x : Option Node). enter_from x (last_of path)) directory.there
            ∙ ap (λ (x : Bool). if x then wanted (named (last_of path) directory.node.names) else Err NotDir) directory.directory
            ∙ ap (λ (es : List NameEntry). wanted (named (last_of path) es)) directory.names_are

        by : (x : Option ℕ) → wanted x ≡ Ok e.at.number → x ≡ Some e.at.number
        by None h = absurd (cc (h))
        by (Some n) h = ap (λ (k : ℕ). Some k) (cc (h))

    pub may : MayBeNamed t e.at.number
    may = let d = in_tree blocks v con e.dir.number e.dir.page (at_home e.dir held.0 shown.0 ends.in_tree) ends.in_tree (ap has_names (sym shown.0) ∙ dir_is) in
        d.3 (last_of path) e.at.number (ap (named (last_of path)) (same (spells_names blocks pages (root_of (slot_of (pages e.dir.page) (e.dir.number % 8)))) d.1 (ap (λ (x : Dinode). spells_names blocks pages (root_of x)) (sym shown.0) ∙ directory.spelled)) ∙ names_it)
      where
        same : {E F : Type 0} {xs ys : List E} (r : Result (List E) F) → r ≡ Ok xs → r ≡ Ok ys → xs ≡ ys
        same r h k = cc (h, k)

    -- the root of the tree, or an object with a name
    pub reached : IsReached t e.dir.number
    reached = reaches t con.tree.names root e.dir.number (front_of path) ends.walked (inl refl)

    pub walked : walk t root path ≡ Ok e.at.number
    walked = walk_is t path some ∙ ap (λ x. and_then x (λ m. enter t m (last_of path))) ends.walked ∙ ends.entered

    abbrev pub node_m : IsNodeOf blocks pages t e.at
    node_m = node_of_it e.at held.1 shown.1 ends.there

    pub object_found : object t path ≡ Ok (found_at e.at.number node_m.node)
    object_found = ap (λ (x : Result ℕ Refusal). and_then x (λ n. found n (t.nodes n))) walked ∙ ap (found e.at.number) node_m.there

    pub placed : place t path ≡ Ok (place_at e.dir.number (last_of path))
    placed = place_is t path some ∙ ap (λ (x : Result ℕ Refusal). and_then x (λ m. in_directory (t.nodes m) (place_as m (last_of path)))) ends.walked
        ∙ ap (λ (x : Option Node). in_directory x (place_as e.dir.number (last_of path))) directory.there
        ∙ ap (λ (x : Bool). if x then place_as e.dir.number (last_of path) else Err NotDir) directory.directory

    -- one number, one inode
    pub same_inode : e.at.number ≡ e.dir.number → e.at.inode ≡ e.dir.inode
    same_inode h = inode_same (readers blocks) pages pages e.at.inode e.dir.inode (some_is (sym (was e.at held.1 shown.1 ends.there) ∙ ap (objects (readers blocks) v) h ∙ was e.dir held.0 shown.0 ends.in_tree))
      where
        some_is : {x y : Object} → Some x ≡ Some y → x ≡ y
        some_is h = cc (h)
