-- Unlink and rmdir log what matters.
use Rattle.std.proofs.Common.{◌≡◌, ◌≢◌, ◌≤◌, ◌+◌, ◌-◌, ◌%◌, ◌==◌, ◌||◌, not, if◌then◌else◌, nat_le, nat_lt, ℕ, Bool, true, false, true≢false, List, [], length, Some, None, Result, Ok, Err, refl, sym, ap, ◌∙◌, arith}
use Rattle.std.proofs.lemmas.Bool.Decides.{nat_tests}
use Rattle.jfs_bits.proofs.Parts.{length-range_of}
use Rattle.jfs_bits.specs.declared.descriptor.Moment.{Moment}
use Rattle.jfs_imap.specs.Inodes.{Inodes}
use Rattle.jfs_inode.specs.declared.fields.Dinode.{Dinode}
use Rattle.jfs_name.specs.Directory.{named}
use Rattle.jfs_ranges.specs.declared.edit.Edit.{Edit}
use Rattle.jfs_unlink.specs.Call.{Unlinks, Removes, TakesName, bare_at, rmdir_at, unlink_at}
use Rattle.jfs_unlink.specs.Gone.{DropsNamed, LeavesNamed}
use Rattle.jfs_unlink.specs.declared.ends.Ends.{Ends}
use Rattle.jfs_unlink.proofs.Ended.{used_within}
use Rattle.jfs_unlink.proofs.NoNames.{bare_spelled}
use Rattle.jfs_unlink.specs.loss.specs.Inodes.{fallen, gone}
use Rattle.jfs_unlink.specs.loss.proofs.Freeing.{IsFreed, object_freed}
use Rattle.jfs_unlink.specs.loss.specs.bmap.specs.States.{Blocks}
use Rattle.jfs_unlink.specs.loss.specs.lead_steps.proofs.Again.{rest_size, inode_same}
use Rattle.jfs_unlink.specs.loss.specs.lead_steps.specs.dtree.specs.Spells.{root_node, spells_names}
use Rattle.jfs_unlink.specs.loss.specs.objects.specs.Readers.{Readers}
use Rattle.jfs_unlink.specs.loss.specs.objects.specs.Volume.{Volume, room, slot_of}
use Rattle.jfs_unlink.specs.loss.specs.objects.specs.Objects.{objects, spelled, is_live, has_names}
use Rattle.jfs_unlink.specs.loss.specs.objects.specs.Owners.{holds}
use Rattle.jfs_unlink.specs.loss.specs.meaning.specs.Readers.{readers, root_of}
use Rattle.jfs_unlink.specs.loss.specs.meaning.specs.Consistent.{IsConsistent, subdirectories, names_to}
use Rattle.jfs_unlink.specs.loss.specs.meaning.proofs.Reached.{not_reserved}
use Rattle.jfs_unlink.specs.loss.specs.plain.specs.Tree.{Tree, is_dir, and_then}
use Rattle.jfs_unlink.specs.loss.specs.plain.specs.declared.refusal.Refusal.TheVariants.{IsDir, NotDir, IntoItself}
use Rattle.jfs_unlink.specs.loss.specs.meaning.specs.Node.{kind_of, node_with, target_in}
use Rattle.jfs_unlink.specs.loss.specs.way.specs.Way.{path_of}
use Rattle.jfs_inode.specs.Rules.{type_of}
use Rattle.jfs_unlink.specs.loss.specs.plain.specs.declared.node.Node.{Node}
use Rattle.jfs_unlink.specs.loss.specs.steps.specs.After.{takes}
use Rattle.jfs_unlink.specs.loss.specs.steps.specs.Place.{front_of, last_of}
use Rattle.jfs_unlink.specs.loss.specs.steps.proofs.Sets.{lines_move}
use Rattle.jfs_unlink.specs.loss.specs.way.specs.Volume.{volume_of}
use Rattle.jfs_unlink.specs.loss.specs.way.specs.Walk.{tree_in}
use Rattle.jfs_unlink.specs.loss.specs.way.specs.declared.object.Held.{Held}
use Rattle.jfs_unlink.specs.loss.specs.way.proofs.Nodes.{lives, inode_is, whole, node_is}
use Rattle.jfs_calls_logged.specs.Calls.{IsReady, IsLogged}
use Rattle.jfs_calls_logged.specs.Found.{IsFound, IsNamed}
use Rattle.jfs_calls_logged.proofs.Found.{path_found, found_law}
use Rattle.jfs_calls_logged.specs.logged.specs.recovery.specs.kinds.specs.Owner.{has_page}
use Rattle.jfs_names_logged.specs.Calls.{LossLaw}
use Rattle.jfs_names_logged.proofs.Frees.{FreesTree, object_frees}
use Rattle.jfs_names_logged.proofs.Loses.{Losing}
use Rattle.jfs_names_logged.proofs.Named.{Ending, some_is, fallen_logged, gone_logged}

-- ---- what the calls found

if_false : {A : Type 0} {X : Type 0} (b : Bool) (why : X) (rest : Result A X) (a : A) → (if b then Err why else rest) ≡ Ok a → (b ≡ false) × (rest ≡ Ok a)
if_false true why rest a h = absurd (cc (h))
if_false false why rest a h = (refl, h)

module _ (blocks : ℕ) (pages : ℕ → List ℕ) (area : ℕ → ℕ) (bm : Blocks) (inodes : Inodes) (ready : IsReady blocks pages area bm inodes) (many : length bm.states ≡ blocks) where
  abbrev r : Readers
  r = readers blocks

  abbrev v : Volume
  v = volume_of pages area bm inodes

  abbrev t : Tree
  t = tree_in blocks pages area bm inodes

  abbrev con : IsConsistent (readers blocks) v
  con = ready.consistent

  -- one number, one inode
  same_inode : (a b : Held) → IsFound blocks pages area bm inodes a → IsFound blocks pages area bm inodes b → a.number ≡ b.number → a.inode ≡ b.inode
  same_inode a b fa fb e = inode_same r pages pages a.inode b.inode (some_is (sym fa.was ∙ ap (objects r v) e ∙ fb.was))

  is_living : (at : Held) → IsFound blocks pages area bm inodes at → is_live at.number at.inode ≡ true
  is_living at f = ap (is_live at.number) f.shown ∙ lives blocks v con at.number at.page f.home_is f.there

  root_size : (at : Held) → IsFound blocks pages area bm inodes at → length (root_of at.inode) ≡ 288
  root_size at f = length-range_of at.inode.rest 96 288 (let s = rest_size (pages at.page) (at.number % 8) at.inode (ready.are_pages.sizes at.page f.within) (omega arith) f.shown in omega (arith, s))

  module _ (dir at : Held) (name : List ℕ) (fd : IsFound blocks pages area bm inodes dir) (fa : IsFound blocks pages area bm inodes at) (named_it : IsNamed blocks pages area bm inodes dir at name) (now : Moment) (tx : List Edit) where
    abbrev ends : Ends
    ends = record { dir = dir; at = at }

    -- ---- it stays

    stays_logged : at.number ≢ dir.number → nat_le at.inode.nlink 1 ≡ false → LeavesNamed blocks pages ends name now tx → IsLogged blocks pages area bm inodes tx
    stays_logged other more x = fallen_logged blocks pages area bm inodes losing ending now refl (living at.number at.inode.nlink more) refl refl
      where
        losing : Losing blocks pages area bm inodes
        losing = record {
          ready = ready;
          many = many;
          dir = dir;
          next = at;
          name = name;
          fd = fd;
          named = named_it;
          links = dir.inode.nlink;
          live = is_living dir fd;
          now = now;
          first = [];
          lost = x.lost;
          leaves = λ q a s. refl;
          before = [];
          moves = lines_move [] tt;
          loses = x.loses;
        }

        ending : Ending blocks pages area bm inodes losing
        ending = record { found = fa; other = other; held = λ b. omega arith; tx = tx; after = fallen at.inode now; puts = x.puts; lines = x.lines }

        living : (m k : ℕ) → nat_le k 1 ≡ false → (nat_lt m 4 || not (k - 1 == 0)) ≡ true
        living m k h = grind (arith, nat_tests, h)

    -- ---- it goes

    goes_logged : at.number ≢ dir.number → (links : ℕ) → is_live dir.number (record dir.inode { nlink = links }) ≡ true → (has_names at.inode ≡ true → spells_names blocks pages (root_of at.inode) ≡ Ok [])
        → DropsNamed blocks pages ends name links now tx → IsLogged blocks pages area bm inodes tx
    goes_logged other links live bare x = gone_logged blocks pages area bm inodes losing ending refl named_it.may.0 freed.all tree
      where
        freed : IsFreed blocks pages (holds r (objects r v at.number)) x.freed
        freed = object_freed blocks v con.sound (used_within blocks pages area bm inodes con many) ready.are_pages.sizes at.number at.inode fa.was (root_size at fa) bare x.freed x.frees

        tree : FreesTree (has_page r (objects r v at.number)) x.freed
        tree = object_frees blocks v con.sound ready.are_pages.sizes at.number at.inode fa.was (root_size at fa) bare x.freed x.frees

        losing : Losing blocks pages area bm inodes
        losing = record {
          ready = ready;
          many = many;
          dir = dir;
          next = at;
          name = name;
          fd = fd;
          named = named_it;
          links = links;
          live = live;
          now = now;
          first = x.freed;
          lost = x.lost;
          leaves = tree.leaves;
          before = freed.freed;
          moves = freed.moves;
          loses = x.loses;
        }

        ending : Ending blocks pages area bm inodes losing
        ending = record { found = fa; other = other; held = λ b. (let a = freed.all b in omega (arith, a)); tx = tx; after = gone at.inode; puts = x.puts; lines = x.lines }

    -- a directory isn't what has no names
    not_dir : has_names at.inode ≡ false → at.number ≢ dir.number
    not_dir file e = true≢false (sym named_it.is_dir ∙ ap has_names (sym (same_inode at dir fa fd e)) ∙ file)

    -- nor one without names
    not_bare : spells_names blocks pages (root_of at.inode) ≡ Ok [] → at.number ≢ dir.number
    not_bare bare e = no (sym (ap (named name) (same_list (spells_names blocks pages (root_of dir.inode)) named_it.spelled_names (ap (λ (d : Dinode). spells_names blocks pages (root_of d)) (sym (same_inode at dir fa fd e)) ∙ bare))) ∙ named_it.names_it)
      where
        same_list : {E F : Type 0} {xs ys : List E} (x : Result (List E) F) → x ≡ Ok xs → x ≡ Ok ys → xs ≡ ys
        same_list x h k = cc (h, k)

        no : None ≡ Some at.number → ⊥
        no h = cc (h)

    -- a directory that holds one has more than two links
    abbrev shown : Dinode
    shown = slot_of (pages dir.page) (dir.number % 8)

    abbrev node : Node
    node = node_with (spelled r pages shown).inode (target_in r pages (spelled r pages shown)) (whole blocks v con dir.number dir.page fd.home_is fd.there).names

    there : t.nodes dir.number ≡ Some node
    there = node_is blocks v con dir.number dir.page fd.home_is fd.there

    inode_of : (spelled r pages shown).inode ≡ dir.inode
    inode_of = inode_is blocks v con shown ∙ sym fd.shown

    is_dir_node : is_dir node.kind ≡ true
    is_dir_node = ap (λ (d : Dinode). is_dir (kind_of (type_of d))) inode_of ∙ dir_kind (type_of dir.inode) named_it.is_dir
      where
        dir_kind : (type : ℕ) → (type == 0x4000) ≡ true → is_dir (kind_of type) ≡ true
        dir_kind type h = rw h refl

    links_are : dir.inode.nlink ≡ 2 + subdirectories t node.names
    links_are = ap (λ (d : Dinode). d.nlink) (sym inode_of) ∙ con.tree.links dir.number node there (not_reserved t dir.number fd.reached)
        ∙ ap (λ (b : Bool). if b then 2 + subdirectories t node.names else names_to (room v) t dir.number) is_dir_node

    links_left : 2 ≤ dir.inode.nlink
    links_left = let h = links_are in omega (arith, h)

    live_less : is_live dir.number (record dir.inode { nlink = dir.inode.nlink - 1 }) ≡ true
    live_less = still dir.number dir.inode.nlink links_left
      where
        still : (n k : ℕ) → 2 ≤ k → (nat_lt n 4 || not (k - 1 == 0)) ≡ true
        still n k l = grind (arith, nat_tests, l)

    -- ---- the calls

    unlinked : has_names at.inode ≡ false → (last : Bool) → nat_le at.inode.nlink 1 ≡ last → TakesName last blocks pages ends name now tx → IsLogged blocks pages area bm inodes tx
    unlinked file true l x = goes_logged (not_dir file) dir.inode.nlink (is_living dir fd) (λ h. absurd (true≢false (sym h ∙ file))) x
    unlinked file false l x = stays_logged (not_dir file) l x

    removed : has_names at.inode ≡ true → bare_at at (root_node blocks (root_of at.inode)) ≡ Ok at → DropsNamed blocks pages ends name (dir.inode.nlink - 1) now tx → IsLogged blocks pages area bm inodes tx
    removed is_dir bare x = let b = bare_spelled blocks pages at (root_of at.inode) bare in goes_logged (not_bare b) (dir.inode.nlink - 1) live_less (λ h. b) x

  module _ (path : List (List ℕ)) (now : Moment) (tx : List Edit) where
    unlink_logged : (limit : ℕ) → Unlinks blocks pages inodes path limit now tx → IsLogged blocks pages area bm inodes tx
    unlink_logged limit (e, ends, is, takes) =
        let fd = path_found blocks pages area bm inodes con (front_of path) e.dir ends.0 in
        let fa = path_found blocks pages area bm inodes con path e.at ends.2 in
        unlinked e.dir e.at (last_of path) fd fa (found_law.names blocks pages area bm inodes e.dir e.at (last_of path) con fd ends.1) now tx (file (if_false (length path == 0) IsDir _ e.at is).1) (nat_le e.at.inode.nlink 1) refl takes
      where
        file : and_then (path_of blocks pages inodes path) (unlink_at blocks pages limit) ≡ Ok e.at → has_names e.at.inode ≡ false
        file h = (if_false (has_names e.at.inode) IsDir _ e.at (sym (ap (λ x. and_then x (unlink_at blocks pages limit)) ends.2) ∙ h)).0

    remove_logged : Removes blocks pages inodes path now tx → IsLogged blocks pages area bm inodes tx
    remove_logged (e, ends, is, drops) =
        let fd = path_found blocks pages area bm inodes con (front_of path) e.dir ends.0 in
        let fa = path_found blocks pages area bm inodes con path e.at ends.2 in
        let b = bare (has_names e.at.inode) refl (sym (ap (λ x. and_then x (rmdir_at blocks)) ends.2) ∙ (if_false (length path == 0) IntoItself _ e.at is).1) in
        removed e.dir e.at (last_of path) fd fa (found_law.names blocks pages area bm inodes e.dir e.at (last_of path) con fd ends.1) now tx b.0 b.1 drops
      where
        bare : (x : Bool) → has_names e.at.inode ≡ x → (if x then bare_at e.at (root_node blocks (root_of e.at.inode)) else Err NotDir) ≡ Ok e.at → (has_names e.at.inode ≡ true) × (bare_at e.at (root_node blocks (root_of e.at.inode)) ≡ Ok e.at)
        bare true k h = (k, h)
        bare false k h = absurd (cc (h))

pub loss_law : LossLaw
loss_law = record {
  unlinks = λ blocks pages area map inodes path limit now tx ready many x. unlink_logged blocks pages area map inodes ready many path now tx limit x;
  removes = λ blocks pages area map inodes path now tx ready many x. remove_logged blocks pages area map inodes ready many path now tx x;
}
