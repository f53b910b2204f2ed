-- The objects of a rename are apart, on a consistent volume.
use Rattle.std.proofs.Common.{◌≡◌, ◌≢◌, ◌<◌, ◌≤◌, ◌+◌, ◌-◌, ◌%◌, ◌==◌, if◌then◌else◌, ℕ, suc, Bool, true, false, true≢false, List, [], ◌∷◌, ◌++◌, take, length, Option, Some, None, Result, Ok, refl, sym, ap, ◌∙◌, subst, inl, inr, arith, eq-eqb, ne_eqb}
use Rattle.std.specs.Prelude.{get_or}
use Rattle.jfs_bits.proofs.Parts.{length-range_of}
use Rattle.jfs_bits.specs.Broken.{first_broken}
use Rattle.jfs_imap.specs.Inodes.{Inodes}
use Rattle.jfs_inode.specs.Rules.{rows, type_of}
use Rattle.jfs_inode.specs.declared.read.BadInode.{BadInode}
use Rattle.jfs_inode.specs.declared.fields.Dinode.{Dinode}
use Rattle.jfs_name.specs.Directory.{named}
use Rattle.jfs_tree.specs.Spells.{no_page}
use Rattle.jfs_dtree.specs.Spells.{spells_names}
use Rattle.jfs_rename.specs.Through.{through_from, through_of, inside_of}
use Rattle.jfs_rename.specs.declared.permits.Asked.{Asked}
use Rattle.jfs_rename.specs.rename_steps.specs.declared.moving.Moving.{Moving}
use Rattle.jfs_rename.specs.unlink.specs.loss.specs.bmap.specs.States.{Blocks}
use Rattle.jfs_rename.specs.unlink.specs.loss.specs.lead_steps.proofs.Again.{inode_same, rest_size}
use Rattle.jfs_rename.specs.unlink.specs.loss.specs.lead_steps.proofs.Turned.{names_listed}
use Rattle.jfs_rename.specs.unlink.specs.loss.specs.objects.specs.Readers.{Readers}
use Rattle.jfs_rename.specs.unlink.specs.loss.specs.objects.specs.Volume.{Volume, room, slot_of}
use Rattle.jfs_rename.specs.unlink.specs.loss.specs.objects.specs.Objects.{objects, spelled, is_live, has_names, listed}
use Rattle.jfs_rename.specs.unlink.specs.loss.specs.objects.specs.Owners.{bit}
use Rattle.jfs_rename.specs.unlink.specs.loss.specs.objects.proofs.Sums.{zero_or_more, eq_or_not}
use Rattle.jfs_rename.specs.unlink.specs.loss.specs.meaning.specs.Node.{kind_of, node_with, target_in}
use Rattle.jfs_rename.specs.unlink.specs.loss.specs.meaning.specs.Readers.{readers, root_of}
use Rattle.jfs_rename.specs.unlink.specs.loss.specs.meaning.specs.Consistent.{IsConsistent, leading_to, names_in, names_for, names_to, subdirectories}
use Rattle.jfs_rename.specs.unlink.specs.loss.specs.meaning.proofs.Found.{is_among, among_leads}
use Rattle.jfs_rename.specs.unlink.specs.loss.specs.meaning.proofs.Reached.{not_reserved}
use Rattle.jfs_rename.specs.unlink.specs.loss.specs.plain.specs.Tree.{Tree, root, is_dir, and_then}
use Rattle.jfs_rename.specs.unlink.specs.loss.specs.plain.specs.declared.node.Node.{Node}
use Rattle.jfs_rename.specs.unlink.specs.loss.specs.plain.specs.declared.refusal.Refusal.{Refusal}
use Rattle.jfs_rename.specs.unlink.specs.loss.specs.steps.specs.Place.{front_of, last_of}
use Rattle.jfs_rename.specs.unlink.specs.loss.specs.way.specs.Volume.{volume_of}
use Rattle.jfs_rename.specs.unlink.specs.loss.specs.way.specs.Walk.{tree_in}
use Rattle.jfs_rename.specs.unlink.specs.loss.specs.way.specs.Way.{held_on, if_whole, inode_on, inode_at, place_of, name_from, path_from, path_of}
use Rattle.jfs_rename.specs.unlink.specs.loss.specs.way.specs.declared.object.Held.{Held}
use Rattle.jfs_rename.specs.unlink.specs.loss.specs.way.proofs.Nodes.{lives, inode_is, whole, node_is}
use Rattle.jfs_names_logged.specs.calls_logged.specs.Calls.{IsReady}
use Rattle.jfs_names_logged.specs.calls_logged.specs.Found.{IsFound, IsNamed}
use Rattle.jfs_names_logged.specs.calls_logged.proofs.Found.{path_found, next_found}
use Rattle.jfs_moves_logged.proofs.Ends.{then_ok, ok_is, Asks}

-- ---- paths

-- the inode with a number has it
number_is : (blocks : ℕ) (pages : ℕ → List ℕ) (inodes : Inodes) (above n : ℕ) (at : Held) → inode_at blocks pages inodes above n ≡ Ok at → at.number ≡ n
number_is blocks pages inodes above n at h = by (place_of blocks inodes n) h
  where
    of_rule : (o : Held) (bad : Option BadInode) → if_whole o bad ≡ Ok at → o ≡ at
    of_rule o None h = ok_is h
    of_rule o (Some bad) h = absurd (cc (h))

    by : (x : Option ℕ) → inode_on pages above n x ≡ Ok at → at.number ≡ n
    by None h = absurd (cc (h))
    by (Some p) h = sym (ap (λ (x : Held). x.number) (of_rule (held_on pages n p) (first_broken (rows (held_on pages n p).inode n)) h))

split_path : (path : List (List ℕ)) → 0 < length path → front_of path ++ last_of path ∷ [] ≡ path
split_path [] some = absurd (omega (arith, some))
split_path (name ∷ names) some = by name names
  where
    less : (k : ℕ) → suc k - 1 ≡ k
    less k = omega arith

    ends : (name : List ℕ) (names : List (List ℕ)) → take (length names) (name ∷ names) ++ get_or (name ∷ names) (length names) [] ∷ [] ≡ name ∷ names
    ends name [] = refl
    ends name (next ∷ rest) = ap (λ (xs : List (List ℕ)). name ∷ xs) (ends next rest)

    by : (name : List ℕ) (names : List (List ℕ)) → take (length (name ∷ names) - 1) (name ∷ names) ++ get_or (name ∷ names) (length (name ∷ names) - 1) [] ∷ [] ≡ name ∷ names
    by name names = ap (λ (k : ℕ). take k (name ∷ names) ++ get_or (name ∷ names) k [] ∷ []) (less (length names)) ∙ ends name names

module _ (blocks : ℕ) (pages : ℕ → List ℕ) (inodes : Inodes) where
  -- what a path leads to is what its last name leads to
  last_from : (front : List (List ℕ)) (name : List ℕ) (at dir end : Held) → path_from blocks pages inodes at front ≡ Ok dir → path_from blocks pages inodes at (front ++ name ∷ []) ≡ Ok end → name_from blocks pages inodes dir name ≡ Ok end
  last_from [] name at dir end f h =
      let e = then_ok (name_from blocks pages inodes at name) (λ next. Ok next) end h in
      ap (λ (x : Held). name_from blocks pages inodes x name) (sym (ok_is f)) ∙ e.1 ∙ ap (λ (x : Held). Ok x) (ok_is e.2)
  last_from (next ∷ front) name at dir end f h =
      let e = then_ok (name_from blocks pages inodes at next) (λ m. path_from blocks pages inodes m front) dir f in
      last_from front name e.0 dir end e.2 (sym (ap (λ (x : Result Held Refusal). and_then x (λ m. path_from blocks pages inodes m (front ++ name ∷ []))) e.1) ∙ h)

  pub last_step : (path : List (List ℕ)) (dir end : Held) → 0 < length path → path_of blocks pages inodes (front_of path) ≡ Ok dir → path_of blocks pages inodes path ≡ Ok end → name_from blocks pages inodes dir (last_of path) ≡ Ok end
  last_step path dir end some f h =
      let e = then_ok (inode_at blocks pages inodes no_page root) (λ at. path_from blocks pages inodes at (front_of path)) dir f in
      last_from (front_of path) (last_of path) e.0 dir end e.2
      (ap (path_from blocks pages inodes e.0) (split_path path some) ∙ sym (ap (λ (x : Result Held Refusal). and_then x (λ at. path_from blocks pages inodes at path)) e.1) ∙ h)

  -- a way that doesn't lead through an inode ends elsewhere
  end_outside : (names : List (List ℕ)) (n : ℕ) (at end : Held) → through_from blocks pages inodes at names n ≡ Ok false → path_from blocks pages inodes at names ≡ Ok end → end.number ≢ n
  end_outside [] n at end t h = λ e. true≢false (sym (eq-eqb at.number n (ap (λ (x : Held). x.number) (ok_is h) ∙ e)) ∙ ok_is t)
  end_outside (name ∷ names) n at end t h = by (λ next. end_outside names n next end) (at.number == n) t
    where
      f : (next : Held) × (name_from blocks pages inodes at name ≡ Ok next) × (path_from blocks pages inodes next names ≡ Ok end)
      f = then_ok (name_from blocks pages inodes at name) (λ m. path_from blocks pages inodes m names) end h

      by : ((next : Held) → through_from blocks pages inodes next names n ≡ Ok false → path_from blocks pages inodes next names ≡ Ok end → end.number ≢ n) → (x : Bool) → (if x then Ok true else and_then (name_from blocks pages inodes at name) (λ next. through_from blocks pages inodes next names n)) ≡ Ok false → end.number ≢ n
      by rest true t = absurd (true≢false (ok_is t))
      by rest false t = rest f.0 (sym (ap (λ (x : Result Held Refusal). and_then x (λ next. through_from blocks pages inodes next names n)) f.1) ∙ t) f.2

  pub target_outside : (object target : Held) (to : List (List ℕ)) → has_names object.inode ≡ true → inside_of blocks pages inodes object to ≡ Ok false → path_of blocks pages inodes (front_of to) ≡ Ok target → target.number ≢ object.number
  target_outside object target to dir inside h =
      let t = sym (ap (λ (x : Bool). if x then through_of blocks pages inodes (front_of to) object.number else Ok false) dir) ∙ inside in
      let e = then_ok (inode_at blocks pages inodes no_page root) (λ at. path_from blocks pages inodes at (front_of to)) target h in
      end_outside (front_of to) object.number e.0 target (sym (ap (λ (x : Result Held Refusal). and_then x (λ at. through_from blocks pages inodes at (front_of to) object.number)) e.1) ∙ t) e.2

-- ---- on a consistent volume

module _ (blocks : ℕ) (pages : ℕ → List ℕ) (area : ℕ → ℕ) (bm : Blocks) (inodes : Inodes) (ready : IsReady blocks pages area bm inodes) where
  abbrev r : Readers
  r = readers blocks

  abbrev v : Volume
  v = volume_of pages area bm inodes

  abbrev t : Tree
  t = tree_in blocks pages area bm inodes

  abbrev con : IsConsistent r v
  con = ready.consistent

  some_is : {A : Type 0} {x y : A} → Some x ≡ Some y → x ≡ y
  some_is h = cc (h)

  -- one number, one inode
  pub same_inode : (a b : Held) → IsFound blocks pages area bm inodes a → IsFound blocks pages area bm inodes b → a.number ≡ b.number → a.inode ≡ b.inode
  same_inode a b fa fb e = inode_same r pages pages a.inode b.inode (some_is (sym fa.was ∙ ap (objects r v) e ∙ fb.was))

  pub is_living : (at : Held) → IsFound blocks pages area bm inodes at → is_live at.number at.inode ≡ true
  is_living at f = ap (is_live at.number) f.shown ∙ lives blocks v con at.number at.page f.home_is f.there

  -- ---- a directory's node

  module _ (dir : Held) (f : IsFound blocks pages area bm inodes dir) where
    abbrev shown : Dinode
    shown = slot_of (pages dir.page) (dir.number % 8)

    abbrev node : Node
    node = node_with (spelled r pages shown).inode (target_in r pages (spelled r pages shown)) (whole blocks v con dir.number dir.page f.home_is f.there).names

    there : t.nodes dir.number ≡ Some node
    there = node_is blocks v con dir.number dir.page f.home_is f.there

    inode_of : (spelled r pages shown).inode ≡ dir.inode
    inode_of = inode_is blocks v con shown ∙ sym f.shown

    module _ (is : has_names dir.inode ≡ true) where
      names_are : spells_names blocks pages (root_of dir.inode) ≡ Ok node.names
      names_are = sym (names_listed blocks pages dir.inode is) ∙ ap (λ (d : Dinode). listed r.names_order (spelled r pages d).names) f.shown ∙ (whole blocks v con dir.number dir.page f.home_is f.there).names_are

      is_dir_node : is_dir node.kind ≡ true
      is_dir_node = ap (λ (d : Dinode). is_dir (kind_of (type_of d))) inode_of ∙ dir_kind (type_of dir.inode) is
        where
          dir_kind : (type : ℕ) → (type == 0x4000) ≡ true → is_dir (kind_of type) ≡ true
          dir_kind type h = rw h refl

      links_are : dir.inode.nlink ≡ 2 + subdirectories t node.names
      links_are = ap (λ (d : Dinode). d.nlink) (sym inode_of) ∙ con.tree.links dir.number node there (not_reserved t dir.number f.reached)
          ∙ ap (λ (b : Bool). if b then 2 + subdirectories t node.names else names_to (room v) t dir.number) is_dir_node

      -- it has two links at least
      pub two_links : 2 ≤ dir.inode.nlink
      two_links = let h = links_are in omega (arith, h)

      -- a name of it leads to an object
      leads : (name : List ℕ) (m : ℕ) → named name node.names ≡ Some m → 0 < names_for t dir.number m
      leads name m h = subst (λ (x : Option Node). 0 < leading_to m (names_in x)) (sym there) (among_leads name node.names m (is_among name node.names m h))

      pub named_leads : (next : Held) (name : List ℕ) → IsNamed blocks pages area bm inodes dir next name → 0 < names_for t dir.number next.number
      named_leads next name n = leads name next.number (ap (named name) (same_list (spells_names blocks pages (root_of dir.inode)) names_are n.spelled_names) ∙ n.names_it)
        where
          same_list : {E F : Type 0} {xs ys : List E} (x : Result (List E) F) → x ≡ Ok xs → x ≡ Ok ys → xs ≡ ys
          same_list x h k = cc (h, k)

  -- ---- no directory that a path leads to has a name for itself

  below : (n m : ℕ) → 0 < names_for t n m → names_for t n n ≡ 0 → names_for t m m ≡ 0
  below n m l z = elim (eq_or_not m n) [
    | inl e ↦ ap (λ (k : ℕ). names_for t k k) e ∙ z
    | inr apart ↦ by (t.nodes m) refl apart
  ]
    where
      of_dir : (o : Node) → t.nodes m ≡ Some o → (x : Bool) → is_dir o.kind ≡ x → m ≢ n → leading_to m o.names ≡ 0
      of_dir o there false e apart = ap (leading_to m) (con.tree.files m o there e)
      of_dir o there true e apart = ap (λ (x : Option Node). leading_to m (names_in x)) (sym there) ∙ own m ∙ ap bit (ne_eqb m o.parent (λ h. apart (h ∙ sym up)))
        where
          own : (dir : ℕ) → names_for t dir m ≡ bit (dir == o.parent)
          own = con.tree.parents m o there e (con.tree.names n m l).0

          up : n ≡ o.parent
          up = elim (eq_or_not n o.parent) [
            | inl e ↦ e
            | inr far ↦ absurd (let h = own n in let z = ap bit (ne_eqb n o.parent far) in omega (arith, h, z, l))
          ]

      by : (x : Option Node) → t.nodes m ≡ x → m ≢ n → leading_to m (names_in x) ≡ 0
      by None e apart = refl
      by (Some o) e apart = of_dir o e (is_dir o.kind) refl apart

  lone_root : names_for t root root ≡ 0
  lone_root = elim (zero_or_more (names_for t root root)) [
    | inl e ↦ e
    | inr l ↦ absurd (let h = (con.tree.names root root l).0 in omega (arith, h))
  ]

  lone_from : (names : List (List ℕ)) (at end : Held) → IsFound blocks pages area bm inodes at → path_from blocks pages inodes at names ≡ Ok end → names_for t at.number at.number ≡ 0 → names_for t end.number end.number ≡ 0
  lone_from [] at end f h z = subst (λ (x : Held). names_for t x.number x.number ≡ 0) (ok_is h) z
  lone_from (name ∷ names) at end f h z =
      let e = then_ok (name_from blocks pages inodes at name) (λ next. path_from blocks pages inodes next names) end h in
      let n = next_found blocks pages area bm inodes con at f name e.0 e.1 in
      lone_from names e.0 end n.0 e.2 (below at.number e.0.number (named_leads at f n.1.is_dir e.0 name n.1) z)

  lone : (path : List (List ℕ)) (at : Held) → path_of blocks pages inodes path ≡ Ok at → names_for t at.number at.number ≡ 0
  lone path at h =
      let e = then_ok (inode_at blocks pages inodes no_page root) (λ at. path_from blocks pages inodes at path) at h in
      let top = path_found blocks pages area bm inodes con [] e.0 (ap (λ (x : Result Held Refusal). and_then x (λ o. Ok o)) e.1) in
      lone_from path e.0 at top e.2 (subst (λ (n : ℕ). names_for t n n ≡ 0) (sym (number_is blocks pages inodes no_page root e.0 e.1)) lone_root)

  -- so what it names is another object
  pub named_apart : (path : List (List ℕ)) (dir next : Held) (name : List ℕ) → path_of blocks pages inodes path ≡ Ok dir → IsFound blocks pages area bm inodes dir → IsNamed blocks pages area bm inodes dir next name → next.number ≢ dir.number
  named_apart path dir next name h f n e = absurd (let l = named_leads dir f n.is_dir next name n in let z = lone path dir h in let same = ap (names_for t dir.number) e in omega (arith, l, z, same))

  pub root_size : (at : Held) → IsFound blocks pages area bm inodes at → length (root_of at.inode) ≡ 288
  root_size at f = length-range_of at.inode.rest 96 288 (let s = rest_size (pages at.page) (at.number % 8) at.inode (ready.are_pages.sizes at.page f.within) (omega arith) f.shown in omega (arith, s))

  -- ---- what is renamed

  pub record Ground (moving : Moving) : Type 0 where
    pub object : IsFound blocks pages area bm inodes moving.object
    pub source : IsFound blocks pages area bm inodes moving.source
    pub target : IsFound blocks pages area bm inodes moving.target
    pub source_dir : has_names moving.source.inode ≡ true
    pub target_dir : has_names moving.target.inode ≡ true
    pub object_target : moving.object.number ≢ moving.target.number
    pub object_source : moving.object.number ≢ moving.source.number

  module _ (limit : ℕ) (from to : List (List ℕ)) (a : Asked) (x : Asks blocks pages inodes limit from to a) (outside : has_names x.moving.object.inode ≡ true → x.inside ≡ false) where
    found_object : IsFound blocks pages area bm inodes x.moving.object
    found_object = path_found blocks pages area bm inodes con from x.moving.object x.placed.object

    found_source : IsFound blocks pages area bm inodes x.moving.source
    found_source = path_found blocks pages area bm inodes con (front_of from) x.moving.source x.placed.source

    found_target : IsFound blocks pages area bm inodes x.moving.target
    found_target = path_found blocks pages area bm inodes con (front_of to) x.moving.target x.placed.target

    -- the old name
    pub old_name : IsNamed blocks pages area bm inodes x.moving.source x.moving.object (last_of from)
    old_name = (next_found blocks pages area bm inodes con x.moving.source found_source (last_of from) x.moving.object (last_step blocks pages inodes from x.moving.source x.moving.object x.placed.some x.placed.source x.placed.object)).1

    -- a directory isn't where it comes to, and another object is no directory
    apart_from_target : (b : Bool) → has_names x.moving.object.inode ≡ b → x.moving.object.number ≢ x.moving.target.number
    apart_from_target true d e = target_outside blocks pages inodes x.moving.object x.moving.target to d (x.inside_is ∙ ap (λ (y : Bool). Ok y) (outside d)) x.placed.target (sym e)
    apart_from_target false d e = true≢false (sym x.placed.target_dir ∙ ap has_names (sym (same_inode x.moving.object x.moving.target found_object found_target e)) ∙ d)

    pub ground : Ground x.moving
    ground = record {
      object = found_object;
      source = found_source;
      target = found_target;
      source_dir = x.placed.source_dir;
      target_dir = x.placed.target_dir;
      object_target = apart_from_target (has_names x.moving.object.inode) refl;
      object_source = named_apart (front_of from) x.moving.source x.moving.object (last_of from) x.placed.source found_source old_name;
    }
