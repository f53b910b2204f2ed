-- An inode that changes in its slot, with its trees as they were: its link count, its times, or the parent that its root names.
use Rattle.std.proofs.Common.{◌≡◌, ◌≢◌, ◌≤◌, refl, sym, ap, ◌∙◌, inl, inr, ℕ, ◌+◌, ◌-◌, Bool, true, false, ◌==◌, nat_le, if◌then◌else◌, List, [], length, Some, None, is_some, Result, Ok, Err, arith, eqb-true}
use Rattle.std.proofs.lemmas.Bool.{le-leb}
use Rattle.std.specs.Option.{option_map}
use Rattle.std.specs.Int.RustNames.{bit_and}
use Rattle.std.specs.List.{list_any}
use Rattle.jfs_bits.specs.Broken.{first_broken}
use Rattle.jfs_bits.specs.Field.{put_bytes}
use Rattle.jfs_bits.specs.declared.descriptor.Moment.{Moment}
use Rattle.jfs_bits.specs.declared.extent.Xad.{Xad}
use Rattle.jfs_bits.specs.declared.rule.Rule.{Rule}
use Rattle.jfs_bits.proofs.Parts.{part-held}
use Rattle.jfs_inode.specs.Rules.{known_types, rows}
use Rattle.jfs_inode.specs.declared.fields.Dinode.{Dinode}
use Rattle.jfs_inode.specs.declared.read.BadInode.{BadInode}
use Rattle.jfs_name.specs.declared.name.NameEntry.{NameEntry}
use Rattle.jfs_dtpage.specs.declared.head.DtForm.TheVariants as names
use Rattle.jfs_meaning.specs.dtree.specs.Node.{dt_node}
use Rattle.jfs_meaning.specs.dtree.specs.Parent.{parent_of}
use Rattle.jfs_meaning.specs.plain.specs.Tree.{Tree}
use Rattle.jfs_meaning.specs.plain.specs.Moves.{changed, stamped, rises, falls, moves}
use Rattle.jfs_meaning.specs.plain.specs.declared.node.Node.{Node}
use Rattle.jfs_meaning.specs.objects.specs.Readers.{Readers}
use Rattle.jfs_meaning.specs.objects.specs.Volume.{Volume}
use Rattle.jfs_meaning.specs.objects.specs.Objects.{Object, IsWhole, objects, spelled, is_live, has_names, listed}
use Rattle.jfs_meaning.specs.objects.specs.Owners.{IsSound, holds}
use Rattle.jfs_meaning.specs.objects.specs.Changes.{put, PutsInode, SetsObject}
use Rattle.jfs_meaning.specs.objects.proofs.Sums.{put_here, put_other, eq_or_not}
use Rattle.jfs_meaning.specs.Contents.{byte_in}
use Rattle.jfs_meaning.specs.Readers.{readers, root_of}
use Rattle.jfs_meaning.specs.Node.{node_with, node_from, node_of, node_in, target_in}
use Rattle.jfs_lead_steps.specs.Reached.{HasTree}
use Rattle.jfs_lead_steps.proofs.Chain.{set_has, set_other}

-- what an object holds, by its trees and its attributes
held_by : (r : Readers) (x y : Object) → x.names ≡ y.names → x.extents ≡ y.extents → x.inode.acl ≡ y.inode.acl → x.inode.ea ≡ y.inode.ea → (b : ℕ) → holds r (Some x) b ≡ holds r (Some y) b
unfolding holds
held_by r x y a b c e k = rw (a, b, c, e) refl

module _ (r : Readers) (v w : Volume) (sound : IsSound r v) (n : ℕ) (d set : Dinode) (was : objects r v n ≡ Some (spelled r v.page d)) (live : is_live n set ≡ true)
    (same_names : (spelled r v.page set).names ≡ (spelled r v.page d).names) (same_extents : (spelled r v.page set).extents ≡ (spelled r v.page d).extents) (acl : set.acl ≡ d.acl) (ea : set.ea ≡ d.ea)
    (puts : PutsInode v.page w.page v.extents n set) (used : w.used ≡ v.used) (places : w.extents ≡ v.extents) (area : w.area ≡ v.area) (in_use : (k : ℕ) → w.in_use k ≡ v.in_use k) where
  whole_set : IsWhole r (spelled r v.page set)
  whole_set = let h = sound.whole n (spelled r v.page d) was in record {
    names = h.names;
    extents = h.extents;
    names_are = ap (listed r.names_order) same_names ∙ h.names_are;
    extents_are = ap (listed r.extents_order) same_extents ∙ h.extents_are;
  }

  same_acl : (spelled r v.page set).inode.acl ≡ (spelled r v.page d).inode.acl
  unfolding spelled
  same_acl = acl

  same_ea : (spelled r v.page set).inode.ea ≡ (spelled r v.page d).inode.ea
  unfolding spelled
  same_ea = ea

  same_holds : (b : ℕ) → holds r (Some (spelled r v.page set)) b ≡ holds r (objects r v n) b
  same_holds b = held_by r (spelled r v.page set) (spelled r v.page d) same_names same_extents same_acl same_ea b ∙ sym (ap (λ o. holds r o b) was)

  in_use_here : v.in_use n ≡ true
  in_use_here = sound.agrees.inodes n ∙ ap is_some was

  same_use : (k : ℕ) → v.in_use k ≡ put n true v.in_use k
  same_use k = elim (eq_or_not k n) [
    | inl e ↦ ap v.in_use e ∙ in_use_here ∙ sym (put_here n true v.in_use) ∙ ap (put n true v.in_use) (sym e)
    | inr e ↦ sym (put_other n true v.in_use k e)
  ]

  pub sets_in_place : SetsObject r v w n set v.page [] []
  sets_in_place = record {
    live = live;
    whole = whole_set;
    blocks = λ b. (let e = same_holds b in omega (arith, e));
    keeps = λ b h k. refl;
    puts = puts;
    takes = record { fresh = λ b h. absurd (omega (arith, h)); used = λ b. (let u = ap (λ f. f b) used in rw u (omega arith)) };
    extents = places;
    area = area;
    in_use = λ k. in_use k ∙ same_use k;
  }

-- ---- the node

module _ (r : Readers) (page : ℕ → List ℕ) where
  node_as : (x y : Object) (f : Node → Node) → target_in r page x ≡ target_in r page y → x.names ≡ y.names → x.extents ≡ y.extents
      → ((target : List ℕ) (es : List NameEntry) → node_with x.inode target es ≡ f (node_with y.inode target es)) → node_of r page x ≡ option_map f (node_of r page y)
  node_as x y f t a b h = rw (t, a, b) (by (target_in r page y) (listed r.names_order y.names) (listed r.extents_order y.extents))
    where
      by : (target : List ℕ) (a : Result (List NameEntry) (ℕ × Rule)) (b : Result (List Xad) (ℕ × Rule)) → node_from x.inode target a b ≡ option_map f (node_from y.inode target a b)
      by target (Ok names) (Ok extents) = ap (λ (o : Node). Some o) (h target names)
      by target (Ok names) (Err fault) = refl
      by target (Err fault) b = refl

-- a link count and a time of the last change
module _ (blocks : ℕ) (page : ℕ → List ℕ) where
  abbrev r : Readers
  r = readers blocks

  module _ (d : Dinode) (links : ℕ) (when : Moment) where
    abbrev counted : Dinode
    counted = record d { nlink = links; ctime = when }

    pub counted_names : (spelled r page counted).names ≡ (spelled r page d).names
    unfolding spelled
    counted_names = refl

    pub counted_extents : (spelled r page counted).extents ≡ (spelled r page d).extents
    unfolding spelled
    counted_extents = refl

    counted_target : target_in r page (spelled r page counted) ≡ target_in r page (spelled r page d)
    unfolding spelled
    counted_target = refl

    pub counted_bytes : (i : ℕ) → byte_in r page (Some (spelled r page counted)) i ≡ byte_in r page (Some (spelled r page d)) i
    unfolding spelled
    counted_bytes i = refl

    pub counted_node : (f : Node → Node) → ((target : List ℕ) (es : List NameEntry) → node_with counted target es ≡ f (node_with d target es)) → node_of r page (spelled r page counted) ≡ option_map f (node_of r page (spelled r page d))
    unfolding spelled
    counted_node f h = node_as r page (spelled r page counted) (spelled r page d) f counted_target counted_names counted_extents h

    pub counted_rules : (n : ℕ) → links ≤ 65535 → first_broken (rows d n) ≡ None → first_broken (rows counted n) ≡ None
    unfolding rows
    counted_rules n few h = rw (le-leb links 65535 few) (by (d.number == n) (list_any (λ type. type == bit_and d.mode 0xf000) known_types) (nat_le d.nlink 65535) _ _ _ _ _ h)
      where
        by : (a b c : Bool) (x y z u v : BadInode) → (if a then (if b then (if c then None else Some x) else Some y) else Some z) ≡ None → (if a then (if b then None else Some u) else Some v) ≡ None
        by true true c x y z u v h = refl
        by true false c x y z u v h = absurd (cc (h))
        by false b c x y z u v h = absurd (cc (h))

-- one link more, changed now; one less; a change alone; and a count alone
module _ (blocks : ℕ) (page : ℕ → List ℕ) (d : Dinode) (now : Moment) where
  pub rises_now : node_of (readers blocks) page (spelled (readers blocks) page (record d { nlink = d.nlink + 1; ctime = now })) ≡ option_map (λ o. stamped now (rises o)) (node_of (readers blocks) page (spelled (readers blocks) page d))
  rises_now = counted_node blocks page d (d.nlink + 1) now (λ o. stamped now (rises o)) (λ target es. refl)

  pub falls_now : node_of (readers blocks) page (spelled (readers blocks) page (record d { nlink = d.nlink - 1; ctime = now })) ≡ option_map (λ o. stamped now (falls o)) (node_of (readers blocks) page (spelled (readers blocks) page d))
  falls_now = counted_node blocks page d (d.nlink - 1) now (λ o. stamped now (falls o)) (λ target es. refl)

  pub stays_now : node_of (readers blocks) page (spelled (readers blocks) page (record d { ctime = now })) ≡ option_map (stamped now) (node_of (readers blocks) page (spelled (readers blocks) page d))
  stays_now = counted_node blocks page d d.nlink now (stamped now) (λ target es. refl)

  pub rises_alone : node_of (readers blocks) page (spelled (readers blocks) page (record d { nlink = d.nlink + 1 })) ≡ option_map rises (node_of (readers blocks) page (spelled (readers blocks) page d))
  rises_alone = counted_node blocks page d (d.nlink + 1) d.ctime rises (λ target es. refl)

  pub falls_alone : node_of (readers blocks) page (spelled (readers blocks) page (record d { nlink = d.nlink - 1 })) ≡ option_map falls (node_of (readers blocks) page (spelled (readers blocks) page d))
  falls_alone = counted_node blocks page d (d.nlink - 1) d.ctime falls (λ target es. refl)

-- ---- another parent

module _ (blocks : ℕ) (page : ℕ → List ℕ) (d : Dinode) (root : List ℕ) (parent : ℕ) (now : Moment) (dir : has_names d ≡ true) (size : length d.rest ≡ 384) (width : length root ≡ 288)
    (names_it : parent_of root ≡ parent) (node : dt_node names.Root blocks root ≡ dt_node names.Root blocks (root_of d)) where
  abbrev q : Readers
  q = readers blocks

  abbrev moved : Dinode
  moved = record d { rest = put_bytes 96 root d.rest; ctime = now }

  type : bit_and d.mode 0xf000 ≡ 0x4000
  type = eqb-true (bit_and d.mode 0xf000) 0x4000 dir

  root_is : root_of moved ≡ root
  root_is = part-held 96 288 root d.rest width (omega (arith, size))

  same_root : q.names_root moved ≡ q.names_root d
  same_root = ap (λ x. dt_node names.Root blocks x) root_is ∙ node

  pub moved_names : (spelled q page moved).names ≡ (spelled q page d).names
  unfolding spelled
  moved_names = rw (type, same_root) refl

  pub moved_extents : (spelled q page moved).extents ≡ (spelled q page d).extents
  unfolding spelled
  moved_extents = rw type refl

  moved_target : target_in q page (spelled q page moved) ≡ target_in q page (spelled q page d)
  unfolding spelled
  moved_target = rw type refl

  pub moved_bytes : (i : ℕ) → byte_in q page (Some (spelled q page moved)) i ≡ byte_in q page (Some (spelled q page d)) i
  unfolding spelled
  moved_bytes i = rw type refl

  parent_is : parent_of (root_of moved) ≡ parent
  parent_is = ap parent_of root_is ∙ names_it

  moves_with : (target : List ℕ) (es : List NameEntry) → node_with moved target es ≡ stamped now (moves parent (node_with d target es))
  moves_with target es = rw (parent_is, type) refl

  pub moved_node : node_of q page (spelled q page moved) ≡ option_map (λ o. stamped now (moves parent o)) (node_of q page (spelled q page d))
  unfolding spelled
  moved_node = node_as q page (spelled q page moved) (spelled q page d) (λ o. stamped now (moves parent o)) moved_target moved_names moved_extents moves_with

  pub moved_rules : (n : ℕ) → first_broken (rows d n) ≡ None → first_broken (rows moved n) ≡ None
  unfolding rows
  moved_rules n h = h

-- ---- the step

-- what becomes of an inode whose trees stay, and of its node, whatever its blocks hold
pub record ChangesInPlace (r : Readers) (m : ℕ) (d set : Dinode) (f : Node → Node) : Type 0 where
  pub live : is_live m set ≡ true
  pub same_names : (page : ℕ → List ℕ) → (spelled r page set).names ≡ (spelled r page d).names
  pub same_extents : (page : ℕ → List ℕ) → (spelled r page set).extents ≡ (spelled r page d).extents
  pub acl : set.acl ≡ d.acl
  pub ea : set.ea ≡ d.ea
  pub node : (page : ℕ → List ℕ) → node_of r page (spelled r page set) ≡ option_map f (node_of r page (spelled r page d))
  pub bytes : (page : ℕ → List ℕ) (i : ℕ) → byte_in r page (Some (spelled r page set)) i ≡ byte_in r page (Some (spelled r page d)) i
  pub rules : first_broken (rows set m) ≡ None

-- a link count, and a time
pub counts_in_place : (blocks m : ℕ) (d : Dinode) (links : ℕ) (when : Moment) (f : Node → Node) → is_live m (record d { nlink = links }) ≡ true → links ≤ 65535 → first_broken (rows d m) ≡ None
    → ((target : List ℕ) (es : List NameEntry) → node_with (record d { nlink = links; ctime = when }) target es ≡ f (node_with d target es)) → ChangesInPlace (readers blocks) m d (record d { nlink = links; ctime = when }) f
counts_in_place blocks m d links when f live few rules h = record {
  live = live;
  same_names = λ page. counted_names blocks page d links when;
  same_extents = λ page. counted_extents blocks page d links when;
  acl = refl;
  ea = refl;
  node = λ page. counted_node blocks page d links when f h;
  bytes = λ page i. counted_bytes blocks page d links when i;
  rules = counted_rules blocks (λ b. []) d links when m few rules;
}

-- another parent, now
pub moves_in_place : (blocks m : ℕ) (d : Dinode) (root : List ℕ) (parent : ℕ) (now : Moment) → has_names d ≡ true → length d.rest ≡ 384 → length root ≡ 288 → parent_of root ≡ parent
    → dt_node names.Root blocks root ≡ dt_node names.Root blocks (root_of d) → is_live m d ≡ true → first_broken (rows d m) ≡ None
    → ChangesInPlace (readers blocks) m d (record d { rest = put_bytes 96 root d.rest; ctime = now }) (λ o. stamped now (moves parent o))
moves_in_place blocks m d root parent now dir size width names_it node live rules = record {
  live = live;
  same_names = λ page. moved_names blocks page d root parent now dir size width names_it node;
  same_extents = λ page. moved_extents blocks page d root parent now dir size width names_it node;
  acl = refl;
  ea = refl;
  node = λ page. moved_node blocks page d root parent now dir size width names_it node;
  bytes = λ page i. moved_bytes blocks page d root parent now dir size width names_it node i;
  rules = moved_rules blocks (λ b. []) d root parent now dir size width names_it node m rules;
}

module _ (r : Readers) (v w : Volume) (t : Tree) (has : HasTree r v t) (m : ℕ) (d set : Dinode) (f : Node → Node) (was : objects r v m ≡ Some (spelled r v.page d)) (change : ChangesInPlace r m d set f)
    (puts : PutsInode v.page w.page v.extents m set) (used : w.used ≡ v.used) (places : w.extents ≡ v.extents) (area : w.area ≡ v.area) (in_use : (k : ℕ) → w.in_use k ≡ v.in_use k) where
  pub in_place_set : SetsObject r v w m set v.page [] []
  in_place_set = sets_in_place r v w has.sound m d set was change.live (change.same_names v.page) (change.same_extents v.page) change.acl change.ea puts used places area in_use

  pub in_place_has : HasTree r w (changed m f t)
  in_place_has = set_has r v w t has m set v.page [] [] in_place_set f (change.node v.page ∙ ap (option_map f) (sym (ap (node_in r v.page) was)))
      (λ i. change.bytes v.page i ∙ sym (ap (λ o. byte_in r v.page o i) was)) change.rules

  pub in_place_other : (k : ℕ) → k ≢ m → objects r w k ≡ objects r v k
  in_place_other = set_other r v w t has m set v.page [] [] in_place_set
