-- What stands on a consistent volume before a rename.
use Rattle.std.proofs.Common.{◌≡◌, ◌≢◌, ◌≤◌, ◌<◌, refl, sym, ap, ◌∙◌, subst, inl, inr, ℕ, ◌+◌, ◌*◌, ◌-◌, Bool, true, false, true≢false, not, ◌==◌, ◌||◌, if◌then◌else◌, nat_lt, List, [], length, map, eqb-true, Option, Some, None, Result, Ok, Err, arith}
use Rattle.std.proofs.lemmas.Bool.Decides.{nat_tests}
use Rattle.jfs_bits.specs.Broken.{first_broken}
use Rattle.jfs_bits.specs.declared.descriptor.Moment.{Moment}
use Rattle.jfs_inode.specs.Rules.{rows}
use Rattle.jfs_inode.specs.declared.fields.Dinode.{Dinode}
use Rattle.jfs_imap.specs.Inodes.{Inodes}
use Rattle.jfs_bmap.specs.States.{Blocks, is_owned}
use Rattle.jfs_ranges.specs.declared.edit.Edit.{Edit}
use Rattle.jfs_ranges.specs.Laid.{put_tx}
use Rattle.jfs_tree.specs.Edit.{count_in}
use Rattle.jfs_plain.specs.Tree.{Tree, Place, Found, found, found_at, object, place_at, at_place, passes, and_then}
use Rattle.jfs_plain.specs.Moves.{stamped, moves}
use Rattle.jfs_plain.specs.Step.{Room, outcome}
use Rattle.jfs_plain.specs.declared.call.Call.TheVariants as calls
use Rattle.jfs_plain.specs.declared.node.Node.{Node}
use Rattle.jfs_plain.specs.declared.reply.Reply.TheVariants.{Done}
use Rattle.jfs_link.specs.objects.specs.Readers.{Readers}
use Rattle.jfs_link.specs.objects.specs.Volume.{Volume, home, room}
use Rattle.jfs_link.specs.objects.specs.Objects.{objects, spelled, is_live, has_names}
use Rattle.jfs_link.specs.objects.specs.Owners.{bit}
use Rattle.jfs_link.specs.objects.specs.Image.{extent_place}
use Rattle.jfs_link.specs.meaning.specs.Readers.{readers}
use Rattle.jfs_link.specs.meaning.specs.Consistent.{IsConsistent, subdirectories, names_to}
use Rattle.jfs_link.specs.meaning.proofs.Found.{object_at}
use Rattle.jfs_link.specs.meaning.proofs.Fresh.{fresh_law}
use Rattle.jfs_link.specs.meaning.proofs.Reached.{not_reserved, place_reached}
use Rattle.jfs_link.specs.meaning.specs.Room.{room_on}
use Rattle.jfs_link.specs.way.specs.Volume.{volume_of}
use Rattle.jfs_link.specs.way.specs.Walk.{tree_in}
use Rattle.jfs_link.specs.way.specs.declared.object.Held.{Held}
use Rattle.jfs_link.specs.steps.specs.After.{after_call, used_after, extents_after}
use Rattle.jfs_link.specs.steps.specs.Place.{last_of}
use Rattle.jfs_link.specs.steps.proofs.After.{done_after}
use Rattle.jfs_link.specs.steps.proofs.LastNames.{stood, object_is}
use Rattle.jfs_link.specs.lead_steps.specs.Reached.{HasTree}
use Rattle.jfs_link.specs.lead_steps.proofs.Again.{inode_same, few_links}
use Rattle.jfs_link.specs.lead_steps.proofs.Chain.{some_is}
use Rattle.jfs_link.specs.lead_steps.proofs.InPlace.{ChangesInPlace, counts_in_place, moves_in_place}
use Rattle.jfs_unlink.proofs.Ended.{IsNodeOf, node_of_it, used_within, is_living, few, rest_is}
use Rattle.jfs_unlink.proofs.PlainTree.{begins, same_after, still_consistent}
use Rattle.jfs_rename_steps.specs.Objects.{HasArrived}
use Rattle.jfs_rename_steps.specs.declared.moving.Moving.{Moving}
use Rattle.jfs_rename_steps.proofs.Apart.{stands_apart, outside}
use Rattle.jfs_rename_steps.proofs.Stage.{Stage}
use Rattle.jfs_rename_steps.proofs.Trees.{arrives_as}
use Rattle.jfs_rename.specs.Ends.{AreEnds, is_nameless}
use Rattle.jfs_rename.specs.Done.{AreOn, room_in, TakesStep}

bit_same : (x y : Bool) → bit x ≡ bit y → x ≡ y
bit_same true true h = refl
bit_same true false h = absurd (omega (arith, h))
bit_same false true h = absurd (omega (arith, h))
bit_same false false h = refl

pub named_from : (from to : List (List ℕ)) → is_nameless from to ≡ false → (0 < length from) × (0 < length to)
named_from from to h = by (length from) (length to) h
  where
    by : (a b : ℕ) → (a == 0 || b == 0) ≡ false → (0 < a) × (0 < b)
    by a b h = (grind (arith, nat_tests, h), grind (arith, nat_tests, h))

module _ (blocks : ℕ) (pages : ℕ → List ℕ) (area : ℕ → ℕ) (bm : Blocks) (inodes : Inodes) (moving : Moving) (on : AreOn blocks pages area bm inodes moving) (from to : List (List ℕ))
    (ends : AreEnds (tree_in blocks pages area bm inodes) from to moving) where
  abbrev r : Readers
  r = readers blocks

  abbrev v : Volume
  v = volume_of pages area bm inodes

  abbrev t : Tree
  t = tree_in blocks pages area bm inodes

  abbrev m : ℕ
  m = moving.object.number

  abbrev p : ℕ
  p = moving.source.number

  abbrev q : ℕ
  q = moving.target.number

  abbrev e : Dinode
  e = moving.object.inode

  abbrev places : List (Option ℕ)
  places = map extent_place inodes.extents

  pub has : HasTree r v t
  has = begins blocks v on.con

  pub within : (b : ℕ) → v.used b ≡ true → b < blocks
  within = used_within blocks pages area bm inodes on.con on.size

  pub at_m : home places m ≡ Some moving.object.page
  at_m = stood blocks pages area bm inodes on.con moving.object on.held.0 on.shown.0 ends.there

  pub at_p : home places p ≡ Some moving.source.page
  at_p = stood blocks pages area bm inodes on.con moving.source on.held.1 on.shown.1 ends.source_there

  pub at_q : home places q ≡ Some moving.target.page
  at_q = stood blocks pages area bm inodes on.con moving.target on.held.2 on.shown.2 ends.target_there

  pub was_m : objects r v m ≡ Some (spelled r pages e)
  was_m = object_is blocks pages area bm inodes on.con moving.object on.held.0 on.shown.0 ends.there

  pub was_p : objects r v p ≡ Some (spelled r pages moving.source.inode)
  was_p = object_is blocks pages area bm inodes on.con moving.source on.held.1 on.shown.1 ends.source_there

  pub was_q : objects r v q ≡ Some (spelled r pages moving.target.inode)
  was_q = object_is blocks pages area bm inodes on.con moving.target on.held.2 on.shown.2 ends.target_there

  pub live_p : is_live p moving.source.inode ≡ true
  live_p = is_living blocks pages area bm inodes on.con moving.source on.held.1 on.shown.1 ends.source_there

  pub live_q : is_live q moving.target.inode ≡ true
  live_q = is_living blocks pages area bm inodes on.con moving.target on.held.2 on.shown.2 ends.target_there

  live_m : is_live m e ≡ true
  live_m = is_living blocks pages area bm inodes on.con moving.object on.held.0 on.shown.0 ends.there

  pub few_p : moving.source.inode.nlink ≤ 65535
  few_p = few blocks pages area bm inodes on.con moving.source on.held.1 on.shown.1 ends.source_there

  pub few_q : moving.target.inode.nlink ≤ 65535
  few_q = few blocks pages area bm inodes on.con moving.target on.held.2 on.shown.2 ends.target_there

  few_m : e.nlink ≤ 65535
  few_m = few blocks pages area bm inodes on.con moving.object on.held.0 on.shown.0 ends.there

  pub size_p : length moving.source.inode.rest ≡ 384
  size_p = rest_is blocks pages area bm inodes on.con moving.source on.held.1 on.shown.1 ends.source_there on.whole

  pub size_q : length moving.target.inode.rest ≡ 384
  size_q = rest_is blocks pages area bm inodes on.con moving.target on.held.2 on.shown.2 ends.target_there on.whole

  abbrev pub node_m : IsNodeOf blocks pages t moving.object
  node_m = node_of_it blocks pages area bm inodes on.con moving.object on.held.0 on.shown.0 ends.there

  abbrev pub node_p : IsNodeOf blocks pages t moving.source
  node_p = node_of_it blocks pages area bm inodes on.con moving.source on.held.1 on.shown.1 ends.source_there

  abbrev pub node_q : IsNodeOf blocks pages t moving.target
  node_q = node_of_it blocks pages area bm inodes on.con moving.target on.held.2 on.shown.2 ends.target_there

  object_found : object t from ≡ Ok (found_at m node_m.node)
  object_found = ap (λ (x : Result ℕ Rattle.jfs_plain.specs.declared.refusal.Refusal.Refusal). and_then x (λ n. found n (t.nodes n))) ends.walked ∙ ap (found m) node_m.there

  -- the old name names the object
  pub named_m : at_place t (place_at p (last_of from)) ≡ Some m
  named_m = object_at t from (place_at p (last_of from)) (found_at m node_m.node) ends.source object_found

  pub m_p : m ≢ p
  m_p = stands_apart (room v) t on.con.tree from (place_at p (last_of from)) (named_from from to ends.named).0 ends.source m named_m

  pub p_m : p ≢ m
  p_m h = m_p (sym h)

  -- one number, one inode
  pub one_inode : (a b : Held) → objects r v a.number ≡ Some (spelled r pages a.inode) → objects r v b.number ≡ Some (spelled r pages b.inode) → a.number ≡ b.number → a.inode ≡ b.inode
  one_inode a b was_a was_b h = inode_same r pages pages a.inode b.inode (some_is (sym was_a ∙ ap (objects r v) h ∙ was_b))

  pub m_q : (has_names e ≡ true → passes t to m ≡ false) → m ≢ q
  m_q past = by (has_names e) refl past
    where
      by : (x : Bool) → has_names e ≡ x → (x ≡ true → passes t to m ≡ false) → m ≢ q
      by true d past = outside t to m (place_at q (last_of to)) (past refl) ends.target
      by false file past = λ h. true≢false (sym on.dirs.1 ∙ ap has_names (sym (one_inode moving.object moving.target was_m was_q h)) ∙ file)

  -- a directory has two links at least
  pub two_p : 2 ≤ moving.source.inode.nlink
  two_p =
      let due = on.con.tree.links p node_p.node node_p.there (not_reserved t p (place_reached t on.con.tree.names from (place_at p (last_of from)) ends.source)) in
      let two = ap (λ (x : Bool). if x then 2 + subdirectories t node_p.node.names else names_to (room v) t p) (node_p.dir ∙ on.dirs.0) in
      let same = node_p.links in omega (arith, due, two, same)

  -- the object's inode once it has arrived
  pub changes : (now : Moment) (set : Dinode) → HasArrived (has_names e) e q now set → ChangesInPlace r m e set (arrives_as (has_names e) q now)
  changes now set h = by (has_names e) refl h
    where
      by : (x : Bool) → has_names e ≡ x → HasArrived x e q now set → ChangesInPlace r m e set (arrives_as x q now)
      by true d (root, names, wide, is) = subst (λ (s : Dinode). ChangesInPlace r m e s (λ o. stamped now (moves q o))) (sym is) (moves_in_place blocks m e root q now d wide names.width names.parent_is (names.node blocks) live_m on.held.0.rules)
      by false d is = subst (λ (s : Dinode). ChangesInPlace r m e s (stamped now)) (sym is) (counts_in_place blocks m e e.nlink now (stamped now) live_m few_m on.held.0.rules (λ target es. refl))

  -- ---- the end: a volume that has come as far as the transaction is the one after it

  module _ (now : Moment) (log_pages : ℕ) (tx : List Edit) (w : Volume) (u : Tree) (s : Stage blocks v [] tx w u)
      (is : outcome (room_in blocks pages area bm inodes log_pages) t (calls.Rename from to) now ≡ Ok (Done, u)) where
    same_room : room w ≡ room v
    same_room = ap (λ (x : List (Option ℕ)). 32 * length x) s.extents

    pub takes_step : TakesStep blocks pages area bm inodes from to now log_pages tx
    takes_step = done_after blocks tx v w (λ t. outcome (room_in blocks pages area bm inodes log_pages) t (calls.Rename from to) now) (λ i b. s.page b i) (s.extents ∙ sym s.stay) s.area
        (λ b. bit_same (w.used b) (used_after tx v.used b) (let k = s.used b in omega (arith, k)))
        (record {
          tree = u;
          outcome = is;
          same = same_after blocks v w on.con (room_in blocks pages area bm inodes log_pages) (calls.Rename from to) now (fresh_law r v blocks log_pages on.con) u is s.has same_room;
          consistent = still_consistent blocks v w on.con (room_in blocks pages area bm inodes log_pages) (calls.Rename from to) now (fresh_law r v blocks log_pages on.con) u is s.has same_room;
          areas = s.areas;
        })
