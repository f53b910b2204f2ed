-- An inode whose mode and change time are others.
use Rattle.std.proofs.Common.{◌≡◌, ◌≢◌, ◌<◌, refl, sym, ap, ◌∙◌, subst, inl, inr, ℕ, ◌+◌, ◌-◌, ◌*◌, ◌/◌, ◌%◌, Bool, true, false, ◌==◌, eq-eqb, ne_eqb, if◌then◌else◌, List, [], Option, Some, None, is_some, Result, Ok, Err, arith}
use Rattle.std.specs.Option.{option_map}
use Rattle.std.specs.Int.RustNames.{bit_and}
use Rattle.std.specs.Int.Bits.{and_zero_r}
use Rattle.std.proofs.lemmas.Nat.{and_block, and_mask}
use Rattle.jfs_bits.specs.Broken.{first_broken}
use Rattle.jfs_bits.specs.declared.descriptor.Moment.{Moment}
use Rattle.std.specs.Prelude.{nat_le, nat_lt, map, ◌⊎◌}
use Rattle.std.specs.List.{list_any}
use Rattle.jfs_bits.specs.declared.extent.Xad.{Xad}
use Rattle.jfs_bits.specs.declared.rule.Rule.{Rule}
use Rattle.jfs_name.specs.declared.name.NameEntry.{NameEntry}
use Rattle.jfs_inode.specs.declared.read.BadInode.{BadInode}
use Rattle.jfs_inode.specs.Rules.{known_types, rows}
use Rattle.jfs_inode.specs.declared.fields.Dinode.{Dinode}
use Rattle.jfs_plain.specs.Tree.{Tree, Found, walk, found, and_then, root}
use Rattle.jfs_plain.specs.Moves.{Same, stamped, permits, changed}
use Rattle.jfs_plain.specs.Step.{Outcome, Answers, chmod}
use Rattle.jfs_plain.specs.declared.call.Call.TheVariants as calls
use Rattle.jfs_plain.specs.declared.node.Node.{Node}
use Rattle.jfs_plain.specs.declared.refusal.Refusal.{Refusal}
use Rattle.jfs_plain.specs.declared.reply.Reply.TheVariants.{Done}
use Rattle.jfs_steps.specs.objects.specs.Readers.{Readers}
use Rattle.jfs_steps.specs.objects.specs.Volume.{Volume, home, slot_of, room}
use Rattle.jfs_steps.specs.objects.specs.Objects.{Object, IsWhole, objects, spelled, is_live, listed}
use Rattle.jfs_steps.specs.objects.specs.Owners.{holds}
use Rattle.jfs_steps.specs.objects.specs.Changes.{put, PutsInode, SetsObject}
use Rattle.jfs_steps.specs.objects.proofs.Sums.{put_here, put_other, eq_or_not}
use Rattle.jfs_steps.specs.objects.proofs.Set.{object_is_set}
use Rattle.jfs_steps.specs.meaning.specs.Readers.{readers}
use Rattle.jfs_steps.specs.meaning.specs.Contents.{byte_in}
use Rattle.jfs_steps.specs.meaning.specs.Node.{node_from, node_of, node_in, target_in}
use Rattle.jfs_steps.specs.meaning.specs.Tree.{node_on, byte_on, tree_on}
use Rattle.jfs_steps.specs.meaning.specs.Consistent.{IsConsistent}
use Rattle.jfs_steps.specs.meaning.specs.Laws.{ChangesOneNode}
use Rattle.jfs_steps.specs.objects.specs.Laws.{ChangesOne}
use Rattle.jfs_steps.specs.objects.specs.Contents.{contents, contents_of}
use Rattle.jfs_steps.specs.meaning.proofs.Changed.{set_tree}
use Rattle.jfs_steps.specs.meaning.proofs.Steps.{step_keeps}
use Rattle.jfs_imap.specs.Inodes.{Inodes}
use Rattle.jfs_steps.specs.bmap.specs.States.{Blocks}
use Rattle.jfs_ranges.specs.declared.edit.Edit.{Edit}
use Rattle.jfs_steps.specs.objects.specs.Image.{extent_place}
use Rattle.jfs_steps.specs.way.specs.Answer.{is_open, Follows}
use Rattle.jfs_ranges.specs.Laid.{put_tx}
use Rattle.jfs_steps.specs.Put.{AddsInode, TellsLines}
use Rattle.jfs_steps.specs.way.specs.Volume.{volume_of}
use Rattle.jfs_steps.specs.way.specs.Walk.{IsHeld, IsShown, IsThere, tree_in}
use Rattle.jfs_steps.specs.way.specs.declared.object.Held.{Held}
use Rattle.jfs_steps.specs.way.proofs.Places.{home_is}
use Rattle.jfs_steps.specs.Call.{IsDone}
use Rattle.jfs_steps.specs.Laws.{ChangesPagesAlone}
use Rattle.jfs_steps.specs.After.{after_call}
use Rattle.jfs_steps.proofs.After.{lines_alone, lines_leave, done_after}
use Rattle.jfs_steps.proofs.Areas.{puts_leave}
use Rattle.jfs_chmod.specs.Call.{with_mode}
use Rattle.jfs_steps.specs.way.proofs.Nodes.{there, lives, node_is, inode_is}

-- ---- the bits of a mode

low : (x mode : ℕ) → mode < 4096 → (x - x % 4096 + mode) % 4096 ≡ mode
low x mode l = omega (arith, l)

high : (x mode : ℕ) → mode < 4096 → (x - x % 4096 + mode) / 4096 ≡ x / 4096
high x mode l = omega (arith, l)

pub mode_is : (x mode : ℕ) → mode < 4096 → bit_and (x - x % 4096 + mode) 0xfff ≡ mode
mode_is x mode l = and_mask (x - x % 4096 + mode) 12 ∙ low x mode l

type_at : (x : ℕ) → bit_and x 0xf000 ≡ bit_and (x / 4096) 15 * 4096
type_at x = ap (λ (k : ℕ). bit_and k 61440) (halves x) ∙ and_block 12 (x / 4096) 15 (x % 4096) 0 (omega arith) (omega arith) ∙ (let z = and_zero_r (x % 4096) in omega (arith, z))
  where
    halves : (x : ℕ) → x ≡ x / 4096 * 4096 + x % 4096
    halves x = omega arith

pub type_is : (x mode : ℕ) → mode < 4096 → bit_and (x - x % 4096 + mode) 0xf000 ≡ bit_and x 0xf000
type_is x mode l = type_at (x - x % 4096 + mode) ∙ ap (λ (k : ℕ). bit_and k 15 * 4096) (high x mode l) ∙ sym (type_at x)

-- ---- the object

module _ (blocks : ℕ) (pages : ℕ → List ℕ) (d : Dinode) (m mode : ℕ) (now : Moment) (type : bit_and m 0xf000 ≡ bit_and d.mode 0xf000) (bits : bit_and m 0xfff ≡ mode) where
  abbrev r : Readers
  r = readers blocks

  abbrev after : Dinode
  after = record d { mode = m; ctime = now }

  pub same_names : (spelled r pages after).names ≡ (spelled r pages d).names
  unfolding spelled
  same_names = rw type refl

  pub same_extents : (spelled r pages after).extents ≡ (spelled r pages d).extents
  unfolding spelled
  same_extents = rw type refl

  pub same_holds : (b : ℕ) → holds r (Some (spelled r pages after)) b ≡ holds r (Some (spelled r pages d)) b
  unfolding holds spelled
  same_holds b = rw type refl

  pub node_after : node_of r pages (spelled r pages after) ≡ option_map (λ o. stamped now (permits mode o)) (node_of r pages (spelled r pages d))
  unfolding spelled
  node_after = pages_same ∙ by (target_in r pages (spelled r pages d)) (listed r.names_order (spelled r pages d).names) (listed r.extents_order (spelled r pages d).extents)
    where
      by : (target : List ℕ) (a : Result (List NameEntry) (ℕ × Rule)) (b : Result (List Xad) (ℕ × Rule)) → node_from after target a b ≡ option_map (λ o. stamped now (permits mode o)) (node_from d target a b)
      by target (Ok names) (Ok extents) = rw (type, bits) refl
      by target (Ok names) (Err fault) = refl
      by target (Err fault) b = refl

      pages_same : node_of r pages (spelled r pages after) ≡ node_from after (target_in r pages (spelled r pages d)) (listed r.names_order (spelled r pages d).names) (listed r.extents_order (spelled r pages d).extents)
      pages_same = rw type refl

  pub bytes_after : (i : ℕ) → byte_in r pages (Some (spelled r pages after)) i ≡ byte_in r pages (Some (spelled r pages d)) i
  unfolding spelled
  bytes_after i = rw type refl

  pub rules_after : (n : ℕ) → first_broken (rows d n) ≡ None → first_broken (rows after n) ≡ None
  unfolding rows
  rules_after n h = rw type (by (d.number == n) (list_any (λ type. type == bit_and d.mode 0xf000) known_types) (nat_le d.nlink 65535) _ _ _ _ _ _ h)
    where
      by : (a b c : Bool) (x y z u v w : BadInode) → (if a then (if b then (if c then None else Some x) else Some y) else Some z) ≡ None → (if a then (if b then (if c then None else Some u) else Some v) else Some w) ≡ None
      by true true true x y z u v w h = refl
      by true true false x y z u v w h = absurd (cc (h))
      by true false c x y z u v w h = absurd (cc (h))
      by false b c x y z u v w h = absurd (cc (h))

-- ---- a tree with one node changed

pub at_changed : (n k : ℕ) (f : Node → Node) (t : Tree) → k ≡ n → (changed n f t).nodes k ≡ option_map f (t.nodes n)
at_changed n k f t e = ap (λ (x : Bool). if x then option_map f (t.nodes n) else t.nodes k) (eq-eqb n k (sym e))

pub off_changed : (n k : ℕ) (f : Node → Node) (t : Tree) → k ≢ n → (changed n f t).nodes k ≡ t.nodes k
off_changed n k f t h = ap (λ (x : Bool). if x then option_map f (t.nodes n) else t.nodes k) (ne_eqb n k (λ s. h (sym s)))

-- ---- the call

module _ (blocks : ℕ) (v : Volume) (c : IsConsistent (readers blocks) v) (n p : ℕ) (at : home v.extents n ≡ Some p) (some : is_some (node_on (readers blocks) v n) ≡ true)
    (d : Dinode) (shown : d ≡ slot_of (v.page p) (n % 8)) (m mode : ℕ) (now : Moment) (type : bit_and m 0xf000 ≡ bit_and d.mode 0xf000) (bits : bit_and m 0xfff ≡ mode)
    (new : ℕ → List ℕ) (puts : PutsInode v.page new v.extents n (record d { mode = m; ctime = now })) where
  abbrev rs : Readers
  rs = readers blocks

  abbrev w : Volume
  w = record v { page = new }

  abbrev set : Dinode
  set = record d { mode = m; ctime = now }

  was : objects rs v n ≡ Some (spelled rs v.page d)
  was = there blocks v c n p at some ∙ ap (λ (e : Dinode). Some (spelled rs v.page e)) (sym shown)

  whole_set : IsWhole rs (spelled rs v.page set)
  whole_set = let h = c.sound.whole n (spelled rs v.page d) was in record {
    names = h.names;
    extents = h.extents;
    names_are = ap (listed rs.names_order) (same_names blocks v.page d m mode now type bits) ∙ h.names_are;
    extents_are = ap (listed rs.extents_order) (same_extents blocks v.page d m mode now type bits) ∙ h.extents_are;
  }

  in_use_here : v.in_use n ≡ true
  in_use_here = c.sound.agrees.inodes n ∙ ap is_some was

  sets : SetsObject rs v w n set v.page [] []
  sets = record {
    live = ap (is_live n) shown_live ∙ lives blocks v c n p at some;
    whole = whole_set;
    blocks = λ b. (let e = same_holds blocks v.page d m mode now type bits b in let f = ap (λ o. holds rs o b) was in omega (arith, e, f));
    keeps = λ b h k. refl;
    puts = puts;
    takes = record { fresh = λ b h. absurd (omega (arith, h)); used = λ b. omega arith };
    extents = refl;
    area = refl;
    in_use = λ k. used k;
  }
    where
      shown_live : d ≡ slot_of (v.page p) (n % 8)
      shown_live = shown

      used : (k : ℕ) → v.in_use k ≡ put n true v.in_use k
      used k = elim (eq_or_not k n) [
        | inl e ↦ ap v.in_use e ∙ in_use_here ∙ sym (put_here n true v.in_use) ∙ ap (put n true v.in_use) (sym e)
        | inr e ↦ sym (put_other n true v.in_use k e)
      ]

  one : ChangesOneNode rs v w n (node_of rs v.page (spelled rs v.page set)) (byte_in rs v.page (Some (spelled rs v.page set)))
  one = set_tree rs v w n set v.page [] [] c.sound sets

  abbrev t : Tree
  t = tree_on rs v

  abbrev u : Tree
  u = changed n (stamped now) (changed n (permits mode) t)

  node_was : node_on rs v n ≡ node_of rs v.page (spelled rs v.page d)
  node_was = ap (node_in rs v.page) was

  node_here : (o : Option Node) → node_on rs v n ≡ o → node_of rs v.page (spelled rs v.page set) ≡ option_map (stamped now) (option_map (permits mode) o)
  node_here o e = node_after blocks v.page d m mode now type bits ∙ ap (option_map (λ o. stamped now (permits mode o))) (sym node_was ∙ e) ∙ twice o
    where
      twice : (o : Option Node) → option_map (λ o. stamped now (permits mode o)) o ≡ option_map (stamped now) (option_map (permits mode) o)
      twice None = refl
      twice (Some o) = refl

  same : Same u (tree_on rs w)
  same = record { nodes = nodes; bytes = bytes }
    where
      nodes : (k : ℕ) → node_on rs w k ≡ u.nodes k
      nodes k = elim (eq_or_not k n) [
        | inl e ↦ ap (node_on rs w) e ∙ one.nodes n ∙ put_here n (node_of rs v.page (spelled rs v.page set)) (node_on rs v) ∙ node_here (node_on rs v n) refl
            ∙ sym (at_changed n k (stamped now) (changed n (permits mode) t) e ∙ ap (option_map (stamped now)) (at_changed n n (permits mode) t refl))
        | inr e ↦ one.nodes k ∙ put_other n (node_of rs v.page (spelled rs v.page set)) (node_on rs v) k e
            ∙ sym (off_changed n k (stamped now) (changed n (permits mode) t) e ∙ off_changed n k (permits mode) t e)
      ]

      bytes : (k i : ℕ) → byte_on rs w k i ≡ t.bytes k i
      bytes k i = elim (eq_or_not k n) [
        | inl e ↦ one.contents k i ∙ ap (λ (j : ℕ). put n (byte_in rs v.page (Some (spelled rs v.page set))) (byte_on rs v) j i) e ∙ ap (λ (f : ℕ → ℕ). f i) (put_here n (byte_in rs v.page (Some (spelled rs v.page set))) (byte_on rs v))
            ∙ bytes_after blocks v.page d m mode now type bits i ∙ sym (ap (λ (o : Option Object). byte_in rs v.page o i) was) ∙ ap (λ (j : ℕ). byte_on rs v j i) (sym e)
        | inr e ↦ one.contents k i ∙ ap (λ (f : ℕ → ℕ). f i) (put_other n (byte_in rs v.page (Some (spelled rs v.page set))) (byte_on rs v) k e)
      ]

  changes : ChangesOne rs v w n (Some (spelled rs v.page set)) × ((k : ℕ) → contents rs w n k ≡ contents_of rs v.page (Some (spelled rs v.page set)) k)
  changes = object_is_set rs v w n set v.page [] [] c.sound sets

  some_is : {x y : Object} → Some x ≡ Some y → x ≡ y
  some_is h = cc (h)

  inodes_are : (k : ℕ) (o : Object) → objects rs w k ≡ Some o → first_broken (rows o.inode k) ≡ None
  inodes_are k o h = elim (eq_or_not k n) [
    | inl e ↦ subst (λ (j : ℕ). first_broken (rows o.inode j) ≡ None) (sym e) (ap (λ (x : Object). first_broken (rows x.inode n)) (sym (some_is (sym (changes.0.objects_are n ∙ put_here n (Some (spelled rs v.page set)) (objects rs v)) ∙ ap (objects rs w) (sym e) ∙ h)))
        ∙ ap (λ (x : Dinode). first_broken (rows x n)) (inode_is blocks v c set)
        ∙ rules_after blocks v.page d m mode now type bits n (ap (λ (x : Dinode). first_broken (rows x n)) (sym (inode_is blocks v c d)) ∙ c.inodes n (spelled rs v.page d) was))
    | inr e ↦ c.inodes k o (sym (changes.0.objects_are k ∙ put_other n (Some (spelled rs v.page set)) (objects rs v) k e) ∙ h)
  ]

  pub mode_done : (path : List (List ℕ)) → walk t root path ≡ Ok n → IsDone blocks v w (λ t. chmod t path mode now)
  mode_done path walked = record {
    tree = u;
    outcome = outcome;
    same = same;
    consistent = record {
      sound = changes.0.sound;
      inodes = inodes_are;
      tree = step_keeps (room v) t (tree_on rs w) (record { limit = 0; free = 0; deep = λ dir name. false; inode = None }) (calls.Chmod path mode) now Done c.tree tt (subst (λ (out : Outcome). Answers t out Done (tree_on rs w)) (sym outcome) (refl, same));
    };
    areas = puts_leave rs v c.sound.agrees v.page new n set puts;
  }
    where
      outcome : chmod t path mode now ≡ Ok (Done, u)
      outcome = ap (λ (x : Result ℕ Refusal). and_then (and_then x (λ n. found n (t.nodes n))) goes) walked ∙ ap (λ (y : Option Node). and_then (found n y) goes) (node_is blocks v c n p at some)
        where
          goes : Found → Outcome
          goes o = Ok (Done, changed o.inode (stamped now) (changed o.inode (permits mode) t))

nothing_put : (blocks : ℕ) (pages : ℕ → List ℕ) → put_tx blocks [] pages ≡ pages
nothing_put blocks pages = λ i b. same b i
  where
    by : (x : Bool) (page : List ℕ) → (if x then page else page) ≡ page
    by true page = refl
    by false page = refl

    same : (b : ℕ) → put_tx blocks [] pages b ≡ pages b
    same b = by (nat_lt b blocks) (pages b)

-- the call on pages and the map
pub change_done : (blocks : ℕ) (pages : ℕ → List ℕ) (inodes : Inodes) (area : ℕ → ℕ) (bm : Blocks) → IsConsistent (readers blocks) (volume_of pages area bm inodes) → (at : Held) → IsHeld blocks inodes at → IsShown pages at
    → (path : List (List ℕ)) → Follows (λ m o. (m ≡ o.number) × IsThere (tree_in blocks pages area bm inodes) m) (walk (tree_in blocks pages area bm inodes) root path) (Ok at)
    → (mode : ℕ) (now : Moment) → mode < 4096 → (tx : List Edit) → AddsInode blocks pages at.page at.number (with_mode at.inode mode now) [] tx → TellsLines blocks pages at.page [] tx
    → IsDone blocks (volume_of pages area bm inodes) (after_call blocks tx (volume_of pages area bm inodes)) (λ t. chmod t path mode now)
change_done blocks pages inodes area bm con at held shown path f mode now few tx adds tells =
    done_after blocks tx v (record v { page = put_tx blocks tx pages }) (λ t. chmod t path mode now) refl (sym (alone.extents v.extents)) refl (λ b. sym (ap (λ (used : ℕ → Bool). used b) (alone.used v.used)))
    (mode_done blocks v con at.number at.page stood (subst (IsThere (tree_in blocks pages area bm inodes)) f.2.0 f.2.1) at.inode shown
    (at.inode.mode - at.inode.mode % 4096 + mode) mode now (type_is at.inode.mode mode few) (mode_is at.inode.mode mode few) (put_tx blocks tx pages)
    (subst (λ (old : ℕ → List ℕ). PutsInode old (put_tx blocks tx pages) (map extent_place inodes.extents) at.number (with_mode at.inode mode now)) (nothing_put blocks pages) (adds (map extent_place inodes.extents) stood))
    path (f.1 ∙ ap (λ (n : ℕ). Ok n) f.2.0))
  where
    v : Volume
    v = volume_of pages area bm inodes

    stood : home (map extent_place inodes.extents) at.number ≡ Some at.page
    stood = home_is inodes at.number ∙ held.home

    alone : ChangesPagesAlone tx
    alone = lines_alone tx (lines_leave blocks pages at.page [] tx tt tells)

-- and where the path leads nowhere
pub change_none : (t : Tree) (path : List (List ℕ)) (mode : ℕ) (now : Moment) (why : Refusal) → (walk t root path ≡ Err why) ⊎ (is_open why ≡ true) → (chmod t path mode now ≡ Err why) ⊎ (is_open why ≡ true)
change_none t path mode now why (inl e) = inl (ap (λ x. and_then (and_then x (λ n. found n (t.nodes n))) (λ o. Ok (Done, changed o.inode (stamped now) (changed o.inode (permits mode) t)))) e)
change_none t path mode now why (inr e) = inr e
