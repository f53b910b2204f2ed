-- A link, from what the calls say to the plain step.
use Rattle.std.proofs.Common.{◌≡◌, ◌<◌, refl, sym, ap, ◌∙◌, subst, inl, inr, ℕ, ◌+◌, ◌%◌, ◌^◌, Bool, true, false, true≢false, not, ◌==◌, ◌&&◌, ◌||◌, nat_lt, List, [], length, map, Option, Some, None, Result, Ok, Err, arith}
use Rattle.std.proofs.lemmas.Bool.Decides.{nat_tests}
use Rattle.jfs_bits.specs.declared.descriptor.Moment.{Moment}
use Rattle.jfs_bits.specs.declared.descriptor.Pxd.{Pxd}
use Rattle.jfs_bits.specs.declared.rule.PageKind.TheVariants as kinds
use Rattle.jfs_inode.specs.declared.fields.Dinode.{Dinode}
use Rattle.jfs_imap.specs.Inodes.{Inodes}
use Rattle.jfs_bmap.specs.States.{Blocks, is_owned}
use Rattle.jfs_name.specs.declared.name.NameEntry.{NameEntry}
use Rattle.jfs_name.specs.Directory.{named}
use Rattle.jfs_ranges.specs.declared.edit.Edit.{Edit}
use Rattle.jfs_ranges.specs.Laid.{put_tx}
use Rattle.jfs_lead_steps.specs.page_tree.specs.Edit.{count_in}
use Rattle.jfs_lead_steps.specs.page_tree.specs.Fresh.{blocks_of}
use Rattle.jfs_lead_steps.specs.dtree.specs.Room.{is_deep}
use Rattle.jfs_lead_steps.specs.dtree.specs.Spells.{spells_names, owned_pages}
use Rattle.jfs_lead_steps.specs.dtree.specs.declared.error.DtError.{DtError}
use Rattle.jfs_lead_steps.specs.dtree.specs.declared.error.DtError.TheVariants as dt
use Rattle.jfs_plain.specs.Tree.{Tree, Place, place, place_at, new_place, at_place, unless_there, and_then, enter, wanted}
use Rattle.jfs_plain.specs.Moves.{changed, stamped, rises, gains}
use Rattle.jfs_plain.specs.Step.{Room, Outcome, Answers, link, entry_as, is_full}
use Rattle.jfs_plain.specs.declared.call.Call.TheVariants as calls
use Rattle.jfs_plain.specs.declared.refusal.Refusal.{Refusal}
use Rattle.jfs_plain.specs.declared.reply.Reply.TheVariants.{Done}
use Rattle.jfs_lead_steps.specs.objects.specs.Readers.{Readers}
use Rattle.jfs_lead_steps.specs.objects.specs.Volume.{Volume, home, room}
use Rattle.jfs_lead_steps.specs.objects.specs.Objects.{objects, spelled, is_live, has_names}
use Rattle.jfs_lead_steps.specs.objects.specs.Owners.{bit, holds}
use Rattle.jfs_lead_steps.specs.objects.specs.Image.{extent_place}
use Rattle.jfs_lead_steps.specs.objects.proofs.Owned.{owned_once}
use Rattle.jfs_lead_steps.specs.objects.proofs.Sums.{zero_or_more}
use Rattle.jfs_lead_steps.specs.meaning.specs.Readers.{readers, root_of}
use Rattle.jfs_lead_steps.specs.meaning.specs.Room.{room_on}
use Rattle.jfs_lead_steps.specs.meaning.specs.Tree.{tree_on}
use Rattle.jfs_lead_steps.specs.meaning.specs.Consistent.{IsConsistent}
use Rattle.jfs_lead_steps.specs.meaning.proofs.Books.{count_append}
use Rattle.jfs_lead_steps.specs.meaning.proofs.Fresh.{fresh_law}
use Rattle.jfs_lead_steps.specs.meaning.proofs.Steps.{step_keeps}
use Rattle.jfs_claim.specs.room.proofs.Rooms.{held_law}
use Rattle.jfs_steps.specs.way.specs.Answer.{is_open, names_refusal}
use Rattle.jfs_steps.specs.way.specs.Volume.{volume_of}
use Rattle.jfs_steps.specs.way.specs.Walk.{IsHeld, IsShown, tree_in}
use Rattle.jfs_steps.specs.way.specs.declared.object.Held.{Held}
use Rattle.jfs_steps.specs.way.proofs.Nodes.{there, lives}
use Rattle.jfs_steps.specs.After.{after_call, used_after}
use Rattle.jfs_steps.specs.Call.{IsDone, LeavesAreas}
use Rattle.jfs_steps.specs.Laws.{TakesAndFrees, IsFair}
use Rattle.jfs_steps.specs.Place.{last_of}
use Rattle.jfs_steps.proofs.After.{counts, done_after}
use Rattle.jfs_steps.proofs.Sets.{taken_move, lines_on_top}
use Rattle.jfs_claim.specs.Take.{AreFresh}
use Rattle.jfs_lead_steps.specs.Reached.{HasTree}
use Rattle.jfs_lead_steps.proofs.Chain.{same_tree}
use Rattle.jfs_lead_steps.proofs.Again.{rest_size}
use Rattle.jfs_lead_steps.proofs.Turned.{dir_holds, no_extents_of}
use Rattle.jfs_place.proofs.Fronts.{entered}
use Rattle.jfs_place.proofs.HeldNode.{stood, held_node, node_there, node_links, node_kind}
use Rattle.jfs_link.specs.Joins.{Joins, JoinRefused}
use Rattle.jfs_link.specs.Link.{MayLink}
use Rattle.jfs_link.proofs.Asks.{names_of, enters_names, not_full}
use Rattle.jfs_link.proofs.PlainTree.{linked}
use Rattle.jfs_link.proofs.Chain.{linked_both}

-- where a new name can stand, nothing stands
new_free : (t : Tree) (path : List (List ℕ)) (p : Place) → new_place t path ≡ Ok p → at_place t p ≡ None
new_free t path p h = by (place t path) h
  where
    in_place : (q : Place) (x : Option ℕ) → at_place t q ≡ x → unless_there x q ≡ Ok p → at_place t p ≡ None
    in_place q None e h = ap (at_place t) (sym (same h)) ∙ e
      where
        same : unless_there None q ≡ Ok p → q ≡ p
        same h = cc (h)
    in_place q (Some k) e h = absurd (cc (h))

    by : (x : Result Place Refusal) → and_then x (λ q. unless_there (at_place t q) q) ≡ Ok p → at_place t p ≡ None
    by (Ok q) h = in_place q (at_place t q) refl h
    by (Err why) h = absurd (cc (h))

-- The blocks that a link's transaction takes are those that the directory's tree took: a page of names is never an inode extent.
pub joins_move : (blocks : ℕ) (pages : ℕ → List ℕ) (object dir : Held) (name : List ℕ) (now : Moment) (free left : List Pxd) (tx : List Edit) → (j : Joins blocks pages object dir name now free left tx) → TakesAndFrees tx j.gains.edits.0 []
joins_move blocks pages object dir name now free left tx j = lines_on_top blocks pages object.page j.named tx j.gains.edits.0 [] (lines_on_top blocks pages dir.page j.gains.mid j.named j.gains.edits.0 []
    (taken_move blocks kinds.Dtree pages (blocks_of free) (blocks_of left) j.gains.mid (λ first bytes. refl) j.gains.edits) j.gains.lines) j.lines

none_named : (t : Tree) (n : ℕ) (name : List ℕ) (es : List NameEntry) → enter t n name ≡ wanted (named name es) → at_place t (place_at n name) ≡ None → named name es ≡ None
none_named t n name es enters none = by (named name es) refl
  where
    never : {k : ℕ} → None ≡ Some k → ⊥
    never h = cc (h)

    by : (x : Option ℕ) → named name es ≡ x → named name es ≡ None
    by None e = e
    by (Some k) e = absurd (never (sym none ∙ entered (t.nodes n) name k (enters ∙ ap wanted e)))

module _ (blocks : ℕ) (pages : ℕ → List ℕ) (area : ℕ → ℕ) (bm : Blocks) (inodes : Inodes) (con : IsConsistent (readers blocks) (volume_of pages area bm inodes))
    (whole : (b : ℕ) → b < blocks → length (pages b) ≡ 4096) (size : length bm.states ≡ blocks)
    (object dir : Held) (held_o : IsHeld blocks inodes object) (shown_o : IsShown pages object) (held_d : IsHeld blocks inodes dir) (shown_d : IsShown pages dir)
    (file : has_names object.inode ≡ false) (is_dir : has_names dir.inode ≡ true) (few : object.inode.nlink < 65535)
    (from to : List (List ℕ)) (now : Moment) (log_pages : ℕ) (may : MayLink from to object dir (room_on (readers blocks) (volume_of pages area bm inodes) blocks log_pages) (tree_in blocks pages area bm inodes))
    (free : List Pxd) (fresh : AreFresh bm 8 (blocks_of free)) where
  abbrev r : Readers
  r = readers blocks

  abbrev v : Volume
  v = volume_of pages area bm inodes

  abbrev t : Tree
  t = tree_on r v

  abbrev name : List ℕ
  name = last_of to

  abbrev space : Room
  space = room_on r v blocks log_pages

  within : (b : ℕ) → v.used b ≡ true → b < blocks
  within b h = subst (λ (k : ℕ). b < k) size (by (nat_lt b (length bm.states)) refl h)
    where
      below_it : (k j : ℕ) → nat_lt k j ≡ true → k < j
      below_it k j h = grind (arith, nat_tests)

      by : (x : Bool) → nat_lt b (length bm.states) ≡ x → (x && is_owned bm b) ≡ true → b < length bm.states
      by true e h = below_it b (length bm.states) e
      by false e h = absurd (cc (h))

  unused : (b : ℕ) → 0 < count_in b (blocks_of free) → v.used b ≡ false
  unused b l = by (nat_lt b (length bm.states)) (fresh.unowned b l)
    where
      by : (x : Bool) → is_owned bm b ≡ false → (x && is_owned bm b) ≡ false
      by true e = e
      by false e = refl

  at_d : home (map extent_place inodes.extents) dir.number ≡ Some dir.page
  at_d = stood blocks pages area bm inodes con dir held_d shown_d may.dir_there

  at_o : home (map extent_place inodes.extents) object.number ≡ Some object.page
  at_o = stood blocks pages area bm inodes con object held_o shown_o may.there

  was_d : objects r v dir.number ≡ Some (spelled r pages dir.inode)
  was_d = there blocks v con dir.number dir.page at_d may.dir_there ∙ ap (λ (e : Dinode). Some (spelled r pages e)) (sym shown_d)

  was_o : objects r v object.number ≡ Some (spelled r pages object.inode)
  was_o = there blocks v con object.number object.page at_o may.there ∙ ap (λ (e : Dinode). Some (spelled r pages e)) (sym shown_o)

  live_d : is_live dir.number dir.inode ≡ true
  live_d = ap (is_live dir.number) shown_d ∙ lives blocks v con dir.number dir.page at_d may.dir_there

  live_more : (n k : ℕ) → (nat_lt n 4 || not (k + 1 == 0)) ≡ true
  live_more n k = grind (arith, nat_tests)

  es : List NameEntry
  es = (names_of blocks pages area bm inodes con dir held_d shown_d may.dir_there is_dir).0

  spelled_es : spells_names blocks pages (root_of dir.inode) ≡ Ok es
  unfolding es
  spelled_es = (names_of blocks pages area bm inodes con dir held_d shown_d may.dir_there is_dir).1

  spare : (b : ℕ) → 0 < count_in b (blocks_of free) → owned_pages blocks pages (root_of dir.inode) b ≡ 0
  spare b l = elim (zero_or_more (owned_pages blocks pages (root_of dir.inode) b)) [
    | inl e ↦ e
    | inr o ↦ absurd (true≢false (sym ((owned_once r v con.sound.agrees).in_use dir.number b (let h = dir_holds blocks pages dir.inode es b is_dir (no_extents_of dir.inode is_dir) spelled_es in let x = ap (λ o. holds r o b) was_d in omega (arith, h, x, o))) ∙ unused b l))
  ]

  -- ---- a refusal

  -- the directory has no such name
  unnamed : named name es ≡ None
  unfolding es
  unnamed = none_named t dir.number name (names_of blocks pages area bm inodes con dir held_d shown_d may.dir_there is_dir).0
      (enters_names blocks pages area bm inodes con dir held_d shown_d may.dir_there is_dir name) (new_free t to (place_at dir.number name) may.placed)

  -- on a consistent volume the directory refuses the name for faults and want of memory alone
  pub join_open : (why : Refusal) → JoinRefused blocks pages object dir name now free why → is_open why ≡ true
  join_open why (inl o) = o
  join_open why (inr (e, is, refuses, tells)) = by e is refuses
    where
      not_deep : is_deep blocks pages (root_of dir.inode) name ≡ false
      not_deep = sym (ap (λ (y : Bool). y && is_deep blocks pages (root_of dir.inode) name) is_dir) ∙ sym (held_law blocks log_pages pages area bm inodes dir name con held_d shown_d may.dir_there) ∙ may.takes_name

      some : {k : ℕ} → None ≡ Some k → ⊥
      some h = cc (h)

      by : (e : DtError) → why ≡ names_refusal dir.number dir.page e → Rattle.jfs_lead_steps.specs.dtree.specs.Adding.RefusesName blocks pages (entry_as name object.number) (root_of dir.inode) (blocks_of free) e → is_open why ≡ true
      by (dt.View v) is h = ap is_open is ∙ views v
        where
          views : (v : Rattle.jfs_ranges.specs.declared.view.ViewError.ViewError) → is_open (names_refusal dir.number dir.page (dt.View v)) ≡ true
          views (Rattle.jfs_ranges.specs.declared.view.ViewError.TheVariants.Read fault) = refl
          views Rattle.jfs_ranges.specs.declared.view.ViewError.TheVariants.Memory = refl
      by (dt.Bad page rule) is h = absurd (h es spelled_es (record { once = fresh.once; apart = spare }))
      by dt.Exists is h = absurd (some (sym unnamed ∙ (h es spelled_es).1))
      by dt.Missing is h = absurd h
      by dt.TooDeep is h = absurd (true≢false (sym (h es spelled_es).1 ∙ not_deep))

  -- ---- the transaction

  module _ (left : List Pxd) (tx : List Edit) (j : Joins blocks pages object dir name now free left tx) where
    abbrev taken : List ℕ
    taken = j.gains.edits.0

    free_is : (b : ℕ) → count_in b (blocks_of free) ≡ count_in b taken + count_in b (blocks_of left)
    free_is b = ap (count_in b) j.gains.edits.1 ∙ count_append b taken (blocks_of left)

    moves : TakesAndFrees tx taken []
    moves = joins_move blocks pages object dir name now free left tx j

    fair : IsFair tx v.used
    fair = record {
      fresh = λ b l. unused b (let f = free_is b in let m = moves.taken_are b in omega (arith, f, m, l));
      owned = λ b l. absurd (let m = moves.freed_are b in omega (arith, m, l));
      once = λ b. (let f = free_is b in let m = moves.taken_are b in let k = moves.freed_are b in let o = fresh.once b in omega (arith, f, m, k, o));
    }

    abbrev used : ℕ → Bool
    used = used_after tx v.used

    used_is : (b : ℕ) → bit (used b) ≡ bit (v.used b) + count_in b taken
    used_is b = let c = counts tx v.used fair b in let m = moves.taken_are b in let k = moves.freed_are b in omega (arith, c, m, k)

    abbrev u : Tree
    u = changed object.number (stamped now) (changed object.number rises (changed dir.number (gains (entry_as name object.number) now) t))

    abbrev v2 : Volume
    v2 = record v { page = put_tx blocks tx pages; used = used }

    slot_below : (n : ℕ) → n % 8 < 8
    slot_below n = omega arith

    both : HasTree r v2 u × LeavesAreas v v2
    both = linked_both blocks v con whole within dir.number dir.inode was_d is_dir (rest_size (pages dir.page) (dir.number % 8) dir.inode (whole dir.page held_d.within) (slot_below dir.number) shown_d) live_d es spelled_es
        object.number object.inode was_o file (live_more object.number object.inode.nlink) (omega (arith, few)) name now ((dir.inode.nblocks + length taken) % 2 ^ 64) (blocks_of free) (blocks_of left) taken
        j.gains.edits.1 fresh.once (subst (λ (k : ℕ). Rattle.jfs_lead_steps.specs.page_tree.specs.Form.AllBelow k (blocks_of free)) size fresh.within) unused j.gains.root j.gains.width j.gains.parent j.gains.mid j.named tx j.gains.adds
        (j.gains.puts (map extent_place inodes.extents) at_d) (j.puts (map extent_place inodes.extents) at_o) used used_is

    has : HasTree r v2 u
    has = both.0

    outcome : link space t from to now ≡ Ok (Done, u)
    outcome = linked t space from to now object.number (held_node blocks pages area bm inodes con object held_o shown_o may.there) may.walked (node_there blocks pages area bm inodes con object held_o shown_o may.there)
        (node_kind blocks pages area bm inodes con object held_o shown_o may.there false file) (place_at dir.number name) may.placed
        (ap (λ (k : ℕ). is_full k) (node_links blocks pages area bm inodes con object held_o shown_o may.there) ∙ not_full object.inode.nlink few) may.space may.takes_name

    pub link_done : IsDone blocks v (after_call blocks tx v) (λ t. link space t from to now)
    link_done = done_after blocks tx v v2 (λ t. link space t from to now) refl (sym (moves.extents_stay v.extents)) refl (λ b. refl) (record {
      tree = u;
      outcome = outcome;
      same = same_tree u (tree_on r v2) has.tree;
      consistent = record {
        sound = has.sound;
        inodes = has.inodes;
        tree = step_keeps (room v) t (tree_on r v2) space (calls.Link from to) now Done con.tree (fresh_law r v blocks log_pages con)
            (subst (λ (out : Outcome). Answers t out Done (tree_on r v2)) (sym outcome) (refl, same_tree u (tree_on r v2) has.tree));
      };
      areas = both.1;
    })
