-- An object takes the name of another: from what its steps say to the plain step.
use Rattle.std.proofs.Common.{◌≡◌, ◌≢◌, ◌≤◌, ◌<◌, ◌⊎◌, refl, sym, ap, ◌∙◌, subst, inl, inr, ℕ, ◌+◌, ◌-◌, Bool, true, false, true≢false, not, ◌&&◌, ◌||◌, ◌==◌, eq-eqb, ne_eqb, nat_le, nat_lt, if◌then◌else◌, List, [], ◌∷◌, ◌++◌, length, map, Option, Some, None, Ok, arith}
use Rattle.std.proofs.lemmas.Bool.Decides.{nat_tests}
use Rattle.jfs_bits.specs.Field.{put_bytes}
use Rattle.jfs_bits.proofs.Parts.{length-range_of}
use Rattle.jfs_bits.specs.declared.descriptor.Moment.{Moment}
use Rattle.jfs_inode.specs.declared.fields.Dinode.{Dinode}
use Rattle.jfs_imap.specs.Inodes.{Inodes}
use Rattle.jfs_bmap.specs.States.{Blocks}
use Rattle.jfs_name.specs.declared.name.NameEntry.{NameEntry}
use Rattle.jfs_name.specs.Directory.{named, with_inode, without_name}
use Rattle.jfs_ranges.specs.declared.edit.Edit.{Edit}
use Rattle.jfs_ranges.specs.Laid.{put_tx}
use Rattle.jfs_tree.specs.Edit.{count_in}
use Rattle.jfs_tree.specs.Fresh.{after_tx}
use Rattle.jfs_dtree.specs.Spells.{spells_names}
use Rattle.jfs_plain.specs.Tree.{Tree, place_at, at_place, named_in, passes, is_dir}
use Rattle.jfs_plain.specs.Moves.{changed, dropped, stamped, falls, displaced, leads}
use Rattle.jfs_plain.specs.Step.{Room, rename, departs, why_kept, is_last_of_big, has_names as has_entries}
use Rattle.jfs_plain.specs.declared.node.Node.{Node}
use Rattle.jfs_plain.specs.declared.refusal.Refusal.{Refusal}
use Rattle.jfs_plain.specs.declared.refusal.Refusal.TheVariants.{IsDir, NotDir, NotEmpty, FileTooBig}
use Rattle.jfs_plain.specs.declared.reply.Reply.TheVariants.{Done}
use Rattle.jfs_link.specs.objects.specs.Readers.{Readers}
use Rattle.jfs_link.specs.objects.specs.Volume.{Volume, home, room}
use Rattle.jfs_link.specs.objects.specs.Objects.{objects, spelled, is_live, has_names}
use Rattle.jfs_link.specs.objects.specs.Image.{extent_place}
use Rattle.jfs_link.specs.objects.specs.Owners.{holds}
use Rattle.jfs_link.specs.objects.specs.Changes.{put, PutsInode}
use Rattle.jfs_link.specs.objects.proofs.Sums.{eq_or_not, zero_or_more}
use Rattle.jfs_link.specs.meaning.specs.Readers.{readers, root_of}
use Rattle.jfs_link.specs.meaning.proofs.Found.{place_there}
use Rattle.jfs_link.specs.meaning.proofs.Reached.{at_leads}
use Rattle.jfs_link.specs.way.specs.Volume.{volume_of}
use Rattle.jfs_link.specs.way.specs.Walk.{IsHeld, IsShown, tree_in}
use Rattle.jfs_link.specs.way.specs.declared.object.Held.{Held}
use Rattle.jfs_link.specs.steps.specs.After.{used_after}
use Rattle.jfs_link.specs.steps.specs.Put.{AddsInode, TellsLines}
use Rattle.jfs_link.specs.steps.specs.Laws.{TakesAndFrees}
use Rattle.jfs_link.specs.steps.specs.Place.{last_of}
use Rattle.jfs_link.specs.steps.proofs.LastNames.{stood, object_is}
use Rattle.jfs_link.specs.steps.proofs.Sets.{lines_move}
use Rattle.jfs_link.specs.lead_steps.proofs.Again.{again}
use Rattle.jfs_link.specs.lead_steps.proofs.InPlace.{ChangesInPlace, counts_in_place}
use Rattle.jfs_link.specs.lead_steps.proofs.Turned.{turns}
use Rattle.jfs_unlink.specs.loss.specs.Inodes.{fallen, gone}
use Rattle.jfs_unlink.specs.loss.proofs.Freeing.{IsFreed, object_freed}
use Rattle.jfs_unlink.proofs.Ended.{IsNodeOf, node_of_it, is_living, few, root_is}
use Rattle.jfs_rename_steps.specs.Entries.{LeadsEntry, LossRefused}
use Rattle.jfs_rename_steps.specs.Moves.{Leaves, leaving_with, leaving_over, source_after, less_if}
use Rattle.jfs_rename_steps.specs.Objects.{goes, unnamed, FreesIf, Arrives}
use Rattle.jfs_rename_steps.specs.declared.moving.Moving.{Moving}
use Rattle.jfs_rename_steps.proofs.Apart.{stands_apart}
use Rattle.jfs_rename_steps.proofs.Stage.{Stage, frees_stage, lead_stage, lead_here, lead_keeps, set_stage, set_keeps, drop_stage, drop_keeps, lead_leaves}
use Rattle.jfs_rename_steps.proofs.Trees.{arrives_as, unnamed_as, over_file, over_dir}
use Rattle.jfs_rename.specs.Asks.{MayReplace}
use Rattle.jfs_rename.specs.Done.{AreOn, room_in, TakesStep, ReplaceLaw}
use Rattle.jfs_rename.specs.Ends.{AreEnds}
use Rattle.jfs_rename.proofs.Ground.{has, within, at_p, at_q, was_m, was_p, was_q, live_p, live_q, few_p, few_q, size_q, node_m, node_p, named_from, named_m, one_inode, m_p, p_m, m_q, two_p, takes_step}
use Rattle.jfs_rename.proofs.Leaving.{source_with, leaving_from, left_volume, left_stage, left_frees, arrived_volume, arrived_tree, arrived_stage, still_p}
use Rattle.jfs_rename.proofs.Stays.{past_object, past_lead, past_other, loss_open}
use Rattle.jfs_link.specs.way.specs.Answer.{is_open}
use Rattle.jfs_rename.proofs.Moved.{bit_is, less_lives, less_few}
use Rattle.jfs_rename.proofs.Plain.{replaced}
use Rattle.jfs_rename.proofs.LetIn.{kept_kind, kept_empty, kept_outside, no_entries, not_first, dead_late, more_live, one_node, or_left, bit_most}
use Rattle.jfs_link.specs.meaning.proofs.Books.{count_append}
use Rattle.jfs_link.specs.objects.specs.Owners.{bit}
use Rattle.jfs_link.specs.objects.proofs.Owned.{owned_once}
use Rattle.jfs_link.specs.steps.specs.After.{takes}
use Rattle.jfs_link.specs.steps.specs.After.{frees as frees_of}
use Rattle.jfs_link.specs.steps.specs.Laws.{LeavesSets, IsFair}
use Rattle.jfs_link.specs.steps.proofs.After.{counts}
use Rattle.jfs_link.specs.steps.proofs.Sets.{moves_onto, lines_on_top}
use Rattle.jfs_rename_steps.proofs.Taken.{over_takes}
use Rattle.jfs_rename.specs.Once.{IsOrderly}

module _ (blocks : ℕ) (pages : ℕ → List ℕ) (area : ℕ → ℕ) (bm : Blocks) (inodes : Inodes) (moving : Moving) (on : AreOn blocks pages area bm inodes moving) (there : Held) (held_k : IsHeld blocks inodes there) (shown_k : IsShown pages there)
    (from to : List (List ℕ)) (now : Moment) (limit log_pages : ℕ) (same_limit : (room_in blocks pages area bm inodes log_pages).limit ≡ limit) (may : MayReplace from to limit moving there (room_in blocks pages area bm inodes log_pages) (tree_in blocks pages area bm inodes)) where
  abbrev r : Readers
  r = readers blocks

  abbrev v : Volume
  v = volume_of pages area bm inodes

  abbrev t : Tree
  t = tree_in blocks pages area bm inodes

  abbrev m : ℕ
  m = moving.object.number

  abbrev p : ℕ
  p = moving.source.number

  abbrev q : ℕ
  q = moving.target.number

  abbrev k : ℕ
  k = there.number

  abbrev dk : Dinode
  dk = there.inode

  abbrev dq : Dinode
  dq = moving.target.inode

  abbrev by_dir : Bool
  by_dir = has_names moving.object.inode

  abbrev ends : AreEnds t from to moving
  ends = may.ends

  abbrev places : List (Option ℕ)
  places = map extent_place inodes.extents

  -- ---- the object that has the name

  at_k : home places k ≡ Some there.page
  at_k = stood blocks pages area bm inodes on.con there held_k shown_k may.stands

  was_k : objects r v k ≡ Some (spelled r pages dk)
  was_k = object_is blocks pages area bm inodes on.con there held_k shown_k may.stands

  abbrev node_k : IsNodeOf blocks pages t there
  node_k = node_of_it blocks pages area bm inodes on.con there held_k shown_k may.stands

  old_is : may.old ≡ node_k.node
  old_is = one_node (t.nodes k) may.old_is node_k.there

  same_kind : has_names dk ≡ by_dir
  same_kind = sym node_k.dir ∙ ap (λ (o : Node). is_dir o.kind) (sym old_is) ∙ kept_kind limit by_dir (passes t to m) may.old may.allowed

  bare_node : by_dir ≡ true → node_k.node.names ≡ []
  bare_node d = no_entries node_k.node.names (ap has_entries (sym old_is) ∙ kept_empty limit by_dir (passes t to m) may.old may.allowed d)

  bare : has_names dk ≡ true → spells_names blocks pages (root_of dk) ≡ Ok []
  bare d = node_k.names d ∙ ap (λ (es : List NameEntry). Ok es) (bare_node (sym same_kind ∙ d))

  late : 4 ≤ k
  late = (on.con.tree.names q k (at_leads t (place_at q (last_of to)) (place_there t to (place_at q (last_of to)) ends.target) k may.at)).0

  k_q : k ≢ q
  k_q = stands_apart (room v) t on.con.tree to (place_at q (last_of to)) (named_from from to ends.named).1 ends.target k may.at

  k_m : k ≢ m
  k_m = not_first k m may.other

  m_k : m ≢ k
  m_k h = k_m (sym h)

  apart : m ≢ q
  apart = m_q blocks pages area bm inodes moving on from to ends (kept_outside limit by_dir (passes t to m) may.old may.allowed)

  p_k : p ≢ k
  p_k h = by by_dir refl
    where
      no : None ≡ Some m → ⊥
      no h = cc (h)

      by : (x : Bool) → by_dir ≡ x → ⊥
      by true d = no (ap (λ (es : List NameEntry). named (last_of from) es) (sym (bare_node d)) ∙ sym (ap (λ (x : Option Node). named_in x (last_of from)) node_k.there) ∙ ap (λ (n : ℕ). named_in (t.nodes n) (last_of from)) (sym h)
          ∙ named_m blocks pages area bm inodes moving on from to ends)
      by false d = true≢false (sym on.dirs.0 ∙ ap has_names (one_inode blocks pages area bm inodes moving on from to ends moving.source there (was_p blocks pages area bm inodes moving on from to ends) was_k h) ∙ same_kind ∙ d)

  module _ (first : List Edit) (set : Dinode) (led last : List Edit) (frees : FreesIf (goes dk) blocks pages dk first) (lead : LeadsEntry blocks pages moving.target (last_of to) m now first led set)
      (puts : AddsInode blocks pages there.page k (unnamed dk now) led last) (lines : TellsLines blocks pages there.page led last) where
    -- ---- what it has is freed, where it goes

    pub record Owes (x : Bool) (owed : List ℕ) : Type 0 where
      pub moves : TakesAndFrees first [] owed
      pub stays : (b : ℕ) → b < blocks → after_tx pages first b ≡ pages b
      pub among : (b : ℕ) → count_in b owed ≤ holds r (objects r v k) b
      pub all : x ≡ true → (b : ℕ) → count_in b owed ≡ holds r (objects r v k) b
      pub none : x ≡ false → owed ≡ []

    owes : (x : Bool) → FreesIf x blocks pages dk first → (owed : List ℕ) × Owes x owed
    owes true frees = let f = freed in (
      f.freed,
      record {
        moves = f.moves;
        stays = f.stays;
        among = λ b. (let a = f.all b in omega (arith, a));
        all = λ e. f.all;
        none = λ e. absurd (true≢false e);
      },
    )
      where
        freed : IsFreed blocks pages (holds r (objects r v k)) first
        freed = object_freed blocks v on.con.sound (within blocks pages area bm inodes moving on from to ends) on.whole k dk was_k (root_is blocks pages area bm inodes on.con there held_k shown_k may.stands on.whole) bare first frees
    owes false frees = (
      [],
      record {
        moves = subst (λ (tx : List Edit). TakesAndFrees tx [] []) (sym frees) (lines_move [] tt);
        stays = λ b l. ap (λ (tx : List Edit). after_tx pages tx b) frees;
        among = λ b. omega arith;
        all = λ e. absurd (true≢false (sym e));
        none = λ e. refl;
      },
    )

    abbrev debt : (owed : List ℕ) × Owes (goes dk) owed
    debt = owes (goes dk) frees

    abbrev owed : List ℕ
    owed = debt.0

    s0 : Stage blocks v owed first v t
    s0 = frees_stage blocks v t (has blocks pages area bm inodes moving on from to ends) (within blocks pages area bm inodes moving on from to ends) k first owed debt.1.moves debt.1.stays debt.1.among

    -- ---- the target leads the name to the object

    abbrev set_q : Dinode
    set_q = record dq { rest = put_bytes 96 lead.root dq.rest; nblocks = dq.nblocks; nlink = dq.nlink; mtime = now; ctime = now }

    puts_q : PutsInode (put_tx blocks lead.mid pages) (put_tx blocks led pages) v.extents q set_q
    puts_q = subst (λ (d : Dinode). PutsInode (put_tx blocks lead.mid pages) (put_tx blocks led pages) v.extents q d) lead.inode_is (lead.puts places (at_q blocks pages area bm inodes moving on from to ends))

    abbrev w1 : Volume
    w1 = record v { page = put_tx blocks led pages }

    abbrev t1 : Tree
    t1 = changed q (turns (with_inode (last_of to) m) (λ l. l) now) t

    s1 : Stage blocks v owed led w1 t1
    s1 = lead_stage blocks v on.whole t (has blocks pages area bm inodes moving on from to ends) (within blocks pages area bm inodes moving on from to ends) q dq (was_q blocks pages area bm inodes moving on from to ends) on.dirs.1
        (size_q blocks pages area bm inodes moving on from to ends) (λ l. l) dq.nblocks (live_q blocks pages area bm inodes moving on from to ends) (few_q blocks pages area bm inodes moving on from to ends)
        lead.root lead.width lead.parent now moving.target.page lead.mid led puts_q lead.lines first owed s0 (last_of to) m lead.old lead.replaces lead.edits

    here_q : objects r w1 q ≡ Some (spelled r w1.page set_q)
    here_q = lead_here blocks v on.whole t (has blocks pages area bm inodes moving on from to ends) (within blocks pages area bm inodes moving on from to ends) q dq (was_q blocks pages area bm inodes moving on from to ends) on.dirs.1
        (size_q blocks pages area bm inodes moving on from to ends) (λ l. l) dq.nblocks (live_q blocks pages area bm inodes moving on from to ends) (few_q blocks pages area bm inodes moving on from to ends)
        lead.root lead.width lead.parent now moving.target.page lead.mid led puts_q lead.lines first owed s0 (last_of to) m lead.old lead.replaces lead.edits

    keeps_1 : (n : ℕ) → n ≢ q → objects r w1 n ≡ objects r v n
    keeps_1 = lead_keeps blocks v on.whole t (has blocks pages area bm inodes moving on from to ends) (within blocks pages area bm inodes moving on from to ends) q dq (was_q blocks pages area bm inodes moving on from to ends) on.dirs.1
        (size_q blocks pages area bm inodes moving on from to ends) (λ l. l) dq.nblocks (live_q blocks pages area bm inodes moving on from to ends) (few_q blocks pages area bm inodes moving on from to ends)
        lead.root lead.width lead.parent now moving.target.page lead.mid led puts_q lead.lines first owed s0 (last_of to) m lead.old lead.replaces lead.edits

    -- ---- the other object loses it

    pub record Displaced (x : Bool) : Type 0 where
      pub volume : Volume
      pub stage : Stage blocks v [] last volume (unnamed_as x k now t1)
      pub keeps : (n : ℕ) → n ≢ k → objects r volume n ≡ objects r w1 n

    displaces : (x : Bool) → goes dk ≡ x → Displaced x
    displaces true g = record {
      volume = record w1 { page = put_tx blocks last pages; used = used_after last v.used; in_use = put k false w1.in_use };
      stage = drop_stage blocks v on.whole owed led w1 t1 s1 there.page last k dk (gone dk) lines puts_k dead all;
      keeps = drop_keeps blocks v on.whole owed led w1 t1 s1 there.page last k dk (gone dk) lines puts_k dead all;
    }
      where
        puts_k : PutsInode (put_tx blocks led pages) (put_tx blocks last pages) v.extents k (gone dk)
        puts_k = subst (λ (x : Bool). PutsInode (put_tx blocks led pages) (put_tx blocks last pages) v.extents k (if x then gone dk else fallen dk now)) g (puts places at_k)

        dead : is_live k (gone dk) ≡ false
        dead = dead_late k late

        all : (b : ℕ) → count_in b owed ≡ holds r (objects r w1 k) b
        all b = debt.1.all g b ∙ ap (λ o. holds r o b) (sym (keeps_1 k k_q))
    displaces false g = record {
      volume = record w1 { page = put_tx blocks last pages };
      stage = set_stage blocks v on.whole [] led w1 t1 s_none there.page last k dk (fallen dk now) lines puts_k (λ o. stamped now (falls o)) here_k change;
      keeps = set_keeps blocks v on.whole [] led w1 t1 s_none there.page last k dk (fallen dk now) lines puts_k (λ o. stamped now (falls o)) here_k change;
    }
      where
        s_none : Stage blocks v [] led w1 t1
        s_none = subst (λ (o : List ℕ). Stage blocks v o led w1 t1) (debt.1.none g) s1

        puts_k : PutsInode (put_tx blocks led pages) (put_tx blocks last pages) v.extents k (fallen dk now)
        puts_k = subst (λ (x : Bool). PutsInode (put_tx blocks led pages) (put_tx blocks last pages) v.extents k (if x then gone dk else fallen dk now)) g (puts places at_k)

        here_k : objects r w1 k ≡ Some (spelled r w1.page dk)
        here_k = (again r w1 pages k dk (keeps_1 k k_q ∙ was_k)).0

        few_k : dk.nlink - 1 ≤ 65535
        few_k = let f = few blocks pages area bm inodes on.con there held_k shown_k may.stands in omega (arith, f)

        change : ChangesInPlace r k dk (fallen dk now) (λ o. stamped now (falls o))
        change = counts_in_place blocks k dk (dk.nlink - 1) now (λ o. stamped now (falls o)) (more_live k dk.nlink (or_left (has_names dk) (nat_le dk.nlink 1) g)) few_k held_k.rules (λ target es. refl)

    abbrev displaced_k : Displaced (goes dk)
    displaced_k = displaces (goes dk) refl

    abbrev w2 : Volume
    w2 = displaced_k.volume

    abbrev t2 : Tree
    t2 = unnamed_as (goes dk) k now t1

    keeps_2 : (n : ℕ) → n ≢ k → n ≢ q → objects r w2 n ≡ objects r v n
    keeps_2 n far other = displaced_k.keeps n far ∙ keeps_1 n other

    here_m : objects r w2 m ≡ Some (spelled r w2.page moving.object.inode)
    here_m = (again r w2 pages m moving.object.inode (keeps_2 m m_k apart ∙ was_m blocks pages area bm inodes moving on from to ends)).0

    -- ---- the plain step

    outcome : rename (room_in blocks pages area bm inodes log_pages) t from to now ≡ Ok (Done, departs m by_dir (place_at p (last_of from)) q now (displaced k by_dir dk.nlink p now (changed q (leads (last_of to) m now) t)))
    outcome = let node = node_m blocks pages area bm inodes moving on from to ends in
        replaced t (room_in blocks pages area bm inodes log_pages) from to now m node.node ends.walked node.there ends.named (place_at p (last_of from)) ends.source (place_at q (last_of to)) ends.target k node_k.node may.at node_k.there may.other
        (ap (λ (x : Bool). why_kept (room_in blocks pages area bm inodes log_pages).limit x (passes t to m) node_k.node) node.dir ∙ ap (λ (l : ℕ). why_kept l by_dir (passes t to m) node_k.node) same_limit
        ∙ ap (λ (o : Node). why_kept limit by_dir (passes t to m) o) (sym old_is) ∙ may.allowed)
        may.space may.takes_name
        ∙ ap (λ (x : Bool). Ok (Done, departs m x (place_at p (last_of from)) q now (displaced k x node_k.node.links p now (changed q (leads (last_of to) m now) t)))) node.dir
        ∙ ap (λ (l : ℕ). Ok (Done, departs m by_dir (place_at p (last_of from)) q now (displaced k by_dir l p now (changed q (leads (last_of to) m now) t)))) node_k.links

    -- ---- a refusal

    module _ (why : Refusal) (arriving : List Edit) (a : Arrives blocks pages moving.object q now last arriving) (loss : LossRefused blocks pages (source_after moving set) (last_of from) arriving why) where
      stands_named : named_in ((changed m (arrives_as by_dir q now) t2).nodes p) (last_of from) ≡ Some m
      stands_named = past_object t p m q (last_of from) (last_of to) (named_m blocks pages area bm inodes moving on from to ends) (arrives_as by_dir q now) m t2 (p_m blocks pages area bm inodes moving on from to ends)
          (past_other t p m q (last_of from) (last_of to) (named_m blocks pages area bm inodes moving on from to ends) (goes dk) k now t1 p_k
          (past_lead t p m q (last_of from) (last_of to) (named_m blocks pages area bm inodes moving on from to ends) (λ l. l) now k may.at k_m))

      open_other : p ≢ q → is_open why ≡ true
      open_other far = loss_open blocks v on.whole arriving (arrived_volume blocks pages area bm inodes moving on from to ends now last w2 t2 displaced_k.stage here_m moving.source.page moving.source.inode here_p arriving a)
          (arrived_tree blocks pages area bm inodes moving on from to ends now last w2 t2 displaced_k.stage here_m moving.source.page moving.source.inode here_p arriving a)
          (arrived_stage blocks pages area bm inodes moving on from to ends now last w2 t2 displaced_k.stage here_m moving.source.page moving.source.inode here_p arriving a)
          moving.source (still_p blocks pages area bm inodes moving on from to ends now last w2 t2 displaced_k.stage here_m moving.source.page moving.source.inode here_p arriving a) on.dirs.0 (last_of from) m stands_named why
          (subst (λ (h : Held). LossRefused blocks pages h (last_of from) arriving why) (ap (λ (x : Bool). if x then source_with q moving.target.page set else moving.source) (ne_eqb p q far)) loss)
        where
          here_p : objects r w2 p ≡ Some (spelled r w2.page moving.source.inode)
          here_p = (again r w2 pages p moving.source.inode (keeps_2 p p_k far ∙ was_p blocks pages area bm inodes moving on from to ends)).0

      open_same : p ≡ q → is_open why ≡ true
      open_same same = loss_open blocks v on.whole arriving (arrived_volume blocks pages area bm inodes moving on from to ends now last w2 t2 displaced_k.stage here_m moving.target.page set_q here_p arriving a)
          (arrived_tree blocks pages area bm inodes moving on from to ends now last w2 t2 displaced_k.stage here_m moving.target.page set_q here_p arriving a)
          (arrived_stage blocks pages area bm inodes moving on from to ends now last w2 t2 displaced_k.stage here_m moving.target.page set_q here_p arriving a)
          (source_with p moving.target.page set_q) (still_p blocks pages area bm inodes moving on from to ends now last w2 t2 displaced_k.stage here_m moving.target.page set_q here_p arriving a) on.dirs.1 (last_of from) m stands_named why
          (subst (λ (h : Held). LossRefused blocks pages h (last_of from) arriving why)
          (ap (λ (x : Bool). if x then source_with q moving.target.page set else moving.source) (eq-eqb p q same) ∙ ap (λ (n : ℕ). source_with n moving.target.page set) (sym same) ∙ ap (source_with p moving.target.page) lead.inode_is) loss)
        where
          here_p : objects r w2 p ≡ Some (spelled r w2.page set_q)
          here_p = (again r w2 w1.page p set_q (displaced_k.keeps p p_k ∙ ap (objects r w1) same ∙ here_q)).0

      pub stays_open_over : is_open why ≡ true
      stays_open_over = elim (eq_or_not p q) [
        | inl e ↦ open_same e
        | inr far ↦ open_other far
      ]

    same_tree : changed p (turns (without_name (last_of from)) (less_if by_dir) now) (changed m (arrives_as by_dir q now) t2) ≡ departs m by_dir (place_at p (last_of from)) q now (displaced k by_dir dk.nlink p now (changed q (leads (last_of to) m now) t))
    same_tree = by by_dir (has_names dk) same_kind
      where
        away : m ≢ p
        away = m_p blocks pages area bm inodes moving on from to ends

        by : (x y : Bool) → y ≡ x → changed p (turns (without_name (last_of from)) (less_if x) now) (changed m (arrives_as x q now) (unnamed_as (y || nat_le dk.nlink 1) k now t1))
            ≡ departs m x (place_at p (last_of from)) q now (displaced k x dk.nlink p now (changed q (leads (last_of to) m now) t))
        by true true e = over_dir t m p q (last_of from) (last_of to) now away k dk.nlink
        by false false e = over_file t m p q (last_of from) (last_of to) now away k dk.nlink (nat_le dk.nlink 1) refl
        by true false e = absurd (true≢false (sym e))
        by false true e = absurd (true≢false e)

    module _ (tx : List Edit) (leave : Leaves blocks pages (leaving_over moving set) (last_of from) now last tx) where
      done_by : (tree : Tree) (w : Volume) → Stage blocks v [] tx w tree → tree ≡ departs m by_dir (place_at p (last_of from)) q now (displaced k by_dir dk.nlink p now (changed q (leads (last_of to) m now) t))
          → TakesStep blocks pages area bm inodes from to now log_pages tx
      done_by tree w s is = takes_step blocks pages area bm inodes moving on from to ends now log_pages tx w tree s (outcome ∙ ap (λ (u : Tree). Ok (Done, u)) (sym is))

      -- ---- the blocks

      sets_stay : LeavesSets (lead_leaves blocks pages (root_of dq) lead.root first lead.mid lead.edits).0
      sets_stay = (lead_leaves blocks pages (root_of dq) lead.root first lead.mid lead.edits).2

      moves_lead : TakesAndFrees lead.mid [] (owed ++ [])
      moves_lead = subst (λ (all : List Edit). TakesAndFrees all [] (owed ++ [])) (sym (lead_leaves blocks pages (root_of dq) lead.root first lead.mid lead.edits).1)
          (moves_onto first (lead_leaves blocks pages (root_of dq) lead.root first lead.mid lead.edits).0 [] owed [] [] debt.1.moves (lines_move (lead_leaves blocks pages (root_of dq) lead.root first lead.mid lead.edits).0 sets_stay))

      moves_last : TakesAndFrees last [] (owed ++ [])
      moves_last = lines_on_top blocks pages there.page led last [] (owed ++ []) (lines_on_top blocks pages moving.target.page lead.mid led [] (owed ++ []) moves_lead lead.lines) lines

      frees_last : (b : ℕ) → frees_of last b ≡ count_in b owed
      frees_last b = moves_last.freed_are b ∙ (let c = count_append b owed [] in omega (arith, c))

      fair_last : IsFair last v.used
      fair_last = record {
        fresh = λ b l. absurd (let k = moves_last.taken_are b in omega (arith, k, l));
        owned = λ b l. (owned_once r v on.con.sound.agrees).in_use k b (let f = frees_last b in let a = debt.1.among b in omega (arith, f, a, l));
        once = λ b. (let z = moves_last.taken_are b in let f = frees_last b in let a = debt.1.among b in let o = (owned_once r v on.con.sound.agrees).once k b in omega (arith, z, f, a, o));
      }

      takes_none : (b : ℕ) → takes tx b ≡ 0
      takes_none = over_takes blocks pages moving there (last_of from) (last_of to) now tx (record { freed = first; target = set; led = led; put = last; frees = frees; leads = lead; puts = puts; lines = lines; leaves = leave })

      orderly : (lost : List ℕ) → ((b : ℕ) → frees_of tx b ≡ frees_of last b + count_in b lost) → ((b : ℕ) → count_in b lost ≤ 1) → ((b : ℕ) → 0 < count_in b lost → w2.used b ≡ true) → IsOrderly tx v.used
      orderly lost are once owned = record {
        fresh = λ b l. absurd (let z = takes_none b in omega (arith, z, l));
        taken_once = λ b. (let z = takes_none b in omega (arith, z));
        owned = λ b l. inl (by_part b (zero_or_more (count_in b lost)) l);
        freed_once = λ b. at_most b (zero_or_more (count_in b lost));
      }
        where
          -- what is in use when the name goes was in use, and isn't among what was freed before
          still : (b : ℕ) → w2.used b ≡ true → bit (v.used b) ≡ 1 + frees_of last b
          still b h = let s = displaced_k.stage.used b in let c = counts last v.used fair_last b in let z = moves_last.taken_are b in let e = ap bit h in omega (arith, s, c, z, e)

          by_part : (b : ℕ) → (count_in b lost ≡ 0) ⊎ (0 < count_in b lost) → 0 < frees_of tx b → v.used b ≡ true
          by_part b (inl z) l = (owned_once r v on.con.sound.agrees).in_use k b (let a = are b in let f = frees_last b in let m = debt.1.among b in omega (arith, a, f, m, z, l))
          by_part b (inr p) l = bit_is (v.used b) (let s = still b (owned b p) in let o = bit_most (v.used b) in omega (arith, s, o))

          at_most : (b : ℕ) → (count_in b lost ≡ 0) ⊎ (0 < count_in b lost) → frees_of tx b ≤ 1
          at_most b (inl z) = let a = are b in let f = frees_last b in let m = debt.1.among b in let o = (owned_once r v on.con.sound.agrees).once k b in omega (arith, a, f, m, o, z)
          at_most b (inr p) = let a = are b in let s = still b (owned b p) in let o = bit_most (v.used b) in let n = once b in omega (arith, a, s, o, n)

      -- ---- one directory, or two

      from_other : p ≢ q → TakesStep blocks pages area bm inodes from to now log_pages tx × IsOrderly tx v.used
      from_other far = (
        done_by _ (left_volume blocks pages area bm inodes moving on from to ends now last w2 t2 displaced_k.stage here_m moving.source.page moving.source.inode here_p on.dirs.0 by_dir
            (less_lives p moving.source.inode by_dir (live_p blocks pages area bm inodes moving on from to ends) (two_p blocks pages area bm inodes moving on from to ends)) (less_few moving.source.inode.nlink by_dir (few_p blocks pages area bm inodes moving on from to ends))
            (at_p blocks pages area bm inodes moving on from to ends) (last_of from) tx leaves)
            (left_stage blocks pages area bm inodes moving on from to ends now last w2 t2 displaced_k.stage here_m moving.source.page moving.source.inode here_p on.dirs.0 by_dir
            (less_lives p moving.source.inode by_dir (live_p blocks pages area bm inodes moving on from to ends) (two_p blocks pages area bm inodes moving on from to ends)) (less_few moving.source.inode.nlink by_dir (few_p blocks pages area bm inodes moving on from to ends))
            (at_p blocks pages area bm inodes moving on from to ends) (last_of from) tx leaves)
            same_tree,
        (let f = left_frees blocks pages area bm inodes moving on from to ends now last w2 t2 displaced_k.stage here_m moving.source.page moving.source.inode here_p on.dirs.0 by_dir
            (less_lives p moving.source.inode by_dir (live_p blocks pages area bm inodes moving on from to ends) (two_p blocks pages area bm inodes moving on from to ends)) (less_few moving.source.inode.nlink by_dir (few_p blocks pages area bm inodes moving on from to ends))
            (at_p blocks pages area bm inodes moving on from to ends) (last_of from) tx leaves in orderly f.0 f.1.frees_are f.1.once f.1.owned),
      )
        where
          apart_eq : (p == q) ≡ false
          apart_eq = ne_eqb p q far

          leaves : Leaves blocks pages (leaving_from moving moving.source.page moving.source.inode by_dir) (last_of from) now last tx
          leaves = subst (λ (h : Held). Leaves blocks pages (leaving_with moving h by_dir) (last_of from) now last tx) (ap (λ (x : Bool). if x then source_with q moving.target.page set else moving.source) apart_eq) leave

          here_p : objects r w2 p ≡ Some (spelled r w2.page moving.source.inode)
          here_p = (again r w2 pages p moving.source.inode (keeps_2 p p_k far ∙ was_p blocks pages area bm inodes moving on from to ends)).0

      from_same : p ≡ q → TakesStep blocks pages area bm inodes from to now log_pages tx × IsOrderly tx v.used
      from_same same = (
        done_by _ (left_volume blocks pages area bm inodes moving on from to ends now last w2 t2 displaced_k.stage here_m moving.target.page set_q here_p on.dirs.1 by_dir live few_s
            (ap (home places) same ∙ at_q blocks pages area bm inodes moving on from to ends) (last_of from) tx leaves)
            (left_stage blocks pages area bm inodes moving on from to ends now last w2 t2 displaced_k.stage here_m moving.target.page set_q here_p on.dirs.1 by_dir live few_s
            (ap (home places) same ∙ at_q blocks pages area bm inodes moving on from to ends) (last_of from) tx leaves)
            same_tree,
        (let f = left_frees blocks pages area bm inodes moving on from to ends now last w2 t2 displaced_k.stage here_m moving.target.page set_q here_p on.dirs.1 by_dir live few_s
            (ap (home places) same ∙ at_q blocks pages area bm inodes moving on from to ends) (last_of from) tx leaves in orderly f.0 f.1.frees_are f.1.once f.1.owned),
      )
        where
          same_eq : (p == q) ≡ true
          same_eq = eq-eqb p q same

          two_q : 2 ≤ dq.nlink
          two_q = subst (λ (d : Dinode). 2 ≤ d.nlink) (one_inode blocks pages area bm inodes moving on from to ends moving.source moving.target (was_p blocks pages area bm inodes moving on from to ends) (was_q blocks pages area bm inodes moving on from to ends) same)
              (two_p blocks pages area bm inodes moving on from to ends)

          live : is_live p (record set_q { nlink = less_if by_dir set_q.nlink }) ≡ true
          live = less_lives p set_q by_dir (ap (λ (n : ℕ). is_live n dq) same ∙ live_q blocks pages area bm inodes moving on from to ends) two_q

          few_s : less_if by_dir set_q.nlink ≤ 65535
          few_s = less_few dq.nlink by_dir (few_q blocks pages area bm inodes moving on from to ends)

          leaves : Leaves blocks pages (leaving_from moving moving.target.page set_q by_dir) (last_of from) now last tx
          leaves = subst (λ (h : Held). Leaves blocks pages (leaving_with moving h by_dir) (last_of from) now last tx)
              (ap (λ (x : Bool). if x then source_with q moving.target.page set else moving.source) same_eq ∙ ap (λ (n : ℕ). source_with n moving.target.page set) (sym same) ∙ ap (source_with p moving.target.page) lead.inode_is) leave

          here_p : objects r w2 p ≡ Some (spelled r w2.page set_q)
          here_p = (again r w2 w1.page p set_q (displaced_k.keeps p p_k ∙ ap (objects r w1) same ∙ here_q)).0

      pub replace_done : TakesStep blocks pages area bm inodes from to now log_pages tx × IsOrderly tx v.used
      replace_done = elim (eq_or_not p q) [
        | inl e ↦ from_same e
        | inr far ↦ from_other far
      ]

pub replace_law : ReplaceLaw
replace_law blocks pages area bm inodes moving on there held_k shown_k from to now limit log_pages same_limit may tx j =
    (replace_done blocks pages area bm inodes moving on there held_k shown_k from to now limit log_pages same_limit may j.freed j.target j.led j.put j.frees j.leads j.puts j.lines tx j.leaves).0
