-- An object moves where nothing stood: from what its steps say to the plain step.
use Rattle.std.proofs.Common.{◌≡◌, ◌≢◌, ◌≤◌, ◌<◌, ◌⊎◌, refl, sym, ap, ◌∙◌, subst, inl, inr, ℕ, ◌+◌, ◌-◌, Bool, true, false, true≢false, not, ◌&&◌, ◌||◌, ◌==◌, eqb-true, nat_le, nat_lt, if◌then◌else◌, List, [], length, map, Option, Some, None, Ok, arith}
use Rattle.std.proofs.lemmas.Bool.Decides.{nat_tests}
use Rattle.jfs_bits.specs.Field.{put_bytes}
use Rattle.jfs_bits.specs.declared.descriptor.Moment.{Moment}
use Rattle.jfs_bits.specs.declared.descriptor.Pxd.{Pxd}
use Rattle.jfs_inode.specs.declared.fields.Dinode.{Dinode}
use Rattle.jfs_imap.specs.Inodes.{Inodes}
use Rattle.jfs_bmap.specs.States.{Blocks, is_owned}
use Rattle.jfs_name.specs.declared.name.NameEntry.{NameEntry}
use Rattle.jfs_name.specs.Directory.{with_name, without_name}
use Rattle.jfs_ranges.specs.declared.edit.Edit.{Edit}
use Rattle.jfs_ranges.specs.Laid.{put_tx}
use Rattle.jfs_tree.specs.Edit.{count_in}
use Rattle.jfs_tree.specs.Form.{AllBelow}
use Rattle.jfs_tree.specs.Fresh.{blocks_of}
use Rattle.jfs_plain.specs.Tree.{Tree, Place, place_at, named_in, passes, is_dir}
use Rattle.jfs_plain.specs.declared.refusal.Refusal.{Refusal}
use Rattle.jfs_link.specs.way.specs.Answer.{is_open}
use Rattle.jfs_plain.specs.Moves.{changed, shifts}
use Rattle.jfs_plain.specs.Step.{Room, rename, entry_as, gained, departs, why_barred, is_full, links_in, links_of}
use Rattle.jfs_plain.specs.declared.reply.Reply.TheVariants.{Done}
use Rattle.jfs_link.specs.objects.specs.Readers.{Readers}
use Rattle.jfs_link.specs.objects.specs.Volume.{Volume}
use Rattle.jfs_link.specs.objects.specs.Objects.{objects, spelled, is_live, has_names}
use Rattle.jfs_link.specs.objects.specs.Image.{extent_place}
use Rattle.jfs_link.specs.objects.specs.Changes.{PutsInode}
use Rattle.jfs_link.specs.objects.proofs.Sums.{eq_or_not, zero_or_more}
use Rattle.jfs_link.specs.meaning.specs.Readers.{readers}
use Rattle.jfs_link.specs.way.specs.Volume.{volume_of}
use Rattle.jfs_link.specs.way.specs.Walk.{tree_in}
use Rattle.jfs_link.specs.way.specs.declared.object.Held.{Held}
use Rattle.jfs_link.specs.steps.specs.After.{used_after, takes, frees}
use Rattle.jfs_link.specs.steps.specs.Laws.{TakesAndFrees, IsFair}
use Rattle.jfs_link.specs.steps.proofs.After.{counts}
use Rattle.jfs_link.specs.steps.proofs.Sets.{taken_move, lines_on_top}
use Rattle.jfs_bits.specs.declared.rule.PageKind.TheVariants as kinds
use Rattle.jfs_link.specs.objects.specs.Owners.{bit}
use Rattle.jfs_link.specs.meaning.proofs.Books.{count_append}
use Rattle.jfs_rename_steps.proofs.Taken.{free_takes}
use Rattle.jfs_rename.specs.Once.{IsOrderly}
use Rattle.jfs_link.specs.steps.specs.Place.{last_of}
use Rattle.jfs_link.specs.claim.specs.Take.{AreFresh}
use Rattle.jfs_link.specs.lead_steps.specs.Balance.{own_after}
use Rattle.jfs_link.specs.lead_steps.proofs.Again.{again}
use Rattle.jfs_link.specs.lead_steps.proofs.Turned.{turns}
use Rattle.jfs_rename_steps.specs.declared.entries.Entered.{Entered}
use Rattle.jfs_rename_steps.specs.Entries.{GainsEntry, LossRefused}
use Rattle.jfs_rename_steps.specs.Objects.{Arrives}
use Rattle.jfs_rename_steps.specs.Moves.{MovesToFree, Leaves, passes_over, gain_of, source_after, leaving_with, leaving_free, less_if}
use Rattle.jfs_rename_steps.specs.declared.moving.Moving.{Moving}
use Rattle.jfs_rename_steps.proofs.Stage.{Stage, gain_stage, gain_here, gain_keeps}
use Rattle.jfs_rename_steps.proofs.Trees.{arrives_as, more_if, free_tree}
use Rattle.jfs_rename.specs.Asks.{MayMove}
use Rattle.jfs_rename.specs.Done.{AreOn, room_in, TakesStep, MoveLaw}
use Rattle.jfs_rename.specs.Ends.{AreEnds}
use Rattle.jfs_rename.proofs.Ground.{has, within, at_p, at_q, was_m, was_p, was_q, live_p, live_q, few_p, few_q, size_q, node_m, node_q, named_m, m_p, p_m, m_q, two_p, takes_step}
use Rattle.jfs_rename.proofs.Leaving.{source_with, leaving_from, left_volume, left_stage, left_frees, arrived_volume, arrived_tree, arrived_stage, still_p}
use Rattle.jfs_rename.proofs.Stays.{past_object, past_gain, loss_open}
use Rattle.jfs_rename.proofs.Plain.{moved}

-- ---- link counts

live_more : (n k : ℕ) → (nat_lt n 4 || not (k + 1 == 0)) ≡ true
live_more n k = grind (arith, nat_tests)

live_less : (n k : ℕ) → 2 ≤ k → (nat_lt n 4 || not (k - 1 == 0)) ≡ true
live_less n k l = grind (arith, nat_tests, l)

pub less_lives : (n : ℕ) (d : Dinode) (less : Bool) → is_live n d ≡ true → 2 ≤ d.nlink → is_live n (record d { nlink = less_if less d.nlink }) ≡ true
less_lives n d true live two = live_less n d.nlink two
less_lives n d false live two = live

pub less_few : (k : ℕ) (less : Bool) → k ≤ 65535 → less_if less k ≤ 65535
less_few k true l = omega (arith, l)
less_few k false l = l

more_lives : (n : ℕ) (d : Dinode) (more : Bool) → is_live n d ≡ true → is_live n (record d { nlink = more_if more d.nlink }) ≡ true
more_lives n d true live = live_more n d.nlink
more_lives n d false live = live

-- a directory that comes to another one finds a link left there
more_few : (x inside stays : Bool) (k : ℕ) → why_barred x inside stays k ≡ None → k ≤ 65535 → more_if (x && not stays) k ≤ 65535
more_few true true stays k h l = absurd (cc (h))
more_few true false true k h l = l
more_few true false false k h l = by (nat_le 65535 k) refl h
  where
    by : (b : Bool) → nat_le 65535 k ≡ b → (if b then Some Rattle.jfs_plain.specs.declared.refusal.Refusal.TheVariants.TooManyLinks else None) ≡ None → k + 1 ≤ 65535
    by true e h = absurd (cc (h))
    by false e h = fewer k e
      where
        fewer : (k : ℕ) → nat_le 65535 k ≡ false → k + 1 ≤ 65535
        fewer k e = grind (arith, nat_tests, e)
more_few false inside stays k h l = l

not_inside : (x inside stays : Bool) (k : ℕ) → why_barred x inside stays k ≡ None → x ≡ true → inside ≡ false
not_inside true true stays k h e = absurd (cc (h))
not_inside true false stays k h e = refl
not_inside false inside stays k h e = absurd (true≢false (sym e))

pub bit_is : (x : Bool) → bit x ≡ 1 → x ≡ true
bit_is true h = refl
bit_is false h = absurd (omega (arith, h))

module _ (blocks : ℕ) (pages : ℕ → List ℕ) (area : ℕ → ℕ) (bm : Blocks) (inodes : Inodes) (moving : Moving) (on : AreOn blocks pages area bm inodes moving) (from to : List (List ℕ)) (now : Moment) (log_pages : ℕ)
    (may : MayMove from to moving (room_in blocks pages area bm inodes log_pages) (tree_in blocks pages area bm inodes))
    (free : List Pxd) (fresh : AreFresh bm 8 (blocks_of free)) where
  abbrev r : Readers
  r = readers blocks

  abbrev v : Volume
  v = volume_of pages area bm inodes

  abbrev t : Tree
  t = tree_in blocks pages area bm inodes

  abbrev m : ℕ
  m = moving.object.number

  abbrev p : ℕ
  p = moving.source.number

  abbrev q : ℕ
  q = moving.target.number

  abbrev dq : Dinode
  dq = moving.target.inode

  abbrev space : Room
  space = room_in blocks pages area bm inodes log_pages

  abbrev over : Bool
  over = passes_over moving

  abbrev entry : NameEntry
  entry = entry_as (last_of to) m

  abbrev ends : AreEnds t from to moving
  ends = may.ends

  unused : (b : ℕ) → 0 < count_in b (blocks_of free) → v.used b ≡ false
  unused b l = by (nat_lt b (length bm.states)) (fresh.unowned b l)
    where
      by : (x : Bool) → is_owned bm b ≡ false → (x && is_owned bm b) ≡ false
      by true e = e
      by false e = refl

  all : AllBelow blocks (blocks_of free)
  all = subst (λ (k : ℕ). AllBelow k (blocks_of free)) on.size fresh.within

  apart : m ≢ q
  apart = m_q blocks pages area bm inodes moving on from to ends (not_inside (has_names moving.object.inode) (passes t to m) (p == q) dq.nlink may.allowed)

  -- ---- the plain step

  outcome : rename space t from to now ≡ Ok (Done, departs m (has_names moving.object.inode) (place_at p (last_of from)) q now (shifts (has_names moving.object.inode) p q (gained (place_at q (last_of to)) m now t)))
  outcome = let node = node_m blocks pages area bm inodes moving on from to ends in
      moved t space from to now m node.node ends.walked node.there ends.named (place_at p (last_of from)) ends.source (place_at q (last_of to)) ends.target may.free
      (ap (λ (x : Bool). why_barred x (passes t to m) (p == q) (links_of t q)) node.dir
      ∙ ap (λ (l : ℕ). why_barred (has_names moving.object.inode) (passes t to m) (p == q) l) (let target = node_q blocks pages area bm inodes moving on from to ends in ap links_in target.there ∙ target.links) ∙ may.allowed)
      may.space may.takes_name
      ∙ ap (λ (x : Bool). Ok (Done, departs m x (place_at p (last_of from)) q now (shifts x p q (gained (place_at q (last_of to)) m now t)))) node.dir

  module _ (left : List Pxd) (after : Entered) (g : GainsEntry blocks pages moving.target (last_of to) (gain_of moving now) free left after) where
    -- ---- the target gains the name

    abbrev own : ℕ
    own = own_after dq.nblocks g.mid

    abbrev set_q : Dinode
    set_q = record dq { rest = put_bytes 96 g.root dq.rest; nblocks = own; nlink = more_if over dq.nlink; mtime = now; ctime = now }

    is_set : after.inode ≡ set_q
    is_set = g.inode_is

    puts_q : PutsInode (put_tx blocks g.mid pages) (put_tx blocks after.tx pages) v.extents q set_q
    puts_q = subst (λ (d : Dinode). PutsInode (put_tx blocks g.mid pages) (put_tx blocks after.tx pages) v.extents q d) is_set (g.puts (map extent_place inodes.extents) (at_q blocks pages area bm inodes moving on from to ends))

    abbrev w1 : Volume
    w1 = record v { page = put_tx blocks after.tx pages; used = used_after after.tx v.used }

    abbrev t1 : Tree
    t1 = changed q (turns (with_name entry) (more_if over) now) t

    few_more : more_if over dq.nlink ≤ 65535
    few_more = more_few (has_names moving.object.inode) (passes t to m) (p == q) dq.nlink may.allowed (few_q blocks pages area bm inodes moving on from to ends)

    s1 : Stage blocks v [] after.tx w1 t1
    s1 = gain_stage blocks v on.whole t (has blocks pages area bm inodes moving on from to ends) (within blocks pages area bm inodes moving on from to ends) q dq (was_q blocks pages area bm inodes moving on from to ends) on.dirs.1
        (size_q blocks pages area bm inodes moving on from to ends) (more_if over) own (more_lives q dq over (live_q blocks pages area bm inodes moving on from to ends)) few_more
        g.root g.width g.parent now moving.target.page g.mid after.tx puts_q g.lines entry (blocks_of free) (blocks_of left) fresh.once all unused g.adds g.taken

    here_q : objects r w1 q ≡ Some (spelled r w1.page set_q)
    here_q = gain_here blocks v on.whole t (has blocks pages area bm inodes moving on from to ends) (within blocks pages area bm inodes moving on from to ends) q dq (was_q blocks pages area bm inodes moving on from to ends) on.dirs.1
        (size_q blocks pages area bm inodes moving on from to ends) (more_if over) own (more_lives q dq over (live_q blocks pages area bm inodes moving on from to ends)) few_more
        g.root g.width g.parent now moving.target.page g.mid after.tx puts_q g.lines entry (blocks_of free) (blocks_of left) fresh.once all unused g.adds g.taken

    keeps : (k : ℕ) → k ≢ q → objects r w1 k ≡ objects r v k
    keeps = gain_keeps blocks v on.whole t (has blocks pages area bm inodes moving on from to ends) (within blocks pages area bm inodes moving on from to ends) q dq (was_q blocks pages area bm inodes moving on from to ends) on.dirs.1
        (size_q blocks pages area bm inodes moving on from to ends) (more_if over) own (more_lives q dq over (live_q blocks pages area bm inodes moving on from to ends)) few_more
        g.root g.width g.parent now moving.target.page g.mid after.tx puts_q g.lines entry (blocks_of free) (blocks_of left) fresh.once all unused g.adds g.taken

    here_m : objects r w1 m ≡ Some (spelled r w1.page moving.object.inode)
    here_m = (again r w1 pages m moving.object.inode (keeps m apart ∙ was_m blocks pages area bm inodes moving on from to ends)).0

    -- ---- a refusal

    module _ (why : Refusal) (there : List Edit) (a : Arrives blocks pages moving.object q now after.tx there) (loss : LossRefused blocks pages (source_after moving after.inode) (last_of from) there why) where
      stands_named : named_in ((changed m (arrives_as (has_names moving.object.inode) q now) t1).nodes p) (last_of from) ≡ Some m
      stands_named = past_object t p m q (last_of from) (last_of to) (named_m blocks pages area bm inodes moving on from to ends) (arrives_as (has_names moving.object.inode) q now) m t1 (p_m blocks pages area bm inodes moving on from to ends)
          (past_gain t p m q (last_of from) (last_of to) (named_m blocks pages area bm inodes moving on from to ends) (more_if over) now may.free)

      open_other : p ≢ q → is_open why ≡ true
      open_other far = loss_open blocks v on.whole there (arrived_volume blocks pages area bm inodes moving on from to ends now after.tx w1 t1 s1 here_m moving.source.page moving.source.inode here_p there a)
          (arrived_tree blocks pages area bm inodes moving on from to ends now after.tx w1 t1 s1 here_m moving.source.page moving.source.inode here_p there a)
          (arrived_stage blocks pages area bm inodes moving on from to ends now after.tx w1 t1 s1 here_m moving.source.page moving.source.inode here_p there a)
          moving.source (still_p blocks pages area bm inodes moving on from to ends now after.tx w1 t1 s1 here_m moving.source.page moving.source.inode here_p there a) on.dirs.0 (last_of from) m stands_named why
          (subst (λ (h : Held). LossRefused blocks pages h (last_of from) there why) (ap (λ (x : Bool). if x then source_with q moving.target.page after.inode else moving.source) (Rattle.std.proofs.Common.ne_eqb p q far)) loss)
        where
          here_p : objects r w1 p ≡ Some (spelled r w1.page moving.source.inode)
          here_p = (again r w1 pages p moving.source.inode (keeps p far ∙ was_p blocks pages area bm inodes moving on from to ends)).0

      open_same : p ≡ q → is_open why ≡ true
      open_same same = loss_open blocks v on.whole there (arrived_volume blocks pages area bm inodes moving on from to ends now after.tx w1 t1 s1 here_m moving.target.page set_q here_p there a)
          (arrived_tree blocks pages area bm inodes moving on from to ends now after.tx w1 t1 s1 here_m moving.target.page set_q here_p there a)
          (arrived_stage blocks pages area bm inodes moving on from to ends now after.tx w1 t1 s1 here_m moving.target.page set_q here_p there a)
          (source_with p moving.target.page set_q) (still_p blocks pages area bm inodes moving on from to ends now after.tx w1 t1 s1 here_m moving.target.page set_q here_p there a) on.dirs.1 (last_of from) m stands_named why
          (subst (λ (h : Held). LossRefused blocks pages h (last_of from) there why)
          (ap (λ (x : Bool). if x then source_with q moving.target.page after.inode else moving.source) (Rattle.std.proofs.Common.eq-eqb p q same) ∙ ap (λ (k : ℕ). source_with k moving.target.page after.inode) (sym same) ∙ ap (source_with p moving.target.page) is_set) loss)
        where
          here_p : objects r w1 p ≡ Some (spelled r w1.page set_q)
          here_p = ap (objects r w1) same ∙ here_q

      pub stays_open : is_open why ≡ true
      stays_open = elim (eq_or_not p q) [
        | inl e ↦ open_same e
        | inr far ↦ open_other far
      ]

    same_tree : changed p (turns (without_name (last_of from)) (less_if over) now) (changed m (arrives_as (has_names moving.object.inode) q now) t1)
        ≡ departs m (has_names moving.object.inode) (place_at p (last_of from)) q now (shifts (has_names moving.object.inode) p q (gained (place_at q (last_of to)) m now t))
    same_tree = free_tree t m p q (last_of from) (last_of to) now (m_p blocks pages area bm inodes moving on from to ends) (has_names moving.object.inode)

    module _ (tx : List Edit) (leave : Leaves blocks pages (leaving_free moving after.inode) (last_of from) now after.tx tx) where
      done_by : (tree : Tree) (w : Volume) → Stage blocks v [] tx w tree → tree ≡ departs m (has_names moving.object.inode) (place_at p (last_of from)) q now (shifts (has_names moving.object.inode) p q (gained (place_at q (last_of to)) m now t))
          → TakesStep blocks pages area bm inodes from to now log_pages tx
      done_by tree w s is = takes_step blocks pages area bm inodes moving on from to ends now log_pages tx w tree s (outcome ∙ ap (λ (u : Tree). Ok (Done, u)) (sym is))

      -- ---- the blocks

      moves_q : TakesAndFrees after.tx g.taken.0 []
      moves_q = lines_on_top blocks pages moving.target.page g.mid after.tx g.taken.0 [] (taken_move blocks kinds.Dtree pages (blocks_of free) (blocks_of left) g.mid (λ first bytes. refl) g.taken) g.lines

      free_is : (b : ℕ) → count_in b (blocks_of free) ≡ count_in b g.taken.0 + count_in b (blocks_of left)
      free_is b = ap (count_in b) g.taken.1 ∙ count_append b g.taken.0 (blocks_of left)

      fair_q : IsFair after.tx v.used
      fair_q = record {
        fresh = λ b l. unused b (let f = free_is b in let k = moves_q.taken_are b in omega (arith, f, k, l));
        owned = λ b l. absurd (let k = moves_q.freed_are b in omega (arith, k, l));
        once = λ b. (let f = free_is b in let k = moves_q.taken_are b in let z = moves_q.freed_are b in let o = fresh.once b in omega (arith, f, k, z, o));
      }

      takes_are : (b : ℕ) → takes tx b ≡ count_in b g.taken.0
      takes_are = free_takes blocks pages moving (last_of from) (last_of to) now free left tx (record { after = after; gains = g; leaves = leave })

      orderly : (lost : List ℕ) → ((b : ℕ) → frees tx b ≡ frees after.tx b + count_in b lost) → ((b : ℕ) → count_in b lost ≤ 1) → ((b : ℕ) → 0 < count_in b lost → w1.used b ≡ true) → IsOrderly tx v.used
      orderly lost are once owned = record {
        fresh = λ b l. unused b (let f = free_is b in let k = takes_are b in omega (arith, f, k, l));
        taken_once = λ b. (let f = free_is b in let k = takes_are b in let o = fresh.once b in omega (arith, f, k, o));
        owned = λ b l. was_or_taken b (owned b (let a = are b in let z = moves_q.freed_are b in omega (arith, a, z, l)));
        freed_once = λ b. (let a = are b in let z = moves_q.freed_are b in let o = once b in omega (arith, a, z, o));
      }
        where
          was_or_taken : (b : ℕ) → w1.used b ≡ true → (v.used b ≡ true) ⊎ (0 < takes tx b)
          was_or_taken b h = elim (zero_or_more (count_in b g.taken.0)) [
            | inl z ↦ inl (bit_is (v.used b) (let c = counts after.tx v.used fair_q b in let k = moves_q.taken_are b in let f = moves_q.freed_are b in let e = ap bit h in omega (arith, c, k, f, e, z)))
            | inr l ↦ inr (let k = takes_are b in omega (arith, k, l))
          ]

      -- ---- one directory, or two

      from_other : p ≢ q → TakesStep blocks pages area bm inodes from to now log_pages tx × IsOrderly tx v.used
      from_other far = (
        done_by _ (left_volume blocks pages area bm inodes moving on from to ends now after.tx w1 t1 s1 here_m moving.source.page moving.source.inode here_p on.dirs.0 over
            (less_lives p moving.source.inode over (live_p blocks pages area bm inodes moving on from to ends) (two_p blocks pages area bm inodes moving on from to ends)) (less_few moving.source.inode.nlink over (few_p blocks pages area bm inodes moving on from to ends))
            (at_p blocks pages area bm inodes moving on from to ends) (last_of from) tx leaves)
            (left_stage blocks pages area bm inodes moving on from to ends now after.tx w1 t1 s1 here_m moving.source.page moving.source.inode here_p on.dirs.0 over
            (less_lives p moving.source.inode over (live_p blocks pages area bm inodes moving on from to ends) (two_p blocks pages area bm inodes moving on from to ends)) (less_few moving.source.inode.nlink over (few_p blocks pages area bm inodes moving on from to ends))
            (at_p blocks pages area bm inodes moving on from to ends) (last_of from) tx leaves)
            same_tree,
        (let f = left_frees blocks pages area bm inodes moving on from to ends now after.tx w1 t1 s1 here_m moving.source.page moving.source.inode here_p on.dirs.0 over
            (less_lives p moving.source.inode over (live_p blocks pages area bm inodes moving on from to ends) (two_p blocks pages area bm inodes moving on from to ends)) (less_few moving.source.inode.nlink over (few_p blocks pages area bm inodes moving on from to ends))
            (at_p blocks pages area bm inodes moving on from to ends) (last_of from) tx leaves in orderly f.0 f.1.frees_are f.1.once f.1.owned),
      )
        where
          apart_eq : (p == q) ≡ false
          apart_eq = Rattle.std.proofs.Common.ne_eqb p q far

          leaves : Leaves blocks pages (leaving_from moving moving.source.page moving.source.inode over) (last_of from) now after.tx tx
          leaves = subst (λ (h : Held). Leaves blocks pages (leaving_with moving h over) (last_of from) now after.tx tx)
              (ap (λ (x : Bool). if x then source_with q moving.target.page after.inode else moving.source) apart_eq) leave

          here_p : objects r w1 p ≡ Some (spelled r w1.page moving.source.inode)
          here_p = (again r w1 pages p moving.source.inode (keeps p far ∙ was_p blocks pages area bm inodes moving on from to ends)).0

      from_same : p ≡ q → TakesStep blocks pages area bm inodes from to now log_pages tx × IsOrderly tx v.used
      from_same same = (
        done_by _ (left_volume blocks pages area bm inodes moving on from to ends now after.tx w1 t1 s1 here_m moving.target.page set_q here_p on.dirs.1 over live few
            (ap (Rattle.jfs_link.specs.objects.specs.Volume.home (map extent_place inodes.extents)) same ∙ at_q blocks pages area bm inodes moving on from to ends) (last_of from) tx leaves)
            (left_stage blocks pages area bm inodes moving on from to ends now after.tx w1 t1 s1 here_m moving.target.page set_q here_p on.dirs.1 over live few
            (ap (Rattle.jfs_link.specs.objects.specs.Volume.home (map extent_place inodes.extents)) same ∙ at_q blocks pages area bm inodes moving on from to ends) (last_of from) tx leaves)
            same_tree,
        (let f = left_frees blocks pages area bm inodes moving on from to ends now after.tx w1 t1 s1 here_m moving.target.page set_q here_p on.dirs.1 over live few
            (ap (Rattle.jfs_link.specs.objects.specs.Volume.home (map extent_place inodes.extents)) same ∙ at_q blocks pages area bm inodes moving on from to ends) (last_of from) tx leaves in orderly f.0 f.1.frees_are f.1.once f.1.owned),
      )
        where
          same_eq : (p == q) ≡ true
          same_eq = Rattle.std.proofs.Common.eq-eqb p q same

          stays : over ≡ false
          stays = ap (λ (x : Bool). has_names moving.object.inode && not x) same_eq ∙ none (has_names moving.object.inode)
            where
              none : (x : Bool) → (x && false) ≡ false
              none true = refl
              none false = refl

          live : is_live p (record set_q { nlink = less_if over set_q.nlink }) ≡ true
          live = ap (λ (x : Bool). nat_lt p 4 || not (less_if x (more_if x dq.nlink) == 0)) stays ∙ ap (λ (k : ℕ). is_live k dq) same ∙ live_q blocks pages area bm inodes moving on from to ends

          few : less_if over set_q.nlink ≤ 65535
          few = less_few (more_if over dq.nlink) over few_more

          leaves : Leaves blocks pages (leaving_from moving moving.target.page set_q over) (last_of from) now after.tx tx
          leaves = subst (λ (h : Held). Leaves blocks pages (leaving_with moving h over) (last_of from) now after.tx tx)
              (ap (λ (x : Bool). if x then source_with q moving.target.page after.inode else moving.source) same_eq ∙ ap (λ (k : ℕ). source_with k moving.target.page after.inode) (sym same) ∙ ap (source_with p moving.target.page) is_set) leave

          here_p : objects r w1 p ≡ Some (spelled r w1.page set_q)
          here_p = ap (objects r w1) same ∙ here_q

      pub move_done : TakesStep blocks pages area bm inodes from to now log_pages tx × IsOrderly tx v.used
      move_done = elim (eq_or_not p q) [
        | inl e ↦ from_same e
        | inr far ↦ from_other far
      ]

pub move_law : MoveLaw
move_law blocks pages area bm inodes moving on from to now log_pages may free left fresh tx j = (move_done blocks pages area bm inodes moving on from to now log_pages may free fresh left j.after j.gains tx j.leaves).0
