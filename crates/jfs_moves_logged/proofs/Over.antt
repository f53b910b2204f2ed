-- An object takes the name of another one: what the transaction logs.
use Rattle.std.proofs.Common.{◌≡◌, ◌≢◌, ◌⊎◌, ◌<◌, ◌≤◌, ◌-◌, nat_le, if◌then◌else◌, ℕ, Bool, true, false, true≢false, List, [], ◌++◌, append_assoc, length, Option, Some, Result, Ok, refl, sym, ap, ◌∙◌, subst, inl, inr, arith}
use Rattle.std.proofs.lemmas.Bool.{cases_lt}
use Rattle.jfs_bits.specs.declared.descriptor.Moment.{Moment}
use Rattle.jfs_imap.specs.Inodes.{Inodes}
use Rattle.jfs_inode.specs.declared.fields.Dinode.{Dinode}
use Rattle.jfs_name.specs.Directory.{named}
use Rattle.jfs_name.specs.declared.name.NameEntry.{NameEntry}
use Rattle.jfs_ranges.specs.declared.edit.Edit.{Edit}
use Rattle.jfs_ranges.specs.Apply.{apply_tx}
use Rattle.jfs_ranges.specs.Laid.{put_tx}
use Rattle.jfs_tree.specs.Edit.{count_in}
use Rattle.jfs_dtree.specs.Spells.{spells_names}
use Rattle.jfs_rename.proofs.LetIn.{more_live, or_left}
use Rattle.jfs_rename.proofs.Moved.{less_lives}
use Rattle.jfs_rename.specs.rename_steps.specs.Moves.{MovesOver, leaving_over, source_after}
use Rattle.jfs_rename.specs.rename_steps.specs.Objects.{FreesIf, goes}
use Rattle.jfs_rename.specs.rename_steps.specs.declared.leaving.Leaving.{Leaving}
use Rattle.jfs_rename.specs.rename_steps.specs.declared.moving.Moving.{Moving}
use Rattle.jfs_rename.specs.unlink.proofs.Ended.{used_within}
use Rattle.jfs_rename.specs.unlink.specs.loss.specs.Inodes.{fallen, gone}
use Rattle.jfs_rename.specs.unlink.specs.loss.proofs.Freeing.{IsFreed, object_freed}
use Rattle.jfs_rename.specs.unlink.specs.loss.specs.bmap.specs.States.{Blocks}
use Rattle.jfs_rename.specs.unlink.specs.loss.specs.objects.specs.Readers.{Readers}
use Rattle.jfs_rename.specs.unlink.specs.loss.specs.objects.specs.Volume.{Volume}
use Rattle.jfs_rename.specs.unlink.specs.loss.specs.objects.specs.Objects.{Object, objects, spelled, is_live, has_names}
use Rattle.jfs_rename.specs.unlink.specs.loss.specs.objects.specs.Owners.{holds}
use Rattle.jfs_rename.specs.unlink.specs.loss.specs.objects.specs.Laws.{IsOwnedOnce}
use Rattle.jfs_rename.specs.unlink.specs.loss.specs.objects.proofs.Owned.{owned_once}
use Rattle.jfs_rename.specs.unlink.specs.loss.specs.objects.proofs.Sums.{zero_or_more}
use Rattle.jfs_rename.specs.unlink.specs.loss.specs.meaning.specs.Readers.{readers, root_of}
use Rattle.jfs_rename.specs.unlink.specs.loss.specs.steps.specs.Laws.{TakesAndFrees, IsFair}
use Rattle.jfs_rename.specs.unlink.specs.loss.specs.steps.specs.Put.{AddsInode}
use Rattle.jfs_rename.specs.unlink.specs.loss.specs.steps.proofs.After.{counts}
use Rattle.jfs_rename.specs.unlink.specs.loss.specs.steps.proofs.Puts.{put_within, put_past}
use Rattle.jfs_rename.specs.unlink.specs.loss.specs.way.specs.Volume.{volume_of}
use Rattle.jfs_rename.specs.unlink.specs.loss.specs.way.specs.declared.object.Held.{Held}
use Rattle.jfs_names_logged.proofs.After.{left_alone}
use Rattle.jfs_names_logged.proofs.Frees.{FreesTree, object_frees}
use Rattle.jfs_names_logged.specs.calls_logged.specs.Calls.{IsReady, IsLogged}
use Rattle.jfs_names_logged.specs.calls_logged.specs.Found.{IsFound, IsNamed}
use Rattle.jfs_names_logged.specs.calls_logged.specs.logged.specs.recovery.specs.records.specs.Redo.{closes_in}
use Rattle.jfs_names_logged.specs.calls_logged.specs.logged.specs.recovery.specs.kinds.specs.Owner.{owner_of, has_page}
use Rattle.jfs_names_logged.specs.calls_logged.specs.logged.specs.recovery.specs.kinds.specs.Owner.Owner.{Inodes as OfInodes, Tree as OfTree}
use Rattle.jfs_names_logged.specs.calls_logged.specs.logged.specs.recovery.specs.kinds.proofs.Logged.{logged_law}
use Rattle.jfs_names_logged.specs.calls_logged.specs.logged.specs.recovery.specs.kinds.proofs.Parts.{parts}
use Rattle.jfs_names_logged.specs.calls_logged.specs.logged.specs.recovery.specs.kinds.proofs.Single.{has_owners}
use Rattle.jfs_names_logged.specs.calls_logged.specs.logged.specs.Logged.{LeavesPage}
use Rattle.jfs_names_logged.specs.calls_logged.specs.logged.specs.Own.{LogsItsOwn, LogsPart}
use Rattle.jfs_names_logged.specs.calls_logged.specs.logged.specs.Written.{WritesTree}
use Rattle.jfs_names_logged.specs.calls_logged.specs.logged.proofs.Joined.{join_law, never}
use Rattle.jfs_names_logged.specs.calls_logged.specs.logged.proofs.Ordered.{order_law}
use Rattle.jfs_names_logged.specs.calls_logged.specs.logged.proofs.Pages.{closes_onto, leaves_onto}
use Rattle.jfs_moves_logged.proofs.Apart.{Ground, is_living, root_size, two_links}
use Rattle.jfs_moves_logged.proofs.Come.{Come, come_logged}
use Rattle.jfs_moves_logged.proofs.Dropped.{dropped_volume, dropped_come, dropped_logged, dropped_none, dropped_other}
use Rattle.jfs_moves_logged.proofs.InPlace.{KeepsTrees, in_place_volume, in_place_come, in_place_logged, in_place_other}
use Rattle.jfs_moves_logged.proofs.Leaving.{counted_keeps, left_edits, left_is, left_volume, left_come, left_logged, left_none}
use Rattle.jfs_moves_logged.proofs.Led.{led_inode, led_tree, led_lines, led_is, led_volume, led_writes, led_logged, led_come, led_here, led_same, led_other}
use Rattle.jfs_moves_logged.proofs.Stands.{StandsThen, stands_then}

-- what stands at the new name
pub record Standing (blocks : ℕ) (pages : ℕ → List ℕ) (area : ℕ → ℕ) (bm : Blocks) (inodes : Inodes) (moving : Moving) (there : Held) (new : List ℕ) : Type 0 where
  pub found : IsFound blocks pages area bm inodes there
  pub names : IsNamed blocks pages area bm inodes moving.target there new
  pub other_object : there.number ≢ moving.object.number
  pub other_target : there.number ≢ moving.target.number
  pub other_source : moving.source.number ≢ there.number
  pub bare : has_names there.inode ≡ true → spells_names blocks pages (root_of there.inode) ≡ Ok []

module _ (blocks : ℕ) (pages : ℕ → List ℕ) (area : ℕ → ℕ) (bm : Blocks) (inodes : Inodes) (ready : IsReady blocks pages area bm inodes) (many : length bm.states ≡ blocks) (moving : Moving) (g : Ground blocks pages area bm inodes ready moving)
    (there : Held) (old new : List ℕ) (s : Standing blocks pages area bm inodes moving there new) (now : Moment) (tx : List Edit) (j : MovesOver blocks pages moving there old new now tx) where
  abbrev r : Readers
  r = readers blocks

  abbrev v : Volume
  v = volume_of pages area bm inodes

  abbrev k : ℕ
  k = there.number

  abbrev q : ℕ
  q = moving.target.number

  abbrev dk : Dinode
  dk = there.inode

  abbrev first : List Edit
  first = j.freed

  within : (b : ℕ) → v.used b ≡ true → b < blocks
  within = used_within blocks pages area bm inodes ready.consistent many

  once : IsOwnedOnce r v
  once = owned_once r v ready.consistent.sound.agrees

  -- ---- what the object has is freed, where it goes

  pub record Owes (x : Bool) : Type 0 where
    pub owed : List ℕ
    pub moves : TakesAndFrees first [] owed
    pub leaves : (b : ℕ) → LeavesPage b first
    pub among : (b : ℕ) → count_in b owed ≤ holds r (objects r v k) b
    pub all : x ≡ true → (b : ℕ) → count_in b owed ≡ holds r (objects r v k) b
    pub tree : x ≡ true → FreesTree (has_page r (objects r v k)) first
    pub none : x ≡ false → owed ≡ []
    pub nothing : x ≡ false → first ≡ []

  owes : (x : Bool) → FreesIf x blocks pages dk first → Owes x
  owes true frees = record {
    owed = freed.freed;
    moves = freed.moves;
    leaves = tree.leaves;
    among = λ b. (let a = freed.all b in omega (arith, a));
    all = λ e. freed.all;
    tree = λ e. tree;
    none = λ e. absurd (true≢false e);
    nothing = λ e. absurd (true≢false e);
  }
    where
      freed : IsFreed blocks pages (holds r (objects r v k)) first
      freed = object_freed blocks v ready.consistent.sound within ready.are_pages.sizes k dk s.found.was (root_size blocks pages area bm inodes ready there s.found) s.bare first frees

      tree : FreesTree (has_page r (objects r v k)) first
      tree = object_frees blocks v ready.consistent.sound ready.are_pages.sizes k dk s.found.was (root_size blocks pages area bm inodes ready there s.found) s.bare first frees
  owes false frees = record {
    owed = [];
    moves = subst (λ (all : List Edit). TakesAndFrees all [] []) (sym frees) (record { taken_are = λ b. refl; freed_are = λ b. refl; extents_stay = λ extents. refl });
    leaves = λ b. subst (LeavesPage b) (sym frees) (λ a size. refl);
    among = λ b. omega arith;
    all = λ e. absurd (true≢false (sym e));
    tree = λ e. absurd (true≢false (sym e));
    none = λ e. refl;
    nothing = λ e. frees;
  }

  pub debt : Owes (goes dk)
  debt = owes (goes dk) j.frees

  abbrev owed : List ℕ
  owed = debt.owed

  fair : IsFair first v.used
  fair = record {
    fresh = λ b l. absurd (let t = debt.moves.taken_are b in omega (arith, t, l));
    owned = λ b l. once.in_use k b (let f = debt.moves.freed_are b in let a = debt.among b in omega (arith, f, a, l));
    once = λ b. (let t = debt.moves.taken_are b in let f = debt.moves.freed_are b in let a = debt.among b in let o = once.once k b in omega (arith, t, f, a, o));
  }

  -- edits that free what it has leave each page
  first_leaves : (b : ℕ) → v.page b ≡ put_tx blocks first v.page b
  first_leaves b = elim (cases_lt b blocks) [
    | inl l ↦ sym (put_within blocks first pages b l ∙ left_alone blocks pages ready.are_pages first b l (debt.leaves b))
    | inr l ↦ sym (put_past blocks first pages b l)
  ]

  pub c0 : Come blocks v owed first v
  c0 = record {
    sound = ready.consistent.sound;
    page = first_leaves;
    extents = refl;
    area = refl;
    used = λ b. (let c = counts first v.used fair b in let t = debt.moves.taken_are b in let f = debt.moves.freed_are b in omega (arith, c, t, f));
    within = within;
    stay = debt.moves.extents_stay v.extents;
  }

  -- ---- the target leads the name to the object

  pub named_k : (es : List NameEntry) → spells_names blocks pages (root_of moving.target.inode) ≡ Ok es → named new es ≡ Some k
  named_k es h = ap (named new) (same_list (spells_names blocks pages (root_of moving.target.inode)) h s.names.spelled_names) ∙ s.names.names_it
    where
      same_list : {E F : Type 0} {xs ys : List E} (x : Result (List E) F) → x ≡ Ok xs → x ≡ Ok ys → xs ≡ ys
      same_list x h g = cc (h, g)

  pub live_q : is_live q moving.target.inode ≡ true
  live_q = is_living blocks pages area bm inodes ready moving.target g.target

  abbrev tree : List Edit
  tree = led_tree blocks v ready.are_pages owed first c0 debt.leaves moving.target g.target.home_is g.target.was g.target_dir live_q new moving.object.number k s.other_object named_k now j.led j.target j.leads

  abbrev lines : List Edit
  lines = led_lines blocks v ready.are_pages owed first c0 debt.leaves moving.target g.target.home_is g.target.was g.target_dir live_q new moving.object.number k s.other_object named_k now j.led j.target j.leads

  abbrev own : List Edit
  own = tree ++ lines

  abbrev set_q : Dinode
  set_q = led_inode blocks v ready.are_pages owed first c0 debt.leaves moving.target g.target.home_is g.target.was g.target_dir live_q new moving.object.number k s.other_object named_k now j.led j.target j.leads

  abbrev w1 : Volume
  w1 = led_volume blocks v ready.are_pages owed first c0 debt.leaves moving.target g.target.home_is g.target.was g.target_dir live_q new moving.object.number k s.other_object named_k now j.led j.target j.leads

  c1 : Come blocks v owed j.led w1
  c1 = led_come blocks v ready.are_pages owed first c0 debt.leaves moving.target g.target.home_is g.target.was g.target_dir live_q new moving.object.number k s.other_object named_k now j.led j.target j.leads

  led_by : j.led ≡ first ++ own
  led_by = led_is blocks v ready.are_pages owed first c0 debt.leaves moving.target g.target.home_is g.target.was g.target_dir live_q new moving.object.number k s.other_object named_k now j.led j.target j.leads

  writes : WritesTree r v w1 q tree lines
  writes = led_writes blocks v ready.are_pages owed first c0 debt.leaves moving.target g.target.home_is g.target.was g.target_dir live_q new moving.object.number k s.other_object named_k now j.led j.target j.leads

  own_logged : LogsPart r v w1 own
  own_logged = led_logged blocks v ready.are_pages owed first c0 debt.leaves moving.target g.target.home_is g.target.was g.target_dir live_q new moving.object.number k s.other_object named_k now j.led j.target j.leads

  here_q : objects r w1 q ≡ Some (spelled r w1.page set_q)
  here_q = led_here blocks v ready.are_pages owed first c0 debt.leaves moving.target g.target.home_is g.target.was g.target_dir live_q new moving.object.number k s.other_object named_k now j.led j.target j.leads

  same_1 : (n : ℕ) → n ≢ q → objects r w1 n ≡ objects r v n
  same_1 = led_same blocks v ready.are_pages owed first c0 debt.leaves moving.target g.target.home_is g.target.was g.target_dir live_q new moving.object.number k s.other_object named_k now j.led j.target j.leads

  other_1 : (n : ℕ) (e : Dinode) → n ≢ q → objects r v n ≡ Some (spelled r v.page e) → objects r w1 n ≡ Some (spelled r w1.page e)
  other_1 = led_other blocks v ready.are_pages owed first c0 debt.leaves moving.target g.target.home_is g.target.was g.target_dir live_q new moving.object.number k s.other_object named_k now j.led j.target j.leads

  here_k : objects r w1 k ≡ Some (spelled r w1.page dk)
  here_k = other_1 k dk s.other_target s.found.was

  abbrev putl : List Edit
  putl = j.lines.0

  -- ---- the edits of the target leave the tree pages of what goes

  module _ (frees_tree : FreesTree (has_page r (objects r v k)) first) where
    apart : (p : ℕ) → closes_in p first ≡ true → (closes_in p own ≡ false) × LeavesPage p own
    apart p some = by (zero_or_more (has_page r (objects r v k) p))
      where
        no : true ≡ false → ⊥
        no h = cc (h)

        ours : 0 < has_page r (objects r v k) p → (closes_in p own ≡ false) × LeavesPage p own
        ours l = (
          closes_onto p tree lines (writes.tells.open_are p not_gone) (writes.runs.closes_none p),
          leaves_onto p tree lines (writes.tells.others p (writes.others p none_then not_gone)) (writes.runs.others p not_page),
        )
          where
            held : 0 < holds r (objects r v k) p
            held = let a = parts r (objects r v k) p in omega (arith, a, l)

            is_used : v.used p ≡ true
            is_used = once.in_use k p held

            not_q : holds r (objects r v q) p ≡ 0
            not_q = once.alone k q p (λ e. s.other_target (sym e)) held

            not_gone : count_in p writes.gone ≡ 0
            not_gone = elim (zero_or_more (count_in p writes.gone)) [ inl z ↦ z | inr m ↦ absurd (no (sym is_used ∙ (writes.gone_are p m).0)) ]

            none_taken : count_in p writes.taken ≡ 0
            none_taken = elim (zero_or_more (count_in p writes.taken)) [ inl z ↦ z | inr m ↦ absurd (no (sym is_used ∙ writes.sets.takes.fresh p m)) ]

            none_then : has_page r (Some (spelled r writes.mid writes.set)) p ≡ 0
            none_then = let b = writes.sets.blocks p in let a = parts r (Some (spelled r writes.mid writes.set)) p in let t = none_taken in omega (arith, b, a, t, not_q)

            different : Some (OfTree k) ≡ Some OfInodes → ⊥
            different h = cc (h)

            not_page : p ≢ writes.page
            not_page e = different (sym ((has_owners r v ready.consistent.sound.agrees).alone p (OfTree k) l) ∙ ap (owner_of r v) e ∙ (logged_law.reads r v ready.consistent.sound).inodes q writes.page writes.at)

        by : (has_page r (objects r v k) p ≡ 0) ⊎ (0 < has_page r (objects r v k) p) → (closes_in p own ≡ false) × LeavesPage p own
        by (inl z) = absurd (no (sym some ∙ frees_tree.stay p z))
        by (inr l) = ours l

  -- ---- the other object loses it

  pub record Displaced : Type 0 where
    pub volume : Volume
    pub come : Come blocks v [] j.put volume
    pub other : (n : ℕ) (e : Dinode) → n ≢ k → objects r w1 n ≡ Some (spelled r w1.page e) → objects r volume n ≡ Some (spelled r volume.page e)
    pub none : (b : ℕ) → volume.used b ≡ true → w1.used b ≡ true
    pub edits : List Edit
    pub logged : LogsPart r w1 volume edits
    pub in_order : (w : Volume) (rest : List Edit) → ((p : ℕ) → v.used p ≡ true → w.used p ≡ true → w.page p ≡ apply_tx p (first ++ (own ++ (putl ++ rest))) (pages p)) → LogsPart r v w (own ++ (edits ++ rest)) → LogsPart r v w (first ++ (own ++ (putl ++ rest)))

  displaces : (x : Bool) → goes dk ≡ x → Displaced
  displaces true e = record {
    volume = dropped_volume blocks v ready.are_pages owed j.led w1 c1 k there.page dk first j.put s.found.home_is s.names.may.0 all frees_now puts j.lines;
    come = dropped_come blocks v ready.are_pages owed j.led w1 c1 k there.page dk first j.put s.found.home_is s.names.may.0 all frees_now puts j.lines;
    other = dropped_other blocks v ready.are_pages owed j.led w1 c1 k there.page dk first j.put s.found.home_is s.names.may.0 all frees_now puts j.lines;
    none = dropped_none blocks v ready.are_pages owed j.led w1 c1 k there.page dk first j.put s.found.home_is s.names.may.0 all frees_now puts j.lines;
    edits = first ++ putl;
    logged = dropped_logged blocks v ready.are_pages owed j.led w1 c1 k there.page dk first j.put s.found.home_is s.names.may.0 all frees_now puts j.lines;
    in_order = λ w rest pages_are logs. order_law r v w own first (putl ++ rest) pages_are debt.leaves (apart (debt.tree e)) (subst (λ (x : List Edit). LogsPart r v w (own ++ x)) (append_assoc first putl rest) logs);
  }
    where
      all : (b : ℕ) → count_in b owed ≡ holds r (objects r w1 k) b
      all b = debt.all e b ∙ ap (λ (o : Option Object). holds r o b) (sym (same_1 k s.other_target))

      frees_now : FreesTree (has_page r (objects r w1 k)) first
      frees_now = subst (λ (o : Option Object). FreesTree (has_page r o) first) (sym (same_1 k s.other_target)) (debt.tree e)

      puts : AddsInode blocks pages there.page k (gone dk) j.led j.put
      puts = subst (λ (x : Bool). AddsInode blocks pages there.page k (if x then gone dk else fallen dk now) j.led j.put) e j.puts
  displaces false e = record {
    volume = in_place_volume blocks v ready.are_pages [] j.led w1 c_none k there.page dk (fallen dk now) j.put s.found.home_is here_k keeps puts j.lines;
    come = in_place_come blocks v ready.are_pages [] j.led w1 c_none k there.page dk (fallen dk now) j.put s.found.home_is here_k keeps puts j.lines;
    other = in_place_other blocks v ready.are_pages [] j.led w1 c_none k there.page dk (fallen dk now) j.put s.found.home_is here_k keeps puts j.lines;
    none = λ b h. h;
    edits = putl;
    logged = in_place_logged blocks v ready.are_pages [] j.led w1 c_none k there.page dk (fallen dk now) j.put s.found.home_is here_k keeps puts j.lines;
    in_order = λ w rest pages_are logs. subst (λ (x : List Edit). LogsPart r v w (x ++ (own ++ (putl ++ rest)))) (sym (debt.nothing e)) logs;
  }
    where
      c_none : Come blocks v [] j.led w1
      c_none = subst (λ (o : List ℕ). Come blocks v o j.led w1) (debt.none e) c1

      keeps : KeepsTrees blocks k dk (fallen dk now)
      keeps = counted_keeps blocks k dk (dk.nlink - 1) now (more_live k dk.nlink (or_left (has_names dk) (nat_le dk.nlink 1) e))

      puts : AddsInode blocks pages there.page k (fallen dk now) j.led j.put
      puts = subst (λ (x : Bool). AddsInode blocks pages there.page k (if x then gone dk else fallen dk now) j.led j.put) e j.puts

  d : Displaced
  d = displaces (goes dk) refl

  -- ---- the object leaves its old name

  abbrev less : Bool
  less = has_names moving.object.inode

  here_m : objects r d.volume moving.object.number ≡ Some (spelled r d.volume.page moving.object.inode)
  here_m = d.other moving.object.number moving.object.inode (λ h. s.other_object (sym h)) (other_1 moving.object.number moving.object.inode g.object_target g.object.was)

  stands : StandsThen blocks v d.volume moving.object.number less (source_after moving j.target)
  stands = stands_then blocks v d.volume moving.object.number less moving j.target set_q j.leads.inode_is
      (λ e. record {
        home_is = g.target.home_is;
        here = d.other q set_q (λ h. s.other_target (sym h)) here_q;
        dir = g.target_dir;
        live = less_lives q set_q less live_q (two_links blocks pages area bm inodes ready moving.target g.target g.target_dir);
        apart = λ h. g.object_target (sym h);
      })
      (λ far. record {
        home_is = g.source.home_is;
        here = d.other moving.source.number moving.source.inode s.other_source (other_1 moving.source.number moving.source.inode far g.source.was);
        dir = g.source_dir;
        live = less_lives moving.source.number moving.source.inode less (is_living blocks pages area bm inodes ready moving.source g.source) (two_links blocks pages area bm inodes ready moving.source g.source g.source_dir);
        apart = λ h. g.object_source (sym h);
      })

  abbrev leaving : Leaving
  leaving = leaving_over moving j.target

  live_m : is_live moving.object.number moving.object.inode ≡ true
  live_m = is_living blocks pages area bm inodes ready moving.object g.object

  abbrev rest : List Edit
  rest = left_edits blocks v ready.are_pages j.put d.volume d.come leaving old now tx j.leaves g.object.home_is here_m live_m stands.home_is stands.here stands.dir stands.live stands.apart

  abbrev w : Volume
  w = left_volume blocks v ready.are_pages j.put d.volume d.come leaving old now tx j.leaves g.object.home_is here_m live_m stands.home_is stands.here stands.dir stands.live stands.apart

  c : Come blocks v [] tx w
  c = left_come blocks v ready.are_pages j.put d.volume d.come leaving old now tx j.leaves g.object.home_is here_m live_m stands.home_is stands.here stands.dir stands.live stands.apart

  rest_logged : LogsPart r d.volume w rest
  rest_logged = left_logged blocks v ready.are_pages j.put d.volume d.come leaving old now tx j.leaves g.object.home_is here_m live_m stands.home_is stands.here stands.dir stands.live stands.apart

  none_comes : (b : ℕ) → w.used b ≡ true → d.volume.used b ≡ true
  none_comes b h = left_none blocks v ready.are_pages j.put d.volume d.come leaving old now tx j.leaves g.object.home_is here_m live_m stands.home_is stands.here stands.dir stands.live stands.apart b h

  tx_is : tx ≡ first ++ (own ++ (putl ++ rest))
  tx_is = left_is blocks v ready.are_pages j.put d.volume d.come leaving old now tx j.leaves g.object.home_is here_m live_m stands.home_is stands.here stands.dir stands.live stands.apart
      ∙ ap (λ (x : List Edit). x ++ rest) (j.lines.1 ∙ ap (λ (x : List Edit). x ++ putl) led_by ∙ append_assoc first own putl) ∙ append_assoc first (own ++ putl) rest ∙ ap (λ (x : List Edit). first ++ x) (append_assoc own putl rest)

  -- in turn
  both : LogsPart r v d.volume (own ++ d.edits)
  both = join_law.parts r v w1 d.volume own d.edits own_logged d.logged (λ b was now. was) (λ b free there. never (v.used b) there free)

  in_turn : LogsPart r v w (own ++ (d.edits ++ rest))
  in_turn = subst (LogsPart r v w) (append_assoc own d.edits rest) (join_law.parts r v d.volume w (own ++ d.edits) rest both rest_logged (λ b was now. none_comes b now) (λ b free there. never (v.used b) (d.none b there) free))

  pub over_logged : IsLogged blocks pages area bm inodes tx
  over_logged = come_logged blocks v tx w c (subst (LogsItsOwn r v w) (sym tx_is) (d.in_order w rest (λ p was now. c.page p ∙ put_within blocks tx pages p (within p was) ∙ ap (λ (e : List Edit). apply_tx p e (pages p)) tx_is) in_turn).own)
