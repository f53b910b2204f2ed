-- A directory leads a name to another inode, on top of edits that leave all pages.
use Rattle.std.proofs.Common.{◌≡◌, ◌≢◌, ◌⊎◌, ◌<◌, ◌+◌, if◌then◌else◌, ℕ, Bool, true, false, List, [], ◌∷◌, ◌++◌, append_assoc, is_some, Some, Result, Ok, refl, sym, ap, ◌∙◌, subst, inl, inr, arith, eq-eqb}
use Rattle.std.proofs.lemmas.List.{append-nil}
use Rattle.jfs_bits.proofs.Parts.{part-held}
use Rattle.jfs_bits.specs.declared.descriptor.Moment.{Moment}
use Rattle.jfs_bits.specs.declared.rule.PageKind.TheVariants as kinds
use Rattle.jfs_inode.specs.declared.fields.Dinode.{Dinode}
use Rattle.jfs_name.specs.Directory.{named, with_inode}
use Rattle.jfs_name.specs.declared.name.NameEntry.{NameEntry}
use Rattle.jfs_ranges.specs.declared.edit.Edit.{Edit}
use Rattle.jfs_ranges.specs.Apply.{apply_tx}
use Rattle.jfs_ranges.specs.Laid.{put_tx}
use Rattle.jfs_ranges.proofs.OnTop.{applied_onto}
use Rattle.jfs_tree.specs.Edit.{count_in}
use Rattle.jfs_tree.specs.Form.{AllBelow}
use Rattle.jfs_tree.specs.Fresh.{after_tx}
use Rattle.jfs_tree.specs.Tell.{is_in}
use Rattle.jfs_dtree.specs.Replacing.{LeadsElsewhere, ChangesOnePlace}
use Rattle.jfs_dtree.specs.Spells.{spells_names, owned_pages}
use Rattle.jfs_rename.specs.rename_steps.specs.Entries.{LeadsEntry, turned}
use Rattle.jfs_rename.specs.rename_steps.proofs.Stage.{lines_used, lines_extents, used_more, extents_more}
use Rattle.jfs_rename.specs.unlink.specs.loss.specs.lead_steps.proofs.Again.{again, stays_in_use}
use Rattle.jfs_rename.specs.unlink.specs.loss.specs.lead_steps.proofs.Turned.{names_listed}
use Rattle.jfs_rename.specs.unlink.specs.loss.specs.objects.specs.Readers.{Readers}
use Rattle.jfs_rename.specs.unlink.specs.loss.specs.objects.specs.Volume.{Volume, home}
use Rattle.jfs_rename.specs.unlink.specs.loss.specs.objects.specs.Objects.{Object, objects, spelled, is_live, has_names, listed}
use Rattle.jfs_rename.specs.unlink.specs.loss.specs.objects.specs.Owners.{bit}
use Rattle.jfs_rename.specs.unlink.specs.loss.specs.objects.specs.Laws.{ChangesOne}
use Rattle.jfs_rename.specs.unlink.specs.loss.specs.objects.specs.Changes.{PutsInode}
use Rattle.jfs_rename.specs.unlink.specs.loss.specs.objects.proofs.Sums.{put_here, put_other, eq_or_not}
use Rattle.jfs_rename.specs.unlink.specs.loss.specs.objects.proofs.Framed.{same_spelled}
use Rattle.jfs_rename.specs.unlink.specs.loss.specs.meaning.specs.Readers.{readers, root_of}
use Rattle.jfs_rename.specs.unlink.specs.loss.specs.steps.specs.Laws.{LeavesSets}
use Rattle.jfs_rename.specs.unlink.specs.loss.specs.steps.proofs.After.{runs_leave}
use Rattle.jfs_rename.specs.unlink.specs.loss.specs.steps.proofs.Puts.{put_within, put_past}
use Rattle.jfs_rename.specs.unlink.specs.loss.specs.way.specs.declared.object.Held.{Held}
use Rattle.jfs_names_logged.proofs.After.{put_after, left_alone}
use Rattle.jfs_names_logged.proofs.Directory.{TurnsDirectory, turn_writes, turn_changes}
use Rattle.jfs_names_logged.specs.calls_logged.specs.Calls.{ArePages}
use Rattle.jfs_names_logged.specs.calls_logged.specs.logged.specs.recovery.specs.kinds.specs.Owner.{owner_of}
use Rattle.jfs_names_logged.specs.calls_logged.specs.logged.specs.recovery.specs.kinds.specs.Owner.Owner.{Tree}
use Rattle.jfs_names_logged.specs.calls_logged.specs.logged.specs.recovery.specs.kinds.proofs.Logged.{logged_law}
use Rattle.jfs_names_logged.specs.calls_logged.specs.logged.specs.recovery.specs.kinds.proofs.Single.{has_owners}
use Rattle.jfs_names_logged.specs.calls_logged.specs.logged.specs.Logged.{LeavesPage}
use Rattle.jfs_names_logged.specs.calls_logged.specs.logged.specs.Own.{LogsPart}
use Rattle.jfs_names_logged.specs.calls_logged.specs.logged.specs.Stages.{ArePageRuns}
use Rattle.jfs_names_logged.specs.calls_logged.specs.logged.specs.Trees.{TellsPages}
use Rattle.jfs_names_logged.specs.calls_logged.specs.logged.specs.Written.{WritesTree}
use Rattle.jfs_names_logged.specs.calls_logged.specs.logged.proofs.Staged.{runs_law}
use Rattle.jfs_names_logged.specs.calls_logged.specs.logged.proofs.Written.{trees_law}
use Rattle.jfs_moves_logged.proofs.Come.{Come, leads_to}
use Rattle.jfs_moves_logged.proofs.LedNames.{names_it_now}

module _ (blocks : ℕ) (v : Volume) (are : ArePages blocks v.page) (owed : List ℕ) (first : List Edit) (c : Come blocks v owed first v) (leaves : (q : ℕ) → LeavesPage q first) (dir : Held) (at : home v.extents dir.number ≡ Some dir.page)
    (was : objects (readers blocks) v dir.number ≡ Some (spelled (readers blocks) v.page dir.inode)) (is_dir : has_names dir.inode ≡ true) (live : is_live dir.number dir.inode ≡ true) (name : List ℕ) (m k : ℕ) (other : k ≢ m)
    (named_k : (es : List NameEntry) → spells_names blocks v.page (root_of dir.inode) ≡ Ok es → named name es ≡ Some k) (now : Moment) (led : List Edit) (target : Dinode) (x : LeadsEntry blocks v.page dir name m now first led target) where
  abbrev r : Readers
  r = readers blocks

  abbrev n : ℕ
  n = dir.number

  abbrev d : Dinode
  d = dir.inode

  abbrev pub led_inode : Dinode
  led_inode = turned dir.inode x.root dir.inode.nblocks dir.inode.nlink now

  -- ---- its names, and its pages

  abbrev es : List NameEntry
  es = (c.sound.whole n (spelled r v.page d) was).names

  es_are : spells_names blocks v.page (root_of d) ≡ Ok es
  es_are = sym (names_listed blocks v.page d is_dir) ∙ (c.sound.whole n (spelled r v.page d) was).names_are

  abbrev later : ℕ → List ℕ
  later = after_tx v.page x.mid

  else_where : LeadsElsewhere blocks name m es v.page later (root_of d) x.root
  else_where = (x.replaces es es_are).1 v.page (leads_to blocks v are owed first v c)

  -- the names are others
  not_same : with_inode name m es ≢ es
  not_same h = other (one (sym (named_k es es_are) ∙ ap (named name) (sym h) ∙ names_it_now name m k es (named_k es es_are)))
    where
      one : Some k ≡ Some m → k ≡ m
      one h = cc (h)

  -- ---- the edits of its tree

  -- a page that changes has other bytes then
  module _ (root_stays : x.root ≡ root_of d) (page : ℕ) (tree : List Edit) (is : x.mid ≡ first ++ tree) (runs : ArePageRuns page tree) where
    differs : later page ≢ v.page page
    differs h = not_same (same_list (spells_names blocks v.page (root_of d)) now_is es_are)
      where
        same_list : {E F : Type 0} {xs ys : List E} (y : Result (List E) F) → y ≡ Ok xs → y ≡ Ok ys → xs ≡ ys
        same_list y h g = cc (h, g)

        on_page : (q : ℕ) → q < blocks → later q ≡ apply_tx q tree (v.page q)
        on_page q l = ap (λ (all : List Edit). apply_tx q all (v.page q)) is ∙ applied_onto q first tree (v.page q) ∙ ap (apply_tx q tree) (left_alone blocks v.page are first q l (leaves q))

        stays : (q : ℕ) → q < blocks → later q ≡ v.page q
        stays q l = elim (eq_or_not q page) [
          | inl e ↦ ap later e ∙ h ∙ ap v.page (sym e)
          | inr apart ↦ on_page q l ∙ left_alone blocks v.page are tree q l (runs.others q apart)
        ]

        -- so does what the directory spells, whose pages lie within the file system part
        same : spelled r later d ≡ spelled r v.page d
        same = same_spelled r v.page later d (λ b some. stays b (c.within b (owned_is_used b ((logged_law.reads r v c.sound).trees n b (spelled r v.page d) was some))))
          where
            owned_is_used : (b : ℕ) → owner_of r v b ≡ Some (Tree n) → v.used b ≡ true
            owned_is_used b e = (has_owners r v c.sound.agrees).used b ∙ ap is_some e

        now_is : spells_names blocks v.page (root_of d) ≡ Ok (with_inode name m es)
        now_is = sym (names_listed blocks v.page d is_dir) ∙ sym (ap (λ (o : Object). listed r.names_order o.names) same) ∙ names_listed blocks later d is_dir ∙ sym (ap (spells_names blocks later) root_stays) ∙ else_where.spelled

    one_page : TellsPages [] [] (page ∷ []) v.page later tree
    one_page = record {
      freed_are = λ q some. absurd (omega (arith, some));
      open_are = λ q none. runs.closes_none q;
      others = λ q h. runs.others q (apart q h);
      whole = λ q some took. absurd (cc (took));
    }
      where
        apart : (q : ℕ) → (count_in q (page ∷ []) ≡ 0) ⊎ ((is_in q [] ≡ false) × (later q ≡ v.page q)) → q ≢ page
        apart q (inl z) e = absurd (let o = ap {B = ℕ} (λ (b : Bool). if b then 1 else 0) (eq-eqb page q (sym e)) in omega (arith, z, o))
        apart q (inr h) e = differs (ap later (sym e) ∙ h.1 ∙ ap v.page e)

  -- those of one page, or none
  pub record Told : Type 0 where
    pub tree : List Edit
    pub is : x.mid ≡ first ++ tree
    pub sets : LeavesSets tree
    pub changed : List ℕ
    pub tells : TellsPages [] [] changed v.page later tree
    pub within : AllBelow blocks changed

  pub told : Told
  told = by x.edits
    where
      by : ChangesOnePlace blocks v.page (root_of d) x.root first x.mid → Told
      by (inl (change, same)) = record {
        tree = [];
        is = same ∙ sym (append-nil first);
        sets = tt;
        changed = [];
        tells = record {
          freed_are = λ q some. absurd (omega (arith, some));
          open_are = λ q none. refl;
          others = λ q h a s. refl;
          whole = λ q some. absurd (omega (arith, some));
        };
        within = tt;
      }
      by (inr (stays, change)) = record {
        tree = change.told.0;
        is = change.told.1;
        sets = runs_leave change.page kinds.Dtree (v.page change.page) change.bytes 0 change.told.0 change.told.2;
        changed = change.page ∷ [];
        tells = one_page stays change.page change.told.0 change.told.1 (runs_law change.page kinds.Dtree (v.page change.page) change.bytes 0 change.told.0 change.told.2);
        within = (change.within, tt);
      }

  abbrev pub led_tree : List Edit
  led_tree = told.tree

  -- and those of its inode
  abbrev pub led_lines : List Edit
  led_lines = x.lines.0

  pub led_is : led ≡ first ++ (led_tree ++ led_lines)
  led_is = x.lines.1 ∙ ap (λ (all : List Edit). all ++ led_lines) told.is ∙ append_assoc first led_tree led_lines

  -- ---- the volume then

  abbrev pub led_volume : Volume
  led_volume = record v { page = put_tx blocks led v.page }

  root_is : root_of led_inode ≡ x.root
  root_is = part-held 96 288 x.root d.rest x.width (let s = x.size in omega (arith, s))

  puts : PutsInode (put_tx blocks x.mid v.page) (put_tx blocks led v.page) v.extents n led_inode
  puts = subst (λ (e : Dinode). PutsInode (put_tx blocks x.mid v.page) (put_tx blocks led v.page) v.extents n e) x.inode_is (x.puts v.extents at)

  turns : TurnsDirectory blocks v led_volume n led_tree led_lines
  turns = record {
    page = dir.page;
    old = d;
    set = led_inode;
    at = at;
    was = was;
    dir = is_dir;
    dir_set = is_dir;
    acl = refl;
    ea = refl;
    live = live;
    names = es;
    names_then = with_inode name m es;
    spelled_names = es_are;
    later = later;
    mid = put_tx blocks x.mid v.page;
    inside = λ b l. put_within blocks x.mid v.page b l;
    outside = λ b l. put_past blocks x.mid v.page b l;
    turned = ap (spells_names blocks later) root_is ∙ else_where.spelled;
    taken = [];
    freed = [];
    owned = λ b. (let o = else_where.owned b in let e = ap (λ (y : List ℕ). owned_pages blocks later y b) root_is in omega (arith, o, e));
    below = λ b l. absurd (omega (arith, l));
    fresh = λ b l. absurd (omega (arith, l));
    apart = λ b l. refl;
    keeps = λ b l z t. else_where.keeps b l z;
    puts = puts;
    used = λ b. refl;
    extents = refl;
    area = refl;
    in_use = stays_in_use r v n (spelled r v.page d) c.sound was;
    pages = λ q was now. ap (λ (all : List Edit). put_tx blocks all v.page q) led_is ∙ put_after blocks v.page are first (led_tree ++ led_lines) q (c.within q was) (leaves q);
    runs = runs_law dir.page kinds.Inode (put_tx blocks x.mid v.page dir.page) (put_tx blocks led v.page dir.page) 0 led_lines x.lines.2;
    told = [];
    gone = [];
    changed = told.changed;
    new = later;
    tells = told.tells;
    within = told.within;
    new_is = λ q l. refl;
    gone_same = λ q. refl;
    comes = λ q l. absurd (omega (arith, l));
    told_alone = λ q z. refl;
  }

  pub led_writes : WritesTree r v led_volume n led_tree led_lines
  led_writes = turn_writes blocks v led_volume n led_tree led_lines c.sound c.within turns

  pub led_logged : LogsPart r v led_volume (led_tree ++ led_lines)
  led_logged = trees_law.writes r v led_volume n led_tree led_lines c.sound led_writes

  one : ChangesOne r v led_volume n (Some (spelled r (put_tx blocks x.mid v.page) led_inode))
  unfolding turns
  one = turn_changes blocks v led_volume n led_tree led_lines c.sound c.within turns

  pub led_come : Come blocks v owed led led_volume
  led_come = record {
    sound = one.sound;
    page = λ b. refl;
    extents = refl;
    area = refl;
    used = λ b. c.used b ∙ sym (ap (λ (u : ℕ → Bool). bit (u b) + count_in b owed) (lines_used blocks v.page dir.page x.mid led v.used x.lines ∙ used_more first led_tree x.mid v.used told.is told.sets));
    within = c.within;
    stay = lines_extents blocks v.page dir.page x.mid led v.extents x.lines ∙ extents_more first led_tree x.mid v.extents told.is told.sets ∙ c.stay;
  }

  pub led_here : objects r led_volume n ≡ Some (spelled r led_volume.page led_inode)
  led_here = (again r led_volume (put_tx blocks x.mid v.page) n led_inode (one.objects_are n ∙ put_here n (Some (spelled r (put_tx blocks x.mid v.page) led_inode)) (objects r v))).0

  pub led_same : (j : ℕ) → j ≢ n → objects r led_volume j ≡ objects r v j
  led_same j apart = one.objects_are j ∙ put_other n (Some (spelled r (put_tx blocks x.mid v.page) led_inode)) (objects r v) j apart

  pub led_other : (j : ℕ) (e : Dinode) → j ≢ n → objects r v j ≡ Some (spelled r v.page e) → objects r led_volume j ≡ Some (spelled r led_volume.page e)
  led_other j e apart had = (again r led_volume v.page j e (led_same j apart ∙ had)).0
