-- A directory loses a name, on top of part of a transaction.
use Rattle.std.proofs.Common.{◌≡◌, ◌<◌, ◌≤◌, ◌+◌, ◌-◌, ℕ, Bool, true, List, [], ◌∷◌, ◌++◌, append_assoc, length, Option, Some, Ok, refl, sym, ap, ◌∙◌, subst, arith}
use Rattle.jfs_bits.proofs.Parts.{part-held}
use Rattle.jfs_bits.specs.declared.descriptor.Moment.{Moment}
use Rattle.jfs_bits.specs.declared.rule.PageKind.TheVariants as kinds
use Rattle.jfs_inode.specs.declared.fields.Dinode.{Dinode}
use Rattle.jfs_name.specs.Directory.{without_name}
use Rattle.jfs_name.specs.declared.name.NameEntry.{NameEntry}
use Rattle.jfs_ranges.specs.declared.edit.Edit.{Edit}
use Rattle.jfs_ranges.specs.declared.edit.Edit.TheVariants.{Lines, NoRedo, Alloc, Free}
use Rattle.jfs_ranges.specs.Apply.{apply_tx}
use Rattle.jfs_ranges.specs.Laid.{put_tx, applied_length}
use Rattle.jfs_tree.specs.Changes.{PagesEdits, TellsChanges}
use Rattle.jfs_tree.specs.Edit.{count_in}
use Rattle.jfs_tree.specs.Fresh.{LeadsTo, after_tx}
use Rattle.jfs_tree.specs.Removes.{TellsFreed, page_frees}
use Rattle.jfs_tree.specs.Tell.{AllLines}
use Rattle.jfs_dtree.specs.Removing.{RemovesName, HasOneLessName}
use Rattle.jfs_dtree.specs.Spells.{spells_names, owned_pages}
use Rattle.jfs_rename.specs.rename_steps.specs.Entries.{LosesEntry, turned}
use Rattle.jfs_rename.specs.rename_steps.proofs.Stage.{loss_of, loss_moves, lines_used, lines_extents}
use Rattle.jfs_rename.specs.unlink.specs.loss.specs.Inodes.{frees_in}
use Rattle.jfs_rename.specs.unlink.specs.loss.specs.lead_steps.proofs.Again.{stays_in_use}
use Rattle.jfs_rename.specs.unlink.specs.loss.specs.lead_steps.proofs.Named.{all_below}
use Rattle.jfs_rename.specs.unlink.specs.loss.specs.lead_steps.proofs.Turned.{no_extents_of, dir_holds, names_listed}
use Rattle.jfs_rename.specs.unlink.specs.loss.specs.objects.specs.Readers.{Readers}
use Rattle.jfs_rename.specs.unlink.specs.loss.specs.objects.specs.Volume.{Volume, home}
use Rattle.jfs_rename.specs.unlink.specs.loss.specs.objects.specs.Objects.{objects, spelled, is_live, has_names}
use Rattle.jfs_rename.specs.unlink.specs.loss.specs.objects.specs.Owners.{bit, holds}
use Rattle.jfs_rename.specs.unlink.specs.loss.specs.objects.specs.Laws.{ChangesOne}
use Rattle.jfs_rename.specs.unlink.specs.loss.specs.objects.proofs.Owned.{owned_once}
use Rattle.jfs_rename.specs.unlink.specs.loss.specs.meaning.specs.Readers.{readers, root_of}
use Rattle.jfs_rename.specs.unlink.specs.loss.specs.steps.specs.After.{used_after, frees}
use Rattle.jfs_rename.specs.unlink.specs.loss.specs.steps.specs.Laws.{TakesAndFrees, IsFair}
use Rattle.jfs_rename.specs.unlink.specs.loss.specs.steps.proofs.Puts.{put_within, put_past}
use Rattle.jfs_rename.specs.unlink.specs.loss.specs.steps.proofs.Sets.{frees_onto, frees_move}
use Rattle.jfs_rename.specs.unlink.specs.loss.specs.way.specs.declared.object.Held.{Held}
use Rattle.jfs_names_logged.proofs.After.{put_onto}
use Rattle.jfs_names_logged.proofs.Directory.{TurnsDirectory, turn_writes, turn_changes}
use Rattle.jfs_names_logged.specs.calls_logged.specs.Calls.{ArePages}
use Rattle.jfs_names_logged.specs.calls_logged.specs.logged.specs.Own.{LogsPart}
use Rattle.jfs_names_logged.specs.calls_logged.specs.logged.proofs.Pages.{pages_law}
use Rattle.jfs_names_logged.specs.calls_logged.specs.logged.proofs.Staged.{runs_law}
use Rattle.jfs_names_logged.specs.calls_logged.specs.logged.proofs.Written.{trees_law}
use Rattle.jfs_moves_logged.proofs.Come.{Come, pages_are, leads_to, past, is_true, a_bit, used_more, stay_more}

lines_free : (b : ℕ) (lines : List Edit) → AllLines lines → frees lines b ≡ 0
lines_free b [] h = refl
lines_free b (Lines page kind first bytes ∷ lines) h = lines_free b lines h
lines_free b (NoRedo page ∷ lines) h = absurd h
lines_free b (Alloc run ∷ lines) h = absurd h
lines_free b (Free run ∷ lines) h = absurd h

module _ (blocks : ℕ) (v : Volume) (are : ArePages blocks v.page) (tx : List Edit) (w : Volume) (c : Come blocks v [] tx w) (dir : Held) (at : home v.extents dir.number ≡ Some dir.page)
    (here : objects (readers blocks) w dir.number ≡ Some (spelled (readers blocks) w.page dir.inode)) (is_dir : has_names dir.inode ≡ true) (name : List ℕ) (links : ℕ) (live : is_live dir.number (record dir.inode { nlink = links }) ≡ true) (now : Moment)
    (later : List Edit) (l : LosesEntry blocks v.page dir name links now tx later) where
  abbrev r : Readers
  r = readers blocks

  abbrev n : ℕ
  n = dir.number

  abbrev d : Dinode
  d = dir.inode

  abbrev before : ℕ → List ℕ
  before = put_tx blocks tx v.page

  abbrev set : Dinode
  set = turned d l.root (d.nblocks - (frees_in l.mid - frees_in tx)) links now

  -- the edits of its tree, and those of its inode
  abbrev tree : List Edit
  tree = loss_of blocks before tx l.mid l.gone

  abbrev inode : List Edit
  inode = l.lines.0

  abbrev pub lost_edits : List Edit
  lost_edits = loss_of blocks (put_tx blocks tx v.page) tx l.mid l.gone ++ l.lines.0

  pub lost_is : later ≡ tx ++ lost_edits
  lost_is = l.lines.1 ∙ ap (λ (all : List Edit). all ++ inode) l.gone.1.told ∙ append_assoc tx tree inode

  -- ---- its names, and its pages

  abbrev es : List NameEntry
  es = (c.sound.whole n (spelled r w.page d) here).names

  es_are : spells_names blocks w.page (root_of d) ≡ Ok es
  es_are = sym (names_listed blocks w.page d is_dir) ∙ (c.sound.whole n (spelled r w.page d) here).names_are

  found : RemovesName blocks w.page name (root_of d) l.root tx l.mid l.inode
  found = subst (λ (pages : ℕ → List ℕ). RemovesName blocks pages name (root_of d) l.root tx l.mid l.inode) (pages_are blocks v are [] tx w c) l.removes

  freed : List ℕ
  freed = (found es es_are).1.0

  told : TellsFreed freed tx l.mid
  unfolding freed
  told = (found es es_are).1.1

  less : HasOneLessName blocks name es w.page (after_tx v.page l.mid) (root_of d) l.root freed
  unfolding freed
  less = (found es es_are).1.2 v.page (leads_to blocks v are [] tx w c)

  moves : TakesAndFrees tree [] l.gone.0
  moves = loss_moves blocks before tx l.mid l.gone

  same_freed : (b : ℕ) → frees tree b ≡ count_in b freed
  same_freed b = let one = ap (λ (edits : List Edit). frees edits b) l.gone.1.told ∙ frees_onto tx tree b in
      let other = ap (λ (edits : List Edit). frees edits b) told.2 ∙ frees_onto tx (told.0 ++ page_frees freed) b in
      let parts = frees_onto told.0 (page_frees freed) b in let none = lines_free b told.0 told.1 in let last = (frees_move freed).freed_are b in
      omega (arith, sym one, other, parts, none, last)

  gone_same : (b : ℕ) → count_in b l.gone.0 ≡ count_in b freed
  gone_same b = sym (moves.freed_are b) ∙ same_freed b

  among : (b : ℕ) → count_in b freed ≤ holds r (objects r w n) b
  among b = let o = less.owned b in let h = dir_holds blocks w.page d es b is_dir (no_extents_of d is_dir) es_are in let x = ap (λ o. holds r o b) here in omega (arith, o, h, x)

  used_now : (b : ℕ) → 0 < count_in b freed → used_after tx v.used b ≡ true
  used_now b k = a_bit (used_after tx v.used b) (let a = among b in let e = ap bit ((owned_once r w c.sound.agrees).in_use n b (omega (arith, a, k))) in let u = c.used b in omega (arith, e, u))

  fair : IsFair tree (used_after tx v.used)
  fair = record {
    fresh = λ b k. absurd (let m = moves.taken_are b in omega (arith, m, k));
    owned = λ b k. used_now b (let f = same_freed b in omega (arith, f, k));
    once = λ b. (let m = moves.taken_are b in let f = same_freed b in let a = among b in let o = (owned_once r w c.sound.agrees).once n b in omega (arith, m, f, a, o));
  }

  -- ---- the volume then

  abbrev pub lost_volume : Volume
  lost_volume = record w { page = put_tx blocks later v.page; used = used_after later v.used }

  lost_used : (b : ℕ) → bit (lost_volume.used b) + count_in b freed ≡ bit (w.used b)
  lost_used b = let u = ap (λ (x : ℕ → Bool). bit (x b)) (lines_used blocks v.page dir.page l.mid later v.used l.lines) in let m = used_more tx tree l.mid v.used [] l.gone.0 l.gone.1.told moves fair b in
      let g = gone_same b in let z = c.used b in omega (arith, u, m, g, z)

  root_is : root_of set ≡ l.root
  root_is = part-held 96 288 l.root d.rest l.width (let s = l.size in omega (arith, s))

  leads_before : LeadsTo blocks v.page tx before
  leads_before b k = (are.sizes b k, sym (put_within blocks tx v.page b k))

  abbrev tells : TellsChanges blocks kinds.Dtree [] (put_tx blocks tx v.page) (page_frees l.gone.0) tx l.mid
  tells = l.gone.1

  new_is : (b : ℕ) → b < blocks → tells.after b ≡ after_tx v.page l.mid b
  new_is b k = sym (tells.leads v.page leads_before b k).1

  sizes : (b : ℕ) → 0 < count_in b tells.changed → length (tells.after b) ≡ 4096
  sizes b some = (let k = all_below blocks tells.changed b tells.within some in ap (λ (y : List ℕ). length y) (new_is b k) ∙ applied_length b l.mid (v.page b) ∙ are.sizes b k)

  edits : PagesEdits kinds.Dtree [] w.page tells.after tells.changed tells.lines
  edits = subst (λ (old : ℕ → List ℕ). PagesEdits kinds.Dtree [] old tells.after tells.changed tells.lines) (pages_are blocks v are [] tx w c) tells.edits

  turns : TurnsDirectory blocks w lost_volume n tree inode
  turns = record {
    page = dir.page;
    old = d;
    set = set;
    at = ap (λ (places : List (Option ℕ)). home places n) c.extents ∙ at;
    was = here;
    dir = is_dir;
    dir_set = is_dir;
    acl = refl;
    ea = refl;
    live = live;
    names = es;
    names_then = without_name name es;
    spelled_names = es_are;
    later = after_tx v.page l.mid;
    mid = put_tx blocks l.mid v.page;
    inside = λ b k. put_within blocks l.mid v.page b k;
    outside = λ b k. put_past blocks l.mid v.page b k ∙ past blocks v are [] tx w c b k;
    turned = ap (spells_names blocks (after_tx v.page l.mid)) root_is ∙ less.spelled;
    taken = [];
    freed = freed;
    owned = λ b. (let o = less.owned b in let e = ap (λ (x : List ℕ). owned_pages blocks (after_tx v.page l.mid) x b) root_is in omega (arith, o, e));
    below = λ b k. absurd (omega (arith, k));
    fresh = λ b k. absurd (omega (arith, k));
    apart = λ b k. refl;
    keeps = λ b k z t. less.keeps b k z;
    puts = l.puts w.extents (ap (λ (places : List (Option ℕ)). home places n) c.extents ∙ at);
    used = λ b. (let u = lost_used b in omega (arith, u));
    extents = refl;
    area = refl;
    in_use = stays_in_use r w n (spelled r w.page d) c.sound here;
    pages = λ q was now. ap (λ (all : List Edit). put_tx blocks all v.page q) lost_is ∙ put_onto blocks v.page tx (tree ++ inode) q (c.within q was) ∙ ap (apply_tx q (tree ++ inode)) (sym (c.page q));
    runs = runs_law dir.page kinds.Inode (put_tx blocks l.mid v.page dir.page) (put_tx blocks later v.page dir.page) 0 inode l.lines.2;
    told = [];
    gone = l.gone.0;
    changed = tells.changed;
    new = tells.after;
    tells = pages_law.gives kinds.Dtree [] tells.changed l.gone.0 w.page tells.after tells.lines edits tells.once sizes;
    within = tells.within;
    new_is = new_is;
    gone_same = gone_same;
    comes = λ q k. absurd (omega (arith, k));
    told_alone = λ q z. refl;
  }

  pub lost_logged : LogsPart r w lost_volume lost_edits
  lost_logged = trees_law.writes r w lost_volume n tree inode c.sound (turn_writes blocks w lost_volume n tree inode c.sound c.within turns)

  one : ChangesOne r w lost_volume n (Some (spelled r (put_tx blocks l.mid v.page) set))
  unfolding turns
  one = turn_changes blocks w lost_volume n tree inode c.sound c.within turns

  pub lost_come : Come blocks v [] later lost_volume
  lost_come = record {
    sound = one.sound;
    page = λ b. refl;
    extents = c.extents;
    area = c.area;
    used = λ b. omega arith;
    within = λ b h. c.within b (is_true (lost_volume.used b) (w.used b) (let u = lost_used b in omega (arith, u)) h);
    stay = lines_extents blocks v.page dir.page l.mid later v.extents l.lines ∙ stay_more tx tree l.mid v [] l.gone.0 l.gone.1.told moves c.stay;
  }

  -- no block comes
  pub lost_none : (b : ℕ) → lost_volume.used b ≡ true → w.used b ≡ true
  lost_none b h = is_true (lost_volume.used b) (w.used b) (let u = lost_used b in omega (arith, u)) h
