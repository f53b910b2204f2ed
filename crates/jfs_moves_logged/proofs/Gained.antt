-- A directory gains a name, by blocks that had no owners.
use Rattle.std.proofs.Common.{◌≡◌, ◌≢◌, ◌<◌, ◌≤◌, ◌+◌, ◌==◌, ◌||◌, if◌then◌else◌, ℕ, Bool, true, false, List, [], ◌∷◌, ◌++◌, length, Some, Ok, refl, sym, ap, ◌∙◌, subst, inl, inr, arith}
use Rattle.jfs_bits.proofs.Parts.{part-held}
use Rattle.jfs_bits.specs.declared.descriptor.Pxd.{Pxd}
use Rattle.jfs_bits.specs.declared.rule.PageKind.TheVariants as kinds
use Rattle.jfs_inode.specs.declared.fields.Dinode.{Dinode}
use Rattle.jfs_name.specs.Directory.{with_name}
use Rattle.jfs_name.specs.declared.name.NameEntry.{NameEntry}
use Rattle.jfs_ranges.specs.declared.edit.Edit.{Edit}
use Rattle.jfs_ranges.specs.Laid.{put_tx, applied_length}
use Rattle.jfs_ranges.specs.Apply.{apply_tx}
use Rattle.jfs_tree.specs.Changes.{TellsChanges}
use Rattle.jfs_tree.specs.Edit.{count_in}
use Rattle.jfs_tree.specs.Form.{AllBelow}
use Rattle.jfs_tree.specs.Fresh.{LeadsTo, after_tx, blocks_of, allocs_of}
use Rattle.jfs_tree.specs.Tell.{is_in}
use Rattle.jfs_dtree.specs.Adding.{HasOneMoreName}
use Rattle.jfs_dtree.specs.Spells.{spells_names, owned_pages}
use Rattle.jfs_rename.specs.rename_steps.specs.Entries.{GainsEntry, turned}
use Rattle.jfs_rename.specs.rename_steps.specs.declared.entries.Entered.{Entered}
use Rattle.jfs_rename.specs.unlink.specs.loss.proofs.Counts.{count_append}
use Rattle.jfs_rename.specs.unlink.specs.loss.specs.lead_steps.specs.Balance.{own_after}
use Rattle.jfs_rename.specs.unlink.specs.loss.specs.lead_steps.proofs.Again.{again, stays_in_use}
use Rattle.jfs_rename.specs.unlink.specs.loss.specs.lead_steps.proofs.Named.{all_below}
use Rattle.jfs_rename.specs.unlink.specs.loss.specs.lead_steps.proofs.Turned.{no_extents_of, dir_holds, names_listed}
use Rattle.jfs_rename.specs.unlink.specs.loss.specs.objects.specs.Readers.{Readers}
use Rattle.jfs_rename.specs.unlink.specs.loss.specs.objects.specs.Volume.{Volume, home}
use Rattle.jfs_rename.specs.unlink.specs.loss.specs.objects.specs.Objects.{objects, spelled, is_live, has_names}
use Rattle.jfs_rename.specs.unlink.specs.loss.specs.objects.specs.Owners.{IsSound, bit, holds}
use Rattle.jfs_rename.specs.unlink.specs.loss.specs.objects.specs.Laws.{ChangesOne, IsOwnedOnce}
use Rattle.jfs_rename.specs.unlink.specs.loss.specs.objects.specs.Changes.{PutsInode}
use Rattle.jfs_rename.specs.unlink.specs.loss.specs.objects.proofs.Owned.{owned_once}
use Rattle.jfs_rename.specs.unlink.specs.loss.specs.objects.proofs.Sums.{put_here, put_other, zero_or_more}
use Rattle.jfs_rename.specs.unlink.specs.loss.specs.meaning.specs.Readers.{readers, root_of}
use Rattle.jfs_rename.specs.unlink.specs.loss.specs.steps.specs.After.{used_after}
use Rattle.jfs_rename.specs.unlink.specs.loss.specs.steps.specs.Gains.{entry_of}
use Rattle.jfs_rename.specs.unlink.specs.loss.specs.steps.specs.Laws.{TakesAndFrees, IsFair}
use Rattle.jfs_rename.specs.unlink.specs.loss.specs.steps.specs.declared.gain.Gain.{Gain}
use Rattle.jfs_rename.specs.unlink.specs.loss.specs.steps.proofs.After.{counts}
use Rattle.jfs_rename.specs.unlink.specs.loss.specs.steps.proofs.Puts.{put_within, put_past}
use Rattle.jfs_rename.specs.unlink.specs.loss.specs.steps.proofs.Sets.{taken_move, lines_on_top}
use Rattle.jfs_rename.specs.unlink.specs.loss.specs.way.specs.declared.object.Held.{Held}
use Rattle.jfs_names_logged.proofs.Directory.{TurnsDirectory, turn_writes, turn_changes}
use Rattle.jfs_names_logged.specs.calls_logged.specs.Calls.{ArePages}
use Rattle.jfs_names_logged.specs.calls_logged.specs.logged.specs.Own.{LogsPart}
use Rattle.jfs_names_logged.specs.calls_logged.specs.logged.proofs.Pages.{pages_law}
use Rattle.jfs_names_logged.specs.calls_logged.specs.logged.proofs.Staged.{runs_law}
use Rattle.jfs_names_logged.specs.calls_logged.specs.logged.proofs.Written.{trees_law}
use Rattle.jfs_moves_logged.proofs.Come.{Come, is_true}

-- ---- numbers in a list

in_counted : (n : ℕ) (ns : List ℕ) → 0 < count_in n ns → is_in n ns ≡ true
in_counted n [] l = absurd (omega (arith, l))
in_counted n (m ∷ ms) l = at (m == n) l (in_counted n ms)
  where
    at : (b : Bool) → 0 < (if b then 1 else 0) + count_in n ms → (0 < count_in n ms → is_in n ms ≡ true) → (b || is_in n ms) ≡ true
    at true l rest = refl
    at false l rest = rest (omega (arith, l))

counted_in : (n : ℕ) (ns : List ℕ) → is_in n ns ≡ true → 0 < count_in n ns
counted_in n [] h = absurd (cc (h))
counted_in n (m ∷ ms) h = at (m == n) h (counted_in n ms)
  where
    at : (b : Bool) → (b || is_in n ms) ≡ true → (is_in n ms ≡ true → 0 < count_in n ms) → 0 < (if b then 1 else 0) + count_in n ms
    at true h rest = omega arith
    at false h rest = let r = rest h in omega (arith, r)

not_in : (n : ℕ) (ns : List ℕ) → count_in n ns ≡ 0 → is_in n ns ≡ false
not_in n ns z = by (is_in n ns) refl
  where
    by : (b : Bool) → is_in n ns ≡ b → is_in n ns ≡ false
    by true e = absurd (let l = counted_in n ns e in omega (arith, l, z))
    by false e = e

-- free blocks, each once, within the file system part
pub record AreFree (blocks : ℕ) (v : Volume) (free : List ℕ) : Type 0 where
  pub once : (b : ℕ) → count_in b free ≤ 1
  pub within : AllBelow blocks free
  pub unused : (b : ℕ) → 0 < count_in b free → v.used b ≡ false

module _ (blocks : ℕ) (v : Volume) (are : ArePages blocks v.page) (sound : IsSound (readers blocks) v) (used_within : (b : ℕ) → v.used b ≡ true → b < blocks) (dir : Held) (at : home v.extents dir.number ≡ Some dir.page)
    (was : objects (readers blocks) v dir.number ≡ Some (spelled (readers blocks) v.page dir.inode)) (is_dir : has_names dir.inode ≡ true) (name : List ℕ) (gain : Gain) (free left : List Pxd) (can : AreFree blocks v (blocks_of free))
    (live : is_live dir.number (record dir.inode { nlink = gain.links }) ≡ true) (after : Entered) (g : GainsEntry blocks v.page dir name gain free left after) where
  abbrev r : Readers
  r = readers blocks

  abbrev n : ℕ
  n = dir.number

  abbrev d : Dinode
  d = dir.inode

  abbrev tx : List Edit
  tx = after.tx

  abbrev taken : List ℕ
  taken = g.taken.0

  abbrev pub gained_inode : Dinode
  gained_inode = turned dir.inode g.root (own_after dir.inode.nblocks g.mid) gain.links gain.now

  abbrev pub gained_edits : List Edit
  gained_edits = (g.taken.2.lines ++ allocs_of g.taken.0) ++ g.lines.0

  -- the edits of its tree, and those of its inode
  abbrev tree : List Edit
  tree = g.taken.2.lines ++ allocs_of g.taken.0

  abbrev inode : List Edit
  inode = g.lines.0

  pub gained_is : after.tx ≡ gained_edits
  gained_is = g.lines.1 ∙ ap (λ (all : List Edit). all ++ inode) g.taken.2.told

  -- ---- its names, and its pages

  once : IsOwnedOnce r v
  once = owned_once r v sound.agrees

  abbrev es : List NameEntry
  es = (sound.whole n (spelled r v.page d) was).names

  es_are : spells_names blocks v.page (root_of d) ≡ Ok es
  es_are = sym (names_listed blocks v.page d is_dir) ∙ (sound.whole n (spelled r v.page d) was).names_are

  leads : LeadsTo blocks v.page [] v.page
  leads b l = (are.sizes b l, refl)

  spare : (b : ℕ) → 0 < count_in b (blocks_of free) → owned_pages blocks v.page (root_of d) b ≡ 0
  spare b l = elim (zero_or_more (owned_pages blocks v.page (root_of d) b)) [
    | inl z ↦ z
    | inr o ↦ absurd (no (sym (once.in_use n b (let h = dir_holds blocks v.page d es b is_dir (no_extents_of d is_dir) es_are in let w = ap (λ o. holds r o b) was in omega (arith, h, w, o))) ∙ can.unused b l))
  ]
    where
      no : true ≡ false → ⊥
      no h = cc (h)

  abbrev later : ℕ → List ℕ
  later = after_tx v.page g.mid

  more : HasOneMoreName blocks (entry_of name gain) es v.page later (root_of d) g.root (blocks_of free) (blocks_of left)
  more = g.adds v.page leads es es_are (record { once = can.once; apart = spare })

  free_is : (b : ℕ) → count_in b (blocks_of free) ≡ count_in b taken + count_in b (blocks_of left)
  free_is b = ap (count_in b) g.taken.1 ∙ count_append b taken (blocks_of left)

  moves : TakesAndFrees tx taken []
  moves = lines_on_top blocks v.page dir.page g.mid tx taken [] (taken_move blocks kinds.Dtree v.page (blocks_of free) (blocks_of left) g.mid (λ first bytes. refl) g.taken) g.lines

  fair : IsFair tx v.used
  fair = record {
    fresh = λ b l. can.unused b (let f = free_is b in let m = moves.taken_are b in omega (arith, f, m, l));
    owned = λ b l. absurd (let m = moves.freed_are b in omega (arith, m, l));
    once = λ b. (let f = free_is b in let m = moves.taken_are b in let k = moves.freed_are b in let o = can.once b in omega (arith, f, m, k, o));
  }

  -- ---- the volume then

  abbrev pub gained_volume : Volume
  gained_volume = record v { page = put_tx blocks after.tx v.page; used = used_after after.tx v.used }

  gained_used : (b : ℕ) → bit (gained_volume.used b) ≡ bit (v.used b) + count_in b taken
  gained_used b = let c = counts tx v.used fair b in let m = moves.taken_are b in let k = moves.freed_are b in omega (arith, c, m, k)

  -- no block goes
  pub gained_all : (b : ℕ) → v.used b ≡ true → gained_volume.used b ≡ true
  gained_all b h = is_true (v.used b) (gained_volume.used b) (let u = gained_used b in omega (arith, u)) h

  root_is : root_of gained_inode ≡ g.root
  root_is = part-held 96 288 g.root d.rest g.width (let s = g.size in omega (arith, s))

  abbrev tells : TellsChanges blocks kinds.Dtree g.taken.0 v.page (allocs_of g.taken.0) [] g.mid
  tells = g.taken.2

  new_is : (b : ℕ) → b < blocks → tells.after b ≡ later b
  new_is b l = sym (tells.leads v.page leads b l).1

  sizes : (b : ℕ) → 0 < count_in b tells.changed → length (tells.after b) ≡ 4096
  sizes b some = (let l = all_below blocks tells.changed b tells.within some in ap (λ (y : List ℕ). length y) (new_is b l) ∙ applied_length b g.mid (v.page b) ∙ are.sizes b l)

  puts : PutsInode (put_tx blocks g.mid v.page) (put_tx blocks tx v.page) v.extents n gained_inode
  puts = subst (λ (e : Dinode). PutsInode (put_tx blocks g.mid v.page) (put_tx blocks tx v.page) v.extents n e) g.inode_is (g.puts v.extents at)

  turns : TurnsDirectory blocks v gained_volume n tree inode
  turns = record {
    page = dir.page;
    old = d;
    set = gained_inode;
    at = at;
    was = was;
    dir = is_dir;
    dir_set = is_dir;
    acl = refl;
    ea = refl;
    live = live;
    names = es;
    names_then = with_name (entry_of name gain) es;
    spelled_names = es_are;
    later = later;
    mid = put_tx blocks g.mid v.page;
    inside = λ b l. put_within blocks g.mid v.page b l;
    outside = λ b l. put_past blocks g.mid v.page b l;
    turned = ap (spells_names blocks later) root_is ∙ more.spelled;
    taken = taken;
    freed = [];
    owned = λ b. (let o = more.owned b in let e = ap (λ (y : List ℕ). owned_pages blocks later y b) root_is in let f = free_is b in omega (arith, o, e, f));
    below = λ b l. all_below blocks (blocks_of free) b can.within (let f = free_is b in omega (arith, f, l));
    fresh = λ b l. can.unused b (let f = free_is b in omega (arith, f, l));
    apart = λ b l. absurd (omega (arith, l));
    keeps = λ b l z k. more.keeps b l z (let f = free_is b in omega (arith, f, k));
    puts = puts;
    used = λ b. (let u = gained_used b in omega (arith, u));
    extents = refl;
    area = refl;
    in_use = stays_in_use r v n (spelled r v.page d) sound was;
    pages = λ q was now. put_within blocks tx v.page q (used_within q was) ∙ ap (λ (e : List Edit). apply_tx q e (v.page q)) gained_is;
    runs = runs_law dir.page kinds.Inode (put_tx blocks g.mid v.page dir.page) (put_tx blocks tx v.page dir.page) 0 inode g.lines.2;
    told = taken;
    gone = [];
    changed = tells.changed;
    new = tells.after;
    tells = pages_law.takes kinds.Dtree taken tells.changed taken v.page tells.after tells.lines tells.edits tells.once sizes;
    within = tells.within;
    new_is = new_is;
    gone_same = λ q. refl;
    comes = λ q l. (let i = in_counted q taken l in (i, counted_in q tells.changed (tells.takes q i)));
    told_alone = λ q z. not_in q taken z;
  }

  pub gained_logged : LogsPart r v gained_volume gained_edits
  gained_logged = trees_law.writes r v gained_volume n tree inode sound (turn_writes blocks v gained_volume n tree inode sound used_within turns)

  one : ChangesOne r v gained_volume n (Some (spelled r (put_tx blocks g.mid v.page) gained_inode))
  unfolding turns
  one = turn_changes blocks v gained_volume n tree inode sound used_within turns

  within_then : (b : ℕ) → gained_volume.used b ≡ true → b < blocks
  within_then b h = elim (zero_or_more (count_in b taken)) [
    | inl z ↦ used_within b (is_true (gained_volume.used b) (v.used b) (let u = gained_used b in omega (arith, u, z)) h)
    | inr l ↦ all_below blocks (blocks_of free) b can.within (let f = free_is b in omega (arith, f, l))
  ]

  pub gained_come : Come blocks v [] after.tx gained_volume
  gained_come = record {
    sound = one.sound;
    page = λ b. refl;
    extents = refl;
    area = refl;
    used = λ b. omega arith;
    within = within_then;
    stay = moves.extents_stay v.extents;
  }

  pub gained_here : objects r gained_volume n ≡ Some (spelled r gained_volume.page gained_inode)
  gained_here = (again r gained_volume (put_tx blocks g.mid v.page) n gained_inode (one.objects_are n ∙ put_here n (Some (spelled r (put_tx blocks g.mid v.page) gained_inode)) (objects r v))).0

  pub gained_other : (k : ℕ) (e : Dinode) → k ≢ n → objects r v k ≡ Some (spelled r v.page e) → objects r gained_volume k ≡ Some (spelled r gained_volume.page e)
  gained_other k e apart had = (again r gained_volume v.page k e (one.objects_are k ∙ put_other n (Some (spelled r (put_tx blocks g.mid v.page) gained_inode)) (objects r v) k apart ∙ had)).0
