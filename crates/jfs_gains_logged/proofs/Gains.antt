-- A directory gains a name: what its edits log, and what they take.
use Rattle.std.proofs.Common.{◌≡◌, ◌<◌, ◌≤◌, ◌+◌, ◌&&◌, ◌||◌, ◌==◌, if◌then◌else◌, ℕ, Bool, true, false, nat_lt, List, [], ◌∷◌, ◌++◌, length, Some, Ok, refl, sym, ap, ◌∙◌, subst, inl, inr, arith}
use Rattle.jfs_bits.proofs.Parts.{part-held}
use Rattle.jfs_bits.specs.declared.descriptor.Pxd.{Pxd}
use Rattle.jfs_bits.specs.declared.rule.PageKind.TheVariants as kinds
use Rattle.jfs_imap.specs.Inodes.{Inodes}
use Rattle.jfs_inode.specs.declared.fields.Dinode.{Dinode}
use Rattle.jfs_name.specs.Directory.{with_name}
use Rattle.jfs_name.specs.declared.name.NameEntry.{NameEntry}
use Rattle.jfs_ranges.specs.declared.edit.Edit.{Edit}
use Rattle.jfs_ranges.specs.Apply.{apply_tx}
use Rattle.jfs_ranges.specs.Laid.{put_tx, applied_length}
use Rattle.jfs_tree.specs.Edit.{count_in}
use Rattle.jfs_tree.specs.Form.{AllBelow}
use Rattle.jfs_tree.specs.Fresh.{LeadsTo, after_tx, allocs_of, blocks_of}
use Rattle.jfs_tree.specs.Tell.{is_in}
use Rattle.jfs_plain.specs.Step.{need_of_name}
use Rattle.jfs_create.specs.bmap.specs.States.{Blocks, is_owned}
use Rattle.jfs_create.specs.link.specs.claim.specs.Take.{AreFresh}
use Rattle.jfs_create.specs.link.specs.lead_steps.specs.dtree.specs.Adding.{HasOneMoreName}
use Rattle.jfs_create.specs.link.specs.lead_steps.specs.dtree.specs.Spells.{spells_names, owned_pages}
use Rattle.jfs_create.specs.link.specs.lead_steps.proofs.Named.{all_below}
use Rattle.jfs_create.specs.link.specs.lead_steps.proofs.Turned.{no_extents_of, dir_holds}
use Rattle.jfs_create.specs.link.specs.objects.specs.Readers.{Readers}
use Rattle.jfs_create.specs.link.specs.objects.specs.Volume.{Volume}
use Rattle.jfs_create.specs.link.specs.objects.specs.Objects.{spelled, is_live, has_names}
use Rattle.jfs_create.specs.link.specs.objects.specs.Owners.{holds, bit}
use Rattle.jfs_create.specs.link.specs.objects.specs.Laws.{ChangesOne, IsOwnedOnce}
use Rattle.jfs_create.specs.link.specs.objects.proofs.Owned.{owned_once}
use Rattle.jfs_create.specs.link.specs.objects.proofs.Sums.{zero_or_more}
use Rattle.jfs_create.specs.link.specs.meaning.specs.Readers.{readers, root_of}
use Rattle.jfs_create.specs.link.specs.meaning.proofs.Books.{count_append}
use Rattle.jfs_create.specs.link.specs.steps.specs.Gains.{GainsName, CanGain, after_set, entry_of, with_root}
use Rattle.jfs_create.specs.link.specs.steps.specs.Laws.{TakesAndFrees}
use Rattle.jfs_create.specs.link.specs.steps.specs.declared.gain.Gain.{Gain}
use Rattle.jfs_create.specs.link.specs.steps.proofs.Grows.{gain_law}
use Rattle.jfs_create.specs.link.specs.steps.proofs.Puts.{put_within, put_past}
use Rattle.jfs_create.specs.link.specs.steps.proofs.Sets.{lines_on_top, taken_move}
use Rattle.jfs_create.specs.link.specs.way.specs.Volume.{volume_of}
use Rattle.jfs_create.specs.link.specs.way.specs.declared.object.Held.{Held}
use Rattle.jfs_names_logged.specs.calls_logged.specs.Calls.{IsReady}
use Rattle.jfs_names_logged.specs.calls_logged.specs.Found.{IsFound}
use Rattle.jfs_names_logged.specs.calls_logged.specs.logged.specs.Own.{LogsPart}
use Rattle.jfs_names_logged.specs.calls_logged.specs.logged.proofs.Pages.{pages_law}
use Rattle.jfs_names_logged.specs.calls_logged.specs.logged.proofs.Staged.{runs_law}
use Rattle.jfs_names_logged.specs.calls_logged.specs.logged.proofs.Written.{trees_law}
use Rattle.jfs_names_logged.specs.unlink.proofs.Ended.{used_within}
use Rattle.jfs_names_logged.proofs.Directory.{TurnsDirectory, turn_writes, turn_changes}

-- ---- numbers in a list

in_counted : (n : ℕ) (ns : List ℕ) → 0 < count_in n ns → is_in n ns ≡ true
in_counted n [] l = absurd (omega (arith, l))
in_counted n (m ∷ ms) l = at (m == n) l (in_counted n ms)
  where
    at : (b : Bool) → 0 < (if b then 1 else 0) + count_in n ms → (0 < count_in n ms → is_in n ms ≡ true) → (b || is_in n ms) ≡ true
    at true l rest = refl
    at false l rest = rest (omega (arith, l))

counted_in : (n : ℕ) (ns : List ℕ) → is_in n ns ≡ true → 0 < count_in n ns
counted_in n [] h = absurd (cc (h))
counted_in n (m ∷ ms) h = at (m == n) h (counted_in n ms)
  where
    at : (b : Bool) → (b || is_in n ms) ≡ true → (is_in n ms ≡ true → 0 < count_in n ms) → 0 < (if b then 1 else 0) + count_in n ms
    at true h rest = omega arith
    at false h rest = let r = rest h in omega (arith, r)

not_in : (n : ℕ) (ns : List ℕ) → count_in n ns ≡ 0 → is_in n ns ≡ false
not_in n ns z = by (is_in n ns) refl
  where
    by : (b : Bool) → is_in n ns ≡ b → is_in n ns ≡ false
    by true e = absurd (let l = counted_in n ns e in omega (arith, l, z))
    by false e = e

-- ---- a directory on a volume, which gains a name by blocks that had no owners

pub record Gaining (blocks : ℕ) (pages : ℕ → List ℕ) (area : ℕ → ℕ) (bm : Blocks) (inodes : Inodes) : Type 0 where
  pub ready : IsReady blocks pages area bm inodes
  pub many : length bm.states ≡ blocks
  pub dir : Held
  pub found : IsFound blocks pages area bm inodes dir
  pub is_dir : has_names dir.inode ≡ true
  pub names : List NameEntry
  pub spelled_names : spells_names blocks pages (root_of dir.inode) ≡ Ok names
  pub name : List ℕ
  pub gain : Gain
  pub free : List Pxd
  pub left : List Pxd
  pub fresh : AreFresh bm need_of_name (blocks_of free)
  pub tx : List Edit
  pub gains : GainsName blocks pages dir name gain free left tx
  pub live : is_live dir.number (with_root dir.inode gains.root gain (length gains.edits.0)) ≡ true

module _ (blocks : ℕ) (pages : ℕ → List ℕ) (area : ℕ → ℕ) (bm : Blocks) (inodes : Inodes) (x : Gaining blocks pages area bm inodes) where
  abbrev pub r : Readers
  r = readers blocks

  abbrev pub v : Volume
  v = volume_of pages area bm inodes

  abbrev pub n : ℕ
  n = x.dir.number

  abbrev pub d : Dinode
  d = x.dir.inode

  abbrev g : GainsName blocks pages x.dir x.name x.gain x.free x.left x.tx
  g = x.gains

  abbrev pub taken : List ℕ
  taken = x.gains.edits.0

  abbrev pub set : Dinode
  set = with_root d g.root x.gain (length g.edits.0)

  abbrev pub v1 : Volume
  v1 = after_set blocks x.tx n v

  -- the edits of its tree, and those of its inode
  abbrev pub tree : List Edit
  tree = x.gains.edits.2.lines ++ allocs_of taken

  abbrev pub inode : List Edit
  inode = x.gains.lines.0

  pub tx_is : x.tx ≡ tree ++ inode
  tx_is = g.lines.1 ∙ ap (λ (tx : List Edit). tx ++ inode) g.edits.2.told

  used_below : (b : ℕ) → v.used b ≡ true → b < blocks
  used_below = used_within blocks pages area bm inodes x.ready.consistent x.many

  unused : (b : ℕ) → is_owned bm b ≡ false → v.used b ≡ false
  unused b e = by (nat_lt b (length bm.states)) e
    where
      by : (y : Bool) → is_owned bm b ≡ false → (y && is_owned bm b) ≡ false
      by true e = e
      by false e = refl

  can : CanGain blocks v x.dir x.names x.free
  can = record {
    sound = x.ready.consistent.sound;
    whole = x.ready.are_pages.sizes;
    used_within = used_below;
    at = x.found.home_is;
    was = x.found.was;
    is_dir = x.is_dir;
    names = x.spelled_names;
    once = x.fresh.once;
    free_within = subst (λ (k : ℕ). AllBelow k (blocks_of x.free)) x.many x.fresh.within;
    fresh = λ b l. unused b (x.fresh.unowned b l);
  }

  once : IsOwnedOnce r v
  once = owned_once r v x.ready.consistent.sound.agrees

  leads : LeadsTo blocks pages [] pages
  leads b l = (x.ready.are_pages.sizes b l, refl)

  spare : (b : ℕ) → 0 < count_in b (blocks_of x.free) → owned_pages blocks pages (root_of d) b ≡ 0
  spare b l = elim (zero_or_more (owned_pages blocks pages (root_of d) b)) [
    | inl z ↦ z
    | inr o ↦ absurd (no (sym (once.in_use n b (let h = dir_holds blocks pages d x.names b x.is_dir (no_extents_of d x.is_dir) x.spelled_names in let w = ap (λ o. holds r o b) x.found.was in omega (arith, h, w, o))) ∙ can.fresh b l))
  ]
    where
      no : true ≡ false → ⊥
      no h = cc (h)

  abbrev later : ℕ → List ℕ
  later = after_tx pages g.mid

  more : HasOneMoreName blocks (entry_of x.name x.gain) x.names pages later (root_of d) g.root (blocks_of x.free) (blocks_of x.left)
  more = g.adds pages leads x.names x.spelled_names (record { once = x.fresh.once; apart = spare })

  free_is : (b : ℕ) → count_in b (blocks_of x.free) ≡ count_in b taken + count_in b (blocks_of x.left)
  free_is b = ap (count_in b) g.edits.1 ∙ count_append b taken (blocks_of x.left)

  root_is : root_of set ≡ g.root
  root_is = part-held 96 288 g.root d.rest g.width (let s = g.size in omega (arith, s))

  sizes : (b : ℕ) → 0 < count_in b g.edits.2.changed → length (g.edits.2.after b) ≡ 4096
  sizes b some = (let l = g.edits.2.leads pages leads b (all_below blocks g.edits.2.changed b g.edits.2.within some) in ap (λ (y : List ℕ). length y) (sym l.1) ∙ applied_length b g.mid (pages b) ∙ l.0)

  pub moves : TakesAndFrees x.tx taken []
  moves = lines_on_top blocks pages x.dir.page g.mid x.tx taken [] (taken_move blocks kinds.Dtree pages (blocks_of x.free) (blocks_of x.left) g.mid (λ first bytes. refl) g.edits) g.lines

  -- the blocks that it took are in use beside those before
  pub used_one : (b : ℕ) → bit (v1.used b) ≡ bit (v.used b) + count_in b taken
  used_one b = let u = (gain_law blocks v x.dir x.names x.name x.gain x.free x.left x.tx can g x.live).sets.takes.used b in omega (arith, u)

  pub taken_fresh : (b : ℕ) → 0 < count_in b taken → v.used b ≡ false
  taken_fresh b l = can.fresh b (let f = free_is b in omega (arith, f, l))

  -- all of them lie within the file system part
  pub then_below : (b : ℕ) → v1.used b ≡ true → b < blocks
  then_below b used = elim (zero_or_more (count_in b taken)) [
    | inl z ↦ used_below b (same_bit (v1.used b) (v.used b) (let u = used_one b in omega (arith, u, z)) used)
    | inr l ↦ all_below blocks (blocks_of x.free) b can.free_within (let f = free_is b in omega (arith, f, l))
  ]
    where
      same_bit : (s t : Bool) → bit s ≡ bit t → s ≡ true → t ≡ true
      same_bit true true h e = refl
      same_bit true false h e = absurd (omega (arith, h))
      same_bit false t h e = absurd (cc (e))

  pub taken_free : (b : ℕ) → count_in b taken ≤ count_in b (blocks_of x.free)
  taken_free b = let f = free_is b in omega (arith, f)

  turns : TurnsDirectory blocks v v1 n tree inode
  turns = record {
    page = x.dir.page;
    old = d;
    set = set;
    at = x.found.home_is;
    was = x.found.was;
    dir = x.is_dir;
    dir_set = x.is_dir;
    acl = refl;
    ea = refl;
    live = x.live;
    names = x.names;
    names_then = with_name (entry_of x.name x.gain) x.names;
    spelled_names = x.spelled_names;
    later = later;
    mid = put_tx blocks g.mid pages;
    inside = λ b l. put_within blocks g.mid pages b l;
    outside = λ b l. put_past blocks g.mid pages b l;
    turned = ap (spells_names blocks later) root_is ∙ more.spelled;
    taken = taken;
    freed = [];
    owned = λ b. (let o = more.owned b in let e = ap (λ (y : List ℕ). owned_pages blocks later y b) root_is in let f = free_is b in omega (arith, o, e, f));
    below = λ b l. all_below blocks (blocks_of x.free) b can.free_within (let f = free_is b in omega (arith, f, l));
    fresh = taken_fresh;
    apart = λ b l. absurd (omega (arith, l));
    keeps = λ b l z k. more.keeps b l z (let f = free_is b in omega (arith, f, k));
    puts = g.puts v.extents x.found.home_is;
    used = λ b. (let u = used_one b in omega (arith, u));
    extents = refl;
    area = refl;
    in_use = λ k. refl;
    pages = λ q was now. put_within blocks x.tx pages q (used_below q was) ∙ ap (λ (e : List Edit). apply_tx q e (pages q)) tx_is;
    runs = runs_law x.dir.page kinds.Inode (put_tx blocks g.mid pages x.dir.page) (put_tx blocks x.tx pages x.dir.page) 0 inode g.lines.2;
    told = taken;
    gone = [];
    changed = g.edits.2.changed;
    new = g.edits.2.after;
    tells = pages_law.takes kinds.Dtree taken g.edits.2.changed taken pages g.edits.2.after g.edits.2.lines g.edits.2.edits g.edits.2.once sizes;
    within = g.edits.2.within;
    new_is = λ b l. sym (g.edits.2.leads pages leads b l).1;
    gone_same = λ q. refl;
    comes = λ q l. (let i = in_counted q taken l in (i, counted_in q g.edits.2.changed (g.edits.2.takes q i)));
    told_alone = λ q z. not_in q taken z;
  }

  pub one_logged : LogsPart r v v1 (tree ++ inode)
  one_logged = trees_law.writes r v v1 n tree inode x.ready.consistent.sound (turn_writes blocks v v1 n tree inode x.ready.consistent.sound used_below turns)

  pub one_changes : ChangesOne r v v1 n (Some (spelled r (put_tx blocks g.mid pages) set))
  unfolding turns
  one_changes = turn_changes blocks v v1 n tree inode x.ready.consistent.sound used_below turns
