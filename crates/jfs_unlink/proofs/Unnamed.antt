-- A name goes from a directory, and then the object that it named is set, or goes: the volume after both, and the plain tree beside it.
use Rattle.std.proofs.Common.{◌≡◌, ◌≢◌, ◌≤◌, ◌<◌, refl, sym, ap, ◌∙◌, subst, inl, inr, ℕ, ◌+◌, ◌-◌, ◌&&◌, ◌||◌, not, Bool, true, false, true≢false, ◌==◌, List, [], ◌++◌, length, Option, Some, None, Ok, arith}
use Rattle.std.proofs.lemmas.Bool.Decides.{nat_tests}
use Rattle.std.specs.Prelude.{nat_lt}
use Rattle.std.specs.Option.{option_map}
use Rattle.jfs_bits.specs.Broken.{first_broken}
use Rattle.jfs_bits.specs.declared.descriptor.Moment.{Moment}
use Rattle.jfs_bits.specs.declared.rule.PageKind.TheVariants.{Dtree}
use Rattle.jfs_inode.specs.Rules.{rows}
use Rattle.jfs_inode.specs.declared.fields.Dinode.{Dinode}
use Rattle.jfs_name.specs.Directory.{without_name}
use Rattle.jfs_name.specs.declared.name.NameEntry.{NameEntry}
use Rattle.jfs_ranges.specs.declared.edit.Edit.{Edit}
use Rattle.jfs_ranges.specs.Apply.{apply_tx}
use Rattle.jfs_ranges.specs.Laid.{put_tx}
use Rattle.jfs_tree.specs.Changes.{TellsGone}
use Rattle.jfs_tree.specs.Edit.{count_in}
use Rattle.jfs_tree.specs.Fresh.{LeadsTo, after_tx}
use Rattle.jfs_tree.specs.Removes.{page_frees}
use Rattle.jfs_dtree.specs.Parent.{parent_of}
use Rattle.jfs_dtree.specs.Spells.{spells_names}
use Rattle.jfs_dtree.specs.Removing.{HasOneLessName, RemovesName}
use Rattle.jfs_plain.specs.Tree.{Tree}
use Rattle.jfs_plain.specs.Moves.{stamped, falls, changed, dropped}
use Rattle.jfs_loss.specs.objects.specs.Readers.{Readers}
use Rattle.jfs_loss.specs.objects.specs.Volume.{Volume}
use Rattle.jfs_loss.specs.objects.specs.Objects.{Object, objects, spelled, is_live, has_names}
use Rattle.jfs_loss.specs.objects.specs.Owners.{holds, bit}
use Rattle.jfs_loss.specs.objects.specs.Changes.{put, PutsInode, SetsObject}
use Rattle.jfs_loss.specs.objects.specs.Laws.{IsOwnedOnce}
use Rattle.jfs_loss.specs.objects.proofs.Owned.{owned_once}
use Rattle.jfs_loss.specs.objects.proofs.Sums.{zero_or_more}
use Rattle.jfs_loss.specs.meaning.specs.Readers.{readers, root_of}
use Rattle.jfs_loss.specs.meaning.specs.Contents.{byte_in}
use Rattle.jfs_loss.specs.meaning.specs.Node.{node_in}
use Rattle.jfs_loss.specs.lead_steps.specs.Reached.{HasTree}
use Rattle.jfs_loss.specs.lead_steps.proofs.Again.{again}
use Rattle.jfs_loss.specs.lead_steps.proofs.Chain.{set_has, set_other, drop_has}
use Rattle.jfs_loss.specs.lead_steps.proofs.InPlace.{sets_in_place, counted_names, counted_extents, counted_bytes, counted_rules, falls_now}
use Rattle.jfs_loss.specs.lead_steps.proofs.Named.{loses_set, loses_have}
use Rattle.jfs_loss.specs.lead_steps.proofs.Turned.{turns, dir_holds, no_extents_of}
use Rattle.jfs_loss.specs.steps.specs.Put.{TellsLines}
use Rattle.jfs_loss.specs.steps.specs.After.{used_after, extents_after, frees}
use Rattle.jfs_loss.specs.steps.specs.Laws.{TakesAndFrees, IsFair}
use Rattle.jfs_loss.specs.steps.proofs.After.{counts, same_bits}
use Rattle.jfs_loss.specs.steps.proofs.Areas.{puts_leave, set_leaves}
use Rattle.jfs_loss.specs.steps.proofs.Sets.{frees_move, lines_on_top}
use Rattle.jfs_loss.specs.Inodes.{lessened, fallen, gone}
use Rattle.jfs_loss.proofs.Counts.{count_append, frees_then, changes_move, same_moves}

-- blocks that are no longer in use
abbrev pub without : (ℕ → Bool) → List ℕ → ℕ → Bool
without used freed b = used b && count_in b freed == 0

bit_without : (used : ℕ → Bool) (freed : List ℕ) (b : ℕ) → count_in b freed ≤ 1 → (0 < count_in b freed → used b ≡ true) → bit (without used freed b) + count_in b freed ≡ bit (used b)
bit_without used freed b once owned = by (used b) (count_in b freed) once owned
  where
    zero_is : (k : ℕ) → k ≡ 0 → (k == 0) ≡ true
    zero_is k e = grind (arith, nat_tests, e)

    one_isnt : (k : ℕ) → 0 < k → (k == 0) ≡ false
    one_isnt k l = grind (arith, nat_tests, l)

    by : (x : Bool) (k : ℕ) → k ≤ 1 → (0 < k → x ≡ true) → bit (x && k == 0) + k ≡ bit x
    by true k once owned = elim (zero_or_more k) [
      | inl e ↦ rw (zero_is k e) (omega (arith, e))
      | inr l ↦ rw (one_isnt k l) (omega (arith, once, l))
    ]
    by false k once owned = elim (zero_or_more k) [
      | inl e ↦ omega (arith, e)
      | inr l ↦ absurd (true≢false (sym (owned l)))
    ]

module _ (blocks : ℕ) (v : Volume) (t : Tree) (has : HasTree (readers blocks) v t) (within : (b : ℕ) → v.used b ≡ true → b < blocks) (whole : (b : ℕ) → b < blocks → length (v.page b) ≡ 4096)
    -- the directory
    (n np : ℕ) (dd : Dinode) (was_n : objects (readers blocks) v n ≡ Some (spelled (readers blocks) v.page dd)) (dir : has_names dd ≡ true) (size : length dd.rest ≡ 384)
    (es : List NameEntry) (spelled_es : spells_names blocks v.page (root_of dd) ≡ Ok es)
    -- the object
    (m mp : ℕ) (md after_m : Dinode) (was_m : objects (readers blocks) v m ≡ Some (spelled (readers blocks) v.page md)) (other : m ≢ n)
    (name : List ℕ) (links : ℕ → ℕ) (fewer : ℕ) (few : links dd.nlink ≤ 65535) (live : is_live n (record dd { nlink = links dd.nlink }) ≡ true) (now : Moment)
    -- first edits that free what the object has, or nothing; then the name's, and the two inodes'
    (first mid lost tx : List Edit) (stays : (b : ℕ) → b < blocks → apply_tx b first (v.page b) ≡ v.page b) (before : List ℕ) (moves : TakesAndFrees first [] before)
    (held : (b : ℕ) → count_in b before ≤ holds (readers blocks) (objects (readers blocks) v m) b)
    (root : List ℕ) (inode : ℕ) (width : length root ≡ 288) (parent : parent_of root ≡ parent_of (root_of dd))
    (removes : RemovesName blocks v.page name (root_of dd) root first mid inode) (tells : TellsGone blocks Dtree v.page first mid)
    (puts_n : PutsInode (put_tx blocks mid v.page) (put_tx blocks lost v.page) v.extents n (lessened dd root (links dd.nlink) fewer now)) (lines_n : TellsLines blocks v.page np mid lost)
    (puts_m : PutsInode (put_tx blocks lost v.page) (put_tx blocks tx v.page) v.extents m after_m) (lines_m : TellsLines blocks v.page mp lost tx) where
  abbrev r : Readers
  r = readers blocks

  once : IsOwnedOnce r v
  once = owned_once r v has.sound.agrees

  leads : LeadsTo blocks v.page first v.page
  leads b l = (whole b l, stays b l)

  abbrev freed : List ℕ
  freed = (removes es spelled_es).1.0

  less : HasOneLessName blocks name es v.page (after_tx v.page mid) (root_of dd) root freed
  less = (removes es spelled_es).1.2 v.page leads

  -- ---- the blocks

  dir_freed : (b : ℕ) → count_in b freed ≤ holds r (objects r v n) b
  dir_freed b = let o = less.owned b in let h = dir_holds blocks v.page dd es b dir (no_extents_of dd dir) spelled_es in let w = ap (λ o. holds r o b) was_n in omega (arith, o, h, w)

  mid_moves : TakesAndFrees mid [] (before ++ freed)
  mid_moves = same_moves mid (before ++ tells.0) (before ++ freed) (changes_move blocks Dtree v.page (page_frees tells.0) first mid before tells.0 (λ first bytes. refl) moves (frees_move tells.0) tells.1)
      (λ b. (let f = frees_then b first mid (page_frees freed) (removes es spelled_es).1.1 in let g = moves.freed_are b in let p = (frees_move freed).freed_are b in let a = count_append b before freed in omega (arith, f, g, p, a)))

  tx_moves : TakesAndFrees tx [] (before ++ freed)
  tx_moves = lines_on_top blocks v.page mp lost tx [] (before ++ freed) (lines_on_top blocks v.page np mid lost [] (before ++ freed) mid_moves lines_n) lines_m

  frees_are : (b : ℕ) → frees tx b ≡ count_in b before + count_in b freed
  frees_are b = tx_moves.freed_are b ∙ count_append b before freed

  both_once : (b : ℕ) → count_in b before + count_in b freed ≤ 1
  both_once b = elim (zero_or_more (holds r (objects r v n) b)) [
    | inl z ↦ (let h = held b in let d = dir_freed b in let o = once.once m b in omega (arith, h, d, o, z))
    | inr l ↦ (let h = held b in let d = dir_freed b in let o = once.once n b in let a = once.alone n m b other l in omega (arith, h, d, o, a))
  ]

  used_before : (b : ℕ) → 0 < count_in b before → v.used b ≡ true
  used_before b l = once.in_use m b (let h = held b in omega (arith, h, l))

  used_freed : (b : ℕ) → 0 < count_in b freed → v.used b ≡ true
  used_freed b l = once.in_use n b (let d = dir_freed b in omega (arith, d, l))

  -- the transaction frees blocks in use, each once, and takes none
  pub fair : IsFair tx v.used
  fair = record {
    fresh = λ b l. absurd (let z = tx_moves.taken_are b in omega (arith, z, l));
    owned = λ b l. elim (zero_or_more (count_in b before)) [
      | inl z ↦ used_freed b (let f = frees_are b in omega (arith, f, z, l))
      | inr k ↦ used_before b k
    ];
    once = λ b. (let z = tx_moves.taken_are b in let f = frees_are b in let o = both_once b in omega (arith, z, f, o));
  }

  pub extents_stay : extents_after tx v.extents ≡ v.extents
  extents_stay = tx_moves.extents_stay v.extents

  used_counted : (b : ℕ) → bit (used_after tx v.used b) + (count_in b before + count_in b freed) ≡ bit (v.used b)
  used_counted b = let c = counts tx v.used fair b in let z = tx_moves.taken_are b in let f = frees_are b in omega (arith, c, z, f)

  -- ---- the directory is set

  abbrev pub v1 : Volume
  v1 = record v { page = put_tx blocks lost v.page; used = without v.used freed; in_use = put n true v.in_use }

  used_one : (b : ℕ) → bit (v1.used b) + count_in b freed ≡ bit (v.used b)
  used_one b = bit_without v.used freed b (let o = both_once b in omega (arith, o)) (used_freed b)

  abbrev pub t1 : Tree
  t1 = changed n (turns (without_name name) links now) t

  one : SetsObject r v v1 n (lessened dd root (links dd.nlink) fewer now) (put_tx blocks mid v.page) [] freed
  one = loses_set blocks v.page first v v1 leads (λ b l. refl) t has within n dd was_n dir size links (dd.nblocks - fewer) live few root width parent now es spelled_es mid puts_n refl refl (λ k. refl) name freed less used_one

  -- the fixed areas stay
  pub areas_stay : (b : ℕ) → 0 < v.area b → put_tx blocks tx v.page b ≡ v.page b
  areas_stay b h = puts_leave r v has.sound.agrees (put_tx blocks lost v.page) (put_tx blocks tx v.page) m after_m puts_m b h
      ∙ set_leaves r v has.sound.agrees v1 n (lessened dd root (links dd.nlink) fewer now) (put_tx blocks mid v.page) [] freed one b h

  has_one : HasTree r v1 t1
  has_one = loses_have blocks v.page first v v1 leads (λ b l. refl) t has within n dd was_n dir size links (dd.nblocks - fewer) live few root width parent now es spelled_es mid puts_n refl refl (λ k. refl) name freed less used_one

  -- the object is as it was
  same_m : objects r v1 m ≡ objects r v m
  same_m = set_other r v v1 t has n (lessened dd root (links dd.nlink) fewer now) (put_tx blocks mid v.page) [] freed one m other

  -- ---- the object goes

  module _ (late : 4 ≤ m) (dead : after_m ≡ gone md) (all : (b : ℕ) → count_in b before ≡ holds r (objects r v m) b) where
    abbrev pub dropped_volume : Volume
    dropped_volume = record v { page = put_tx blocks tx v.page; used = used_after tx v.used; in_use = put m false (put n true v.in_use) }

    not_live : is_live m after_m ≡ false
    not_live = ap (is_live m) dead ∙ ap (λ (x : Bool). x || not (0 == 0)) (not_low m late)
      where
        not_low : (m : ℕ) → 4 ≤ m → nat_lt m 4 ≡ false
        not_low m l = grind (arith, nat_tests, l)

    pub has_dropped : HasTree r dropped_volume (dropped m t1)
    has_dropped = drop_has r v1 dropped_volume t1 has_one m after_m before (record {
      dead = not_live;
      all = λ b. all b ∙ ap (λ o. holds r o b) (sym same_m);
      puts = puts_m;
      used = λ b. (let u = used_counted b in let o = used_one b in omega (arith, u, o));
      extents = refl;
      area = refl;
      in_use = λ k. refl;
    })

  -- ---- it has one link less

  module _ (fall : after_m ≡ fallen md now) (stays_live : is_live m (fallen md now) ≡ true) (few_m : md.nlink - 1 ≤ 65535) (rules_m : first_broken (rows md m) ≡ None) (none : before ≡ []) where
    abbrev pub fallen_volume : Volume
    fallen_volume = record v { page = put_tx blocks tx v.page; used = without v.used freed; in_use = put n true v.in_use }

    was_now : objects r v1 m ≡ Some (spelled r v1.page md)
    was_now = (again r v1 v.page m md (same_m ∙ was_m)).0

    puts_fallen : PutsInode v1.page fallen_volume.page v1.extents m (fallen md now)
    puts_fallen = subst (λ (d : Dinode). PutsInode v1.page fallen_volume.page v1.extents m d) fall puts_m

    two : SetsObject r v1 fallen_volume m (fallen md now) v1.page [] []
    two = sets_in_place r v1 fallen_volume has_one.sound m md (fallen md now) was_now stays_live (counted_names blocks v1.page md (md.nlink - 1) now) (counted_extents blocks v1.page md (md.nlink - 1) now) refl refl puts_fallen refl refl refl (λ k. refl)

    pub has_fallen : HasTree r fallen_volume (changed m (λ o. stamped now (falls o)) t1)
    has_fallen = set_has r v1 fallen_volume t1 has_one m (fallen md now) v1.page [] [] two (λ o. stamped now (falls o))
        (falls_now blocks v1.page md now ∙ ap (option_map (λ o. stamped now (falls o))) (sym (ap (node_in r v1.page) was_now)))
        (λ i. counted_bytes blocks v1.page md (md.nlink - 1) now i ∙ sym (ap (λ (o : Option Object). byte_in r v1.page o i) was_now))
        (counted_rules blocks v1.page md (md.nlink - 1) now m few_m rules_m)

    pub used_fallen : (b : ℕ) → fallen_volume.used b ≡ used_after tx v.used b
    used_fallen b = same_bits (without v.used freed b) (used_after tx v.used b) (let o = used_one b in let u = used_counted b in let z = ap (count_in b) none in omega (arith, o, u, z))
