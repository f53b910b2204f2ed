-- A name goes, and then its object has one link less, or goes: what both steps log together.
use Rattle.std.proofs.Common.{◌≡◌, ◌≢◌, ◌⊎◌, ◌<◌, ◌≤◌, ◌+◌, ◌-◌, ◌==◌, ◌||◌, not, nat_lt, ℕ, Bool, true, false, List, [], ◌++◌, append_assoc, length, Some, refl, sym, ap, ◌∙◌, subst, inl, inr, arith}
use Rattle.std.proofs.lemmas.Bool.Decides.{nat_tests}
use Rattle.jfs_bits.specs.declared.descriptor.Moment.{Moment}
use Rattle.jfs_bits.specs.declared.rule.PageKind.TheVariants as kinds
use Rattle.jfs_imap.specs.Inodes.{Inodes}
use Rattle.jfs_inode.specs.declared.fields.Dinode.{Dinode}
use Rattle.jfs_ranges.specs.declared.edit.Edit.{Edit}
use Rattle.jfs_ranges.specs.Apply.{apply_tx}
use Rattle.jfs_ranges.specs.Laid.{put_tx, applied_length}
use Rattle.jfs_ranges.proofs.OnTop.{applied_onto}
use Rattle.jfs_tree.specs.Edit.{count_in}
use Rattle.jfs_unlink.specs.loss.specs.Inodes.{fallen, gone}
use Rattle.jfs_unlink.specs.loss.proofs.Counts.{count_append}
use Rattle.jfs_unlink.specs.loss.specs.bmap.specs.States.{Blocks}
use Rattle.jfs_unlink.specs.loss.specs.lead_steps.proofs.Again.{again}
use Rattle.jfs_unlink.specs.loss.specs.lead_steps.proofs.InPlace.{sets_in_place, counted_names, counted_extents}
use Rattle.jfs_unlink.specs.loss.specs.objects.specs.Readers.{Readers}
use Rattle.jfs_unlink.specs.loss.specs.objects.specs.Volume.{Volume}
use Rattle.jfs_unlink.specs.loss.specs.objects.specs.Objects.{objects, spelled, is_live}
use Rattle.jfs_unlink.specs.loss.specs.objects.specs.Owners.{IsSound, holds, bit}
use Rattle.jfs_unlink.specs.loss.specs.objects.specs.Laws.{ChangesOne, IsOwnedOnce}
use Rattle.jfs_unlink.specs.loss.specs.objects.specs.Changes.{put, PutsInode, SetsObject, DropsObject}
use Rattle.jfs_unlink.specs.loss.specs.objects.proofs.Owned.{owned_once}
use Rattle.jfs_unlink.specs.loss.specs.objects.proofs.Set.{object_is_set}
use Rattle.jfs_unlink.specs.loss.specs.objects.proofs.Drop.{object_goes}
use Rattle.jfs_unlink.specs.loss.specs.objects.proofs.Sums.{put_other, zero_or_more}
use Rattle.jfs_unlink.specs.loss.specs.meaning.specs.Readers.{readers}
use Rattle.jfs_unlink.specs.loss.specs.steps.specs.After.{after_call, used_after, frees}
use Rattle.jfs_unlink.specs.loss.specs.steps.specs.Laws.{TakesAndFrees, IsFair}
use Rattle.jfs_unlink.specs.loss.specs.steps.specs.Put.{AddsInode, TellsLines}
use Rattle.jfs_unlink.specs.loss.specs.steps.proofs.After.{after_is, counts, same_bits}
use Rattle.jfs_unlink.specs.loss.specs.steps.proofs.Puts.{put_within}
use Rattle.jfs_unlink.specs.loss.specs.steps.proofs.Sets.{lines_on_top}
use Rattle.jfs_unlink.specs.loss.specs.way.specs.Volume.{volume_of}
use Rattle.jfs_unlink.proofs.Ended.{used_within}
use Rattle.jfs_calls_logged.specs.Found.{IsFound}
use Rattle.jfs_calls_logged.specs.logged.specs.recovery.specs.records.specs.Redo.{closes_in}
use Rattle.jfs_calls_logged.specs.logged.specs.recovery.specs.kinds.specs.Owner.{owner_of, has_page}
use Rattle.jfs_calls_logged.specs.logged.specs.recovery.specs.kinds.specs.Owner.Owner.{Inodes as OfInodes, Tree as OfTree}
use Rattle.jfs_calls_logged.specs.logged.specs.recovery.specs.kinds.proofs.Logged.{logged_law}
use Rattle.jfs_calls_logged.specs.logged.specs.recovery.specs.kinds.proofs.Parts.{parts}
use Rattle.jfs_calls_logged.specs.logged.specs.recovery.specs.kinds.proofs.Single.{has_owners}
use Rattle.jfs_calls_logged.specs.logged.specs.Logged.{LeavesPage}
use Rattle.jfs_calls_logged.specs.logged.specs.Own.{LogsItsOwn, LogsPart}
use Rattle.jfs_calls_logged.specs.logged.specs.Kinds.{HasTrees}
use Rattle.jfs_calls_logged.specs.logged.proofs.Edited.{inode_law}
use Rattle.jfs_calls_logged.specs.logged.proofs.Joined.{join_law}
use Rattle.jfs_calls_logged.specs.logged.proofs.Ordered.{order_law}
use Rattle.jfs_calls_logged.specs.logged.proofs.Pages.{closes_onto, leaves_onto}
use Rattle.jfs_calls_logged.specs.logged.proofs.Staged.{runs_law}
use Rattle.jfs_calls_logged.specs.logged.proofs.Written.{trees_law}
use Rattle.jfs_calls_logged.specs.logged.specs.Stages.{ArePageRuns}
use Rattle.jfs_calls_logged.specs.logged.specs.Written.{WritesTree, DropsTree}
use Rattle.jfs_names_logged.proofs.After.{put_onto}
use Rattle.jfs_names_logged.proofs.Frees.{FreesTree}
use Rattle.jfs_names_logged.proofs.Loses.{Losing}
use Rattle.jfs_names_logged.proofs.Loses as loss

-- The object that the name led to is another one; its inode is put behind that. What was freed before is its own.
pub record Ending (blocks : ℕ) (pages : ℕ → List ℕ) (area : ℕ → ℕ) (bm : Blocks) (inodes : Inodes) (x : Losing blocks pages area bm inodes) : Type 0 where
  pub found : IsFound blocks pages area bm inodes x.next
  pub other : x.next.number ≢ x.dir.number
  pub held : (b : ℕ) → count_in b x.before ≤ holds (readers blocks) (objects (readers blocks) (volume_of pages area bm inodes) x.next.number) b
  pub tx : List Edit
  pub after : Dinode
  pub puts : AddsInode blocks pages x.next.page x.next.number after x.lost tx
  pub lines : TellsLines blocks pages x.next.page x.lost tx

pub some_is : {A : Type 0} {x y : A} → Some x ≡ Some y → x ≡ y
some_is h = cc (h)

module _ (blocks : ℕ) (pages : ℕ → List ℕ) (area : ℕ → ℕ) (bm : Blocks) (inodes : Inodes) (x : Losing blocks pages area bm inodes) (y : Ending blocks pages area bm inodes x) where
  abbrev r : Readers
  r = readers blocks

  abbrev v : Volume
  v = volume_of pages area bm inodes

  abbrev v1 : Volume
  v1 = loss.v1 blocks pages area bm inodes x

  abbrev n : ℕ
  n = x.dir.number

  abbrev m : ℕ
  m = x.next.number

  abbrev md : Dinode
  md = x.next.inode

  abbrev tx : List Edit
  tx = y.tx

  abbrev first : List Edit
  first = x.first

  abbrev freed : List ℕ
  freed = loss.freed blocks pages area bm inodes x

  -- the directory's part, and what puts the object's inode
  abbrev own : List Edit
  own = loss.tree blocks pages area bm inodes x ++ loss.inode blocks pages area bm inodes x

  abbrev last : List Edit
  last = y.lines.0

  runs : ArePageRuns x.next.page last
  runs = runs_law x.next.page kinds.Inode (put_tx blocks x.lost pages x.next.page) (put_tx blocks tx pages x.next.page) 0 last y.lines.2

  tx_is : tx ≡ first ++ (own ++ last)
  tx_is = y.lines.1 ∙ ap (λ (e : List Edit). e ++ last) (loss.lost_is blocks pages area bm inodes x) ∙ append_assoc first own last

  sound : IsSound r v
  sound = x.ready.consistent.sound

  once : IsOwnedOnce r v
  once = owned_once r v sound.agrees

  one : ChangesOne r v v1 n (Some (spelled r (put_tx blocks x.loses.mid pages) (loss.set blocks pages area bm inodes x)))
  one = loss.one_changes blocks pages area bm inodes x

  -- the object is as it was
  same_m : objects r v1 m ≡ objects r v m
  same_m = one.objects_are m ∙ put_other n (Some (spelled r (put_tx blocks x.loses.mid pages) (loss.set blocks pages area bm inodes x))) (objects r v) m y.other

  -- ---- blocks

  moves : TakesAndFrees tx [] (x.before ++ x.loses.tells.0)
  moves = lines_on_top blocks pages x.next.page x.lost tx [] (x.before ++ x.loses.tells.0) (loss.lost_moves blocks pages area bm inodes x) y.lines

  frees_are : (b : ℕ) → frees tx b ≡ count_in b x.before + count_in b freed
  frees_are b = let f = moves.freed_are b in let a = count_append b x.before x.loses.tells.0 in let g = loss.gone_same blocks pages area bm inodes x b in omega (arith, f, a, g)

  held_n : (b : ℕ) → count_in b freed ≤ holds r (objects r v n) b
  held_n b = loss.freed_held blocks pages area bm inodes x b

  both_once : (b : ℕ) → count_in b x.before + count_in b freed ≤ 1
  both_once b = elim (zero_or_more (holds r (objects r v n) b)) [
    | inl z ↦ (let h = y.held b in let d = held_n b in let o = once.once m b in omega (arith, h, d, o, z))
    | inr l ↦ (let h = y.held b in let d = held_n b in let o = once.once n b in let a = once.alone n m b y.other l in omega (arith, h, d, o, a))
  ]

  fair : IsFair tx v.used
  fair = record {
    fresh = λ b l. absurd (let z = moves.taken_are b in omega (arith, z, l));
    owned = λ b l. elim (zero_or_more (count_in b x.before)) [
      | inl z ↦ once.in_use n b (let f = frees_are b in let d = held_n b in omega (arith, f, d, z, l))
      | inr k ↦ once.in_use m b (let h = y.held b in omega (arith, h, k))
    ];
    once = λ b. (let z = moves.taken_are b in let f = frees_are b in let o = both_once b in omega (arith, z, f, o));
  }

  counted : (b : ℕ) → bit (used_after tx v.used b) + (count_in b x.before + count_in b freed) ≡ bit (v.used b)
  counted b = let c = counts tx v.used fair b in let z = moves.taken_are b in let f = frees_are b in omega (arith, c, z, f)

  used_one : (b : ℕ) → bit (v1.used b) + count_in b freed ≡ bit (v.used b)
  used_one b = loss.used_one blocks pages area bm inodes x b

  is_true : (s t : Bool) → bit s ≤ bit t → s ≡ true → t ≡ true
  is_true true true h e = refl
  is_true true false h e = absurd (omega (arith, h))
  is_true false t h e = absurd (cc (e))

  puts_m : PutsInode v1.page (put_tx blocks tx pages) v1.extents m y.after
  puts_m = y.puts v.extents y.found.home_is

  pages_on : (q : ℕ) → q < blocks → put_tx blocks tx pages q ≡ apply_tx q last (v1.page q)
  pages_on q l = ap (λ (e : List Edit). put_tx blocks e pages q) y.lines.1 ∙ put_onto blocks pages x.lost last q l

  within : (q : ℕ) → v.used q ≡ true → q < blocks
  within = used_within blocks pages area bm inodes x.ready.consistent x.many

  below : (q : ℕ) → v1.used q ≡ true → q < blocks
  below q used = within q (is_true (v1.used q) (v.used q) (let o = used_one q in omega (arith, o)) used)

  is_after : (w : Volume) → w.page ≡ put_tx blocks tx pages → w.extents ≡ v.extents → w.area ≡ v.area → ((b : ℕ) → w.used b ≡ used_after tx v.used b) → IsSound r w → w ≡ after_call blocks tx v
  is_after w page extents area used s = after_is blocks tx v w (record {
    page = page;
    extents = extents ∙ sym (moves.extents_stay v.extents);
    area = area;
    used = used;
    in_use = s.agrees.inodes;
  })

  -- ---- the object has one link less

  module _ (now : Moment) (fall : y.after ≡ fallen md now) (live : is_live m (fallen md now) ≡ true) (none : first ≡ []) (nothing : x.before ≡ []) where
    abbrev w : Volume
    w = record v { page = put_tx blocks tx pages; used = v1.used; in_use = put n true v.in_use }

    was_now : objects r v1 m ≡ Some (spelled r v1.page md)
    was_now = (again r v1 pages m md (same_m ∙ y.found.was)).0

    puts_fallen : PutsInode v1.page w.page v1.extents m (fallen md now)
    puts_fallen = subst (λ (d : Dinode). PutsInode v1.page w.page v1.extents m d) fall puts_m

    two : SetsObject r v1 w m (fallen md now) v1.page [] []
    two = sets_in_place r v1 w one.sound m md (fallen md now) was_now live (counted_names blocks v1.page md (md.nlink - 1) now) (counted_extents blocks v1.page md (md.nlink - 1) now) refl refl puts_fallen refl refl refl (λ k. refl)

    trees : HasTrees (spelled r v1.page md) (spelled r v1.page (fallen md now))
    unfolding spelled
    trees = record { names = refl; extents = refl; regular = refl }

    last_logged : LogsPart r v1 w last
    last_logged = inode_law r v1 w m x.next.page md (fallen md now) (put_tx blocks x.lost pages x.next.page) (put_tx blocks tx pages x.next.page) last one.sound (record {
      at = y.found.home_is;
      was = was_now;
      sets = two;
      trees = trees;
      pages = λ q was now. pages_on q (below q was);
      runs = y.lines.2;
    })

    used_now : (b : ℕ) → w.used b ≡ used_after tx v.used b
    used_now b = same_bits (v1.used b) (used_after tx v.used b) (let o = used_one b in let c = counted b in let z = ap (count_in b) nothing in omega (arith, o, c, z))

    pub fallen_logged : LogsItsOwn r v (after_call blocks tx v) tx
    fallen_logged = subst (λ (u : Volume). LogsItsOwn r v u tx) (is_after w refl refl refl used_now (object_is_set r v1 w m (fallen md now) v1.page [] [] one.sound two).0.sound)
        (subst (λ (e : List Edit). LogsItsOwn r v w e) (sym (tx_is ∙ ap (λ (e : List Edit). e ++ (own ++ last)) none))
        (join_law.all r v v1 w own last (loss.one_logged blocks pages area bm inodes x) last_logged (λ b was now. now)))

  -- ---- it goes

  module _ (dead : y.after ≡ gone md) (late : 4 ≤ m) (all : (b : ℕ) → count_in b x.before ≡ holds r (objects r v m) b) (frees_tree : FreesTree (has_page r (objects r v m)) first) where
    abbrev u : Volume
    u = record v { page = put_tx blocks tx pages; used = used_after tx v.used; in_use = put m false (put n true v.in_use) }

    not_live : is_live m y.after ≡ false
    not_live = ap (is_live m) dead ∙ ap (λ (b : Bool). b || not (0 == 0)) (not_low m late)
      where
        not_low : (k : ℕ) → 4 ≤ k → nat_lt k 4 ≡ false
        not_low k l = grind (arith, nat_tests, l)

    drops : DropsObject r v1 u m y.after x.before
    drops = record {
      dead = not_live;
      all = λ b. all b ∙ ap (λ o. holds r o b) (sym same_m);
      puts = puts_m;
      used = λ b. (let c = counted b in let o = used_one b in omega (arith, c, o));
      extents = refl;
      area = refl;
      in_use = λ k. refl;
    }

    has_same : (q : ℕ) → has_page r (objects r v1 m) q ≡ has_page r (objects r v m) q
    has_same q = ap (λ o. has_page r o q) same_m

    -- what frees the object leaves the pages that the first step left
    stays : (q : ℕ) → q < blocks → apply_tx q first (v1.page q) ≡ v1.page q
    stays q l = frees_tree.leaves q (v1.page q) (ap (λ (p : List ℕ). length p) (put_within blocks x.lost pages q l) ∙ applied_length q x.lost (pages q) ∙ x.ready.are_pages.sizes q l)

    drops_tree : DropsTree r v1 u m first last
    drops_tree = record {
      page = x.next.page;
      left = y.after;
      freed = x.before;
      at = y.found.home_is;
      drops = drops;
      pages = λ q was now. pages_on q (below q was) ∙ ap (apply_tx q last) (sym (stays q (below q was))) ∙ sym (applied_onto q first last (v1.page q));
      runs = runs;
      go = λ q some. frees_tree.go q (let h = has_same q in omega (arith, h, some));
      stay = λ q zero. frees_tree.stay q (let h = has_same q in omega (arith, h, zero));
      leaves = frees_tree.leaves;
    }

    taken_none : (b : ℕ) → v.used b ≡ true → u.used b ≡ true → v1.used b ≡ true
    taken_none b was now = is_true (u.used b) (v1.used b) (let c = counted b in let o = used_one b in omega (arith, c, o)) now

    in_turn : LogsPart r v u (own ++ (first ++ last))
    in_turn = join_law.parts r v v1 u own (first ++ last) (loss.one_logged blocks pages area bm inodes x) (trees_law.drops r v1 u m first last one.sound drops_tree) taken_none (λ b free there. absurd (let o = used_one b in let f = ap bit free in let t = ap bit there in omega (arith, o, f, t)))

    -- the directory's part leaves the object's tree pages
    apart : (q : ℕ) → closes_in q first ≡ true → (closes_in q own ≡ false) × LeavesPage q own
    apart q some = by (zero_or_more (has_page r (objects r v m) q))
      where
        writes : WritesTree r v v1 n (loss.tree blocks pages area bm inodes x) (loss.inode blocks pages area bm inodes x)
        writes = loss.one_writes blocks pages area bm inodes x

        no : true ≡ false → ⊥
        no h = cc (h)

        ours : 0 < has_page r (objects r v m) q → (closes_in q own ≡ false) × LeavesPage q own
        ours l = (
          closes_onto q (loss.tree blocks pages area bm inodes x) (loss.inode blocks pages area bm inodes x) (writes.tells.open_are q not_gone) (writes.runs.closes_none q),
          leaves_onto q (loss.tree blocks pages area bm inodes x) (loss.inode blocks pages area bm inodes x) (writes.tells.others q (writes.others q none_then not_gone)) (writes.runs.others q not_page),
        )
          where
            not_n : holds r (objects r v n) q ≡ 0
            not_n = once.alone m n q (λ e. y.other (sym e)) (let p = parts r (objects r v m) q in omega (arith, p, l))

            none_freed : count_in q freed ≡ 0
            none_freed = let h = held_n q in omega (arith, h, not_n)

            not_gone : count_in q writes.gone ≡ 0
            not_gone = elim (zero_or_more (count_in q writes.gone)) [
              | inl z ↦ z
              | inr k ↦ absurd (let f = ap bit (writes.gone_are q k).0 in let o = used_one q in let u = ap bit (once.in_use m q (let p = parts r (objects r v m) q in omega (arith, p, l))) in omega (arith, f, o, u, none_freed))
            ]

            -- a page of another object isn't taken
            none_taken : count_in q writes.taken ≡ 0
            none_taken = elim (zero_or_more (count_in q writes.taken)) [
              | inl z ↦ z
              | inr k ↦ absurd (no (sym (once.in_use m q (let p = parts r (objects r v m) q in omega (arith, p, l))) ∙ writes.sets.takes.fresh q k))
            ]

            none_then : has_page r (Some (spelled r writes.mid writes.set)) q ≡ 0
            none_then = let b = writes.sets.blocks q in let p = parts r (Some (spelled r writes.mid writes.set)) q in let t = none_taken in omega (arith, b, p, t, not_n)

            different : Some (OfTree m) ≡ Some OfInodes → ⊥
            different h = cc (h)

            not_page : q ≢ writes.page
            not_page e = different (sym ((has_owners r v sound.agrees).alone q (OfTree m) l) ∙ ap (owner_of r v) e ∙ (logged_law.reads r v sound).inodes n writes.page writes.at)

        by : (has_page r (objects r v m) q ≡ 0) ⊎ (0 < has_page r (objects r v m) q) → (closes_in q own ≡ false) × LeavesPage q own
        by (inl z) = absurd (no (sym some ∙ frees_tree.stay q z))
        by (inr l) = ours l

    pages_are : (q : ℕ) → v.used q ≡ true → u.used q ≡ true → u.page q ≡ apply_tx q (first ++ (own ++ last)) (pages q)
    pages_are q was now = put_within blocks tx pages q (within q was) ∙ ap (λ (e : List Edit). apply_tx q e (pages q)) tx_is

    pub gone_logged : LogsItsOwn r v (after_call blocks tx v) tx
    gone_logged = subst (λ (w : Volume). LogsItsOwn r v w tx) (is_after u refl refl refl (λ b. refl) (object_goes r v1 u m y.after x.before one.sound drops).sound)
        (subst (λ (e : List Edit). LogsItsOwn r v u e) (sym tx_is) (order_law r v u own first last pages_are frees_tree.leaves apart in_turn).own)
