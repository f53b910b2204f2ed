-- An object is made: its directory gains the name, an inode extent is added if there is a new one, and its inode is put.
use Rattle.std.proofs.Common.{◌≡◌, ◌≢◌, ◌<◌, ◌≤◌, ◌+◌, ◌*◌, ◌/◌, ◌%◌, ◌&&◌, nat_le, nat_lt, if◌then◌else◌, ℕ, Bool, true, false, List, [], ◌∷◌, ◌++◌, length, length-append, get_or, set, Option, Some, None, refl, sym, ap, ◌∙◌, subst, inl, inr, arith}
use Rattle.std.proofs.lemmas.Bool.{and_parts, ltb-true}
use Rattle.std.proofs.lemmas.List.{get_or-set_same}
use Rattle.jfs_bits.specs.declared.rule.PageKind.TheVariants as kinds
use Rattle.jfs_imap.specs.Inodes.{Inodes}
use Rattle.jfs_inode.specs.declared.fields.Dinode.{Dinode}
use Rattle.jfs_ranges.specs.declared.edit.Edit.{Edit}
use Rattle.jfs_ranges.specs.declared.edit.Edit.TheVariants.{Lines}
use Rattle.jfs_ranges.specs.Apply.{apply_tx}
use Rattle.jfs_ranges.specs.Laid.{put_tx, applied_length}
use Rattle.jfs_tree.specs.Fresh.{blocks_of}
use Rattle.jfs_create.specs.bmap.specs.States.{Blocks}
use Rattle.jfs_create.specs.Extent.{TellsExtent}
use Rattle.jfs_create.specs.Makes.{IsBetween, IsNewPlace, CanStand}
use Rattle.jfs_create.specs.declared.extent.NewExtent.{NewExtent}
use Rattle.jfs_create.proofs.Extents.{adds, extents_are, used_are}
use Rattle.jfs_create.proofs.Made.{HasNothing}
use Rattle.jfs_create.specs.link.specs.objects.specs.Readers.{Readers}
use Rattle.jfs_create.specs.link.specs.objects.specs.Volume.{Volume, home, page_in}
use Rattle.jfs_create.specs.link.specs.objects.specs.Objects.{Object, objects, spelled, is_live}
use Rattle.jfs_create.specs.link.specs.objects.specs.Owners.{IsSound, bit, holds}
use Rattle.jfs_create.specs.link.specs.objects.specs.Owners as owners
use Rattle.jfs_create.specs.link.specs.objects.specs.Laws.{ChangesOne}
use Rattle.jfs_create.specs.link.specs.objects.specs.Changes.{put, PutsInode, SetsObject, AddsExtent}
use Rattle.jfs_create.specs.link.specs.objects.proofs.Extent.{extent_law}
use Rattle.jfs_create.specs.link.specs.objects.proofs.Set.{object_is_set}
use Rattle.jfs_create.specs.link.specs.objects.proofs.Sums.{put_other, zero_or_more}
use Rattle.jfs_create.specs.link.specs.meaning.specs.Readers.{readers}
use Rattle.jfs_create.specs.link.specs.steps.specs.After.{used_after, extents_after, after_call}
use Rattle.jfs_create.specs.link.specs.steps.specs.Put.{AddsInode, TellsLines}
use Rattle.jfs_create.specs.link.specs.steps.proofs.After.{after_is}
use Rattle.jfs_create.specs.link.specs.steps.proofs.Puts.{put_within}
use Rattle.jfs_create.specs.link.specs.way.specs.Volume.{volume_of}
use Rattle.jfs_names_logged.specs.calls_logged.specs.logged.specs.recovery.specs.kinds.specs.Owner.{has_page, has_data}
use Rattle.jfs_names_logged.specs.calls_logged.specs.logged.specs.recovery.specs.kinds.specs.Laws.{KeepsKinds}
use Rattle.jfs_names_logged.specs.calls_logged.specs.logged.specs.recovery.specs.kinds.proofs.Parts.{parts}
use Rattle.jfs_names_logged.specs.calls_logged.specs.logged.specs.Own.{LogsItsOwn, LogsPart}
use Rattle.jfs_names_logged.specs.calls_logged.specs.logged.specs.Stages.{ArePageRuns}
use Rattle.jfs_names_logged.specs.calls_logged.specs.logged.proofs.Joined.{join_law}
use Rattle.jfs_names_logged.specs.calls_logged.specs.logged.proofs.Staged.{runs_law}
use Rattle.jfs_names_logged.specs.calls_logged.specs.logged.proofs.Written.{trees_law}
use Rattle.jfs_names_logged.proofs.After.{put_onto}
use Rattle.jfs_gains_logged.proofs.Extent.{extent_logged}
use Rattle.jfs_gains_logged.proofs.Gains.{Gaining}
use Rattle.jfs_gains_logged.proofs.Gains as gains
use Rattle.jfs_gains_logged.proofs.Links.{lines_used, lines_extents}

-- ---- what is no object has nothing

no_holds : (r : Readers) (b : ℕ) → holds r None b ≡ 0
unfolding holds
no_holds r b = refl

no_page : (r : Readers) (b : ℕ) → has_page r None b ≡ 0
unfolding has_page
no_page r b = refl

no_file_data : (r : Readers) (b : ℕ) → has_data r None b ≡ 0
unfolding has_data
no_file_data r b = refl

-- ---- a new inode

-- A new object's inode is put, where none was; it has no blocks.
module _ (blocks : ℕ) (v w : Volume) (sound : IsSound (readers blocks) v) (m page : ℕ) (d : Dinode) (live : is_live m d ≡ true) (empty : HasNothing (readers blocks) v.page d) (none : objects (readers blocks) v m ≡ None) (at : home v.extents m ≡ Some page)
    (puts : PutsInode v.page w.page v.extents m d) (used : w.used ≡ v.used) (extents : w.extents ≡ v.extents) (area : w.area ≡ v.area) (in_use : (k : ℕ) → w.in_use k ≡ put m true v.in_use k)
    (edits : List Edit) (pages : (q : ℕ) → v.used q ≡ true → w.page q ≡ apply_tx q edits (v.page q)) (runs : ArePageRuns page edits) where
  abbrev r : Readers
  r = readers blocks

  pub new_sets : SetsObject r v w m d v.page [] []
  new_sets = record {
    live = live;
    whole = record { names = []; extents = []; names_are = empty.names; extents_are = empty.extents };
    blocks = λ b. (let a = empty.blocks b in let z = ap (λ (x : Option Object). holds r x b) none ∙ no_holds r b in omega (arith, a, z));
    keeps = λ b h k. refl;
    puts = puts;
    takes = record { fresh = λ b h. absurd (omega (arith, h)); used = λ b. (let u = ap (λ (f : ℕ → Bool). bit (f b)) used in omega (arith, u)) };
    extents = extents;
    area = area;
    in_use = in_use;
  }

  no_pages : (b : ℕ) → has_page r (Some (spelled r v.page d)) b ≡ 0
  no_pages b = let p = parts r (Some (spelled r v.page d)) b in let z = empty.blocks b in omega (arith, p, z)

  none_before : (b : ℕ) → has_page r (objects r v m) b ≡ 0
  none_before b = ap (λ (x : Option Object). has_page r x b) none ∙ no_page r b

  kinds_kept : KeepsKinds r v w (objects r v m) (Some (spelled r v.page d))
  kinds_kept = record {
    pages = λ b was now. no_pages b ∙ sym (none_before b);
    file_data = λ b was now. (let p = parts r (Some (spelled r v.page d)) b in let z = empty.blocks b in let n = ap (λ (x : Option Object). has_data r x b) none ∙ no_file_data r b in omega (arith, p, z, n));
  }

  pub new_logged : LogsPart r v w edits
  new_logged = trees_law.writes r v w m [] edits sound (record {
    page = page;
    set = d;
    mid = v.page;
    taken = [];
    freed = [];
    at = at;
    sets = new_sets;
    kinds = kinds_kept;
    pages = λ q was now. pages q was;
    runs = runs;
    none_still = λ q free. (let p = parts r (Some (spelled r v.page d)) q in let z = empty.blocks q in omega (arith, p, z));
    told = [];
    gone = [];
    changed = [];
    new = v.page;
    tells = record { freed_are = λ p some. absurd (omega (arith, some)); open_are = λ p z. refl; others = λ p h a s. refl; whole = λ p some. absurd (omega (arith, some)) };
    new_is = λ q some. refl;
    come = λ q free l. absurd (let z = no_pages q in omega (arith, z, l));
    go = λ q free l. absurd (let z = none_before q in omega (arith, z, l));
    gone_are = λ q l. absurd (omega (arith, l));
    others = λ q z k. inl refl;
  })

-- ---- all of it

module _ (blocks : ℕ) (pages : ℕ → List ℕ) (area : ℕ → ℕ) (bm : Blocks) (inodes : Inodes) (x : Gaining blocks pages area bm inodes) (m page : ℕ) (d : Dinode) (live : is_live m d ≡ true) (empty : (page : ℕ → List ℕ) → HasNothing (readers blocks) page d)
    (none : objects (readers blocks) (volume_of pages area bm inodes) m ≡ None) (more tx : List Edit) (puts : AddsInode blocks pages page m d more tx) (lines : TellsLines blocks pages page more tx) where
  abbrev q : Readers
  q = readers blocks

  abbrev v : Volume
  v = volume_of pages area bm inodes

  abbrev v1 : Volume
  v1 = gains.v1 blocks pages area bm inodes x

  abbrev n : ℕ
  n = x.dir.number

  abbrev own : List Edit
  own = gains.tree blocks pages area bm inodes x ++ gains.inode blocks pages area bm inodes x

  abbrev last : List Edit
  last = lines.0

  one : ChangesOne q v v1 n (Some (spelled q (put_tx blocks x.gains.mid pages) (gains.set blocks pages area bm inodes x)))
  one = gains.one_changes blocks pages area bm inodes x

  other : m ≢ n
  other e = no (sym x.found.was ∙ ap (objects q v) (sym e) ∙ none)
    where
      no : {o : Object} → Some o ≡ None → ⊥
      no h = cc (h)

  none_one : objects q v1 m ≡ None
  none_one = one.objects_are m ∙ put_other n (Some (spelled q (put_tx blocks x.gains.mid pages) (gains.set blocks pages area bm inodes x))) (objects q v) m other ∙ none

  -- the volume before the inode is put
  module _ (b : Volume) (sound : IsSound q b) (front : List Edit) (front_is : more ≡ front) (logs : LogsPart q v b front) (page_is : b.page ≡ put_tx blocks more pages) (used : b.used ≡ used_after more v.used)
      (extents : b.extents ≡ extents_after more v.extents) (area_is : b.area ≡ v.area) (none_there : objects q b m ≡ None) (at : home b.extents m ≡ Some page) (below : (k : ℕ) → b.used k ≡ true → k < blocks) where
    abbrev w : Volume
    w = record b { page = put_tx blocks tx pages; in_use = put m true b.in_use }

    puts_now : PutsInode b.page w.page b.extents m d
    puts_now = subst (λ (old : ℕ → List ℕ). PutsInode old w.page b.extents m d) (sym page_is) (puts b.extents at)

    pages_now : (k : ℕ) → b.used k ≡ true → w.page k ≡ apply_tx k last (b.page k)
    pages_now k was = ap (λ (e : List Edit). put_tx blocks e pages k) lines.1 ∙ put_onto blocks pages more last k (below k was) ∙ ap (λ (f : ℕ → List ℕ). apply_tx k last (f k)) (sym page_is)

    abbrev runs : ArePageRuns page last
    runs = runs_law page kinds.Inode (put_tx blocks more pages page) (put_tx blocks tx pages page) 0 last lines.2

    sets : SetsObject q b w m d b.page [] []
    sets = new_sets blocks b w sound m page d live (empty b.page) none_there at puts_now refl refl refl (λ k. refl) last pages_now runs

    is_after : w ≡ after_call blocks tx v
    is_after = after_is blocks tx v w (record {
      page = refl;
      extents = extents ∙ sym (lines_extents blocks pages page more tx lines v.extents);
      area = area_is;
      used = λ k. ap (λ (u : ℕ → Bool). u k) (used ∙ sym (lines_used blocks pages page more tx lines v.used));
      in_use = (object_is_set q b w m d b.page [] [] sound sets).0.sound.agrees.inodes;
    })

    put_logged : LogsItsOwn q v (after_call blocks tx v) tx
    put_logged = subst (λ (u : Volume). LogsItsOwn q v u tx) is_after (subst (λ (e : List Edit). LogsItsOwn q v w e) (sym (lines.1 ∙ ap (λ (e : List Edit). e ++ last) front_is))
        (join_law.all q v b w front last logs (new_logged blocks b w sound m page d live (empty b.page) none_there at puts_now refl refl refl (λ k. refl) last pages_now runs) (λ k was now. now)))

  -- ---- in an extent that is there

  in_old : more ≡ x.tx → home v.extents m ≡ Some page → LogsItsOwn q v (after_call blocks tx v) tx
  in_old same at = put_logged v1 one.sound own (same ∙ gains.tx_is blocks pages area bm inodes x) (gains.one_logged blocks pages area bm inodes x) (ap (λ (e : List Edit). put_tx blocks e pages) (sym same)) (ap (λ (e : List Edit). used_after e v.used) (sym same))
      (sym ((gains.moves blocks pages area bm inodes x).extents_stay v.extents) ∙ ap (λ (e : List Edit). extents_after e v.extents) (sym same)) refl none_one at (gains.then_below blocks pages area bm inodes x)

  -- ---- in a new one

  module _ (extent : NewExtent) (told : TellsExtent extent x.tx more) (new : IsNewPlace blocks v (blocks_of x.free) m page extent) where
    abbrev addr : ℕ
    addr = extent.run.addr

    abbrev bytes : List ℕ
    bytes = told.one ++ (told.two ++ (told.three ++ told.four))

    abbrev step : List Edit
    step = Lines addr kinds.Inode 0 bytes ∷ []

    abbrev u : Volume
    u = record v1 { page = put_tx blocks more pages; used = used_after more v.used; extents = set v.extents new.place (Some addr) }

    not_used : (s : Bool) → bit s ≡ 0 → s ≡ false
    not_used true h = absurd (omega (arith, h))
    not_used false h = refl

    fresh : (b : ℕ) → 0 < owners.extent_has (Some addr) b → v1.used b ≡ false
    fresh b h = not_used (v1.used b) (let c = gains.used_one blocks pages area bm inodes x b in let z = new.apart b h in let f = gains.taken_free blocks pages area bm inodes x b in let k = ap bit (new.fresh b h) in omega (arith, c, z, f, k))

    put_size : (b : ℕ) → b < blocks → length (put_tx blocks x.tx pages b) ≡ 4096
    put_size b l = ap (λ (y : List ℕ). length y) (put_within blocks x.tx pages b l) ∙ applied_length b x.tx (pages b) ∙ x.ready.are_pages.sizes b l

    added : AddsExtent v1 u new.place addr
    added = adds extent told.one told.two told.three told.four told.first told.second told.third told.fourth blocks pages x.tx more told.told v1 u refl refl new.place new.numbers new.inside
        put_size new.behind new.few new.none fresh refl
        (used_are extent told.one told.two told.three told.four told.first told.second told.third told.fourth x.tx more told.told v.used) refl refl

    size : length bytes ≡ 16384
    size = let a = length-append told.one (told.two ++ (told.three ++ told.four)) in let b = length-append told.two (told.three ++ told.four) in let c = length-append told.three told.four in
        let f = told.first.size in let s = told.second.size in let t = told.third.size in let l = told.fourth.size in omega (arith, a, b, c, f, s, t, l)

    within : (b : ℕ) → 0 < owners.extent_has (Some addr) b → b < blocks
    within b l = by (nat_le addr b && nat_lt b (addr + 4)) refl l
      where
        by : (y : Bool) → (nat_le addr b && nat_lt b (addr + 4)) ≡ y → 0 < (if y then 1 else 0) → b < blocks
        by true e h = let p = ltb-true b (addr + 4) (and_parts (nat_le addr b) (nat_lt b (addr + 4)) e).1 in let i = new.inside in omega (arith, p, i)
        by false e h = absurd (omega (arith, h))

    below_then : (b : ℕ) → u.used b ≡ true → b < blocks
    below_then b used = elim (zero_or_more (owners.extent_has (Some addr) b)) [
      | inl z ↦ gains.then_below blocks pages area bm inodes x b (same_bit (u.used b) (v1.used b) (let e = added.used b in omega (arith, e, z)) used)
      | inr l ↦ within b l
    ]
      where
        same_bit : (s t : Bool) → bit s ≡ bit t → s ≡ true → t ≡ true
        same_bit true true h e = refl
        same_bit true false h e = absurd (omega (arith, h))
        same_bit false t h e = absurd (cc (e))

    step_logged : LogsPart q v1 u step
    step_logged = extent_logged addr bytes size q v1 u one.sound new.place added (λ k now. ap (λ (e : List Edit). put_tx blocks e pages k) told.told ∙ put_onto blocks pages x.tx step k (below_then k now))
        (λ k l. put_size k (within k l))

    still_used : (b : ℕ) → v.used b ≡ true → v1.used b ≡ true
    still_used b was = by (v1.used b) (let c = gains.used_one blocks pages area bm inodes x b in let k = ap bit was in omega (arith, c, k))
      where
        by : (s : Bool) → 1 ≤ bit s → s ≡ true
        by true h = refl
        by false h = absurd (omega (arith, h))

    goes_on : (b : ℕ) → v1.used b ≡ true → u.used b ≡ true
    goes_on b there = by (u.used b) (let e = added.used b in let k = ap bit there in omega (arith, e, k))
      where
        by : (s : Bool) → 1 ≤ bit s → s ≡ true
        by true h = refl
        by false h = absurd (omega (arith, h))

    number_is : m ≡ 32 * new.place
    number_is = new.first ∙ new.numbers

    at_home : home u.extents m ≡ Some page
    at_home = ap (λ (k : ℕ). home u.extents k) number_is ∙ ap (λ (k : ℕ). page_in (get_or u.extents k None) (32 * new.place)) (placed new.place)
        ∙ ap (λ (o : Option ℕ). page_in o (32 * new.place)) (get_or-set_same v.extents new.place (Some addr) None new.few) ∙ ap (λ (k : ℕ). Some k) (first_of addr new.place ∙ sym new.page_is)
      where
        placed : (k : ℕ) → 32 * k / 32 ≡ k
        placed k = omega arith

        first_of : (a k : ℕ) → a + 32 * k % 32 / 8 ≡ a
        first_of a k = omega arith

    in_new : LogsItsOwn q v (after_call blocks tx v) tx
    in_new = put_logged u (extent_law q v1 u new.place addr one.sound added).0.sound (own ++ step) (told.told ∙ ap (λ (e : List Edit). e ++ step) (gains.tx_is blocks pages area bm inodes x))
        (join_law.parts q v v1 u own step (gains.one_logged blocks pages area bm inodes x) step_logged (λ b was now. still_used b was) (λ b free there. goes_on b there)) refl refl
        (sym (extents_are extent told.one told.two told.three told.four told.first told.second told.third told.fourth x.tx more told.told new.place new.numbers v.extents
        ∙ ap (λ (es : List (Option ℕ)). set es new.place (Some addr)) ((gains.moves blocks pages area bm inodes x).extents_stay v.extents)))
        refl ((extent_law q v1 u new.place addr one.sound added).0.objects_stay m ∙ none_one) at_home below_then

  pub made_logged : (extent : Option NewExtent) → IsBetween extent x.tx more → CanStand blocks v (blocks_of x.free) m page extent → LogsItsOwn q v (after_call blocks tx v) tx
  made_logged None same at = in_old same at
  made_logged (Some extent) told new = in_new extent told new
