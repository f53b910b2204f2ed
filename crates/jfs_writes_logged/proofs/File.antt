-- A regular file whose tree gets extents by edits that take blocks, and whose data is put before: what the transaction logs.
use Rattle.std.proofs.Common.{◌≡◌, ◌⊎◌, ◌<◌, ◌≤◌, ◌+◌, ℕ, Bool, true, false, List, [], ◌++◌, length, Option, Some, Ok, refl, sym, ap, ◌∙◌, subst, inl, inr, arith}
use Rattle.std.proofs.lemmas.Bool.{cases_Bool, cases_lt}
use Rattle.jfs_bits.specs.declared.descriptor.Moment.{Moment}
use Rattle.jfs_bits.specs.declared.extent.Xad.{Xad}
use Rattle.jfs_bits.specs.declared.rule.PageKind.TheVariants as kinds
use Rattle.jfs_bmap.specs.States.{Blocks}
use Rattle.jfs_imap.specs.Inodes.{Inodes}
use Rattle.jfs_inode.specs.declared.fields.Dinode.{Dinode}
use Rattle.jfs_ranges.specs.declared.edit.Edit.{Edit}
use Rattle.jfs_ranges.specs.Apply.{apply_tx}
use Rattle.jfs_ranges.specs.Laid.{put_tx}
use Rattle.jfs_tree.specs.Edit.{count_in}
use Rattle.jfs_tree.specs.Form.{AllBelow}
use Rattle.jfs_tree.specs.Fresh.{after_tx}
use Rattle.jfs_tree.specs.Tell.{is_in}
use Rattle.jfs_xtree.specs.Spells.{spells_extents, owned_pages}
use Rattle.jfs_write_pages.specs.data_steps.specs.After.{is_put, AreWholePages, put_data, with_data, after_writes, LeavesPage}
use Rattle.jfs_write_pages.specs.data_steps.specs.File.{resized}
use Rattle.jfs_write_pages.specs.data_steps.specs.Laws.{MayPut, SetsFile, PutsAlone, IsSetWithData}
use Rattle.jfs_write_pages.specs.data_steps.specs.declared.pages.DataPage.{DataPage}
use Rattle.jfs_write_pages.specs.data_steps.proofs.Extents.{had, had_once, data_was, data_now, extents_set, file_sets}
use Rattle.jfs_write_pages.specs.data_steps.proofs.Putting.{put_off}
use Rattle.jfs_write_pages.specs.data_steps.proofs.Setting.{set_law}
use Rattle.jfs_write_pages.specs.data_steps.specs.kinds.specs.Laws.{KeepsKinds, HasSameOwners}
use Rattle.jfs_write_pages.specs.data_steps.specs.kinds.specs.Owner.{has_page, has_data, has_still}
use Rattle.jfs_write_pages.specs.data_steps.specs.kinds.proofs.Parts.{parts}
use Rattle.jfs_write_pages.specs.data_steps.specs.kinds.proofs.Stay.{same_owners}
use Rattle.jfs_write_pages.specs.data_steps.specs.lead_steps.proofs.Named.{all_below}
use Rattle.jfs_write_pages.specs.data_steps.specs.meaning.specs.Contents.{is_regular}
use Rattle.jfs_write_pages.specs.data_steps.specs.meaning.specs.Readers.{readers, root_of}
use Rattle.jfs_write_pages.specs.data_steps.specs.steps.specs.Gains.{after_set}
use Rattle.jfs_write_pages.specs.data_steps.specs.steps.specs.Laws.{TakesAndFrees, IsFair}
use Rattle.jfs_write_pages.specs.data_steps.specs.steps.specs.Put.{TellsLines}
use Rattle.jfs_write_pages.specs.data_steps.specs.steps.proofs.Puts.{put_within}
use Rattle.jfs_write_pages.specs.data_steps.specs.way.specs.Volume.{volume_of}
use Rattle.jfs_write_pages.specs.data_steps.specs.way.specs.declared.object.Held.{Held}
use Rattle.jfs_write_pages.specs.data_steps.specs.way.proofs.Nodes.{lives}
use Rattle.jfs_write_pages.specs.objects.specs.Readers.{Readers}
use Rattle.jfs_write_pages.specs.objects.specs.Volume.{Volume}
use Rattle.jfs_write_pages.specs.objects.specs.Objects.{Object, objects, spelled, is_live}
use Rattle.jfs_write_pages.specs.objects.specs.Owners.{holds, bit, covers, is_data, data_held, attributes_held}
use Rattle.jfs_write_pages.specs.objects.specs.Laws.{ChangesOne, IsOwnedOnce}
use Rattle.jfs_write_pages.specs.objects.specs.Changes.{PutsInode, SetsObject}
use Rattle.jfs_write_pages.specs.objects.proofs.Owned.{owned_once}
use Rattle.jfs_write_pages.specs.objects.proofs.Set.{object_is_set}
use Rattle.jfs_write_pages.specs.objects.proofs.Sums.{put_here, zero_or_more}
use Rattle.jfs_contents_logged.specs.calls_logged.specs.Calls.{IsReady}
use Rattle.jfs_contents_logged.specs.calls_logged.specs.Found.{IsFound}
use Rattle.jfs_contents_logged.specs.calls_logged.specs.logged.specs.Logged.{logged_in}
use Rattle.jfs_contents_logged.specs.calls_logged.specs.logged.specs.Own.{LogsItsOwn}
use Rattle.jfs_contents_logged.specs.calls_logged.specs.logged.specs.Trees.{TellsPages}
use Rattle.jfs_contents_logged.specs.calls_logged.specs.logged.proofs.Joined.{never, is_in_use}
use Rattle.jfs_contents_logged.specs.calls_logged.specs.logged.proofs.Staged.{runs_law}
use Rattle.jfs_contents_logged.specs.calls_logged.specs.logged.proofs.Written.{not_page, trees_law}
use Rattle.jfs_contents_logged.proofs.WithData.{logged_after_data}

-- ---- what a file has

data_is : (r : Readers) (o : Object) (b : ℕ) → is_data r (Some o) b ≡ data_held r o b
unfolding is_data
data_is r o b = refl

file_data_is : (r : Readers) (page : ℕ → List ℕ) (d : Dinode) (b : ℕ) → is_regular d ≡ true → has_data r (Some (spelled r page d)) b ≡ data_held r (spelled r page d) b
unfolding has_data spelled
file_data_is r page d b regular = rw regular refl

beside_pages : (r : Readers) (o : Object) (b : ℕ) → holds r (Some o) b ≡ has_page r (Some o) b + data_held r o b + attributes_held o b
unfolding holds has_page
beside_pages r o b = refl

same_attributes : (r : Readers) (page other : ℕ → List ℕ) (d : Dinode) (root : List ℕ) (size own : ℕ) (now : Moment) (b : ℕ) → attributes_held (spelled r page (resized d root size own now)) b ≡ attributes_held (spelled r other d) b
unfolding spelled
same_attributes r page other d root size own now b = refl

none_below : (bound q : ℕ) (ns : List ℕ) → AllBelow bound ns → bound ≤ q → count_in q ns ≡ 0
none_below bound q ns all l = elim (zero_or_more (count_in q ns)) [ inl z ↦ z | inr some ↦ (let b = all_below bound ns q all some in absurd (omega (arith, b, l))) ]

-- ---- a file, and the edits of its tree and its inode

-- Its tree names other extents on the pages that its edits lead to. Blocks for pages of the tree and for its data are taken that weren't in use, none is freed; pages that came are told whole, and others that aren't its own stay.
pub record Growing (blocks : ℕ) (pages : ℕ → List ℕ) (area : ℕ → ℕ) (bm : Blocks) (inodes : Inodes) : Type 0 where
  pub ready : IsReady blocks pages area bm inodes
  pub within : (b : ℕ) → (volume_of pages area bm inodes).used b ≡ true → b < blocks
  pub at : Held
  pub found : IsFound blocks pages area bm inodes at
  pub regular : is_regular at.inode ≡ true
  pub rest : length at.inode.rest ≡ 384
  pub es : List Xad
  pub spelled_es : spells_extents blocks pages (root_of at.inode) ≡ Ok es
  -- then
  pub root : List ℕ
  pub width : length root ≡ 288
  pub size : ℕ
  pub own : ℕ
  pub now : Moment
  pub later_es : List Xad
  pub edits : List Edit
  pub tx : List Edit
  pub turned : spells_extents blocks (after_tx pages edits) root ≡ Ok later_es
  -- its blocks
  pub pages_took : List ℕ
  pub data_took : List ℕ
  pub taken : List ℕ
  pub taken_is : (b : ℕ) → count_in b taken ≡ count_in b pages_took + count_in b data_took
  pub owned : (b : ℕ) → owned_pages blocks (after_tx pages edits) root b ≡ owned_pages blocks pages (root_of at.inode) b + count_in b pages_took
  pub covers_are : (b : ℕ) → covers b later_es ≡ covers b es + count_in b data_took
  pub keeps : (b : ℕ) → b < blocks → owned_pages blocks pages (root_of at.inode) b ≡ 0 → count_in b pages_took ≡ 0 → after_tx pages edits b ≡ pages b
  pub below : (b : ℕ) → 0 < count_in b taken → b < blocks
  pub moves : TakesAndFrees tx taken []
  pub fair : IsFair tx (volume_of pages area bm inodes).used
  -- its inode
  pub puts : PutsInode (put_tx blocks edits pages) (put_tx blocks tx pages) (volume_of pages area bm inodes).extents at.number (resized at.inode root size own now)
  pub lines : TellsLines blocks pages at.page edits tx
  -- what is told
  pub changed : List ℕ
  pub new : ℕ → List ℕ
  pub tells : TellsPages pages_took [] changed pages new edits
  pub changed_within : AllBelow blocks changed
  pub new_is : (b : ℕ) → b < blocks → new b ≡ after_tx pages edits b
  pub comes : (b : ℕ) → 0 < count_in b pages_took → (is_in b pages_took ≡ true) × (0 < count_in b changed)
  pub told_alone : (b : ℕ) → count_in b pages_took ≡ 0 → is_in b pages_took ≡ false

module _ (blocks : ℕ) (pages : ℕ → List ℕ) (area : ℕ → ℕ) (bm : Blocks) (inodes : Inodes) (x : Growing blocks pages area bm inodes) where
  abbrev r : Readers
  r = readers blocks

  abbrev v : Volume
  v = volume_of pages area bm inodes

  abbrev n : ℕ
  n = x.at.number

  abbrev d : Dinode
  d = x.at.inode

  abbrev whole : (b : ℕ) → b < blocks → length (pages b) ≡ 4096
  whole = x.ready.are_pages.sizes

  abbrev set : Dinode
  set = resized d x.root x.size x.own x.now

  abbrev mid : ℕ → List ℕ
  mid = put_tx blocks x.edits pages

  abbrev w : Volume
  w = after_set blocks x.tx n v

  live : is_live n d ≡ true
  live = ap (is_live n) x.found.shown ∙ lives blocks v x.ready.consistent n x.at.page x.found.home_is x.found.there

  once : IsOwnedOnce r v
  once = owned_once r v x.ready.consistent.sound.agrees

  had_is : (b : ℕ) → holds r (objects r v n) b ≡ owned_pages blocks pages (root_of d) b + covers b x.es + attributes_held (spelled r pages d) b
  had_is b = had blocks v x.ready.consistent x.within whole n d x.found.was live x.regular x.rest x.es x.spelled_es b

  at_once : (b : ℕ) → owned_pages blocks pages (root_of d) b + covers b x.es ≤ 1
  at_once b = had_once blocks v x.ready.consistent x.within whole n d x.found.was live x.regular x.rest x.es x.spelled_es b

  owned_all : (b : ℕ) → owned_pages blocks (after_tx pages x.edits) x.root b + covers b x.later_es + count_in b [] ≡ owned_pages blocks pages (root_of d) b + covers b x.es + count_in b x.taken
  owned_all b = let o = x.owned b in let c = x.covers_are b in let t = x.taken_is b in omega (arith, o, c, t)

  keeps_all : (b : ℕ) → b < blocks → owned_pages blocks pages (root_of d) b ≡ 0 → count_in b x.taken ≡ 0 → after_tx pages x.edits b ≡ pages b
  keeps_all b l o t = x.keeps b l o (let k = x.taken_is b in omega (arith, k, t))

  sets : SetsObject r v w n set mid x.taken []
  sets = extents_set blocks v x.ready.consistent x.within whole n d x.found.was live x.regular x.rest x.es x.spelled_es x.root x.width x.size x.own x.now x.later_es x.edits x.tx x.taken [] x.turned owned_all keeps_all x.below x.moves x.fair x.puts

  one : ChangesOne r v w n (Some (spelled r mid set))
  one = (object_is_set r v w n set mid x.taken [] x.ready.consistent.sound sets).0

  -- ---- its pages and its data, before and after

  data_before : (b : ℕ) → data_held r (spelled r pages d) b ≡ covers b x.es
  data_before b = sym (data_is r (spelled r pages d) b) ∙ sym (ap (λ (o : Option Object). is_data r o b) x.found.was) ∙ data_was blocks v x.ready.consistent x.within whole n d x.found.was live x.regular x.rest x.es x.spelled_es b

  data_then : (b : ℕ) → data_held r (spelled r mid set) b ≡ covers b x.later_es
  data_then b = sym (data_is r (spelled r mid set) b)
      ∙ data_now blocks v x.ready.consistent x.within whole n d x.found.was live x.regular x.rest x.es x.spelled_es x.root x.width x.size x.own x.now x.later_es x.edits x.tx x.taken [] x.turned owned_all keeps_all x.below b

  pages_before : (b : ℕ) → has_page r (objects r v n) b ≡ owned_pages blocks pages (root_of d) b
  pages_before b =
      let h = had_is b in let w = ap (λ (o : Option Object). holds r o b) x.found.was in
      let p = beside_pages r (spelled r pages d) b in let s = ap (λ (o : Option Object). has_page r o b) x.found.was in let e = data_before b in omega (arith, h, w, p, s, e)

  pages_then : (b : ℕ) → has_page r (Some (spelled r mid set)) b ≡ owned_pages blocks (after_tx pages x.edits) x.root b
  pages_then b =
      let s = sets.blocks b in let h = had_is b in let p = beside_pages r (spelled r mid set) b in
      let e = data_then b in let a = same_attributes r mid pages d x.root x.size x.own x.now b in let o = owned_all b in omega (arith, s, h, p, e, a, o)

  clash : true ≡ false → ⊥
  clash h = cc (h)

  none_taken : (b : ℕ) → v.used b ≡ true → count_in b x.taken ≡ 0
  none_taken b used = elim (zero_or_more (count_in b x.taken)) [
    | inl z ↦ z
    | inr l ↦ absurd (clash (sym used ∙ sets.takes.fresh b l))
  ]

  none_before : (b : ℕ) → v.used b ≡ false → holds r (objects r v n) b ≡ 0
  none_before b free = elim (zero_or_more (holds r (objects r v n) b)) [
    | inl z ↦ z
    | inr l ↦ absurd (clash (sym (once.in_use n b l) ∙ free))
  ]

  kinds_kept : KeepsKinds r v w (objects r v n) (Some (spelled r mid set))
  kinds_kept = record {
    pages = λ b was still. (let p = pages_before b in let q = pages_then b in let o = x.owned b in let t = x.taken_is b in let f = none_taken b was in omega (arith, p, q, o, t, f));
    file_data = λ b was still. (let p = ap (λ (o : Option Object). has_data r o b) x.found.was in let y = file_data_is r pages d b x.regular in let z = file_data_is r mid set b x.regular in let s = data_before b in let e = data_then b in
        let c = x.covers_are b in let t = x.taken_is b in let f = none_taken b was in omega (arith, p, y, z, s, e, c, t, f));
  }

  -- its attributes are those that it had
  none_still : (b : ℕ) → v.used b ≡ false → has_still r (Some (spelled r mid set)) b ≡ 0
  none_still b free =
      let p = parts r (Some (spelled r mid set)) b in
      let s = beside_pages r (spelled r mid set) b in
      let f = file_data_is r mid set b x.regular in
      let a = same_attributes r mid pages d x.root x.size x.own x.now b in
      let h = beside_pages r (spelled r pages d) b in
      let o = ap (λ (o : Option Object). holds r o b) x.found.was in
      let n = none_before b free in
      omega (arith, p, s, f, a, h, o, n)

  -- all blocks in use then lie within the file system part
  within_then : (b : ℕ) → w.used b ≡ true → b < blocks
  within_then b used = elim (zero_or_more (count_in b x.taken)) [
    | inr l ↦ x.below b l
    | inl z ↦ x.within b (was_used (v.used b) (let e = ap bit used in let u = sets.takes.used b in omega (arith, e, u, z)))
  ]
    where
      was_used : (s : Bool) → 0 < bit s → s ≡ true
      was_used true h = refl
      was_used false h = absurd (omega (arith, h))

  -- ---- the transaction alone

  tx_is : x.tx ≡ x.edits ++ x.lines.0
  tx_is = x.lines.1

  grown_logged : LogsItsOwn r v w x.tx
  grown_logged = subst (LogsItsOwn r v w) (sym tx_is) ((trees_law.writes r v w n x.edits x.lines.0 x.ready.consistent.sound (record {
    page = x.at.page;
    set = set;
    mid = mid;
    taken = x.taken;
    freed = [];
    at = x.found.home_is;
    sets = sets;
    kinds = kinds_kept;
    pages = λ q was now. put_within blocks x.tx pages q (x.within q was) ∙ ap (λ (e : List Edit). apply_tx q e (pages q)) tx_is;
    runs = runs_law x.at.page kinds.Inode (put_tx blocks x.edits pages x.at.page) (put_tx blocks x.tx pages x.at.page) 0 x.lines.0 x.lines.2;
    none_still = none_still;
    told = x.pages_took;
    gone = [];
    changed = x.changed;
    new = x.new;
    tells = x.tells;
    new_is = λ q some. (let l = all_below blocks x.changed q x.changed_within some in x.new_is q l ∙ sym (mid_is q l));
    come = λ q free l. x.comes q (let p = pages_then q in let o = x.owned q in let h = had_is q in let z = none_before q free in omega (arith, p, o, h, z, l));
    go = λ q free l. absurd (let h = pages_before q in let o = had_is q in let b = ap bit (once.in_use n q (omega (arith, h, o, l))) in let u = sets.takes.used q in let f = ap bit free in omega (arith, b, u, f));
    gone_are = λ q l. absurd (omega (arith, l));
    others = λ q none stays. elim (cases_lt q blocks) [
      | inr l ↦ inl (none_below blocks q x.changed x.changed_within l)
      | inl l ↦ (let p = pages_then q in let o = x.owned q in let t : count_in q x.pages_took ≡ 0 = omega (arith, p, o, none) in
          inr (x.told_alone q t, x.new_is q l ∙ x.keeps q l (omega (arith, p, o, none)) t))
    ];
  })).own)
    where
      mid_is : (q : ℕ) → q < blocks → mid q ≡ after_tx pages x.edits q
      mid_is q l = put_within blocks x.edits pages q l

  -- ---- with the data

  module _ (ds : List DataPage) (full : AreWholePages ds) (before : MayPut r v n ds) (put_is : (b : ℕ) → is_put b ds ≡ true → 0 < covers b x.later_es)
      (untold : (b : ℕ) → 0 < covers b x.later_es → LeavesPage b x.tx) (no_page : (b : ℕ) → 0 < covers b x.later_es → (owned_pages blocks pages (root_of d) b ≡ 0) × (count_in b x.pages_took ≡ 0)) where
    abbrev y : Volume
    y = after_writes blocks ds x.tx v

    file : SetsFile blocks v n d x.root x.size x.own x.now x.later_es mid x.taken [] ds x.tx
    file = file_sets blocks v x.ready.consistent x.within whole n d x.found.was live x.regular x.rest x.es x.spelled_es x.root x.width x.size x.own x.now x.later_es x.edits x.tx x.taken [] x.turned owned_all keeps_all x.below x.moves x.fair x.puts
        ds full before put_is untold

    both : PutsAlone r v (with_data ds v) n × IsSetWithData r v y n (spelled r mid set) ds
    both = set_law blocks v n set mid x.taken [] ds x.tx x.ready.consistent.sound file.sets

    same_objects : (k : ℕ) → objects r y k ≡ objects r w k
    same_objects k = both.1.one.objects_are k ∙ sym (one.objects_are k)

    owners_then : HasSameOwners r w y
    owners_then = same_owners r w y (record { extents = x.moves.extents_stay v.extents; area = λ b. refl }) same_objects

    -- what is put isn't kept safe, and the others have the bytes that they have without
    same_pages : (p : ℕ) → logged_in r w p ≡ true → y.page p ≡ w.page p
    same_pages p kept_safe = by (cases_Bool (is_put p ds))
      where
        l : p < blocks
        l = within_then p (is_in_use r w one.sound.agrees p kept_safe)

        now_is : objects r w n ≡ Some (spelled r mid set)
        now_is = one.objects_are n ∙ put_here n (Some (spelled r mid set)) (objects r v)

        is_data_then : is_put p ds ≡ true → logged_in r w p ≡ false
        is_data_then e = not_page r w one.sound.agrees n p (let t = ap (λ (o : Option Object). holds r o p) now_is in let b = beside_pages r (spelled r mid set) p in let h = data_then p in let l = put_is p e in omega (arith, t, b, h, l))
            (let t = ap (λ (o : Option Object). has_page r o p) now_is in let q = pages_then p in let f = no_page p (put_is p e) in let o = x.owned p in let z = f.0 in let k = f.1 in omega (arith, t, q, z, k, o))

        by : (is_put p ds ≡ true) ⊎ (is_put p ds ≡ false) → y.page p ≡ w.page p
        by (inl e) = never (logged_in r w p) kept_safe (is_data_then e)
        by (inr e) = put_within blocks x.tx (put_data ds pages) p l ∙ ap (apply_tx p x.tx) (put_off ds p (pages p) e) ∙ sym (put_within blocks x.tx pages p l)

    pub file_logged : LogsItsOwn r (with_data ds v) y x.tx
    file_logged = logged_after_data r v w (with_data ds v) y x.tx both.0.owners owners_then (λ b. refl) (λ b. refl) both.0.none.sound.agrees both.1.one.sound.agrees (λ b. refl) (λ b. refl) (λ p was now. put_within blocks x.tx (put_data ds pages) p (x.within p was)) same_pages grown_logged
