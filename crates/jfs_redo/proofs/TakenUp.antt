-- A redo that was stopped is made again, and makes the same volume.
use Rattle.std.proofs.Common.{◌≡◌, ◌⊎◌, ◌<◌, ◌≤◌, ◌+◌, ◌-◌, ◌/◌, ◌%◌, nat_lt, ℕ, Bool, true, false, true≢false, if◌then◌else◌, List, [], length, map, drop, get_or, refl, sym, ap, subst, ◌∙◌, inl, inr, arith}
use Rattle.std.specs.Prelude.{Option, Some, None, is_some, Result, Ok, Err}
use Rattle.std.specs.List.{range_with_len}
use Rattle.std.proofs.Math.Path.{fun_ext}
use Rattle.std.proofs.lemmas.Bool.{cases_lt, cases_Bool, cond-true, cond-false, lt-ltb, le-ltb}
use Rattle.std.proofs.lemmas.List.{length-map, length-drop, get_or-map, get_or-drop, get_or_past, ext_get_or}
use Rattle.std.proofs.lemmas.Option.{none-some}
use Rattle.std.proofs.lemmas.List.FromFn.{get_or-range_with_len, length-range_with_len}
use Rattle.jfs_disk.specs.Image.{Image, page_of, ArePages}
use Rattle.jfs_imap.specs.Inodes.{Inodes, IsInodePage}
use Rattle.jfs_bmap.specs.MapFile.{IsMapPage}
use Rattle.jfs_ranges.specs.declared.edit.Edit.{Edit}
use Rattle.jfs_ranges.specs.Apply.{touches_tx}
use Rattle.jfs_records.specs.Redo.{redone, all_of}
use Rattle.jfs_redo_steps.specs.each.specs.Each.{Found, found_at, live_in}
use Rattle.jfs_redo_steps.specs.objects.specs.Objects.{is_live, met}
use Rattle.jfs_redo_steps.specs.objects.specs.Volume.{home, slot_of}
use Rattle.jfs_redo_steps.specs.objects.specs.page_tree.specs.Walk.{Marks}
use Rattle.jfs_redo_steps.specs.steps.specs.After.{used_after}
use Rattle.jfs_bits.specs.declared.extent.Xad.{Xad}
use Rattle.jfs_mount_maps.specs.mount_rules.specs.Subject.{Subject, subject_of, volume}
use Rattle.jfs_mount_maps.specs.mount_rules.specs.Mount.{iags, broken_maps}
use Rattle.jfs_super.specs.Rules.{IsAccepted, blocks_of}
use Rattle.jfs_super.specs.declared.fields.Super.{Super}
use Rattle.jfs_super.proofs.Rules.{accepted_layout, accepted_log}
use Rattle.jfs_redo_steps.specs.Pages.{redone_page, ArePagesRedone}
use Rattle.jfs_redo_steps.specs.Inodes.{AreInodesInUse}
use Rattle.jfs_redo_steps.proofs.Again.{mixed_again, unnamed}
use Rattle.jfs_redo.specs.Mixed.{sector}
use Rattle.jfs_redo.specs.Log.{AreCommitted}
use Rattle.jfs_redo.specs.Put.{InBytes}
use Rattle.jfs_redo.specs.Redo.{IsMapPlace, IsBlockMapPlace, IsInodeMapPlace, block_map_place, inode_map_place, IsRedone, RedoIs}
use Rattle.jfs_redo.specs.declared.error.Redone.{Redone}
use Rattle.jfs_redo.specs.declared.error.RedoError.{RedoError}
use Rattle.jfs_redo.specs.declared.error.RedoError.TheVariants.{Disk, ForeignLog, BadLog, BadImage, Memory}
use Rattle.jfs_logpages.specs.Back.{Met}
use Rattle.jfs_logpages.specs.ReadLog.{IsNotOwn, BreaksLog}
use Rattle.jfs_logpages.specs.declared.error.RingError.TheVariants as ring
use Rattle.jfs_logpages.proofs.OneAnswer.{records-once, has-one}
use Rattle.jfs_records.specs.Committed.{committed as transactions_of}
use Rattle.jfs_redo.specs.Partly.{taken_then, extents_then, inodes_then, Writes, IsPartlyRedone, LocatesMaps, MapsStandApart, EndsAll, IsTakenUp, StoppedRedo, OthersStay}
use Rattle.jfs_redo.proofs.Sectors.{sector_byte, mixed_same}
use Rattle.jfs_redo.proofs.Located.{not_redone, stays, block_walk, inode_walk, block_place, inode_place}
use Rattle.jfs_redo.proofs.ReadAgain.{iags_same, used_same, extents_same}
use Rattle.jfs_redo.proofs.Unbroken.{unbroken}
use Rattle.jfs_redo.proofs.Extents.{LowPagesStay, all-lie, transactions-lie, low_pages-stay}

-- the image whose pages are redone
redone_image : ℕ → List Edit → Image → Image
redone_image count es old = map (redone_page count es old) (range_with_len 0 (length old))

redone_there : (count : ℕ) (es : List Edit) (old : Image) → count ≤ length old → ArePagesRedone count es old (redone_image count es old)
unfolding redone_image
redone_there count es old whole = record {
  number = length-map (range_with_len 0 (length old)) (redone_page count es old) ∙ length-range_with_len 0 (length old);
  pages = λ p. elim (cases_lt p (length old)) [
    | inl low ↦ get_or-map (redone_page count es old) (range_with_len 0 (length old)) p 0 [] (omega (arith, low, length-range_with_len 0 (length old))) ∙ ap (redone_page count es old) (get_or-range_with_len 0 (length old) p 0 low ∙ omega arith)
    | inr high ↦ get_or_past (redone_image count es old) p [] (omega (arith, high, length-map (range_with_len 0 (length old)) (redone_page count es old), length-range_with_len 0 (length old)))
        ∙ sym (cond-false (nat_lt p count) (redone p (page_of old p) (page_of old p) es) (page_of old p) (le-ltb p count (omega (arith, high, whole))) ∙ get_or_past old p [] high)
  ];
}

module _ (s : Super) (txs : List (List Edit)) (old left : Image) (sizes : ArePages (length old) old) (accepted : IsAccepted s (length old)) (committed : AreCommitted s.logpxd.len (blocks_of s) (drop s.logpxd.addr old) txs) (was_unbroken : broken_maps (subject_of s (page_of old)) ≡ None) (apart : MapsStandApart s txs old) (way : IsPartlyRedone s txs old left) where
  abbrev blocks : ℕ
  blocks = blocks_of s

  abbrev es : List Edit
  es = all_of txs

  abbrev sub : Subject
  sub = subject_of s (page_of old)

  abbrev now : Subject
  now = subject_of s (page_of left)

  behind : blocks ≤ s.logpxd.addr
  behind = (accepted_layout s (length old) accepted).behind

  whole : blocks ≤ length old
  whole = let ends = accepted_log s (length old) accepted in omega (arith, ends, behind)

  low_pages : LowPagesStay es
  low_pages = low_pages-stay blocks (drop s.logpxd.addr old) s.logpxd.len txs committed

  groups : iags now ≡ iags sub
  groups = iags_same s txs old left sizes whole apart low_pages way

  block_at : (k : ℕ) → block_map_place now k ≡ block_map_place sub k
  block_at = block_place s txs old left sizes whole apart low_pages way

  inode_at : (k : ℕ) → inode_map_place now k ≡ inode_map_place sub k
  inode_at = inode_place s txs old left sizes whole apart low_pages way

  extents_are : extents_then s txs left ≡ extents_then s txs old
  extents_are = extents_same s txs old left sizes whole apart low_pages way

  -- the places of the maps are the same
  place_then : (p : ℕ) → IsMapPlace now p → IsMapPlace sub p
  place_then p (inl (k, low, at)) = inl (k, low, sym (block_at k) ∙ at)
  place_then p (inr (k, low, at)) = inr (k, omega (arith, low, groups), sym (inode_at k) ∙ at)

  place_now : (p : ℕ) → IsMapPlace sub p → IsMapPlace now p
  place_now p (inl (k, low, at)) = inl (k, low, block_at k ∙ at)
  place_now p (inr (k, low, at)) = inr (k, omega (arith, low, groups), inode_at k ∙ at)

  block_map_now : (k p : ℕ) → IsBlockMapPlace sub k p → IsBlockMapPlace now k p
  block_map_now k p at = record {
    low = at.low;
    is = block_at k ∙ at.is;
    last = λ j low there. at.last j low (sym (block_at j) ∙ there);
    apart = λ j low there. at.apart j (omega (arith, low, groups)) (sym (inode_at j) ∙ there);
  }

  inode_map_now : (k p : ℕ) → IsInodeMapPlace sub k p → IsInodeMapPlace now k p
  inode_map_now k p at = record {
    low = omega (arith, at.low, groups);
    is = inode_at k ∙ at.is;
    last = λ j low there. at.last j (omega (arith, low, groups)) (sym (inode_at j) ∙ there);
  }

  -- ---- pages

  not_in_map : (p : ℕ) (page : List ℕ) → (IsMapPlace sub p → ⊥) → Writes s txs old p page → page ≡ redone_page blocks es old p
  not_in_map p page out (inl is) = is
  not_in_map p page out (inr (inl (k, low, at, is))) = absurd (out (inl (k, low, at)))
  not_in_map p page out (inr (inr (k, low, at, is))) = absurd (out (inr (k, low, at)))

  redone_same : (p : ℕ) → (IsMapPlace sub p → ⊥) → redone_page blocks es left p ≡ redone_page blocks es old p
  redone_same p out = elim (cases_lt p blocks) [
    | inl low ↦
        let new = redone p (page_of old p) (page_of old p) es in
        let is : redone_page blocks es old p ≡ new = cond-true (nat_lt p blocks) new (page_of old p) (lt-ltb p blocks low) in
        cond-true (nat_lt p blocks) (redone p (page_of left p) (page_of left p) es) (page_of left p) (lt-ltb p blocks low)
        ∙ mixed_again p (page_of old p) (page_of left p) es (sizes.sizes p (omega (arith, low, whole))) (way.pages p low).size (λ i within. elim ((way.pages p low).sectors (i / 512) (omega (arith, within))) [
          | inl same ↦ inr (sector_byte (i / 512) i (page_of left p) (page_of old p) same (omega arith) (omega arith))
          | inr (page, writes, same) ↦ inl (sector_byte (i / 512) i (page_of left p) page same (omega arith) (omega arith) ∙ ap (λ (bytes : List ℕ). get_or bytes i 0) (not_in_map p page out writes ∙ is))
        ])
        ∙ sym is
    | inr high ↦ cond-false (nat_lt p blocks) (redone p (page_of left p) (page_of left p) es) (page_of left p) (le-ltb p blocks high) ∙ way.others p high
        ∙ sym (cond-false (nat_lt p blocks) (redone p (page_of old p) (page_of old p) es) (page_of old p) (le-ltb p blocks high))
  ]

  -- ---- inodes in use

  found_same : (n : ℕ) → found_at (redone_page blocks es left) (extents_then s txs old) n ≡ found_at (redone_page blocks es old) (extents_then s txs old) n
  found_same n = by (home (extents_then s txs old) n) refl
    where
      by : (o : Option ℕ) → home (extents_then s txs old) n ≡ o → live_in (redone_page blocks es left) n o ≡ live_in (redone_page blocks es old) n o
      by None none = refl
      by (Some p) at = ap (λ (page : List ℕ). if is_live n (slot_of page (n % 8)) then Some (let f : Found = record { page = p; inode = slot_of page (n % 8) } in f) else None) (redone_same p (apart.homes n p at))

  in_use_then : (set : List ℕ) → AreInodesInUse (redone_page blocks es left) (extents_then s txs left) set → AreInodesInUse (redone_page blocks es old) (extents_then s txs old) set
  in_use_then set are =
      let at = subst (λ (xs : List (Option ℕ)). AreInodesInUse (redone_page blocks es left) xs set) extents_are are in
      record { size = at.size; bits = λ n low. at.bits n low ∙ ap is_some (found_same n) }

  -- ---- the same volume

  inodes_are : (set : List ℕ) → inodes_then s txs left set ≡ inodes_then s txs old set
  inodes_are set = rw (extents_are, groups) refl

  pub same_volume : (new : Image) → IsRedone s txs left new → IsRedone s txs old new
  same_volume new is =
      let there = redone_there blocks es old whole in
      let image = redone_image blocks es old in
      let pages : page_of is.redone ≡ redone_page blocks es left = fun_ext is.pages.pages in
      record {
        redone = image;
        pages = there;
        taken = is.taken;
        taken_are = λ b low. is.taken_are b low ∙ used_same s txs old left sizes whole apart low_pages way b low;
        taken_past = is.taken_past;
        set = is.set;
        in_use = subst (λ (page : ℕ → List ℕ). AreInodesInUse page (extents_then s txs old) is.set) (sym (fun_ext there.pages))
            (in_use_then is.set (subst (λ (page : ℕ → List ℕ). AreInodesInUse page (extents_then s txs left) is.set) pages is.in_use));
        mapped = is.mapped;
        others = λ p out. is.others p (λ place. out (place_then p place)) ∙ is.pages.pages p ∙ redone_same p out ∙ sym (there.pages p);
        block_map = λ k p at. is.block_map k p (block_map_now k p at);
        inode_map = λ k p at. subst (λ (m : Inodes). InBytes (IsInodePage m) k (page_of is.mapped p)) (inodes_are is.set) (is.inode_map k p (inode_map_now k p at));
        rest = is.rest;
        fields = is.fields;
        superblock = is.superblock;
      }

  -- ---- once more

  left_sizes : ArePages (length left) left
  left_sizes = record {
    number = refl;
    sizes = λ p low. elim (cases_lt p blocks) [
      | inl below ↦ (way.pages p below).size
      | inr high ↦ ap (λ (page : List ℕ). length page) (way.others p high) ∙ sizes.sizes p (omega (arith, low, way.number))
    ];
  }

  locates_then : (p : ℕ) → LocatesMaps now p → LocatesMaps sub p
  locates_then p (inl is) = inl is
  locates_then p (inr (inl is)) = inr (inl is)
  locates_then p (inr (inr (inl is))) = inr (inr (inl is))
  locates_then p (inr (inr (inr (inl h)))) = inr (inr (inr (inl (subst (λ (ms : Marks ℕ Xad). 0 < met ms p) (block_walk s txs old left sizes whole apart low_pages way) h))))
  locates_then p (inr (inr (inr (inr h)))) = inr (inr (inr (inr (subst (λ (ms : Marks ℕ Xad). 0 < met ms p) (inode_walk s txs old left sizes whole apart low_pages way) h))))

  pub still_apart : MapsStandApart s txs left
  still_apart = record {
    blocks = λ j k p h g. apart.blocks j k p (sym (block_at j) ∙ h) (sym (block_at k) ∙ g);
    inodes = λ j k p h g. apart.inodes j k p (sym (inode_at j) ∙ h) (sym (inode_at k) ∙ g);
    both = λ j k p h g. apart.both j k p (sym (block_at j) ∙ h) (sym (inode_at k) ∙ g);
    located = λ p place locates. apart.located p (place_then p place) (locates_then p locates);
    homes = λ n p at place. apart.homes n p (ap (λ (xs : List (Option ℕ)). home xs n) (sym extents_are) ∙ at) (place_then p place);
    logged = λ p high place. apart.logged p high (place_then p place);
    stays = λ p high locates.
        (let was = locates_then p locates in
        let same = stays s txs old left sizes whole apart low_pages way p was in
        ap (λ (page : List ℕ). if nat_lt p blocks then redone p page page es else page) same ∙ apart.stays p high was ∙ sym same);
  }

  taken_are : taken_then s txs left ≡ taken_then s txs old
  taken_are = fun_ext (λ b. by b (cases_lt b blocks))
    where
      by : (b : ℕ) → (b < blocks) ⊎ (blocks ≤ b) → taken_then s txs left b ≡ taken_then s txs old b
      by b (inl low) = cond-true (nat_lt b blocks) (used_after es (volume now).used b) true (lt-ltb b blocks low) ∙ used_same s txs old left sizes whole apart low_pages way b low
          ∙ sym (cond-true (nat_lt b blocks) (used_after es (volume sub).used b) true (lt-ltb b blocks low))
      by b (inr high) = cond-false (nat_lt b blocks) (used_after es (volume now).used b) true (le-ltb b blocks high) ∙ sym (cond-false (nat_lt b blocks) (used_after es (volume sub).used b) true (le-ltb b blocks high))

  untouched_place : (p : ℕ) → IsMapPlace sub p → touches_tx p es ≡ false
  untouched_place p place = elim (cases_lt p 16) [ inl low ↦ low_pages p low | inr high ↦ apart.logged p high place ]

  -- what the second redo writes the first one writes too, or it stands there
  writes_then : (p : ℕ) (page : List ℕ) → Writes s txs left p page → (page ≡ page_of left p) ⊎ Writes s txs old p page
  writes_then p page (inl is) = elim (cases_Bool (touches_tx p es)) [
    | inl touched ↦ inr (inl (is ∙ redone_same p (λ place. true≢false (sym touched ∙ untouched_place p place))))
    | inr clear ↦ inl (is ∙ not_redone s txs left p (λ low. (way.pages p low).size) clear)
  ]
  writes_then p page (inr (inl (k, low, at, is))) = inr (inr (inl (k, low, sym (block_at k) ∙ at, subst (λ (taken : ℕ → Bool). InBytes (IsMapPage blocks s.agsize taken) k page) taken_are is)))
  writes_then p page (inr (inr (k, low, at, (set, are, is)))) =
      inr (inr (inr (k, omega (arith, low, groups), sym (inode_at k) ∙ at, (set, in_use_then set are, subst (λ (m : Inodes). InBytes (IsInodePage m) k page) (inodes_are set) is))))

  pub stopped_again : (next : Image) → IsPartlyRedone s txs left next → IsPartlyRedone s txs old next
  stopped_again next again = record {
    number = again.number ∙ way.number;
    pages = λ p low. record { size = (again.pages p low).size; sectors = λ i within. sectors p i low within ((again.pages p low).sectors i within) };
    others = λ p high. again.others p high ∙ way.others p high;
  }
    where
      first : (p i : ℕ) → p < blocks → i < 8 → sector i (page_of next p) ≡ sector i (page_of left p)
          → (sector i (page_of next p) ≡ sector i (page_of old p)) ⊎ ((page : List ℕ) × Writes s txs old p page × (sector i (page_of next p) ≡ sector i page))
      first p i low within same = elim ((way.pages p low).sectors i within) [ inl was ↦ inl (same ∙ was) | inr (page, writes, at) ↦ inr (page, writes, same ∙ at) ]

      sectors : (p i : ℕ) → p < blocks → i < 8 → (sector i (page_of next p) ≡ sector i (page_of left p)) ⊎ ((page : List ℕ) × Writes s txs left p page × (sector i (page_of next p) ≡ sector i page))
          → (sector i (page_of next p) ≡ sector i (page_of old p)) ⊎ ((page : List ℕ) × Writes s txs old p page × (sector i (page_of next p) ≡ sector i page))
      sectors p i low within (inl same) = first p i low within same
      sectors p i low within (inr (page, writes, same)) = elim (writes_then p page writes) [ inl is ↦ first p i low within (same ∙ ap (sector i) is) | inr was ↦ inr (page, was, same) ]

  log_same : drop s.logpxd.addr left ≡ drop s.logpxd.addr old
  log_same = ext_get_or [] (drop s.logpxd.addr left) (drop s.logpxd.addr old) (length-drop s.logpxd.addr left ∙ ap (λ (n : ℕ). n - s.logpxd.addr) way.number ∙ sym (length-drop s.logpxd.addr old))
      (λ k h. get_or-drop s.logpxd.addr left k [] ∙ way.others (s.logpxd.addr + k) (omega (arith, behind)) ∙ sym (get_or-drop s.logpxd.addr old k []))

  -- ---- what the next redo answers

  long_log : 2 < s.logpxd.len
  long_log = let least = (accepted_layout s (length old) accepted).shortest in omega (arith, least)

  -- the log has the same transactions
  same_transactions : (ts : List (List Edit)) → AreCommitted s.logpxd.len blocks (drop s.logpxd.addr left) ts → ts ≡ txs
  same_transactions ts are =
      let now_are = subst (λ (log : Image). AreCommitted s.logpxd.len blocks log ts) log_same are in
      now_are.are ∙ ap (λ (ms : List Met). transactions_of (map (λ (m : Met). m.is) ms)) (records-once s.logpxd.len blocks (drop s.logpxd.addr old) now_are.read committed.read long_log now_are.reads committed.reads) ∙ sym committed.are

  pub ends_all : (new : Image) (answer : Result Redone RedoError) → RedoIs s left new answer → EndsAll s txs old new answer
  ends_all new (Ok done) (ts, are, count, unbroken_now, is) =
      let same = same_transactions ts are in
      (count ∙ ap (λ (xs : List (List Edit)). length xs) same, same_volume new (subst (λ (xs : List (List Edit)). IsRedone s xs left new) same is))
  ends_all new (Err (ForeignLog label)) is = λ refused. has-one s.logpxd.len blocks (drop s.logpxd.addr old) long_log (Ok committed.read) (Err (ring.ForeignLog label)) committed.reads (subst (λ (log : Image). IsNotOwn s.logpxd.len log (ring.ForeignLog label)) log_same is)
  ends_all new (Err (BadLog address rule)) is = λ refused. has-one s.logpxd.len blocks (drop s.logpxd.addr old) long_log (Ok committed.read) (Err (ring.BadLog address rule)) committed.reads (subst (λ (log : Image). BreaksLog s.logpxd.len blocks log address rule) log_same is)
  ends_all new (Err (BadImage bad)) (log, broken) = λ refused. none-some bad (sym (unbroken s txs old left sizes whole apart low_pages (all-lie blocks txs (transactions-lie blocks (drop s.logpxd.addr old) s.logpxd.len txs committed)) was_unbroken way) ∙ broken)
  ends_all new (Err (Disk fault)) is = λ refused. refused
  ends_all new (Err Memory) is = λ refused. refused

  pub taken_up : IsTakenUp s txs old left
  taken_up = record {
    superblock = stays s txs old left sizes whole apart low_pages way 8 (inl refl);
    log = log_same;
    unbroken = unbroken s txs old left sizes whole apart low_pages (all-lie blocks txs (transactions-lie blocks (drop s.logpxd.addr old) s.logpxd.len txs committed)) was_unbroken way;
    apart = still_apart;
    same = same_volume;
    ends = ends_all;
    stopped = stopped_again;
  }

pub stopped_redo : StoppedRedo
stopped_redo s txs old left sizes accepted committed was_unbroken apart way = taken_up s txs old left sizes accepted committed was_unbroken apart way

-- ---- pages that redo leaves

-- A page that its lines make what it was, of no map and not the superblock's, is as it was at each moment.
pub page_stays : (s : Super) (txs : List (List Edit)) (old left : Image) → IsPartlyRedone s txs old left ⊎ IsRedone s txs old left → (p : ℕ) → (p < blocks_of s → length (page_of old p) ≡ 4096)
    → redone_page (blocks_of s) (all_of txs) old p ≡ page_of old p → (IsMapPlace (subject_of s (page_of old)) p → ⊥) → (p ≡ 8 → ⊥) → page_of left p ≡ page_of old p
page_stays s txs old left either p size not_changed out other = by either
  where
    only : (page : List ℕ) → Writes s txs old p page → page ≡ page_of old p
    only page (inl is) = is ∙ not_changed
    only page (inr (inl (k, low, at, is))) = absurd (out (inl (k, low, at)))
    only page (inr (inr (k, low, at, is))) = absurd (out (inr (k, low, at)))

    by : IsPartlyRedone s txs old left ⊎ IsRedone s txs old left → page_of left p ≡ page_of old p
    by (inl way) = elim (cases_lt p (blocks_of s)) [
      | inl low ↦ mixed_same (Writes s txs old p) (page_of old p) (size low) (page_of left p) only (way.pages p low)
      | inr high ↦ way.others p high
    ]
    by (inr is) = is.rest p other ∙ is.others p out ∙ is.pages.pages p ∙ not_changed

-- so is one that no line of the log counts for
pub others_stay : OthersStay
others_stay s txs old left sizes accepted either p none out other = page_stays s txs old left either p (λ low. sizes.sizes p (omega (arith, low, whole))) not_changed out other
  where
    whole : blocks_of s ≤ length old
    whole = let ends = accepted_log s (length old) accepted in let behind = (accepted_layout s (length old) accepted).behind in omega (arith, ends, behind)

    not_changed : redone_page (blocks_of s) (all_of txs) old p ≡ page_of old p
    not_changed = elim (cases_lt p (blocks_of s)) [
      | inl low ↦ cond-true (nat_lt p (blocks_of s)) (redone p (page_of old p) (page_of old p) (all_of txs)) (page_of old p) (lt-ltb p (blocks_of s) low) ∙ unnamed p (page_of old p) (all_of txs) none
      | inr high ↦ cond-false (nat_lt p (blocks_of s)) (redone p (page_of old p) (page_of old p) (all_of txs)) (page_of old p) (le-ltb p (blocks_of s) high)
    ]
