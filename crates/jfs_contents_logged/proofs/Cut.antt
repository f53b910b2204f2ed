-- A file's tree is cut, once the block is written in which its bytes end: what the transaction logs.
use Rattle.std.proofs.Common.{◌≡◌, ◌≢◌, ◌⊎◌, ◌<◌, ◌≤◌, ◌+◌, ◌/◌, ◌%◌, ◌==◌, if◌then◌else◌, ℕ, Bool, true, false, List, [], ◌++◌, append_assoc, length, Option, Some, None, Ok, refl, sym, ap, ◌∙◌, subst, inl, inr, arith}
use Rattle.std.specs.Prelude.{min}
use Rattle.std.proofs.lemmas.Bool.{cases_Bool, cases_lt}
use Rattle.jfs_bits.proofs.Parts.{length-range_of}
use Rattle.jfs_bits.specs.declared.descriptor.Moment.{Moment}
use Rattle.jfs_bits.specs.declared.extent.Xad.{Xad}
use Rattle.jfs_bits.specs.declared.rule.PageKind.TheVariants as kinds
use Rattle.jfs_imap.specs.Inodes.{Inodes}
use Rattle.jfs_inode.specs.declared.fields.Dinode.{Dinode}
use Rattle.jfs_ranges.specs.declared.edit.Edit.{Edit}
use Rattle.jfs_ranges.specs.Apply.{apply_tx}
use Rattle.jfs_ranges.specs.Laid.{put_tx, applied_length}
use Rattle.jfs_tree.specs.Changes.{TellsChanges}
use Rattle.jfs_tree.specs.Edit.{count_in}
use Rattle.jfs_tree.specs.Fresh.{LeadsTo, after_tx, blocks_of}
use Rattle.jfs_tree.specs.Removes.{page_frees}
use Rattle.jfs_tree.specs.Spells.{spells, footprint}
use Rattle.jfs_tree.specs.Tell.{TellsThen}
use Rattle.jfs_xtree.specs.Cutting.{HasOnlyBelow, kept_below, gone_past, run_frees}
use Rattle.jfs_xtree.specs.Node.{xt_scale, xt_node}
use Rattle.jfs_xtree.specs.Spells.{page_nodes, root_form, spells_extents, owned_pages}
use Rattle.jfs_truncate.specs.Call.{Resizes}
use Rattle.jfs_truncate.specs.Tail.{blocks_for, tail_block, IsTail}
use Rattle.jfs_truncate.proofs.Bytes.{is_tail}
use Rattle.jfs_truncate.proofs.Kept.{below, balance}
use Rattle.jfs_truncate.specs.read.specs.Read.{block_by}
use Rattle.jfs_truncate.specs.read.specs.bmap.specs.States.{Blocks}
use Rattle.jfs_truncate.specs.read.proofs.Found.{found_is, block_found}
use Rattle.jfs_truncate.specs.data_steps.specs.After.{is_put, AreWholePages, put_data, with_data, after_writes, LeavesPage}
use Rattle.jfs_truncate.specs.data_steps.specs.File.{resized}
use Rattle.jfs_truncate.specs.data_steps.specs.Laws.{MayPut, SetsFile, PutsAlone, IsSetWithData}
use Rattle.jfs_truncate.specs.data_steps.specs.declared.pages.DataPage.{DataPage}
use Rattle.jfs_truncate.specs.data_steps.proofs.Extents.{had, had_below, had_once, data_was, data_now, extents_set, file_sets, some_extents}
use Rattle.jfs_truncate.specs.data_steps.proofs.Putting.{put_off}
use Rattle.jfs_truncate.specs.data_steps.proofs.Setting.{set_law}
use Rattle.jfs_truncate.specs.data_steps.specs.lead_steps.specs.Balance.{own_after}
use Rattle.jfs_truncate.specs.data_steps.specs.lead_steps.proofs.Named.{all_below}
use Rattle.jfs_truncate.specs.data_steps.specs.loss.proofs.Counts.{count_append, runs_move, frees_then, changes_move, same_moves}
use Rattle.jfs_truncate.specs.data_steps.specs.loss.proofs.Holds.{extents_listed}
use Rattle.jfs_truncate.specs.data_steps.specs.meaning.specs.Contents.{is_regular}
use Rattle.jfs_truncate.specs.data_steps.specs.meaning.specs.Readers.{readers, root_of}
use Rattle.jfs_truncate.specs.data_steps.specs.objects.specs.Contents.{block_of}
use Rattle.jfs_truncate.specs.data_steps.specs.objects.specs.Readers.{Readers}
use Rattle.jfs_truncate.specs.data_steps.specs.objects.specs.Volume.{Volume}
use Rattle.jfs_truncate.specs.data_steps.specs.objects.specs.Objects.{Object, objects, spelled, is_live}
use Rattle.jfs_truncate.specs.data_steps.specs.objects.specs.Owners.{holds, bit, covers, is_data, data_held, attributes_held}
use Rattle.jfs_truncate.specs.data_steps.specs.objects.specs.Laws.{ChangesOne, IsOwnedOnce}
use Rattle.jfs_truncate.specs.data_steps.specs.objects.specs.Changes.{SetsObject}
use Rattle.jfs_truncate.specs.data_steps.specs.objects.proofs.Blocks.{covered}
use Rattle.jfs_truncate.specs.data_steps.specs.objects.proofs.Owned.{owned_once}
use Rattle.jfs_truncate.specs.data_steps.specs.objects.proofs.Set.{object_is_set}
use Rattle.jfs_truncate.specs.data_steps.specs.objects.proofs.Sums.{put_here, zero_or_more}
use Rattle.jfs_truncate.specs.data_steps.specs.steps.specs.After.{frees}
use Rattle.jfs_truncate.specs.data_steps.specs.steps.specs.Gains.{after_set}
use Rattle.jfs_truncate.specs.data_steps.specs.steps.specs.Laws.{TakesAndFrees, IsFair}
use Rattle.jfs_truncate.specs.data_steps.specs.steps.proofs.Puts.{put_within}
use Rattle.jfs_truncate.specs.data_steps.specs.steps.proofs.Sets.{frees_onto, frees_move, moves_onto, lines_move, lines_on_top}
use Rattle.jfs_truncate.specs.data_steps.specs.way.specs.Volume.{volume_of}
use Rattle.jfs_truncate.specs.data_steps.specs.way.specs.declared.object.Held.{Held}
use Rattle.jfs_truncate.specs.data_steps.specs.way.proofs.Nodes.{lives}
use Rattle.jfs_truncate.specs.data_steps.proofs.Told.{leaves_none, frees_leave, changes_leave, lines_leave_others}
use Rattle.jfs_truncate.specs.data_steps.specs.kinds.specs.Laws.{KeepsKinds, HasSameOwners}
use Rattle.jfs_truncate.specs.data_steps.specs.kinds.specs.Owner.{has_page, has_data, has_still, owner_of}
use Rattle.jfs_truncate.specs.data_steps.specs.kinds.specs.Owner.Owner.{Inodes as OfInodes, Data}
use Rattle.jfs_truncate.specs.data_steps.specs.kinds.proofs.Logged.{logged_law}
use Rattle.jfs_truncate.specs.data_steps.specs.kinds.proofs.Parts.{parts}
use Rattle.jfs_truncate.specs.data_steps.specs.kinds.proofs.Single.{has_owners}
use Rattle.jfs_truncate.specs.data_steps.specs.kinds.proofs.Stay.{same_owners}
use Rattle.jfs_names_logged.specs.calls_logged.specs.Calls.{IsReady}
use Rattle.jfs_names_logged.specs.calls_logged.specs.Found.{IsFound}
use Rattle.jfs_names_logged.specs.calls_logged.specs.logged.specs.halves.specs.Marks.{frees_page}
use Rattle.jfs_names_logged.specs.calls_logged.specs.logged.specs.recovery.specs.records.specs.Redo.{closes_in}
use Rattle.jfs_names_logged.specs.calls_logged.specs.logged.specs.Logged.{logged_in}
use Rattle.jfs_names_logged.specs.calls_logged.specs.logged.specs.Own.{LogsItsOwn}
use Rattle.jfs_names_logged.specs.calls_logged.specs.logged.specs.Trees.{TellsPages}
use Rattle.jfs_names_logged.specs.calls_logged.specs.logged.proofs.Joined.{never, freed_rest, is_in_use}
use Rattle.jfs_names_logged.specs.calls_logged.specs.logged.proofs.Pages.{pages_law, closes_onto, leaves_onto}
use Rattle.jfs_names_logged.specs.calls_logged.specs.logged.proofs.Staged.{runs_law}
use Rattle.jfs_names_logged.specs.calls_logged.specs.logged.proofs.Written.{freed_onto, not_page, trees_law}
use Rattle.jfs_names_logged.proofs.Directory.{beside_pages, none_below}
use Rattle.jfs_names_logged.proofs.Frees.{runs_touch, runs_close, runs_leave, then_freed, then_open}
use Rattle.jfs_contents_logged.proofs.WithData.{logged_after_data}

data_is : (r : Readers) (o : Object) (b : ℕ) → is_data r (Some o) b ≡ data_held r o b
unfolding is_data
data_is r o b = refl

file_data_is : (r : Readers) (page : ℕ → List ℕ) (d : Dinode) (b : ℕ) → is_regular d ≡ true → has_data r (Some (spelled r page d)) b ≡ data_held r (spelled r page d) b
unfolding has_data spelled
file_data_is r page d b regular = rw regular refl

same_attributes : (r : Readers) (page other : ℕ → List ℕ) (d : Dinode) (root : List ℕ) (size own : ℕ) (now : Moment) (b : ℕ) → attributes_held (spelled r page (resized d root size own now)) b ≡ attributes_held (spelled r other d) b
unfolding spelled
same_attributes r page other d root size own now b = refl

module _ (blocks : ℕ) (pages : ℕ → List ℕ) (area : ℕ → ℕ) (bm : Blocks) (inodes : Inodes) (ready : IsReady blocks pages area bm inodes) (within : (b : ℕ) → (volume_of pages area bm inodes).used b ≡ true → b < blocks)
    (at : Held) (found : IsFound blocks pages area bm inodes at) (regular : is_regular at.inode ≡ true) (size : ℕ) (now : Moment) (tx : List Edit) (z : Resizes blocks pages at size now tx) where
  abbrev r : Readers
  r = readers blocks

  abbrev v : Volume
  v = volume_of pages area bm inodes

  abbrev n : ℕ
  n = at.number

  abbrev d : Dinode
  d = at.inode

  abbrev whole : (b : ℕ) → b < blocks → length (pages b) ≡ 4096
  whole = ready.are_pages.sizes

  abbrev kept : ℕ
  kept = min d.size size

  abbrev bound : ℕ
  bound = blocks_for kept

  abbrev es : List Xad
  es = (ready.consistent.sound.whole n (spelled r pages d) found.was).extents

  abbrev later_es : List Xad
  later_es = kept_below bound es

  wide : length (root_of d) ≡ 288
  wide = length-range_of d.rest 96 288 (let s = z.rest in omega (arith, s))

  spelled_es : spells_extents blocks pages (root_of d) ≡ Ok es
  spelled_es = sym (extents_listed blocks pages d wide (some_extents d regular)) ∙ (ready.consistent.sound.whole n (spelled r pages d) found.was).extents_are

  live : is_live n d ≡ true
  live = ap (is_live n) found.shown ∙ lives blocks v ready.consistent n at.page found.home_is found.there

  -- ---- the cut

  leads : LeadsTo blocks pages [] pages
  leads b l = (whole b l, refl)

  told : (freed : List ℕ) × TellsThen (page_frees freed ++ run_frees (gone_past bound es)) [] z.cut × ((base : ℕ → List ℕ) → LeadsTo blocks base [] pages → HasOnlyBelow blocks bound es pages (after_tx base z.cut) (root_of d) z.root freed)
  told = z.cuts es spelled_es

  abbrev later : ℕ → List ℕ
  later = after_tx pages z.cut

  only : HasOnlyBelow blocks bound es pages later (root_of d) z.root told.0
  only = told.2 pages leads

  same_width : length z.root ≡ length (root_of d)
  same_width = z.width ∙ sym wide

  turned : spells_extents blocks later z.root ≡ Ok later_es
  turned = ap (λ (k : ℕ). spells xt_scale (page_nodes blocks later) (xt_node (root_form k) blocks z.root)) same_width ∙ only.spelled

  owned_is : (b : ℕ) → owned_pages blocks later z.root b ≡ footprint xt_scale (page_nodes blocks later) (xt_node (root_form (length (root_of d))) blocks z.root) b
  owned_is b = ap (λ (k : ℕ). footprint xt_scale (page_nodes blocks later) (xt_node (root_form k) blocks z.root) b) same_width

  abbrev freed : List ℕ
  freed = told.0 ++ blocks_of (gone_past bound es)

  freed_is : (b : ℕ) → count_in b freed ≡ count_in b told.0 + count_in b (blocks_of (gone_past bound es))
  freed_is b = count_append b told.0 (blocks_of (gone_past bound es))

  owned : (b : ℕ) → owned_pages blocks later z.root b + covers b later_es + count_in b freed ≡ owned_pages blocks pages (root_of d) b + covers b es + count_in b []
  owned b = let o = only.owned b in let e = owned_is b in let c = balance bound b es in let a = freed_is b in omega (arith, o, e, c, a)

  cut_moves : TakesAndFrees z.cut [] ([] ++ (z.tells.0 ++ blocks_of z.tells.1))
  cut_moves = changes_move blocks kinds.Xtree pages (page_frees z.tells.0 ++ run_frees z.tells.1) [] z.cut [] (z.tells.0 ++ blocks_of z.tells.1) (λ first bytes. refl) (lines_move [] tt)
      (moves_onto (page_frees z.tells.0) (run_frees z.tells.1) [] z.tells.0 [] (blocks_of z.tells.1) (frees_move z.tells.0) (runs_move z.tells.1)) z.tells.2

  frees_cut : (b : ℕ) → frees z.cut b ≡ count_in b freed
  frees_cut b =
      let f = frees_then b [] z.cut (page_frees told.0 ++ run_frees (gone_past bound es)) told.1 in let g = frees_onto (page_frees told.0) (run_frees (gone_past bound es)) b in
      let p = (frees_move told.0).freed_are b in let q = (runs_move (gone_past bound es)).freed_are b in let a = freed_is b in omega (arith, f, g, p, q, a)

  moves : TakesAndFrees tx [] freed
  moves = lines_on_top blocks pages at.page z.cut tx [] freed (same_moves z.cut ([] ++ (z.tells.0 ++ blocks_of z.tells.1)) freed cut_moves frees_cut) z.lines

  once : (b : ℕ) → owned_pages blocks pages (root_of d) b + covers b es ≤ 1
  once b = had_once blocks v ready.consistent within whole n d found.was live regular z.rest es spelled_es b

  had_it : (b : ℕ) → owned_pages blocks pages (root_of d) b + covers b es ≤ holds r (objects r v n) b
  had_it b = let h = had blocks v ready.consistent within whole n d found.was live regular z.rest es spelled_es b in omega (arith, h)

  owned_v : IsOwnedOnce r v
  owned_v = owned_once r v ready.consistent.sound.agrees

  fair : IsFair tx v.used
  fair = record {
    fresh = λ b l. absurd (let t = moves.taken_are b in omega (arith, t, l));
    owned = λ b l. owned_v.in_use n b (let f = moves.freed_are b in let o = owned b in let h = had_it b in omega (arith, f, o, h, l));
    once = λ b. (let t = moves.taken_are b in let f = moves.freed_are b in let o = owned b in let h = once b in omega (arith, t, f, o, h));
  }

  abbrev set : Dinode
  set = resized d z.root size (own_after d.nblocks z.cut) now

  abbrev mid : ℕ → List ℕ
  mid = put_tx blocks z.cut pages

  abbrev w : Volume
  w = after_set blocks tx n v

  keeps : (b : ℕ) → b < blocks → owned_pages blocks pages (root_of d) b ≡ 0 → count_in b [] ≡ 0 → later b ≡ pages b
  keeps b l h t = only.keeps b l (let o = only.owned b in omega (arith, o, h))

  nothing : (b : ℕ) → 0 < count_in b [] → b < blocks
  nothing b l = absurd (omega (arith, l))

  sets : SetsObject r v w n set mid [] freed
  sets = extents_set blocks v ready.consistent within whole n d found.was live regular z.rest es spelled_es z.root z.width size (own_after d.nblocks z.cut) now later_es z.cut tx [] freed turned owned keeps nothing moves fair (z.puts v.extents found.home_is)

  one : ChangesOne r v w n (Some (spelled r mid set))
  one = (object_is_set r v w n set mid [] freed ready.consistent.sound sets).0

  -- ---- its pages and its data, before and after

  data_before : (b : ℕ) → data_held r (spelled r pages d) b ≡ covers b es
  data_before b = sym (data_is r (spelled r pages d) b) ∙ sym (ap (λ (o : Option Object). is_data r o b) found.was) ∙ data_was blocks v ready.consistent within whole n d found.was live regular z.rest es spelled_es b

  data_then : (b : ℕ) → data_held r (spelled r mid set) b ≡ covers b later_es
  data_then b = sym (data_is r (spelled r mid set) b)
      ∙ data_now blocks v ready.consistent within whole n d found.was live regular z.rest es spelled_es z.root z.width size (own_after d.nblocks z.cut) now later_es z.cut tx [] freed turned owned keeps nothing b

  pages_before : (b : ℕ) → has_page r (objects r v n) b ≡ owned_pages blocks pages (root_of d) b
  pages_before b =
      let h = had blocks v ready.consistent within whole n d found.was live regular z.rest es spelled_es b in let w = ap (λ (o : Option Object). holds r o b) found.was in
      let p = beside_pages r (spelled r pages d) b in let s = ap (λ (o : Option Object). has_page r o b) found.was in let e = data_before b in omega (arith, h, w, p, s, e)

  pages_then : (b : ℕ) → has_page r (Some (spelled r mid set)) b ≡ owned_pages blocks later z.root b
  pages_then b =
      let s = sets.blocks b in let h = had blocks v ready.consistent within whole n d found.was live regular z.rest es spelled_es b in let p = beside_pages r (spelled r mid set) b in
      let e = data_then b in let a = same_attributes r mid pages d z.root size (own_after d.nblocks z.cut) now b in let o = owned b in omega (arith, s, h, p, e, a, o)

  used_then : (b : ℕ) → bit (w.used b) + count_in b freed ≡ bit (v.used b)
  used_then b = let u = sets.takes.used b in omega (arith, u)

  bit_of : (s : Bool) → s ≡ true → bit s ≡ 1
  bit_of true h = refl
  bit_of false h = absurd (cc (h))

  at_most : (s : Bool) → bit s ≤ 1
  at_most true = omega arith
  at_most false = omega arith

  no_bit : (s : Bool) → bit s ≡ 0 → s ≡ false
  no_bit true h = absurd (omega (arith, h))
  no_bit false h = refl

  kinds_kept : KeepsKinds r v w (objects r v n) (Some (spelled r mid set))
  kinds_kept = record {
    pages = λ b was still. (let p = pages_before b in let q = pages_then b in let o = only.owned b in let e = owned_is b in let f = none_freed b was still in let a = freed_is b in omega (arith, p, q, o, e, f, a));
    file_data = λ b was still. (let p = ap (λ (o : Option Object). has_data r o b) found.was in let x = file_data_is r pages d b regular in let y = file_data_is r mid set b regular in let s = data_before b in let t = data_then b in
        let c = balance bound b es in let f = none_freed b was still in let a = freed_is b in omega (arith, p, x, y, s, t, c, f, a));
  }
    where
      none_freed : (b : ℕ) → v.used b ≡ true → w.used b ≡ true → count_in b freed ≡ 0
      none_freed b was still = let u = used_then b in let x = bit_of (v.used b) was in let y = bit_of (w.used b) still in omega (arith, u, x, y)

  -- its attributes are those that it had
  none_still : (b : ℕ) → v.used b ≡ false → has_still r (Some (spelled r mid set)) b ≡ 0
  none_still b free =
      let p = parts r (Some (spelled r mid set)) b in
      let s = beside_pages r (spelled r mid set) b in
      let f = file_data_is r mid set b regular in
      let a = same_attributes r mid pages d z.root size (own_after d.nblocks z.cut) now b in
      let h = beside_pages r (spelled r pages d) b in
      let o = ap (λ (o : Option Object). holds r o b) found.was in
      let n = held_none (zero_or_more (holds r (objects r v n) b)) in
      omega (arith, p, s, f, a, h, o, n)
    where
      held_none : (holds r (objects r v n) b ≡ 0) ⊎ (0 < holds r (objects r v n) b) → holds r (objects r v n) b ≡ 0
      held_none (inl z) = z
      held_none (inr l) = never (v.used b) (owned_v.in_use n b l) free

  -- ---- what is told

  abbrev gone : List ℕ
  gone = z.tells.0

  tells : TellsChanges blocks kinds.Xtree [] pages (page_frees gone ++ run_frees z.tells.1) [] z.cut
  tells = z.tells.2

  cut_is : z.cut ≡ (tells.lines ++ page_frees gone) ++ run_frees z.tells.1
  cut_is = tells.told ∙ sym (append_assoc tells.lines (page_frees gone) (run_frees z.tells.1))

  new_is : (b : ℕ) → b < blocks → tells.after b ≡ later b
  new_is b l = sym (tells.leads pages leads b l).1

  sizes : (b : ℕ) → 0 < count_in b tells.changed → length (tells.after b) ≡ 4096
  sizes b some = (let l = all_below blocks tells.changed b tells.within some in ap (λ (x : List ℕ). length x) (new_is b l) ∙ applied_length b z.cut (pages b) ∙ whole b l)

  front : TellsPages [] gone tells.changed pages tells.after (tells.lines ++ page_frees gone)
  front = pages_law.gives kinds.Xtree [] tells.changed gone pages tells.after tells.lines tells.edits tells.once sizes

  cut_tells : TellsPages [] gone tells.changed pages tells.after z.cut
  cut_tells = subst (TellsPages [] gone tells.changed pages tells.after) (sym cut_is) (record {
    freed_are = λ q some. freed_onto q (tells.lines ++ page_frees gone) (run_frees z.tells.1) (front.freed_are q some) (runs_touch q z.tells.1);
    open_are = λ q none. closes_onto q (tells.lines ++ page_frees gone) (run_frees z.tells.1) (front.open_are q none) (runs_close q z.tells.1);
    others = λ q h. leaves_onto q (tells.lines ++ page_frees gone) (run_frees z.tells.1) (front.others q h) (runs_leave q z.tells.1);
    whole = λ q some took. absurd (cc (took));
  })

  -- both tell the same pages as freed
  in_gone : (q : ℕ) → 0 < count_in q told.0 → 0 < count_in q gone
  in_gone q some = elim (zero_or_more (count_in q gone)) [
    | inr l ↦ l
    | inl none ↦ never (closes_in q z.cut) (freed_rest q z.cut (ap (frees_page q) told.1.2 ∙ then_freed q told.1.0 told.1.1 told.0 (gone_past bound es) some)).0 (cut_tells.open_are q none)
  ]

  in_told : (q : ℕ) → 0 < count_in q gone → 0 < count_in q told.0
  in_told q some = elim (zero_or_more (count_in q told.0)) [
    | inr l ↦ l
    | inl none ↦ never (closes_in q z.cut) (freed_rest q z.cut (cut_tells.freed_are q some)).0 (ap (closes_in q) told.1.2 ∙ then_open q told.1.0 told.1.1 told.0 (gone_past bound es) none)
  ]

  tx_is : tx ≡ z.cut ++ z.lines.0
  tx_is = z.lines.1

  pub cut_logged : LogsItsOwn r v w tx
  cut_logged = subst (LogsItsOwn r v w) (sym tx_is) ((trees_law.writes r v w n z.cut z.lines.0 ready.consistent.sound (record {
    page = at.page;
    set = set;
    mid = mid;
    taken = [];
    freed = freed;
    at = found.home_is;
    sets = sets;
    kinds = kinds_kept;
    pages = λ q was now. put_within blocks tx pages q (within q was) ∙ ap (λ (e : List Edit). apply_tx q e (pages q)) tx_is;
    runs = runs_law at.page kinds.Inode (put_tx blocks z.cut pages at.page) (put_tx blocks tx pages at.page) 0 z.lines.0 z.lines.2;
    none_still = none_still;
    told = [];
    gone = gone;
    changed = tells.changed;
    new = tells.after;
    tells = cut_tells;
    new_is = λ q some. (let l = all_below blocks tells.changed q tells.within some in new_is q l ∙ sym (put_within blocks z.cut pages q l));
    come = λ q free l. absurd (let p = pages_then q in let o = only.owned q in let e = owned_is q in let u = ap bit free in let b = ap bit (owned_v.in_use n q (let h = had_it q in omega (arith, h, p, o, e, l))) in omega (arith, u, b));
    go = λ q free l. in_gone q (let p = pages_before q in let h = had_it q in let u = used_then q in let f = ap bit free in let b = bit_of (v.used q) (owned_v.in_use n q (omega (arith, p, h, l))) in
        let a = freed_is q in let c = balance bound q es in let k = once q in omega (arith, p, u, f, b, a, c, k, l));
    gone_are = λ q l. (no_bit (w.used q) (let t = in_told q l in let a = freed_is q in let u = used_then q in let m = at_most (v.used q) in omega (arith, t, a, u, m)), (let t = in_told q l in let o = only.owned q in let p = pages_before q in omega (arith, t, o, p)));
    others = λ q none stays. elim (cases_lt q blocks) [
      | inr l ↦ inl (none_below blocks q tells.changed tells.within l)
      | inl l ↦ inr (refl, new_is q l ∙ only.keeps q l (let p = pages_then q in let e = owned_is q in omega (arith, p, e, none)))
    ];
  })).own)

  -- ---- the data

  stays_data : (b : ℕ) → 0 < covers b later_es → 0 < covers b es
  stays_data b l = let c = balance bound b es in omega (arith, c, l)

  no_page_there : (b : ℕ) → 0 < covers b later_es → footprint xt_scale (page_nodes blocks later) (xt_node (root_form (length (root_of d))) blocks z.root) b ≡ 0
  no_page_there b l = let c = stays_data b l in let o = only.owned b in let h = once b in omega (arith, c, o, h)

  low : (b : ℕ) → 0 < covers b es → b < blocks
  low b l = had_below blocks v ready.consistent within whole n d found.was live regular z.rest es spelled_es b (omega (arith, l))

  tail_is : tail_block blocks pages d kept ≡ (if kept % 4096 == 0 then None else block_of es (kept / 4096))
  tail_is = ap (λ (x : Option ℕ). if kept % 4096 == 0 then None else x)
      (ap (λ (e : Option Xad). block_by e (kept / 4096)) (found_is blocks pages (root_of d) (kept / 4096) es spelled_es)
      ∙ block_found (kept / 4096) 0 (spelled r pages d).extents es (ready.consistent.sound.whole n (spelled r pages d) found.was).extents_are)

  module _ (ds : List DataPage) (tail : IsTail pages kept (tail_block blocks pages d kept) ds) (full : AreWholePages ds) where
    put_at : (b : ℕ) → is_put b ds ≡ true → (block_of es (kept / 4096) ≡ Some b) × (kept / 4096 < bound)
    put_at b e = by (kept % 4096 == 0) refl (sym tail_is ∙ is_tail pages kept ds (tail_block blocks pages d kept) b tail e)
      where
        by : (x : Bool) → (kept % 4096 == 0) ≡ x → (if x then None else block_of es (kept / 4096)) ≡ Some b → (block_of es (kept / 4096) ≡ Some b) × (kept / 4096 < bound)
        by true h s = absurd (cc (s))
        by false h s = (s, (let e = ap (λ (x : Bool). if x then kept / 4096 else kept / 4096 + 1) h in omega (arith, e)))

    was_data : (b : ℕ) → is_put b ds ≡ true → 0 < covers b es
    was_data b e = covered es (kept / 4096) b (put_at b e).0

    before : MayPut r v n ds
    before b e = inr (let c = was_data b e in let w = data_was blocks v ready.consistent within whole n d found.was live regular z.rest es spelled_es b in omega (arith, c, w))

    after : (b : ℕ) → is_put b ds ≡ true → 0 < covers b later_es
    after b e = covered later_es (kept / 4096) b (below bound (kept / 4096) es (put_at b e).1 ∙ (put_at b e).0)

    -- the inode's page is no data
    not_home : (b : ℕ) → 0 < covers b es → b ≢ at.page
    not_home b l e = different (sym ((has_owners r v ready.consistent.sound.agrees).alone b (Data n) ours) ∙ ap (owner_of r v) e ∙ (logged_law.reads r v ready.consistent.sound).inodes n at.page found.home_is)
      where
        different : Some (Data n) ≡ Some OfInodes → ⊥
        different h = cc (h)

        ours : 0 < has_data r (objects r v n) b
        ours = let p = ap (λ (o : Option Object). has_data r o b) found.was in let x = file_data_is r pages d b regular in let s = data_before b in omega (arith, p, x, s, l)

    untold : (b : ℕ) → 0 < covers b later_es → LeavesPage b tx
    untold b l = lines_leave_others blocks pages at.page b z.cut tx (not_home b (stays_data b l))
        (changes_leave blocks kinds.Xtree [] pages pages (page_frees z.tells.0 ++ run_frees z.tells.1) [] z.cut z.tells.2 leads b (low b (stays_data b l)) refl (only.keeps b (low b (stays_data b l)) (no_page_there b l)) (frees_leave b z.tells.0 z.tells.1) (leaves_none b))
        z.lines

    file : SetsFile blocks v n d z.root size (own_after d.nblocks z.cut) now later_es mid [] freed ds tx
    file = file_sets blocks v ready.consistent within whole n d found.was live regular z.rest es spelled_es z.root z.width size (own_after d.nblocks z.cut) now later_es z.cut tx [] freed turned owned keeps nothing moves fair (z.puts v.extents found.home_is)
        ds full before after untold

    both : PutsAlone r v (with_data ds v) n × IsSetWithData r v (after_writes blocks ds tx v) n (spelled r mid set) ds
    both = set_law blocks v n set mid [] freed ds tx ready.consistent.sound file.sets

    abbrev y : Volume
    y = after_writes blocks ds tx v

    same_objects : (k : ℕ) → objects r y k ≡ objects r w k
    same_objects k = both.1.one.objects_are k ∙ sym (one.objects_are k)

    owners_then : HasSameOwners r w y
    owners_then = same_owners r w y (record { extents = moves.extents_stay v.extents; area = λ b. refl }) same_objects

    -- what is put isn't kept safe, and the others have the bytes that they have without
    same_pages : (p : ℕ) → logged_in r w p ≡ true → y.page p ≡ w.page p
    same_pages p kept_safe = by (cases_Bool (is_put p ds))
      where
        l : p < blocks
        l = within p (was_used (v.used p) (let e = ap bit (is_in_use r w one.sound.agrees p kept_safe) in let u = used_then p in omega (arith, e, u)))
          where
            was_used : (s : Bool) → 0 < bit s → s ≡ true
            was_used true h = refl
            was_used false h = absurd (omega (arith, h))

        is_data_then : is_put p ds ≡ true → logged_in r w p ≡ false
        is_data_then e = not_page r w one.sound.agrees n p (let t = ap (λ (o : Option Object). holds r o p) now_is in let b = beside_pages r (spelled r mid set) p in let d = data_then p in let l = after p e in omega (arith, t, b, d, l))
            (let t = ap (λ (o : Option Object). has_page r o p) now_is in let q = pages_then p in let f = no_page_there p (after p e) in let o = owned_is p in omega (arith, t, q, f, o))
          where
            now_is : objects r w n ≡ Some (spelled r mid set)
            now_is = one.objects_are n ∙ put_here n (Some (spelled r mid set)) (objects r v)

        by : (is_put p ds ≡ true) ⊎ (is_put p ds ≡ false) → y.page p ≡ w.page p
        by (inl e) = never (logged_in r w p) kept_safe (is_data_then e)
        by (inr e) = put_within blocks tx (put_data ds pages) p l ∙ ap (apply_tx p tx) (put_off ds p (pages p) e) ∙ sym (put_within blocks tx pages p l)

    pub truncated : LogsItsOwn r (with_data ds v) y tx
    truncated = logged_after_data r v w (with_data ds v) y tx both.0.owners owners_then (λ b. refl) (λ b. refl) both.0.none.sound.agrees both.1.one.sound.agrees (λ b. refl) (λ b. refl) (λ p was now. put_within blocks tx (put_data ds pages) p (within p was)) same_pages cut_logged
