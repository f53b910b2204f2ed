-- A file that bytes are put into, on a consistent volume: what its tree and its data are then.
use Rattle.std.proofs.Common.{◌≡◌, ◌≢◌, ◌≤◌, ◌<◌, refl, sym, ap, ◌∙◌, subst, inl, inr, ℕ, ◌+◌, ◌/◌, ◌&&◌, Bool, true, false, nat_lt, List, [], ◌∷◌, ◌++◌, length, Ok, arith}
use Rattle.std.specs.Prelude.{max}
use Rattle.std.specs.List.{All}
use Rattle.jfs_bits.proofs.Parts.{length-range_of}
use Rattle.jfs_bits.specs.declared.descriptor.Moment.{Moment}
use Rattle.jfs_bits.specs.declared.descriptor.Pxd.{Pxd}
use Rattle.jfs_bits.specs.declared.extent.Xad.{Xad}
use Rattle.jfs_bits.specs.declared.rule.PageKind.TheVariants.{Xtree}
use Rattle.jfs_bmap.proofs.Reservations.{reservation-total}
use Rattle.jfs_bmap.specs.States.{Blocks}
use Rattle.jfs_imap.specs.Inodes.{Inodes}
use Rattle.jfs_inode.specs.declared.fields.Dinode.{Dinode}
use Rattle.jfs_ranges.specs.declared.edit.Edit.{Edit}
use Rattle.jfs_ranges.specs.Apply.{apply_tx}
use Rattle.jfs_tree.specs.Edit.{count_in}
use Rattle.jfs_tree.specs.Fresh.{LeadsTo, after_tx, blocks_of, allocs_of}
use Rattle.jfs_tree.specs.Root.{IsSpare}
use Rattle.jfs_tree.specs.Spells.{spells, footprint}
use Rattle.jfs_xtpage.specs.Page.{rises_from}
use Rattle.jfs_xtree.specs.Node.{xt_scale, xt_node}
use Rattle.jfs_xtree.specs.Spells.{page_nodes, root_node, root_form, spells_extents, owned_pages}
use Rattle.jfs_xtree.specs.Writing.{is_recorded, AllLong, AllTo, place_at}
use Rattle.jfs_write_pages.specs.Spots.{spots_from, holes_in, placed, extents_for}
use Rattle.jfs_write_pages.specs.declared.spot.Spot.{Spot}
use Rattle.jfs_write_pages.proofs.Blocks.{AreFrom, extents_rows, placed_from, covers_more}
use Rattle.jfs_write_pages.proofs.Given.{extents_rise, rows_long, rows_recorded}
use Rattle.jfs_write_pages.proofs.Held.{put_covers}
use Rattle.jfs_write_pages.specs.written.specs.Range.{with_range}
use Rattle.jfs_write_pages.specs.written.specs.RangeLaws.{or_else}
use Rattle.jfs_write_pages.specs.written.proofs.Blocks.{writes_range}
use Rattle.jfs_write_pages.specs.data_steps.specs.After.{is_put, AreWholePages, LeavesPage}
use Rattle.jfs_write_pages.specs.data_steps.specs.Laws.{MayPut}
use Rattle.jfs_write_pages.specs.data_steps.specs.declared.pages.DataPage.{DataPage}
use Rattle.jfs_write_pages.specs.data_steps.proofs.Extents.{had, had_once, data_was}
use Rattle.jfs_write_pages.specs.data_steps.proofs.Held.{used_below}
use Rattle.jfs_write_pages.specs.data_steps.proofs.Told.{leaves_none, leaves_onto, allocs_leave, changes_leave, lines_leave_others}
use Rattle.jfs_write_pages.specs.data_steps.specs.lead_steps.specs.Balance.{own_after}
use Rattle.jfs_write_pages.specs.data_steps.specs.meaning.specs.Contents.{is_regular}
use Rattle.jfs_write_pages.specs.data_steps.specs.meaning.specs.Readers.{readers, root_of}
use Rattle.jfs_write_pages.specs.data_steps.specs.steps.specs.Laws.{TakesAndFrees, IsFair}
use Rattle.jfs_write_pages.specs.data_steps.specs.way.specs.Volume.{volume_of}
use Rattle.jfs_write_pages.specs.data_steps.specs.way.specs.declared.object.Held.{Held}
use Rattle.jfs_write_pages.specs.data_steps.specs.way.proofs.Nodes.{lives}
use Rattle.jfs_write_pages.specs.loss.proofs.Counts.{count_append}
use Rattle.jfs_write_pages.specs.loss.specs.plain.specs.Step.{blocks_in}
use Rattle.jfs_write_pages.specs.objects.specs.Readers.{Readers}
use Rattle.jfs_write_pages.specs.objects.specs.Volume.{Volume}
use Rattle.jfs_write_pages.specs.objects.specs.Objects.{objects, is_live}
use Rattle.jfs_write_pages.specs.objects.specs.Owners.{holds, covers, extents_have, bit}
use Rattle.jfs_write_pages.specs.objects.proofs.Homes.{home_counts}
use Rattle.jfs_write_pages.specs.objects.proofs.Owned.{owned_once, fixed_is_no_objects}
use Rattle.jfs_write_pages.specs.objects.proofs.Sums.{zero_or_more}
use Rattle.jfs_write.specs.Look.{FitsBytes, spots_at, want_for}
use Rattle.jfs_write.specs.Tree.{run_allocs, PutsExtents}
use Rattle.jfs_write.specs.Make.{Makes}
use Rattle.jfs_write.specs.Call.{MayTake}
use Rattle.jfs_write.specs.declared.make.Written.{Written}
use Rattle.jfs_write.specs.file_blocks.specs.runs.proofs.Counted.{all_laws}
use Rattle.jfs_write.proofs.Counts.{blocks_append, counted_below, not_in}
use Rattle.jfs_write.proofs.Spelled.{spelled_within, spelled_rises, rises_lower, within_long, within_low, bounded, to_more}
use Rattle.jfs_write.proofs.Spots.{last_block}
use Rattle.jfs_write.proofs.Moves.{took, took_front, same_after, runs_leave, edits_move}
use Rattle.jfs_contents_logged.specs.calls_logged.specs.Calls.{IsReady}
use Rattle.jfs_contents_logged.specs.calls_logged.specs.Found.{IsFound}
use Rattle.jfs_contents_logged.specs.Calls.{IsLoggedAfter}
use Rattle.jfs_writes_logged.proofs.File.{Growing, file_logged}
use Rattle.jfs_writes_logged.proofs.Tree.{TellsTree, tree_told}

module _ (blocks : ℕ) (pages : ℕ → List ℕ) (area : ℕ → ℕ) (bm : Blocks) (inodes : Inodes) (ready : IsReady blocks pages area bm inodes) (many : length bm.states ≡ blocks)
    (at : Held) (found : IsFound blocks pages area bm inodes at) (regular : is_regular at.inode ≡ true) (es : List Xad) (spelled_es : spells_extents blocks pages (root_of at.inode) ≡ Ok es) (rest : length at.inode.rest ≡ 384)
    (offset : ℕ) (bytes : List ℕ) (fits : FitsBytes offset (length bytes)) (runs free : List Pxd) (may : MayTake bm (want_for es (spots_at es offset (length bytes))) runs free) where
  abbrev r : Readers
  r = readers blocks

  abbrev v : Volume
  v = volume_of pages area bm inodes

  abbrev n : ℕ
  n = at.number

  abbrev d : Dinode
  d = at.inode

  abbrev first : ℕ
  first = offset / 4096

  abbrev count : ℕ
  count = blocks_in offset (length bytes)

  abbrev news : List ℕ
  news = blocks_of runs

  abbrev all : List Spot
  all = placed first (spots_from es first count) news

  abbrev xs : List Xad
  xs = extents_for all

  abbrev whole : (b : ℕ) → b < blocks → length (pages b) ≡ 4096
  whole = ready.are_pages.sizes

  within : (b : ℕ) → v.used b ≡ true → b < blocks
  within = used_below blocks pages area bm inodes many

  live : is_live n d ≡ true
  live = ap (is_live n) found.shown ∙ lives blocks v ready.consistent n at.page found.home_is found.there

  wide : length (root_of d) ≡ 288
  wide = length-range_of d.rest 96 288 (omega (arith, rest))

  -- ---- what the file has

  long : AllLong es
  long = within_long blocks es (spelled_within blocks pages (root_of d) es spelled_es)

  rises : rises_from 0 es ≡ true
  rises = spelled_rises blocks pages (root_of d) es spelled_es

  had_it : (b : ℕ) → owned_pages blocks pages (root_of d) b + covers b es ≤ holds r (objects r v n) b
  had_it b = let h = had blocks v ready.consistent within whole n d found.was live regular rest es spelled_es b in omega (arith, h)

  once : (b : ℕ) → owned_pages blocks pages (root_of d) b + covers b es ≤ 1
  once b = had_once blocks v ready.consistent within whole n d found.was live regular rest es spelled_es b

  used_it : (b : ℕ) → 0 < owned_pages blocks pages (root_of d) b + covers b es → v.used b ≡ true
  used_it b l = (owned_once r v ready.consistent.sound.agrees).in_use n b (let h = had_it b in omega (arith, h, l))

  -- ---- the free blocks

  both : (b : ℕ) → count_in b (blocks_of (runs ++ free)) ≡ count_in b news + count_in b (blocks_of free)
  both b = blocks_append runs free b

  unused : (b : ℕ) → 0 < count_in b news + count_in b (blocks_of free) → v.used b ≡ false
  unused b l = ap (λ (x : Bool). nat_lt b (length bm.states) && x) (may.fresh.unowned b (let e = both b in omega (arith, e, l))) ∙ off (nat_lt b (length bm.states))
    where
      off : (x : Bool) → (x && false) ≡ false
      off true = refl
      off false = refl

  once_fresh : (b : ℕ) → count_in b news + count_in b (blocks_of free) ≤ 1
  once_fresh b = let e = both b in let o = may.fresh.once b in omega (arith, e, o)

  fresh_below : (b : ℕ) → 0 < count_in b news + count_in b (blocks_of free) → b < blocks
  fresh_below b l = subst (λ (k : ℕ). b < k) many (counted_below (length bm.states) (blocks_of (runs ++ free)) b may.fresh.within (let e = both b in omega (arith, e, l)))

  clash : (b : ℕ) → v.used b ≡ true → v.used b ≡ false → ⊥
  clash b t f = cc (sym t ∙ f)

  -- what is free is nothing of the file
  none_had : (b : ℕ) → 0 < count_in b news + count_in b (blocks_of free) → owned_pages blocks pages (root_of d) b + covers b es ≡ 0
  none_had b l = elim (zero_or_more (owned_pages blocks pages (root_of d) b + covers b es)) [
    | inl z ↦ z
    | inr m ↦ absurd (clash b (used_it b m) (unused b l))
  ]

  spare : IsSpare xt_scale (page_nodes blocks pages) (root_node blocks (root_of d)) (blocks_of free)
  spare = record {
    once = λ b. (let o = once_fresh b in omega (arith, o));
    apart = λ b l. (let z = none_had b (omega (arith, l)) in omega (arith, z));
  }

  number : holes_in (spots_from es first count) ≡ length news
  number = sym (all_laws.number runs ∙ reservation-total _ _ _ runs may.chosen)

  -- the inode's page is no block of it, and isn't free
  home_not_had : (b : ℕ) → 0 < holds r (objects r v n) b → b ≢ at.page
  home_not_had b l same =
      let c = home_counts v.extents n at.page found.home_is in
      let z = fixed_is_no_objects r v ready.consistent.sound.agrees n at.page (omega (arith, c)) in
      let e = ap (holds r (objects r v n)) same in
      omega (arith, l, z, e)

  free_not_home : (b : ℕ) → 0 < count_in b news + count_in b (blocks_of free) → b ≢ at.page
  free_not_home b l same =
      let c = home_counts v.extents n at.page found.home_is in
      let e = ready.consistent.sound.agrees.blocks b in
      let z : bit (v.used b) ≡ 0 = ap bit (unused b l) in
      let s = ap (extents_have v.extents) same in
      omega (arith, c, e, z, s)

  -- ---- the tree

  are : AreFrom first all
  are = placed_from first es count news long

  leads : LeadsTo blocks pages [] pages
  leads b l = (whole b l, refl)

  module _ (left : List Pxd) (root : List ℕ) (width : length root ≡ 288) (mid : List Edit) where
    abbrev later : ℕ → List ℕ
    later = after_tx pages mid

    record Turned (taken : List ℕ) : Type 0 where
      pub later_es : List Xad
      pub turned : spells_extents blocks later root ≡ Ok later_es
      pub each : (j : ℕ) → place_at later_es j ≡ or_else (place_at xs j) (place_at es j)
      pub owned : (b : ℕ) → owned_pages blocks later root b + count_in b (blocks_of left) ≡ owned_pages blocks pages (root_of d) b + count_in b (blocks_of free)
      pub keeps : (b : ℕ) → b < blocks → owned_pages blocks pages (root_of d) b ≡ 0 → count_in b taken ≡ 0 → later b ≡ pages b
      pub leaves : (b : ℕ) → b < blocks → owned_pages blocks pages (root_of d) b ≡ 0 → count_in b taken ≡ 0 → LeavesPage b mid

    turn : (puts : PutsExtents blocks pages xs (root_of d) root (blocks_of free) (blocks_of left) [] mid) → Turned (took blocks pages xs (root_of d) root (blocks_of free) (blocks_of left) [] mid puts)
    turn puts = by xs refl puts
      where
        same_width : length root ≡ length (root_of d)
        same_width = width ∙ sym wide

        by : (ys : List Xad) → xs ≡ ys → (puts : PutsExtents blocks pages ys (root_of d) root (blocks_of free) (blocks_of left) [] mid) → Turned (took blocks pages ys (root_of d) root (blocks_of free) (blocks_of left) [] mid puts)
        by [] is (same_root, same_left, none) = record {
          later_es = es;
          turned = ap (λ (tx : List Edit). spells_extents blocks (after_tx pages tx) root) none ∙ ap (spells_extents blocks pages) same_root ∙ spelled_es;
          each = λ j. sym (ap (λ (ys : List Xad). or_else (place_at ys j) (place_at es j)) is);
          owned = λ b. (let o : owned_pages blocks later root b ≡ owned_pages blocks pages (root_of d) b = ap (λ (tx : List Edit). owned_pages blocks (after_tx pages tx) root b) none ∙ ap (λ (bytes : List ℕ). owned_pages blocks pages bytes b) same_root in
              let c = ap (count_in b) same_left in omega (arith, o, c));
          keeps = λ b l o t. ap (λ (tx : List Edit). apply_tx b tx (pages b)) none;
          leaves = λ b l o t. subst (LeavesPage b) (sym none) (leaves_none b);
        }
        by (y ∷ ys) is h =
            let has = h.writes es spelled_es spare pages leads in
            let owned_is : (b : ℕ) → owned_pages blocks later root b ≡ footprint xt_scale (page_nodes blocks later) (xt_node (root_form (length (root_of d))) blocks root) b = λ b. ap (λ (k : ℕ). footprint xt_scale (page_nodes blocks later) (xt_node (root_form k) blocks root) b) same_width in
            let split : (b : ℕ) → count_in b (blocks_of free) ≡ count_in b h.edits.0 + count_in b (blocks_of left) = λ b. ap (count_in b) h.edits.1 ∙ count_append b h.edits.0 (blocks_of left) in
            let stays : (b : ℕ) → b < blocks → owned_pages blocks pages (root_of d) b ≡ 0 → count_in b h.edits.0 ≡ 0 → later b ≡ pages b = λ b l o t. has.keeps b l o (let s = split b in omega (arith, s, t)) in
            record {
              later_es = with_range (y ∷ ys) es;
              turned = ap (λ (k : ℕ). spells xt_scale (page_nodes blocks later) (xt_node (root_form k) blocks root)) same_width ∙ has.spelled;
              each = λ j. writes_range (y ∷ ys) es
                  (subst (λ (zs : List Xad). All (λ x. is_recorded x ≡ true) zs) is (rows_recorded first xs (extents_rows first all are)))
                  (subst AllLong is (rows_long first xs (extents_rows first all are)))
                  (subst (λ (zs : List Xad). rises_from 0 zs ≡ true) is (rises_lower 0 first xs (omega arith) (extents_rise first all are)))
                  rises long j ∙ sym (ap (λ (zs : List Xad). or_else (place_at zs j) (place_at es j)) is);
              owned = λ b. (let o = has.owned b in let e = owned_is b in omega (arith, o, e));
              keeps = stays;
              leaves = λ b l o t. changes_leave blocks Xtree h.edits.0 pages pages (allocs_of h.edits.0) [] mid h.edits.2 leads b l (not_in b h.edits.0 t) (stays b l o t) (allocs_leave b h.edits.0) (leaves_none b);
            }

  -- ---- the transaction and the data

  module _ (left : List Pxd) (now : Moment) (out : Written) (z : Makes blocks pages at d.size offset bytes es (spots_at es offset (length bytes)) runs free left now out) (full : AreWholePages out.blocks) where
    abbrev root : List ℕ
    root = z.edits.root

    abbrev mid : List Edit
    mid = z.edits.mid

    abbrev edits : List Edit
    edits = z.edits.mid ++ run_allocs runs

    abbrev tx : List Edit
    tx = out.tx

    abbrev ds : List DataPage
    ds = out.blocks

    abbrev pages_took : List ℕ
    pages_took = took blocks pages xs (root_of d) root (blocks_of free) (blocks_of left) [] z.edits.mid z.edits.extents

    tree : Turned left root z.edits.width z.edits.mid pages_took
    tree = turn left root z.edits.width z.edits.mid z.edits.extents

    told : TellsTree blocks pages pages_took edits
    told = tree_told blocks pages whole runs xs (root_of d) root (blocks_of free) (blocks_of left) z.edits.mid z.edits.extents

    abbrev later_es : List Xad
    later_es = tree.later_es

    abbrev taken : List ℕ
    taken = pages_took ++ news

    front : (b : ℕ) → count_in b (blocks_of free) ≡ count_in b pages_took + count_in b (blocks_of left)
    front b = ap (count_in b) (took_front blocks pages xs (root_of d) root (blocks_of free) (blocks_of left) [] z.edits.mid z.edits.extents) ∙ count_append b pages_took (blocks_of left)

    all_taken : (b : ℕ) → count_in b taken ≡ count_in b pages_took + count_in b news
    all_taken b = count_append b pages_took news

    same_pages : after_tx pages edits ≡ after_tx pages z.edits.mid
    same_pages = λ i b. same_after b z.edits.mid runs (pages b) i

    turned : spells_extents blocks (after_tx pages edits) root ≡ Ok later_es
    turned = ap (λ (p : ℕ → List ℕ). spells_extents blocks p root) same_pages ∙ tree.turned

    -- ---- its extents then

    long_later : AllLong later_es
    long_later = within_long blocks later_es (spelled_within blocks (after_tx pages edits) root later_es turned)

    rises_later : rises_from 0 later_es ≡ true
    rises_later = spelled_rises blocks (after_tx pages edits) root later_es turned

    inside : (b : ℕ) → 0 < covers b later_es → b < blocks
    inside b l = within_low blocks later_es (spelled_within blocks (after_tx pages edits) root later_es turned) b l

    abbrev low_bound : ℕ
    low_bound = (bounded es (first + count)).0

    abbrev bound : ℕ
    bound = (bounded later_es low_bound).0

    to_later : AllTo bound later_es
    to_later = (bounded later_es low_bound).2

    to_es : AllTo bound es
    to_es = to_more low_bound bound es (bounded later_es low_bound).1 (bounded es (first + count)).2

    to_bound : first + count ≤ bound
    to_bound = let a = (bounded es (first + count)).1 in let b = (bounded later_es low_bound).1 in omega (arith, a, b)

    covers_are : (b : ℕ) → covers b later_es ≡ covers b es + count_in b news
    covers_are b = covers_more b 0 0 bound es later_es first count news rises long to_es rises_later long_later to_later to_bound number tree.each

    once_later : (b : ℕ) → covers b later_es ≤ 1
    once_later b = elim (zero_or_more (count_in b news)) [
      | inl zero ↦ (let c = covers_are b in let o = once b in omega (arith, c, o, zero))
      | inr more ↦ (let c = covers_are b in let o = none_had b (omega (arith, more)) in let f = once_fresh b in omega (arith, c, o, f))
    ]

    -- ---- what is taken

    unused_taken : (b : ℕ) → 0 < count_in b taken → 0 < count_in b news + count_in b (blocks_of free)
    unused_taken b l = let a = all_taken b in let f = front b in omega (arith, a, f, l)

    moves : TakesAndFrees tx taken []
    moves = edits_move blocks pages at (max d.size (offset + length bytes)) all runs free left now tx z.edits

    fair : IsFair tx v.used
    fair = record {
      fresh = λ b l. unused b (unused_taken b (let t = moves.taken_are b in omega (arith, t, l)));
      owned = λ b l. absurd (let f = moves.freed_are b in omega (arith, f, l));
      once = λ b. (let t = moves.taken_are b in let f = moves.freed_are b in let a = all_taken b in let g = front b in let o = once_fresh b in omega (arith, t, f, a, g, o));
    }

    owned : (b : ℕ) → owned_pages blocks (after_tx pages edits) root b ≡ owned_pages blocks pages (root_of d) b + count_in b pages_took
    owned b = let s = ap (λ (p : ℕ → List ℕ). owned_pages blocks p root b) same_pages in let o = tree.owned b in let f = front b in omega (arith, s, o, f)

    grows : Growing blocks pages area bm inodes
    grows = record {
      ready = ready;
      within = within;
      at = at;
      found = found;
      regular = regular;
      rest = rest;
      es = es;
      spelled_es = spelled_es;
      root = root;
      width = z.edits.width;
      size = max d.size (offset + length bytes);
      own = own_after d.nblocks edits;
      now = now;
      later_es = later_es;
      edits = edits;
      tx = tx;
      turned = turned;
      pages_took = pages_took;
      data_took = news;
      taken = taken;
      taken_is = all_taken;
      owned = owned;
      covers_are = covers_are;
      keeps = λ b l o t. same_after b z.edits.mid runs (pages b) ∙ tree.keeps b l o t;
      below = λ b l. fresh_below b (unused_taken b l);
      moves = moves;
      fair = fair;
      puts = z.edits.puts v.extents found.home_is;
      lines = z.edits.lines;
      changed = told.changed;
      new = told.new;
      tells = told.tells;
      changed_within = told.within;
      new_is = told.new_is;
      comes = told.comes;
      told_alone = λ b none. not_in b pages_took none;
    }

    -- ---- the data

    -- the transaction tells no block of its data
    no_page : (b : ℕ) → 0 < covers b later_es → (owned_pages blocks pages (root_of d) b ≡ 0) × (count_in b pages_took ≡ 0)
    no_page b l = elim (zero_or_more (count_in b news)) [
      | inl zero ↦ had_before zero
      | inr more ↦ ((let o = none_had b (omega (arith, more)) in omega (arith, o)), (let f = front b in let o = once_fresh b in omega (arith, f, o, more)))
    ]
      where
        had_before : count_in b news ≡ 0 → (owned_pages blocks pages (root_of d) b ≡ 0) × (count_in b pages_took ≡ 0)
        had_before zero = (
          (let c = covers_are b in let o = once b in omega (arith, c, o, zero, l)),
          elim (zero_or_more (count_in b pages_took)) [
            | inl none ↦ none
            | inr some ↦ absurd (let c = covers_are b in let f = front b in let o = none_had b (omega (arith, f, some)) in omega (arith, c, o, zero, l))
          ],
        )

    not_home : (b : ℕ) → 0 < covers b later_es → b ≢ at.page
    not_home b l = elim (zero_or_more (count_in b news)) [
      | inl zero ↦ home_not_had b (let c = covers_are b in let h = had_it b in omega (arith, c, h, zero, l))
      | inr more ↦ free_not_home b (omega (arith, more))
    ]

    untold : (b : ℕ) → 0 < covers b later_es → LeavesPage b tx
    untold b l = lines_leave_others blocks pages at.page b edits tx (not_home b l)
        (leaves_onto b z.edits.mid (run_allocs runs) (tree.leaves b (inside b l) (no_page b l).0 (no_page b l).1) (runs_leave b runs)) z.edits.lines

    put_is : (b : ℕ) → is_put b ds ≡ true → 0 < covers b later_es
    put_is b e = put_covers blocks pages whole d.size offset bytes fits.some es later_es 0 0 bound rises long rises_later long_later to_later once_later first count refl (last_block offset (length bytes) fits)
        news number tree.each ds z.pages_are inside b e

    before : MayPut r v n ds
    before b e = elim (zero_or_more (count_in b news)) [
      | inl zero ↦ inr (let w = data_was blocks v ready.consistent within whole n d found.was live regular rest es spelled_es b in let c = covers_are b in let p = put_is b e in omega (arith, w, c, p, zero))
      | inr more ↦ inl (unused b (omega (arith, more)))
    ]

    pub written_logged : IsLoggedAfter blocks pages area bm inodes out.blocks out.tx
    unfolding grows
    written_logged = file_logged blocks pages area bm inodes grows ds full before put_is untold no_page
