-- A file's tree that is cut behind the bytes that stay, on a consistent volume: what the transaction and the data do.
use Rattle.std.proofs.Common.{◌≡◌, ◌≢◌, ◌≤◌, ◌<◌, ◌⊎◌, refl, sym, ap, ◌∙◌, subst, inl, inr, ℕ, ◌+◌, ◌/◌, ◌%◌, ◌==◌, Bool, true, false, if◌then◌else◌, List, [], ◌++◌, length, map, Option, Some, None, Ok, arith}
use Rattle.std.specs.Prelude.{min}
use Rattle.std.proofs.lemmas.Bool.Decides.{nat_tests}
use Rattle.jfs_bits.specs.declared.descriptor.Moment.{Moment}
use Rattle.jfs_bits.specs.declared.descriptor.Pxd.{Pxd}
use Rattle.jfs_bits.specs.declared.extent.Xad.{Xad}
use Rattle.jfs_bits.specs.declared.rule.PageKind.TheVariants.{Xtree}
use Rattle.jfs_inode.specs.declared.fields.Dinode.{Dinode}
use Rattle.jfs_imap.specs.Inodes.{Inodes}
use Rattle.jfs_read.specs.bmap.specs.States.{Blocks}
use Rattle.jfs_ranges.specs.declared.edit.Edit.{Edit}
use Rattle.jfs_ranges.specs.Laid.{put_tx}
use Rattle.jfs_tree.specs.Edit.{count_in}
use Rattle.jfs_tree.specs.Fresh.{LeadsTo, after_tx, blocks_of}
use Rattle.jfs_tree.specs.Removes.{page_frees}
use Rattle.jfs_tree.specs.Tell.{TellsThen}
use Rattle.jfs_tree.specs.Spells.{spells, footprint}
use Rattle.jfs_xtree.specs.Node.{xt_scale, xt_node}
use Rattle.jfs_xtree.specs.Spells.{page_nodes, root_form, spells_extents, owned_pages, found_for}
use Rattle.jfs_xtree.specs.Cutting.{HasOnlyBelow, kept_below, gone_past, run_frees}
use Rattle.jfs_data_steps.specs.objects.specs.Readers.{Readers}
use Rattle.jfs_data_steps.specs.objects.specs.Image.{extent_place}
use Rattle.jfs_data_steps.specs.objects.specs.Volume.{Volume}
use Rattle.jfs_data_steps.specs.objects.specs.Objects.{objects, spelled, is_live}
use Rattle.jfs_data_steps.specs.objects.specs.Owners.{holds, covers}
use Rattle.jfs_data_steps.specs.objects.specs.Contents.{block_of}
use Rattle.jfs_data_steps.specs.objects.proofs.Blocks.{covered}
use Rattle.jfs_data_steps.specs.objects.proofs.Owned.{owned_once}
use Rattle.jfs_read.specs.meaning.specs.Contents.{is_regular}
use Rattle.jfs_read.specs.meaning.specs.Readers.{readers, root_of}
use Rattle.jfs_read.specs.meaning.specs.Consistent.{IsConsistent}
use Rattle.jfs_read.specs.way.specs.Volume.{volume_of}
use Rattle.jfs_read.specs.way.specs.Walk.{IsHeld, IsShown, IsThere, tree_in}
use Rattle.jfs_read.specs.way.specs.declared.object.Held.{Held}
use Rattle.jfs_read.specs.Read.{block_by}
use Rattle.jfs_read.proofs.Found.{found_is, block_found}
use Rattle.jfs_data_steps.specs.lead_steps.specs.Balance.{own_after}
use Rattle.jfs_data_steps.specs.loss.proofs.Counts.{count_append, runs_move, frees_then, changes_move, same_moves}
use Rattle.jfs_data_steps.specs.steps.specs.After.{frees}
use Rattle.jfs_data_steps.specs.steps.specs.Laws.{TakesAndFrees, IsFair}
use Rattle.jfs_data_steps.specs.steps.proofs.Sets.{frees_onto, frees_move, moves_onto, lines_move, lines_on_top}
use Rattle.jfs_data_steps.specs.declared.pages.DataPage.{DataPage}
use Rattle.jfs_data_steps.specs.After.{is_put, AreWholePages, put_data, after_writes, LeavesPage}
use Rattle.jfs_data_steps.specs.File.{bytes_held}
use Rattle.jfs_data_steps.specs.Laws.{MayPut, SetsFile, IsFileSet}
use Rattle.jfs_data_steps.proofs.Told.{leaves_none, frees_leave, changes_leave, lines_leave_others}
use Rattle.jfs_data_steps.proofs.Extents.{had, had_below, had_once, data_was, file_sets}
use Rattle.jfs_data_steps.proofs.Files.{file_law}
use Rattle.jfs_data_steps.proofs.Held as file
use Rattle.jfs_truncate.specs.Tail.{blocks_for, tail_block, IsTail}
use Rattle.jfs_truncate.specs.Call.{Resizes, TakesNone}
use Rattle.jfs_truncate.proofs.Kept.{below, balance}
use Rattle.jfs_truncate.proofs.Bytes.{is_tail}

-- ---- on any volume

-- what the cut frees, as its edits tell it
cut_moves : (blocks : ℕ) (pages : ℕ → List ℕ) (at : Held) (size : ℕ) (now : Moment) (tx : List Edit) (z : Resizes blocks pages at size now tx) → TakesAndFrees z.cut [] ([] ++ (z.tells.0 ++ blocks_of z.tells.1))
cut_moves blocks pages at size now tx z =
    changes_move blocks Xtree pages (page_frees z.tells.0 ++ run_frees z.tells.1) [] z.cut [] (z.tells.0 ++ blocks_of z.tells.1) (λ first bytes. refl) (lines_move [] tt)
    (moves_onto (page_frees z.tells.0) (run_frees z.tells.1) [] z.tells.0 [] (blocks_of z.tells.1) (frees_move z.tells.0) (runs_move z.tells.1)) z.tells.2

pub takes_none : (blocks : ℕ) (pages : ℕ → List ℕ) (at : Held) (size : ℕ) (now : Moment) (tx : List Edit) → Resizes blocks pages at size now tx → TakesNone tx
takes_none blocks pages at size now tx z = ([] ++ (z.tells.0 ++ blocks_of z.tells.1), lines_on_top blocks pages at.page z.cut tx [] ([] ++ (z.tells.0 ++ blocks_of z.tells.1)) (cut_moves blocks pages at size now tx z) z.lines)

-- ---- on a consistent volume

module _ (blocks : ℕ) (pages : ℕ → List ℕ) (whole : (b : ℕ) → b < blocks → length (pages b) ≡ 4096) (area : ℕ → ℕ) (bm : Blocks) (inodes : Inodes) (many : length bm.states ≡ blocks)
    (con : IsConsistent (readers blocks) (volume_of pages area bm inodes)) (at : Held) (held : IsHeld blocks inodes at) (shown : IsShown pages at) (some : IsThere (tree_in blocks pages area bm inodes) at.number)
    (regular : is_regular at.inode ≡ true) (size : ℕ) (now : Moment) (tx : List Edit) (z : Resizes blocks pages at size now tx) where
  abbrev r : Readers
  r = readers blocks

  abbrev v : Volume
  v = volume_of pages area bm inodes

  abbrev n : ℕ
  n = at.number

  abbrev d : Dinode
  d = at.inode

  abbrev kept : ℕ
  kept = min d.size size

  abbrev bound : ℕ
  bound = blocks_for kept

  abbrev pub es : List Xad
  es = file.es blocks pages whole area bm inodes con at held shown some

  abbrev later_es : List Xad
  later_es = kept_below bound es

  spelled_es : spells_extents blocks pages (root_of d) ≡ Ok es
  spelled_es = file.spelled_es blocks pages whole area bm inodes con at held shown some regular

  within : (b : ℕ) → v.used b ≡ true → b < blocks
  within = file.used_below blocks pages area bm inodes many

  was : objects r v n ≡ Some (spelled r pages d)
  was = file.was blocks pages whole area bm inodes con at held shown some

  -- ---- the cut

  told : (freed : List ℕ) × TellsThen (page_frees freed ++ run_frees (gone_past bound es)) [] z.cut × ((base : ℕ → List ℕ) → LeadsTo blocks base [] pages → HasOnlyBelow blocks bound es pages (after_tx base z.cut) (root_of d) z.root freed)
  told = z.cuts es spelled_es

  leads : LeadsTo blocks pages [] pages
  leads b l = (whole b l, refl)

  abbrev later : ℕ → List ℕ
  later = after_tx pages z.cut

  only : HasOnlyBelow blocks bound es pages later (root_of d) z.root told.0
  only = told.2 pages leads

  same_width : length z.root ≡ length (root_of d)
  same_width = z.width ∙ sym (file.wide blocks pages whole area bm inodes con at held shown some)

  turned : spells_extents blocks later z.root ≡ Ok later_es
  turned = ap (λ (k : ℕ). spells xt_scale (page_nodes blocks later) (xt_node (root_form k) blocks z.root)) same_width ∙ only.spelled

  owned_is : (b : ℕ) → owned_pages blocks later z.root b ≡ footprint xt_scale (page_nodes blocks later) (xt_node (root_form (length (root_of d))) blocks z.root) b
  owned_is b = ap (λ (k : ℕ). footprint xt_scale (page_nodes blocks later) (xt_node (root_form k) blocks z.root) b) same_width

  abbrev freed : List ℕ
  freed = told.0 ++ blocks_of (gone_past bound es)

  owned : (b : ℕ) → owned_pages blocks later z.root b + covers b later_es + count_in b freed ≡ owned_pages blocks pages (root_of d) b + covers b es + count_in b []
  owned b = let o = only.owned b in let e = owned_is b in let c = balance bound b es in let a = count_append b told.0 (blocks_of (gone_past bound es)) in omega (arith, o, e, c, a)

  frees_cut : (b : ℕ) → frees z.cut b ≡ count_in b freed
  frees_cut b =
      let f = frees_then b [] z.cut (page_frees told.0 ++ run_frees (gone_past bound es)) told.1 in let g = frees_onto (page_frees told.0) (run_frees (gone_past bound es)) b in
      let p = (frees_move told.0).freed_are b in let q = (runs_move (gone_past bound es)).freed_are b in let a = count_append b told.0 (blocks_of (gone_past bound es)) in omega (arith, f, g, p, q, a)

  moves : TakesAndFrees tx [] freed
  moves = lines_on_top blocks pages at.page z.cut tx [] freed (same_moves z.cut ([] ++ (z.tells.0 ++ blocks_of z.tells.1)) freed (cut_moves blocks pages at size now tx z) frees_cut) z.lines

  -- what the file has
  live : is_live n d ≡ true
  live = file.is_living blocks pages whole area bm inodes con at held shown some

  had_it : (b : ℕ) → owned_pages blocks pages (root_of d) b + covers b es ≤ holds r (objects r v n) b
  had_it b = let h = had blocks v con within whole n d was live regular z.rest es spelled_es b in omega (arith, h)

  once : (b : ℕ) → owned_pages blocks pages (root_of d) b + covers b es ≤ 1
  once b = had_once blocks v con within whole n d was live regular z.rest es spelled_es b

  pub is_fair : IsFair tx v.used
  is_fair = record {
    fresh = λ b l. absurd (let t = moves.taken_are b in omega (arith, t, l));
    owned = λ b l. (owned_once r v con.sound.agrees).in_use n b (let f = moves.freed_are b in let o = owned b in let h = had_it b in omega (arith, f, o, h, l));
    once = λ b. (let t = moves.taken_are b in let f = moves.freed_are b in let o = owned b in let h = once b in omega (arith, t, f, o, h));
  }

  -- the transaction tells no block that stays
  stays_data : (b : ℕ) → 0 < covers b later_es → 0 < covers b es
  stays_data b l = let c = balance bound b es in omega (arith, c, l)

  no_page : (b : ℕ) → 0 < covers b later_es → footprint xt_scale (page_nodes blocks later) (xt_node (root_form (length (root_of d))) blocks z.root) b ≡ 0
  no_page b l = let c = stays_data b l in let o = only.owned b in let h = once b in omega (arith, c, o, h)

  low : (b : ℕ) → 0 < covers b es → b < blocks
  low b l = had_below blocks v con within whole n d was live regular z.rest es spelled_es b (omega (arith, l))

  untold : (b : ℕ) → 0 < covers b later_es → LeavesPage b tx
  untold b l = lines_leave_others blocks pages at.page b z.cut tx
      (file.not_home blocks pages whole area bm inodes con at held shown some b (let c = stays_data b l in let h = had_it b in omega (arith, c, h)))
      (changes_leave blocks Xtree [] pages pages (page_frees z.tells.0 ++ run_frees z.tells.1) [] z.cut z.tells.2 leads b (low b (stays_data b l)) refl (only.keeps b (low b (stays_data b l)) (no_page b l)) (frees_leave b z.tells.0 z.tells.1) (leaves_none b))
      z.lines

  -- ---- the data

  pub tail_is : tail_block blocks pages d kept ≡ (if kept % 4096 == 0 then None else block_of es (kept / 4096))
  tail_is = ap (λ (x : Option ℕ). if kept % 4096 == 0 then None else x)
      (ap (λ (e : Option Xad). block_by e (kept / 4096)) (found_is blocks pages (root_of d) (kept / 4096) es spelled_es)
      ∙ block_found (kept / 4096) 0 (spelled r pages d).extents es (file.listed_es blocks pages whole area bm inodes con at held shown some))

  module _ (ds : List DataPage) (tail : IsTail pages kept (tail_block blocks pages d kept) ds) (full : AreWholePages ds) where
    put_at : (b : ℕ) → is_put b ds ≡ true → (block_of es (kept / 4096) ≡ Some b) × (kept / 4096 < bound)
    put_at b e = by (kept % 4096 == 0) refl (sym tail_is ∙ is_tail pages kept ds (tail_block blocks pages d kept) b tail e)
      where
        by : (x : Bool) → (kept % 4096 == 0) ≡ x → (if x then None else block_of es (kept / 4096)) ≡ Some b → (block_of es (kept / 4096) ≡ Some b) × (kept / 4096 < bound)
        by true h s = absurd (cc (s))
        by false h s = (s, (let e = ap (λ (x : Bool). if x then kept / 4096 else kept / 4096 + 1) h in omega (arith, e)))

    pub before : MayPut r v n ds
    before b e = inr (let c = covered es (kept / 4096) b (put_at b e).0 in let w = data_was blocks v con within whole n d was live regular z.rest es spelled_es b in omega (arith, c, w))

    after : (b : ℕ) → is_put b ds ≡ true → 0 < covers b later_es
    after b e = covered later_es (kept / 4096) b (below bound (kept / 4096) es (put_at b e).1 ∙ (put_at b e).0)

    sets : SetsFile blocks v n d z.root size (own_after d.nblocks z.cut) now later_es (put_tx blocks z.cut pages) [] freed ds tx
    sets = file_sets blocks v con within whole n d was live regular z.rest es spelled_es z.root z.width size (own_after d.nblocks z.cut) now later_es z.cut tx [] freed turned owned
        (λ b l h t. only.keeps b l (let o = only.owned b in omega (arith, o, h))) (λ b l. absurd (omega (arith, l))) moves is_fair
        (z.puts (map extent_place inodes.extents) (file.at_home blocks pages whole area bm inodes con at held shown some)) ds full before after untold

    pub file_set : IsFileSet blocks v (after_writes blocks ds tx v) n size (bytes_held (put_data ds pages) later_es size) now
    file_set = file_law blocks v n d z.root size (own_after d.nblocks z.cut) now later_es (put_tx blocks z.cut pages) [] freed ds tx con sets
