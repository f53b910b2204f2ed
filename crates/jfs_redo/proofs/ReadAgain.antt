-- A volume that is partly redone: what is read of its maps.
use Rattle.std.proofs.Common.{◌≡◌, ◌⊎◌, ◌<◌, ◌≤◌, ◌+◌, ◌*◌, ◌/◌, ◌%◌, ◌&&◌, ◌||◌, ◌==◌, nat_le, nat_lt, ℕ, suc, Bool, true, false, List, length, map, get_or, refl, sym, ap, subst, ◌∙◌, inl, inr, arith}
use Rattle.std.specs.Prelude.{Option, Some, None}
use Rattle.std.specs.List.{range_with_len}
use Rattle.std.proofs.lemmas.Bool.{cond-true, lt-ltb, le-leb}
use Rattle.std.proofs.lemmas.List.{length-map, get_or-map}
use Rattle.std.proofs.lemmas.List.FromFn.{get_or-range_with_len, length-range_with_len}
use Rattle.jfs_bits.specs.Bits.{is_taken, is_taken_in}
use Rattle.jfs_bits.specs.Descriptor.{pxd_of}
use Rattle.jfs_bits.specs.Field.{range_of}
use Rattle.jfs_bits.proofs.Parts.{field-in_part}
use Rattle.jfs_disk.specs.Image.{Image, page_of, ArePages}
use Rattle.jfs_ranges.specs.declared.edit.Edit.{Edit}
use Rattle.jfs_records.specs.Redo.{all_of}
use Rattle.jfs_super.specs.Rules.{blocks_of}
use Rattle.jfs_super.specs.declared.fields.Super.{Super}
use Rattle.jfs_iag.specs.Iag.{no_run}
use Rattle.jfs_bmap.specs.MapFile.{IsMapPage, IsDmapPage, is_in_use, pages_of}
use Rattle.jfs_imap.specs.Inodes.{IsPageOfIag}
use Rattle.jfs_redo_steps.specs.objects.specs.Image.{file_page, iag_page, iags_on, is_block_used, extent_place, extent_on, extents_on}
use Rattle.jfs_redo_steps.specs.steps.specs.After.{used_after}
use Rattle.jfs_mount_maps.specs.mount_rules.specs.Subject.{Subject, subject_of, volume}
use Rattle.jfs_mount_maps.specs.mount_rules.specs.Mount.{iags, extent_at}
use Rattle.jfs_mount_maps.specs.sets.specs.Sets.{extent_from}
use Rattle.jfs_redo.specs.Mixed.{sector}
use Rattle.jfs_redo.specs.Partly.{taken_then, extents_then, inodes_then, IsPartlyRedone, MapsStandApart}
use Rattle.jfs_redo.proofs.Extents.{LowPagesStay}
use Rattle.jfs_redo.proofs.Sectors.{sector_field}
use Rattle.jfs_redo.proofs.Decided.{used_again, extents_again}
use Rattle.jfs_redo.proofs.Places.{extents-number}
use Rattle.jfs_redo.proofs.Located.{block_sector, inode_sector}

-- ---- what a sector tells

bit_same : (c : ℕ) (one other : List ℕ) → c < 8192 → sector (6 + c / 4096) one ≡ sector (6 + c / 4096) other → is_taken (range_of one 3072 1024) c ≡ is_taken (range_of other 3072 1024) c
unfolding is_taken
bit_same c one other low same = ap (λ (word : ℕ). is_taken_in word (c % 32))
    (field-in_part one 3072 1024 (4 * (c / 32)) 4 (omega (arith, low))
    ∙ sector_field (6 + c / 4096) (3072 + 4 * (c / 32)) 4 one other same (omega (arith, low)) (omega (arith, low))
    ∙ sym (field-in_part other 3072 1024 (4 * (c / 32)) 4 (omega (arith, low))))

pxd_same : (c : ℕ) (one other : List ℕ) → c < 128 → sector (6 + c / 64) one ≡ sector (6 + c / 64) other → pxd_of one (3072 + 8 * c) ≡ pxd_of other (3072 + 8 * c)
pxd_same c one other low same =
    rw (sector_field (6 + c / 64) (3072 + 8 * c) 4 one other same (omega (arith, low)) (omega (arith, low)), sector_field (6 + c / 64) (3072 + 8 * c + 4) 4 one other same (omega (arith, low)) (omega (arith, low))) refl

place_from : (o : Option ℕ) → extent_place (extent_from o) ≡ o
place_from None = refl
place_from (Some first) = refl

module _ (s : Super) (txs : List (List Edit)) (old left : Image) (sizes : ArePages (length old) old) (whole : blocks_of s ≤ length old) (apart : MapsStandApart s txs old) (low_pages : LowPagesStay (all_of txs)) (way : IsPartlyRedone s txs old left) where
  abbrev blocks : ℕ
  blocks = blocks_of s

  abbrev sub : Subject
  sub = subject_of s (page_of old)

  abbrev now : Subject
  now = subject_of s (page_of left)

  -- how many pages the inode map has for inodes
  pub iags_same : iags now ≡ iags sub
  iags_same = elim (inode_sector s txs old left sizes whole apart low_pages way 0 0 (omega arith) (omega arith)) [
    | inl same ↦ sector_field 0 4 4 (file_page now.readers now.page 16 0) (file_page sub.readers sub.page 16 0) same (omega arith) (omega arith)
    | inr (page, set, are, is, same) ↦
        let control = is.0.control refl in
        sector_field 0 4 4 (file_page now.readers now.page 16 0) page same (omega arith) (omega arith) ∙ sym control.held.nextiag ∙ control.canonical.nextiag
  ]

  -- ---- blocks in use

  dmap_used : (b : ℕ) → b < blocks → is_in_use blocks (4 + b / 8192) ≡ true
  dmap_used b low =
      let above : nat_le 3 (4 + b / 8192) ≡ true = le-leb 3 (4 + b / 8192) (omega arith) in
      let below : nat_lt (4 + b / 8192) (pages_of blocks) ≡ true = lt-ltb (4 + b / 8192) (pages_of blocks) (omega (arith, low)) in
      by (4 + b / 8192 == 0) above below
    where
      by : (first : Bool) → nat_le 3 (4 + b / 8192) ≡ true → nat_lt (4 + b / 8192) (pages_of blocks) ≡ true → (first || (nat_le 3 (4 + b / 8192) && nat_lt (4 + b / 8192) (pages_of blocks))) ≡ true
      by true above below = refl
      by false above below = rw (above, below) refl

  in_map : (b : ℕ) (page : List ℕ) → b < blocks → IsMapPage blocks s.agsize (taken_then s txs old) (4 + b / 8192) page → is_taken (range_of page 3072 1024) (b % 8192) ≡ used_after (all_of txs) (volume sub).used b
  in_map b page low is =
      let place : 4 + b / 8192 ≡ suc (suc (suc (suc (b / 8192)))) = omega arith in
      let dmap : IsDmapPage blocks (taken_then s txs old) (b / 8192) page = subst (λ (k : ℕ). IsMapPage blocks s.agsize (taken_then s txs old) k page) place is in
      let number : 8192 * (b / 8192) + b % 8192 ≡ b = omega arith in
      dmap.dmap.canonical.same (b % 8192) ∙ dmap.set (b % 8192) (omega (arith, number, low)) (omega arith) ∙ ap (taken_then s txs old) number
      ∙ cond-true (nat_lt b blocks) (used_after (all_of txs) (volume sub).used b) true (lt-ltb b blocks low)

  pub used_either : (b : ℕ) → b < blocks → ((volume now).used b ≡ (volume sub).used b) ⊎ ((volume now).used b ≡ used_after (all_of txs) (volume sub).used b)
  unfolding is_block_used
  used_either b low = elim (block_sector s txs old left sizes whole apart low_pages way (4 + b / 8192) (6 + b % 8192 / 4096) (omega (arith, low)) (dmap_used b low) (omega arith)) [
    | inl same ↦ inl (ap (λ (t : Bool). nat_lt b blocks && t) (bit_same (b % 8192) (file_page now.readers now.page 2 (4 + b / 8192)) (file_page sub.readers sub.page 2 (4 + b / 8192)) (omega arith) same))
    | inr (page, is, same) ↦ inr (ap (λ (t : Bool). t && is_taken (range_of (file_page now.readers now.page 2 (4 + b / 8192)) 3072 1024) (b % 8192)) (lt-ltb b blocks low)
        ∙ bit_same (b % 8192) (file_page now.readers now.page 2 (4 + b / 8192)) page (omega arith) same ∙ in_map b page low is.0)
  ]

  pub used_same : (b : ℕ) → b < blocks → used_after (all_of txs) (volume now).used b ≡ used_after (all_of txs) (volume sub).used b
  used_same b low = used_again (all_of txs) (volume sub).used (volume now).used b (used_either b low)

  -- ---- inode extents

  abbrev pub places : ℕ
  places = 128 * iags sub

  number_now : length (volume now).extents ≡ places
  unfolding extents_on
  number_now = length-map (range_with_len 0 (128 * iags now)) (extent_on now.readers now.page) ∙ length-range_with_len 0 (128 * iags now) ∙ ap (λ (n : ℕ). 128 * n) iags_same

  pub number_then : length (volume sub).extents ≡ places
  unfolding extents_on
  number_then = length-map (range_with_len 0 (128 * iags sub)) (extent_on sub.readers sub.page) ∙ length-range_with_len 0 (128 * iags sub)

  pub place_at : (t : Subject) (e : ℕ) → e < 128 * iags_on t.readers t.page → get_or (extents_on t.readers t.page) e None ≡ extent_on t.readers t.page e
  unfolding extents_on
  place_at t e low =
      get_or-map (extent_on t.readers t.page) (range_with_len 0 (128 * iags_on t.readers t.page)) e 0 None (omega (arith, low, length-range_with_len 0 (128 * iags_on t.readers t.page)))
      ∙ ap (extent_on t.readers t.page) (get_or-range_with_len 0 (128 * iags_on t.readers t.page) e 0 low ∙ omega arith)

  -- an inode extent is as it was, or as the log leaves it
  pub extent_either : (e : ℕ) → e < places → (extent_at now e ≡ extent_at sub e) ⊎ (extent_at now e ≡ extent_from (get_or (extents_then s txs old) e None))
  extent_either e low = elim (inode_sector s txs old left sizes whole apart low_pages way (suc (e / 128)) (6 + e % 128 / 64) (omega (arith, low)) (omega arith)) [
    | inl same ↦ inl (pxd_same (e % 128) (iag_page now.readers now.page (e / 128)) (iag_page sub.readers sub.page (e / 128)) (omega arith) same)
    | inr (page, set, are, is, same) ↦
        let place : suc (e / 128) ≡ e / 128 + 1 = omega arith in
        let iag : IsPageOfIag (inodes_then s txs old set) (e / 128) page = is.0.iag (e / 128) place in
        let canonical = iag.2 in
        let number : 128 * (e / 128) + e % 128 ≡ e = omega arith in
        let long : length (extents_then s txs old) ≡ places = extents-number (all_of txs) (volume sub).extents ∙ number_then in
        inr (pxd_same (e % 128) (iag_page now.readers now.page (e / 128)) page (omega arith) same
        ∙ sym (canonical.held.inoext (e % 128) (omega arith)) ∙ canonical.canonical.inoext (e % 128) (omega arith)
        ∙ ap (λ (k : ℕ). get_or (map extent_from (extents_then s txs old)) k no_run) number
        ∙ get_or-map extent_from (extents_then s txs old) e None no_run (omega (arith, low, long)))
  ]

  pub extents_same : extents_then s txs left ≡ extents_then s txs old
  extents_same = extents_again (all_of txs) (volume sub).extents (volume now).extents (number_now ∙ sym number_then) (λ e h.
      let low : e < places = omega (arith, h, number_then) in
      let here = place_at now e (omega (arith, low, iags_same)) in
      let there = place_at sub e low in
      elim (extent_either e low) [
        | inl same ↦ inl (here ∙ ap extent_place same ∙ sym there)
        | inr is ↦ inr (here ∙ ap extent_place is ∙ place_from (get_or (extents_then s txs old) e None))
      ])
