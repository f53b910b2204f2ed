-- A volume that is partly redone breaks no rule on its maps.
use Rattle.std.proofs.Common.{◌≡◌, ◌<◌, ◌≤◌, ◌+◌, ◌*◌, ◌&&◌, ◌||◌, ◌==◌, not, nat_le, if◌then◌else◌, ℕ, suc, Bool, true, false, List, length, get_or, refl, sym, ap, ◌∙◌, inl, inr, arith}
use Rattle.std.specs.Prelude.{Option, Some, None, is_some}
use Rattle.std.specs.List.{range_with_len, prefix_len}
use Rattle.std.proofs.lemmas.Bool.{cases_lt, eq-eqb, eqb-true, le-leb, leb-true, and_parts}
use Rattle.std.proofs.lemmas.List.{get_or_past}
use Rattle.std.proofs.lemmas.Option.{none-some, same_Some}
use Rattle.jfs_bits.specs.declared.descriptor.Pxd.{Pxd}
use Rattle.jfs_bits.specs.declared.extent.Xad.{Xad}
use Rattle.jfs_bits.specs.Broken.{AllHold, Holds}
use Rattle.jfs_bits.specs.Field.{field_of}
use Rattle.jfs_bits.proofs.Broken.{first_broken-none, none-first_broken}
use Rattle.jfs_disk.specs.Image.{Image, page_of, ArePages}
use Rattle.jfs_ranges.specs.declared.edit.Edit.{Edit}
use Rattle.jfs_records.specs.Redo.{all_of}
use Rattle.jfs_iag.specs.Canonical.{is_there}
use Rattle.jfs_super.specs.Rules.{blocks_of}
use Rattle.jfs_super.specs.declared.fields.Super.{Super}
use Rattle.jfs_bmap.specs.MapFile.{pages_of}
use Rattle.jfs_redo_steps.specs.objects.specs.Contents.{block_of}
use Rattle.jfs_redo_steps.specs.objects.specs.Image.{file_page, extent_place}
use Rattle.jfs_redo_steps.specs.each.specs.Each.{AllFit}
use Rattle.jfs_mount_maps.specs.mount_rules.specs.Subject.{Subject, subject_of, volume}
use Rattle.jfs_mount_maps.specs.mount_rules.specs.Mount.{covered, iags, extent_at, fits_extent, fitting, map_rows, broken_maps}
use Rattle.jfs_mount_maps.specs.mount_rules.proofs.Passed.{prefix_is, all_pass}
use Rattle.jfs_mount_maps.specs.sets.specs.Sets.{extent_from}
use Rattle.jfs_redo.specs.Log.{ExtentsLieWithin}
use Rattle.jfs_redo.specs.Partly.{extents_then, IsPartlyRedone, MapsStandApart}
use Rattle.jfs_redo.proofs.Extents.{LowPagesStay}
use Rattle.jfs_redo.proofs.Places.{places-fit}
use Rattle.jfs_redo.proofs.Sectors.{sector_field}
use Rattle.jfs_redo.proofs.Located.{block_extents, inode_extents, block_sector}
use Rattle.jfs_redo.proofs.ReadAgain.{iags_same, extent_either, place_at, number_then}

fits_from : (blocks : ℕ) (o : Option ℕ) → ((first : ℕ) → o ≡ Some first → first + 4 ≤ blocks) → (not (is_there (extent_from o)) || ((extent_from o).len == 4 && nat_le ((extent_from o).addr + 4) blocks)) ≡ true
fits_from blocks None fit = refl
fits_from blocks (Some first) fit = le-leb (first + 4) blocks (fit first refl)

-- an extent that fits has four blocks of the volume
four : (blocks : ℕ) (p : Pxd) (first : ℕ) → (not (is_there p) || (p.len == 4 && nat_le (p.addr + 4) blocks)) ≡ true → extent_place p ≡ Some first → first + 4 ≤ blocks
four blocks p first fits at = by (p.len == 0 && p.addr == 0) fits at
  where
    by : (zero : Bool) → (not (not zero) || (p.len == 4 && nat_le (p.addr + 4) blocks)) ≡ true → (if zero then None else Some p.addr) ≡ Some first → first + 4 ≤ blocks
    by true fits at = absurd (none-some first at)
    by false fits at =
        let ends = leb-true (p.addr + 4) blocks (and_parts (p.len == 4) (nat_le (p.addr + 4) blocks) fits).1 in
        let same = same_Some p.addr first at in
        omega (arith, ends, same)

module _ (s : Super) (txs : List (List Edit)) (old left : Image) (sizes : ArePages (length old) old) (whole : blocks_of s ≤ length old) (apart : MapsStandApart s txs old) (low_pages : LowPagesStay (all_of txs)) (lie : ExtentsLieWithin (blocks_of s) (all_of txs)) (was_unbroken : broken_maps (subject_of s (page_of old)) ≡ None) (way : IsPartlyRedone s txs old left) where
  abbrev blocks : ℕ
  blocks = blocks_of s

  abbrev sub : Subject
  sub = subject_of s (page_of old)

  abbrev now : Subject
  now = subject_of s (page_of left)

  were : AllHold Holds (map_rows sub)
  were = first_broken-none (map_rows sub) was_unbroken

  -- the inode extents lie within the volume, and so do those that the log leaves
  fit_then : AllFit blocks (extents_then s txs old)
  unfolding map_rows fitting
  fit_then = places-fit blocks (all_of txs) (volume sub).extents lie (λ e first at. elim (cases_lt e (128 * iags sub)) [
    | inl low ↦ four blocks (extent_at sub e) first (all_pass (fits_extent sub) (128 * iags sub) e (eqb-true (fitting sub) (128 * iags sub) were.1.1.1.1.0) low) (sym (place_at s txs old left sizes whole apart low_pages way sub e low) ∙ at)
    | inr high ↦ absurd (none-some first (sym (get_or_past (volume sub).extents e None (omega (arith, high, number_then s txs old left sizes whole apart low_pages way))) ∙ at))
  ])

  groups : iags now ≡ iags sub
  groups = iags_same s txs old left sizes whole apart low_pages way

  covered_blocks : (n : ℕ) → covered now 2 n ≡ covered sub 2 n
  unfolding covered
  covered_blocks n = ap (λ (es : List Xad). prefix_len (λ j. is_some (block_of es j)) (range_with_len 0 n)) (block_extents s txs old left sizes whole apart low_pages way)

  covered_inodes : (n : ℕ) → covered now 16 n ≡ covered sub 16 n
  unfolding covered
  covered_inodes n = ap (λ (es : List Xad). prefix_len (λ j. is_some (block_of es j)) (range_with_len 0 n)) (inode_extents s txs old left sizes whole apart low_pages way)

  mapsize : (field_of (file_page sub.readers sub.page 2 0) 0 8 == blocks) ≡ true → (field_of (file_page now.readers now.page 2 0) 0 8 == blocks) ≡ true
  mapsize was = elim (block_sector s txs old left sizes whole apart low_pages way 0 0 (omega arith) refl (omega arith)) [
    | inl same ↦ ap (λ (n : ℕ). n == blocks) (sector_field 0 0 8 (file_page now.readers now.page 2 0) (file_page sub.readers sub.page 2 0) same (omega arith) (omega arith)) ∙ was
    | inr (page, is, same) ↦ eq-eqb (field_of (file_page now.readers now.page 2 0) 0 8) blocks
        (sector_field 0 0 8 (file_page now.readers now.page 2 0) page same (omega arith) (omega arith) ∙ sym is.0.held.mapsize ∙ is.0.canonical.mapsize)
  ]

  fits_now : (e : ℕ) → fitting sub ≡ 128 * iags sub → e < 128 * iags sub → fits_extent now e ≡ true
  unfolding fitting
  fits_now e all low = elim (extent_either s txs old left sizes whole apart low_pages way e low) [
    | inl same ↦ ap (λ (p : Pxd). not (is_there p) || (p.len == 4 && nat_le (p.addr + 4) blocks)) same ∙ all_pass (fits_extent sub) (128 * iags sub) e all low
    | inr is ↦ ap (λ (p : Pxd). not (is_there p) || (p.len == 4 && nat_le (p.addr + 4) blocks)) is ∙ fits_from blocks (get_or (extents_then s txs old) e None) (λ first at. fit_then e first at)
  ]

  all_fit : fitting sub ≡ 128 * iags sub → fitting now ≡ 128 * iags now
  unfolding fitting
  all_fit all = prefix_is (fits_extent now) (128 * iags now) (128 * iags now) (omega arith) (λ e low. fits_now e all (omega (arith, low, groups))) (λ past. absurd (omega (arith, past)))

  pub unbroken : broken_maps now ≡ None
  unfolding map_rows
  unbroken = none-first_broken (map_rows now) (
    ap (λ (n : ℕ). n == pages_of blocks) (covered_blocks (pages_of blocks)) ∙ were.0,
    (
      ap (λ (n : ℕ). covered now 16 (suc n) == suc n) groups ∙ ap (λ (n : ℕ). n == suc (iags sub)) (covered_inodes (suc (iags sub))) ∙ were.1.0,
      (
        mapsize were.1.1.0,
        (ap (λ (n : ℕ). nat_le 1 n && nat_le n 65536) groups ∙ were.1.1.1.0, (eq-eqb (fitting now) (128 * iags now) (all_fit (eqb-true (fitting sub) (128 * iags sub) were.1.1.1.1.0)), tt)),
      ),
    ),
  )
