-- A volume that is partly redone: its maps are where they were.
use Rattle.std.proofs.Common.{◌≡◌, ◌⊎◌, ◌<◌, ◌≤◌, ◌+◌, ◌/◌, ◌%◌, nat_lt, ℕ, Bool, true, false, List, [], length, refl, sym, ap, subst, ◌∙◌, inl, inr, arith}
use Rattle.std.specs.Prelude.{Option, Some, None, unwrap_or}
use Rattle.std.proofs.lemmas.Bool.{cases_lt, cond-true, cond-false, lt-ltb, le-ltb}
use Rattle.jfs_bits.specs.declared.extent.Xad.{Xad}
use Rattle.jfs_disk.specs.Image.{Image, page_of, ArePages}
use Rattle.jfs_ranges.specs.declared.edit.Edit.{Edit}
use Rattle.jfs_ranges.specs.Apply.{touches_tx}
use Rattle.jfs_records.specs.Redo.{redone, all_of}
use Rattle.jfs_super.specs.Rules.{blocks_of}
use Rattle.jfs_super.specs.declared.fields.Super.{Super}
use Rattle.jfs_bmap.specs.MapFile.{IsMapPage, is_in_use, pages_of}
use Rattle.jfs_imap.specs.Inodes.{IsInodePage}
use Rattle.jfs_redo_steps.specs.objects.specs.page_tree.specs.Walk.{Marks}
use Rattle.jfs_redo_steps.specs.objects.specs.page_tree.specs.Spells.{tree_of, footprint as root_footprint}
use Rattle.jfs_redo_steps.specs.objects.specs.page_tree.proofs.Footprint.{tree_frame}
use Rattle.jfs_redo_steps.specs.objects.specs.Readers.{Readers}
use Rattle.jfs_redo_steps.specs.objects.specs.Volume.{slot_of}
use Rattle.jfs_redo_steps.specs.objects.specs.Objects.{met, listed}
use Rattle.jfs_redo_steps.specs.objects.specs.Owners.{entries}
use Rattle.jfs_redo_steps.specs.objects.specs.Contents.{block_of, bytes_at}
use Rattle.jfs_redo_steps.specs.objects.specs.Image.{aggregate_at, file_walk, file_extents, file_page}
use Rattle.jfs_mount_maps.specs.mount_rules.specs.Subject.{Subject, subject_of}
use Rattle.jfs_mount_maps.specs.mount_rules.specs.Mount.{iags}
use Rattle.jfs_redo_steps.specs.Pages.{redone_page}
use Rattle.jfs_redo_steps.specs.Inodes.{AreInodesInUse}
use Rattle.jfs_redo_steps.proofs.Again.{untouched}
use Rattle.jfs_redo.specs.Put.{InBytes, place_if}
use Rattle.jfs_redo.specs.Mixed.{sector}
use Rattle.jfs_redo.specs.Redo.{block_map_place, inode_map_place, IsMapPlace}
use Rattle.jfs_redo.specs.Partly.{taken_then, extents_then, inodes_then, Writes, IsPartlyRedone, LocatesMaps, MapsStandApart}
use Rattle.jfs_redo.proofs.Extents.{LowPagesStay}
use Rattle.jfs_redo.proofs.Sectors.{mixed_same}

-- the page of a file in its place
page_at : (r : Readers) (page : ℕ → List ℕ) (k j b : ℕ) → block_of (file_extents r page k) j ≡ Some b → file_page r page k j ≡ page b
unfolding file_page
page_at r page k j b h = ap (λ (o : Option ℕ). unwrap_or (bytes_at page o) []) h

no_page_at : (r : Readers) (page : ℕ → List ℕ) (k j : ℕ) → block_of (file_extents r page k) j ≡ None → file_page r page k j ≡ []
unfolding file_page
no_page_at r page k j h = ap (λ (o : Option ℕ). unwrap_or (bytes_at page o) []) h

-- the walk through the extents of an inode of the aggregate depends on its page and on those that it meets
pub same_walk : (r : Readers) (old new : ℕ → List ℕ) (k : ℕ) → new (11 + k / 8) ≡ old (11 + k / 8) → ((b : ℕ) → 0 < met (file_walk r old k) b → new b ≡ old b) → file_walk r new k ≡ file_walk r old k
unfolding root_footprint
same_walk r old new k inode stays =
    ap (λ d. tree_of r.extents_order (λ b. r.extents_page (new b)) (r.extents_root d)) (ap (λ (p : List ℕ). slot_of p (k % 8)) inode)
    ∙ tree_frame r.extents_order (λ b. r.extents_page (old b)) (λ b. r.extents_page (new b)) (r.extents_root (aggregate_at old k)) (λ b h. ap r.extents_page (stays b h))

-- a page that the log doesn't touch isn't redone
pub not_redone : (s : Super) (txs : List (List Edit)) (old : Image) (p : ℕ) → (p < blocks_of s → length (page_of old p) ≡ 4096) → touches_tx p (all_of txs) ≡ false → redone_page (blocks_of s) (all_of txs) old p ≡ page_of old p
not_redone s txs old p size clear = elim (cases_lt p (blocks_of s)) [
  | inl low ↦ cond-true (nat_lt p (blocks_of s)) (redone p (page_of old p) (page_of old p) (all_of txs)) (page_of old p) (lt-ltb p (blocks_of s) low) ∙ untouched p (page_of old p) (all_of txs) (size low) clear
  | inr high ↦ cond-false (nat_lt p (blocks_of s)) (redone p (page_of old p) (page_of old p) (all_of txs)) (page_of old p) (le-ltb p (blocks_of s) high)
]

module _ (s : Super) (txs : List (List Edit)) (old left : Image) (sizes : ArePages (length old) old) (whole : blocks_of s ≤ length old) (apart : MapsStandApart s txs old) (low_pages : LowPagesStay (all_of txs)) (way : IsPartlyRedone s txs old left) where
  abbrev blocks : ℕ
  blocks = blocks_of s

  abbrev sub : Subject
  sub = subject_of s (page_of old)

  abbrev now : Subject
  now = subject_of s (page_of left)

  pub page_size : (p : ℕ) → p < blocks → length (page_of old p) ≡ 4096
  page_size p low = sizes.sizes p (omega (arith, low, whole))

  -- no line of the log is one of a page of the maps, and redo leaves the pages that locate them
  clear : (p : ℕ) → IsMapPlace sub p → touches_tx p (all_of txs) ≡ false
  clear p is = elim (cases_lt p 16) [ inl low ↦ low_pages p low | inr high ↦ apart.logged p high is ]

  left_alone : (p : ℕ) → LocatesMaps sub p → redone_page blocks (all_of txs) old p ≡ page_of old p
  left_alone p locates = elim (cases_lt p 16) [ inl low ↦ not_redone s txs old p (page_size p) (low_pages p low) | inr high ↦ apart.stays p high locates ]

  -- pages that locate the maps stay
  pub stays : (p : ℕ) → LocatesMaps sub p → page_of left p ≡ page_of old p
  stays p locates = elim (cases_lt p blocks) [
    | inl low ↦ mixed_same (Writes s txs old p) (page_of old p) (page_size p low) (page_of left p) only (way.pages p low)
    | inr high ↦ way.others p high
  ]
    where
      only : (page : List ℕ) → Writes s txs old p page → page ≡ page_of old p
      only page (inl is) = is ∙ left_alone p locates
      only page (inr (inl (k, below, at, is))) = absurd (apart.located p (inl (k, below, at)) locates)
      only page (inr (inr (k, below, at, is))) = absurd (apart.located p (inr (k, below, at)) locates)

  pub block_walk : file_walk now.readers now.page 2 ≡ file_walk sub.readers sub.page 2
  block_walk = same_walk sub.readers (page_of old) (page_of left) 2 (stays 11 (inr (inl refl))) (λ b h. stays b (inr (inr (inr (inl h)))))

  pub inode_walk : file_walk now.readers now.page 16 ≡ file_walk sub.readers sub.page 16
  inode_walk = same_walk sub.readers (page_of old) (page_of left) 16 (stays 13 (inr (inr (inl refl)))) (λ b h. stays b (inr (inr (inr (inr h)))))

  pub block_extents : file_extents now.readers now.page 2 ≡ file_extents sub.readers sub.page 2
  block_extents = ap (λ (ms : Marks ℕ Xad). entries (listed sub.readers.extents_order ms)) block_walk

  pub inode_extents : file_extents now.readers now.page 16 ≡ file_extents sub.readers sub.page 16
  inode_extents = ap (λ (ms : Marks ℕ Xad). entries (listed sub.readers.extents_order ms)) inode_walk

  pub block_place : (k : ℕ) → block_map_place now k ≡ block_map_place sub k
  block_place k = ap (λ (es : List Xad). place_if (is_in_use blocks k) (block_of es k)) block_extents

  pub inode_place : (k : ℕ) → inode_map_place now k ≡ inode_map_place sub k
  inode_place k = ap (λ (es : List Xad). block_of es k) inode_extents

  -- ---- what redo writes to the place of a page of the maps

  block_source : (k p : ℕ) (page : List ℕ) → k < pages_of blocks → block_map_place sub k ≡ Some p → Writes s txs old p page → (page ≡ page_of old p) ⊎ InBytes (IsMapPage blocks s.agsize (taken_then s txs old)) k page
  block_source k p page low at (inl is) = inl (is ∙ not_redone s txs old p (page_size p) (clear p (inl (k, low, at))))
  block_source k p page low at (inr (inl (j, below, there, is))) = inr (subst (λ (n : ℕ). InBytes (IsMapPage blocks s.agsize (taken_then s txs old)) n page) (apart.blocks j k p there at) is)
  block_source k p page low at (inr (inr (j, below, there, is))) = absurd (apart.both k j p at there)

  inode_source : (k p : ℕ) (page : List ℕ) → k ≤ iags sub → inode_map_place sub k ≡ Some p → Writes s txs old p page
      → (page ≡ page_of old p) ⊎ ((set : List ℕ) × AreInodesInUse (redone_page blocks (all_of txs) old) (extents_then s txs old) set × InBytes (IsInodePage (inodes_then s txs old set)) k page)
  inode_source k p page low at (inl is) = inl (is ∙ not_redone s txs old p (page_size p) (clear p (inr (k, low, at))))
  inode_source k p page low at (inr (inl (j, below, there, is))) = absurd (apart.both j k p there at)
  inode_source k p page low at (inr (inr (j, below, there, (set, are, is)))) = inr (set, are, subst (λ (n : ℕ). InBytes (IsInodePage (inodes_then s txs old set)) n page) (apart.inodes j k p there at) is)

  -- ---- a sector of such a page is the old one, or that of the page that follows from the log

  pub block_sector : (k i : ℕ) → k < pages_of blocks → is_in_use blocks k ≡ true → i < 8
      → (sector i (file_page now.readers now.page 2 k) ≡ sector i (file_page sub.readers sub.page 2 k)) ⊎ ((page : List ℕ) × InBytes (IsMapPage blocks s.agsize (taken_then s txs old)) k page × (sector i (file_page now.readers now.page 2 k) ≡ sector i page))
  block_sector k i low used within = by (block_of (file_extents sub.readers sub.page 2) k) refl
    where
      extents : block_of (file_extents now.readers now.page 2) k ≡ block_of (file_extents sub.readers sub.page 2) k
      extents = ap (λ (es : List Xad). block_of es k) block_extents

      by : (o : Option ℕ) → block_of (file_extents sub.readers sub.page 2) k ≡ o
          → (sector i (file_page now.readers now.page 2 k) ≡ sector i (file_page sub.readers sub.page 2 k)) ⊎ ((page : List ℕ) × InBytes (IsMapPage blocks s.agsize (taken_then s txs old)) k page × (sector i (file_page now.readers now.page 2 k) ≡ sector i page))
      by None none = inl (ap (sector i) (no_page_at now.readers now.page 2 k (extents ∙ none) ∙ sym (no_page_at sub.readers sub.page 2 k none)))
      by (Some p) at =
          let here = page_at now.readers now.page 2 k p (extents ∙ at) in
          let there = page_at sub.readers sub.page 2 k p at in
          let place : block_map_place sub k ≡ Some p = ap (λ (t : Bool). place_if t (block_of (file_extents sub.readers sub.page 2) k)) used ∙ at in
          elim (cases_lt p blocks) [
            | inl below ↦ elim ((way.pages p below).sectors i within) [
              | inl same ↦ inl (ap (sector i) here ∙ same ∙ ap (sector i) (sym there))
              | inr (page, is, same) ↦ elim (block_source k p page low place is) [
                | inl was ↦ inl (ap (sector i) here ∙ same ∙ ap (sector i) (was ∙ sym there))
                | inr canonical ↦ inr (page, canonical, ap (sector i) here ∙ same)
              ]
            ]
            | inr high ↦ inl (ap (sector i) (here ∙ way.others p high ∙ sym there))
          ]

  pub inode_sector : (k i : ℕ) → k ≤ iags sub → i < 8
      → (sector i (file_page now.readers now.page 16 k) ≡ sector i (file_page sub.readers sub.page 16 k))
      ⊎ ((page set : List ℕ) × AreInodesInUse (redone_page blocks (all_of txs) old) (extents_then s txs old) set × InBytes (IsInodePage (inodes_then s txs old set)) k page × (sector i (file_page now.readers now.page 16 k) ≡ sector i page))
  inode_sector k i low within = by (block_of (file_extents sub.readers sub.page 16) k) refl
    where
      extents : block_of (file_extents now.readers now.page 16) k ≡ block_of (file_extents sub.readers sub.page 16) k
      extents = ap (λ (es : List Xad). block_of es k) inode_extents

      by : (o : Option ℕ) → block_of (file_extents sub.readers sub.page 16) k ≡ o
          → (sector i (file_page now.readers now.page 16 k) ≡ sector i (file_page sub.readers sub.page 16 k))
          ⊎ ((page set : List ℕ) × AreInodesInUse (redone_page blocks (all_of txs) old) (extents_then s txs old) set × InBytes (IsInodePage (inodes_then s txs old set)) k page × (sector i (file_page now.readers now.page 16 k) ≡ sector i page))
      by None none = inl (ap (sector i) (no_page_at now.readers now.page 16 k (extents ∙ none) ∙ sym (no_page_at sub.readers sub.page 16 k none)))
      by (Some p) at =
          let here = page_at now.readers now.page 16 k p (extents ∙ at) in
          let there = page_at sub.readers sub.page 16 k p at in
          elim (cases_lt p blocks) [
            | inl below ↦ elim ((way.pages p below).sectors i within) [
              | inl same ↦ inl (ap (sector i) here ∙ same ∙ ap (sector i) (sym there))
              | inr (page, is, same) ↦ elim (inode_source k p page low at is) [
                | inl was ↦ inl (ap (sector i) here ∙ same ∙ ap (sector i) (was ∙ sym there))
                | inr (set, are, canonical) ↦ inr (page, set, are, canonical, ap (sector i) here ∙ same)
              ]
            ]
            | inr high ↦ inl (ap (sector i) (here ∙ way.others p high ∙ sym there))
          ]
