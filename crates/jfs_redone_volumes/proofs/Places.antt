-- The pages of the maps, as the redo of a disk and as the core knows them.
use Rattle.std.proofs.Common.{◌≡◌, ◌⊎◌, ◌<◌, ◌≤◌, ◌==◌, ◌&&◌, nat_lt, nat_le, ℕ, suc, Bool, true, false, List, refl, ap, subst, ◌∙◌, inl, inr, arith}
use Rattle.std.specs.Prelude.{Option, Some, None, is_some, unwrap_or}
use Rattle.std.proofs.lemmas.Bool.{eqb-true, ltb-true, and_parts, or_cases}
use Rattle.std.proofs.lemmas.Option.{none-some}
use Rattle.jfs_bits.specs.Field.{AreBytes}
use Rattle.jfs_bits.proofs.Buds.{any_below-at}
use Rattle.jfs_disk.specs.Image.{Image, page_of}
use Rattle.jfs_ranges.specs.declared.edit.Edit.{Edit}
use Rattle.jfs_super.specs.Rules.{blocks_of}
use Rattle.jfs_super.specs.declared.fields.Super.{Super}
use Rattle.jfs_recovery.specs.objects.specs.Contents.{block_of}
use Rattle.jfs_recovery.specs.objects.specs.Image.{file_extents}
use Rattle.jfs_face.specs.Places.{Places, is_block_page, is_inode_page, is_map_page}
use Rattle.jfs_face.proofs.Reading.{block_page, inode_page}
use Rattle.jfs_redo.specs.mount_rules.specs.Subject.{Subject, subject_of}
use Rattle.jfs_redo.specs.mount_rules.specs.Mount.{iags}
use Rattle.jfs_redo.specs.mount_rules.specs.bmap.specs.MapFile.{is_in_use, pages_of}
use Rattle.jfs_redo.specs.mount_rules.specs.meaning.specs.Readers.{readers}
use Rattle.jfs_redo.specs.Put.{place_if}
use Rattle.jfs_redo.specs.Redo.{block_map_place, inode_map_place, IsMapPlace, IsBlockMapPlace, IsInodeMapPlace}
use Rattle.jfs_redone_volumes.specs.Redone.{found_places, CanBeRedone}

there : (o : Option ℕ) → is_some o ≡ true → o ≡ Some (unwrap_or o 0)
there None h = absurd (cc (h))
there (Some b) h = refl

of_use : (t : Bool) (o : Option ℕ) (b : ℕ) → place_if t o ≡ Some b → (t ≡ true) × (o ≡ Some b)
of_use true o b h = (refl, h)
of_use false o b h = absurd (none-some b h)

pub used_low : (blocks k : ℕ) → is_in_use blocks k ≡ true → k < pages_of blocks
used_low blocks k e = at (or_cases (k == 0) (nat_le 3 k && nat_lt k (pages_of blocks)) e)
  where
    at : ((k == 0) ≡ true) ⊎ ((nat_le 3 k && nat_lt k (pages_of blocks)) ≡ true) → k < pages_of blocks
    at (inl z) = let h = eqb-true k 0 z in omega (arith, h)
    at (inr b) = ltb-true k (pages_of blocks) (and_parts (nat_le 3 k) (nat_lt k (pages_of blocks)) b).1

module _ (s : Super) (txs : List (List Edit)) (old : Image) (can : CanBeRedone s txs old) where
  abbrev sub : Subject
  sub = subject_of s (page_of old)

  abbrev pl : Places
  pl = found_places s old

  -- ---- a place of a page is the block that the core knows

  block_at : (k : ℕ) → is_in_use (blocks_of s) k ≡ true → block_map_place sub k ≡ Some (pl.block_map k)
  block_at k used = ap (λ (t : Bool). place_if t (block_of (file_extents (readers (blocks_of s)) (page_of old) 2) k)) used ∙ there (block_of (file_extents (readers (blocks_of s)) (page_of old) 2) k) (can.pages.block_map k used)

  inode_at : (k : ℕ) → k ≤ iags sub → inode_map_place sub k ≡ Some (pl.inode_map k)
  inode_at k low = there (block_of (file_extents (readers (blocks_of s)) (page_of old) 16) k) (can.pages.inode_map k low)

  -- ---- a page of the maps has a place, and else it has none

  pub is_place : (p : ℕ) → IsMapPlace sub p → is_map_page pl p ≡ true
  is_place p (inl (k, low, at)) =
      let u = of_use (is_in_use (blocks_of s) k) (block_of (file_extents (readers (blocks_of s)) (page_of old) 2) k) p at in
      subst (λ (q : ℕ). is_map_page pl q ≡ true) (ap (λ (o : Option ℕ). unwrap_or o 0) u.1) (block_page pl k low u.0)
  is_place p (inr (k, low, at)) = subst (λ (q : ℕ). is_map_page pl q ≡ true) (ap (λ (o : Option ℕ). unwrap_or o 0) at) (inode_page pl k low)

  pub no_place : (p : ℕ) → is_map_page pl p ≡ false → IsMapPlace sub p → ⊥
  no_place p none is = absurd (cc (none, is_place p is))

  pub has_place : (p : ℕ) → is_map_page pl p ≡ true → IsMapPlace sub p
  has_place p e = at (or_cases (is_block_page pl p) (is_inode_page pl p) e)
    where
      at : (is_block_page pl p ≡ true) ⊎ (is_inode_page pl p ≡ true) → IsMapPlace sub p
      at (inl b) =
          let found = any_below-at (pages_of pl.blocks) (λ k. is_in_use pl.blocks k && pl.block_map k == p) b in
          let both = and_parts (is_in_use pl.blocks found.0) (pl.block_map found.0 == p) found.2 in
          inl (found.0, found.1, block_at found.0 both.0 ∙ ap (λ (q : ℕ). Some q) (eqb-true (pl.block_map found.0) p both.1))
      at (inr b) =
          let found = any_below-at (suc pl.iags) (λ k. pl.inode_map k == p) b in
          inr (found.0, (let low = found.1 in omega (arith, low)), inode_at found.0 (let low = found.1 in omega (arith, low)) ∙ ap (λ (q : ℕ). Some q) (eqb-true (pl.inode_map found.0) p found.2))

  -- ---- each page has one of its own

  pub is_block_place : (k p : ℕ) → is_in_use (blocks_of s) k ≡ true → pl.block_map k ≡ p → IsBlockMapPlace sub k p
  is_block_place k p used at =
      let here : block_map_place sub k ≡ Some p = block_at k used ∙ ap (λ (q : ℕ). Some q) at in
      record {
        low = used_low (blocks_of s) k used;
        is = here;
        last = λ j low e. let same = can.apart.blocks j k p e here in omega (arith, same);
        apart = λ j low e. can.apart.both k j p here e;
      }

  pub is_inode_place : (k p : ℕ) → k ≤ iags sub → pl.inode_map k ≡ p → IsInodeMapPlace sub k p
  is_inode_place k p low at =
      let here : inode_map_place sub k ≡ Some p = inode_at k low ∙ ap (λ (q : ℕ). Some q) at in
      record {
        low = low;
        is = here;
        last = λ j few e. let same = can.apart.inodes j k p e here in omega (arith, same);
      }

  -- so what is said of the page that stands there is said of each page of the maps
  pub bytes_by : (p : ℕ) (page : List ℕ) → ((k : ℕ) → IsBlockMapPlace sub k p → AreBytes page) → ((k : ℕ) → IsInodeMapPlace sub k p → AreBytes page) → is_map_page pl p ≡ true → AreBytes page
  bytes_by p page blocks inodes e = at (or_cases (is_block_page pl p) (is_inode_page pl p) e)
    where
      at : (is_block_page pl p ≡ true) ⊎ (is_inode_page pl p ≡ true) → AreBytes page
      at (inl b) =
          let found = any_below-at (pages_of pl.blocks) (λ k. is_in_use pl.blocks k && pl.block_map k == p) b in
          let both = and_parts (is_in_use pl.blocks found.0) (pl.block_map found.0 == p) found.2 in
          blocks found.0 (is_block_place found.0 p both.0 (eqb-true (pl.block_map found.0) p both.1))
      at (inr b) =
          let found = any_below-at (suc pl.iags) (λ k. pl.inode_map k == p) b in
          inodes found.0 (is_inode_place found.0 p (let low = found.1 in omega (arith, low)) (eqb-true (pl.inode_map found.0) p found.2))
