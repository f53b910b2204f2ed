-- What redo leaves on a disk is what the core makes of it.
use Rattle.std.proofs.Common.{◌≡◌, ◌⊎◌, ◌<◌, ◌≤◌, ◌+◌, ◌-◌, ◌/◌, nat_lt, ℕ, zero, suc, Bool, true, false, if◌then◌else◌, List, length, map, refl, sym, ap, subst, ◌∙◌, inl, inr, arith}
use Rattle.std.proofs.lemmas.Bool.{cases_lt, cond-true, cond-false, lt-ltb, le-ltb}
use Rattle.jfs_bits.specs.Field.{AreBytes}
use Rattle.jfs_bits.specs.declared.descriptor.Pxd.{Pxd}
use Rattle.jfs_disk.specs.Image.{Image, page_of, ArePages}
use Rattle.jfs_ranges.specs.declared.edit.Edit.{Edit}
use Rattle.jfs_imap.specs.Inodes.{Inodes, inodes_of, is_used, extent_at, IsInodePage}
use Rattle.jfs_super.specs.Rules.{blocks_of}
use Rattle.jfs_super.specs.declared.fields.Super.{Super}
use Rattle.jfs_recovery.specs.records.specs.Redo.{all_of}
use Rattle.jfs_recovery.specs.Face.{Item, Value, Pages}
use Rattle.jfs_face.specs.Places.{Places, is_map_page}
use Rattle.jfs_face.specs.Items.{extent_by, home, read, set_by}
use Rattle.jfs_face.specs.MapPages.{IsCanonicalPage, IsInodeMapPage, inode_used_by}
use Rattle.jfs_face.specs.Redo.{items_redone, pages_redone, IsRedoneInRow}
use Rattle.jfs_face.proofs.InRow.{redo_law}
use Rattle.jfs_face.proofs.Reading.{at_home}
use Rattle.std.proofs.Math.Path.{fun_ext}
use Rattle.jfs_redo.specs.mount_rules.specs.Mount.{iags}
use Rattle.jfs_redo.specs.mount_rules.specs.Subject.{Subject, subject_of}
use Rattle.jfs_redo.specs.mount_rules.specs.bmap.specs.MapFile.{IsMapPage}
use Rattle.jfs_redo.specs.mount_rules.specs.meaning.specs.Readers.{readers}
use Rattle.jfs_redo.specs.Redo.{IsRedone}
use Rattle.jfs_redo.specs.Partly.{extents_then}
use Rattle.jfs_mount_maps.specs.sets.specs.Sets.{extent_from}
use Rattle.jfs_redone_volumes.specs.Redone.{found_places, CanBeRedone, IsRedoneByCore, RedoneLaw}
use Rattle.jfs_redone_volumes.proofs.Places.{no_place, has_place, is_block_place, is_inode_place, bytes_by}
use Rattle.jfs_redone_volumes.proofs.Items.{taken_same, extents_same, inodes_same, page_is}

module _ (s : Super) (txs : List (List Edit)) (old new : Image) (changes : Pages → List Edit → ℕ → Bool) (left : Pages) (long : blocks_of s ≤ length new) (sizes : ArePages (length new) new) (can : CanBeRedone s txs old) (is : IsRedone s txs old new)
    (same : (p : ℕ) → p < blocks_of s → left p ≡ page_of old p) where
  abbrev sub : Subject
  sub = subject_of s (page_of old)

  abbrev pl : Places
  pl = found_places s old

  -- the items are found on map pages, which stand within the volume
  items_left : items_redone pl left txs ≡ items_redone pl (page_of old) txs
  items_left = fun_ext (λ i. ap (λ (a : List ℕ). set_by (all_of txs) i (read pl i a)) (same (home pl i) (can.within (home pl i) (at_home pl i))))

  abbrev items : Item → Value
  items = items_redone pl (page_of old) txs

  abbrev pages : Pages
  pages = pages_redone left txs

  -- ---- the image before the superblock is written

  abbrev made : Pages
  made p = if nat_lt p (blocks_of s) then page_of is.mapped p else pages p

  within : (p : ℕ) → p < blocks_of s → made p ≡ page_of is.mapped p
  within p low = cond-true (nat_lt p (blocks_of s)) (page_of is.mapped p) (pages p) (lt-ltb p (blocks_of s) low)

  not_super : (p : ℕ) → is_map_page pl p ≡ true → p ≡ 8 → ⊥
  not_super p e eight = can.apart.located p (has_place s txs old can p e) (inl eight)

  -- ---- a page of a map

  inode_page : (k : ℕ) (page : List ℕ) → IsInodePage (inodes_of is.set (map extent_from (extents_then s txs old)) (iags sub) s.agsize ((blocks_of s + s.agsize - 1) / s.agsize)) k page
      → IsInodeMapPage pl (inode_used_by pl pages items) (extent_by items) k page
  inode_page k page p =
      subst {A = (ℕ → Bool) × (ℕ → Pxd)} (λ z. IsInodeMapPage pl z.0 z.1 k page) (λ i. (inodes_same s txs old can is.redone left is.pages same is.set is.in_use i, extents_same s txs old can i)) (by k page p)
    where
      m : Inodes
      m = inodes_of is.set (map extent_from (extents_then s txs old)) (iags sub) s.agsize ((blocks_of s + s.agsize - 1) / s.agsize)

      by : (k : ℕ) (page : List ℕ) → IsInodePage m k page → IsInodeMapPage pl (is_used m) (extent_at m) k page
      by zero page p = p.control refl
      by (suc k) page p = p.iag k (omega arith)

  map_page : (p : ℕ) → is_map_page pl p ≡ true → IsCanonicalPage pl pages items p (page_of is.mapped p)
  map_page p e = record {
    size = ap length (sym (is.rest p (not_super p e))) ∙ sizes.sizes p (let low = can.within p e in omega (arith, low, long));
    bytes = bytes_at;
    kept = can.items;
    block_map = λ k used at. subst (λ (taken : ℕ → Bool). IsMapPage (blocks_of s) s.agsize taken k (page_of is.mapped p)) (taken_same s txs old can is.taken is.taken_are is.taken_past) (is.block_map k p (is_block_place s txs old can k p used at)).0;
    inode_map = λ k low at. inode_page k (page_of is.mapped p) (is.inode_map k p (is_inode_place s txs old can k p low at)).0;
  }
    where
      bytes_at : AreBytes (page_of is.mapped p)
      bytes_at = bytes_by s txs old can p (page_of is.mapped p) (λ k h. (is.block_map k p h).1) (λ k h. (is.inode_map k p h).1) e

  -- ---- all of it

  in_row : IsRedoneInRow pl left txs made
  in_row = record {
    pages = λ p e. others p e (cases_lt p (blocks_of s));
    maps = λ p e.
        let low = can.within p e in
        subst (λ (its : Item → Value). IsCanonicalPage pl pages its p (made p)) (sym items_left) (subst (λ (a : List ℕ). IsCanonicalPage pl pages items p a) (sym (within p low)) (map_page p e));
  }
    where
      others : (p : ℕ) → is_map_page pl p ≡ false → (p < blocks_of s) ⊎ (blocks_of s ≤ p) → made p ≡ pages p
      others p e (inl low) = within p low ∙ is.others p (no_place s txs old can p e) ∙ page_is s txs old can is.redone left is.pages same p low
      others p e (inr high) = cond-false (nat_lt p (blocks_of s)) (page_of is.mapped p) (pages p) (le-ltb p (blocks_of s) high)

  pub by_core : IsRedoneByCore s txs old new changes left
  by_core = record {
    made = made;
    redone = redo_law.redo (readers (blocks_of s)) pl changes left made txs in_row;
    same = λ p low other. is.rest p other ∙ sym (within p low);
  }

pub redone_law : RedoneLaw
redone_law s txs old new changes left long sizes can is same = by_core s txs old new changes left long sizes can is same
