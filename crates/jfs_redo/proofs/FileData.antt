-- Redo leaves file data of the volume that it makes.
use Rattle.std.proofs.Common.{◌≡◌, ◌≤◌, ◌<◌, ℕ, List, length, drop, refl, ap, ◌∙◌, inl, inr, arith}
use Rattle.std.specs.Prelude.{Option, Some, None}
use Rattle.std.proofs.lemmas.Bool.{cases_lt}
use Rattle.jfs_bits.specs.declared.extent.Xad.{Xad}
use Rattle.jfs_disk.specs.Image.{Image, page_of, ArePages}
use Rattle.jfs_ranges.specs.declared.edit.Edit.{Edit}
use Rattle.jfs_records.specs.Redo.{all_of}
use Rattle.jfs_super.specs.Rules.{IsAccepted, blocks_of}
use Rattle.jfs_super.specs.declared.fields.Super.{Super}
use Rattle.jfs_super.proofs.Rules.{accepted_layout, accepted_log}
use Rattle.jfs_bmap.specs.MapFile.{is_in_use}
use Rattle.jfs_redo_steps.specs.objects.specs.page_tree.specs.Walk.{Marks}
use Rattle.jfs_redo_steps.specs.objects.specs.Readers.{Readers}
use Rattle.jfs_redo_steps.specs.objects.specs.Objects.{Object, met, listed, objects}
use Rattle.jfs_redo_steps.specs.objects.specs.Owners.{entries, is_data, holds, Agrees}
use Rattle.jfs_redo_steps.specs.objects.specs.Contents.{block_of}
use Rattle.jfs_redo_steps.specs.objects.specs.Image.{file_walk, file_extents}
use Rattle.jfs_redo_steps.specs.objects.proofs.Owned.{unfixed}
use Rattle.jfs_mount_maps.specs.mount_rules.specs.Subject.{Subject, subject_of, volume}
use Rattle.jfs_mount_maps.specs.mount_rules.specs.Mount.{broken_maps}
use Rattle.jfs_redo_steps.specs.Pages.{redone_page}
use Rattle.jfs_redo.specs.Log.{AreCommitted}
use Rattle.jfs_redo.specs.Redo.{IsMapPlace, IsRedone}
use Rattle.jfs_redo.specs.Partly.{LocatesMaps, MapsStandApart}
use Rattle.jfs_redo.specs.Apart.{map_files_have, KeepsOffMaps, AreNamedOnce, DataStays}
use Rattle.jfs_redo.proofs.Extents.{LowPagesStay, low_pages-stay}
use Rattle.jfs_redo.proofs.Located.{not_redone, same_walk}
use Rattle.jfs_redo.proofs.TakenUp.{others_stay}
use Rattle.jfs_redo.proofs.Apart.{place_is, file_counts, in_area, in_both, block_tree, inode_tree, stand_apart}

-- what is data of an object is held by it
data_is_held : (r : Readers) (o : Option Object) (b : ℕ) → is_data r o b ≤ holds r o b
unfolding is_data holds
data_is_held r None b = omega arith
data_is_held r (Some o) b = omega arith

module _ (s : Super) (txs : List (List Edit)) (old new : Image) (sizes : ArePages (length old) old) (accepted : IsAccepted s (length old)) (committed : AreCommitted s.logpxd.len (blocks_of s) (drop s.logpxd.addr old) txs)
    (unbroken : broken_maps (subject_of s (page_of old)) ≡ None) (once : AreNamedOnce s txs old) (off : KeepsOffMaps s txs old) (is : IsRedone s txs old new) where
  abbrev sub : Subject
  sub = subject_of s (page_of old)

  abbrev now : Subject
  now = subject_of s (page_of new)

  whole : blocks_of s ≤ length old
  whole = let ends = accepted_log s (length old) accepted in let behind = (accepted_layout s (length old) accepted).behind in omega (arith, ends, behind)

  low_pages : LowPagesStay (all_of txs)
  low_pages = low_pages-stay (blocks_of s) (drop s.logpxd.addr old) s.logpxd.len txs committed

  apart : MapsStandApart s txs old
  apart = stand_apart s txs old unbroken once off

  -- ---- the maps are where they were

  page_size : (b : ℕ) → b < blocks_of s → length (page_of old b) ≡ 4096
  page_size b low = sizes.sizes b (omega (arith, low, whole))

  left_alone : (b : ℕ) → LocatesMaps sub b → redone_page (blocks_of s) (all_of txs) old b ≡ page_of old b
  left_alone b where_is = elim (cases_lt b 16) [ inl low ↦ not_redone s txs old b (page_size b) (low_pages b low) | inr high ↦ apart.stays b high where_is ]

  stays : (b : ℕ) → LocatesMaps sub b → (b ≡ 8 → ⊥) → page_of new b ≡ page_of old b
  stays b where_is other = is.rest b other ∙ is.others b (λ place. apart.located b place where_is) ∙ is.pages.pages b ∙ left_alone b where_is

  -- the superblock's page is none of these files'
  not_first : (b : ℕ) → 0 < map_files_have sub b → b ≡ 8 → ⊥
  not_first b has e = let i = in_both sub b (omega (arith, e)) in let o = once.areas b has in omega (arith, i, o, has)

  block_walk : file_walk now.readers now.page 2 ≡ file_walk sub.readers sub.page 2
  block_walk = same_walk sub.readers (page_of old) (page_of new) 2 (stays 11 (inr (inl refl)) (λ e. absurd (omega (arith, e)))) (λ b h. stays b (inr (inr (inr (inl h)))) (not_first b (in_block_tree b h)))
    where
      in_block_tree : (b : ℕ) → 0 < met (file_walk sub.readers sub.page 2) b → 0 < map_files_have sub b
      in_block_tree b h = let t = block_tree s old unbroken b in omega (arith, t, h)

  inode_walk : file_walk now.readers now.page 16 ≡ file_walk sub.readers sub.page 16
  inode_walk = same_walk sub.readers (page_of old) (page_of new) 16 (stays 13 (inr (inr (inl refl))) (λ e. absurd (omega (arith, e)))) (λ b h. stays b (inr (inr (inr (inr h)))) (not_first b (in_inode_tree b h)))
    where
      in_inode_tree : (b : ℕ) → 0 < met (file_walk sub.readers sub.page 16) b → 0 < map_files_have sub b
      in_inode_tree b h = let t = inode_tree s old unbroken b in omega (arith, t, h)

  -- so each place of theirs is one of the redone volume's fixed areas
  place_in_area : (b : ℕ) → IsMapPlace sub b → 0 < (volume now).area b
  place_in_area b (inl (k, low, at)) =
      let here : block_of (file_extents now.readers now.page 2) k ≡ Some b =
      ap (λ (ms : Marks ℕ Xad). block_of (entries (listed sub.readers.extents_order ms)) k) block_walk ∙ place_is (is_in_use (blocks_of s) k) (block_of (file_extents sub.readers sub.page 2) k) b at in
      let c = file_counts now.readers now.page 2 k b here in
      let i = in_area now b in
      omega (arith, c, i)
  place_in_area b (inr (k, low, at)) =
      let here : block_of (file_extents now.readers now.page 16) k ≡ Some b = ap (λ (ms : Marks ℕ Xad). block_of (entries (listed sub.readers.extents_order ms)) k) inode_walk ∙ at in
      let c = file_counts now.readers now.page 16 k b here in
      let i = in_area now b in
      omega (arith, c, i)

  -- ---- data lies outside of these areas

  no_area : Agrees now.readers (volume now) → (n b : ℕ) → 0 < is_data now.readers (objects now.readers (volume now) n) b → (volume now).area b ≡ 0
  no_area agrees n b has =
      let h = data_is_held now.readers (objects now.readers (volume now) n) b in
      let u = unfixed now.readers (volume now) agrees n b (omega (arith, has, h)) in
      omega (arith, u)

  pub not_place : Agrees now.readers (volume now) → (n b : ℕ) → 0 < is_data now.readers (objects now.readers (volume now) n) b → IsMapPlace sub b → ⊥
  not_place agrees n b has place = let z = no_area agrees n b has in let a = place_in_area b place in omega (arith, z, a)

  pub not_superblock : Agrees now.readers (volume now) → (n b : ℕ) → 0 < is_data now.readers (objects now.readers (volume now) n) b → b ≡ 8 → ⊥
  not_superblock agrees n b has e = let z = no_area agrees n b has in let i = in_both now b (omega (arith, e)) in omega (arith, z, i)

pub data_stays : DataStays
data_stays s txs old new left sizes accepted committed unbroken once off is agrees either n b has none =
    others_stay s txs old left sizes accepted either b none
    (not_place s txs old new sizes accepted committed unbroken once off is agrees n b has)
    (not_superblock s txs old new sizes accepted committed unbroken once off is agrees n b has)
