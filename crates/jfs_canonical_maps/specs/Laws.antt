-- Images with canonical map pages are there, and are one.
use Rattle.std.specs.Prelude.{◌≡◌, ◌<◌, ℕ, suc, Bool, true, List, length}
use Rattle.std.specs.List.{AllByRecursion}
use Rattle.jfs_bits.specs.Field.{AreBytes}
use Rattle.jfs_bits.specs.Descriptor.{FitsPxd}
use Rattle.jfs_ranges.specs.declared.edit.Edit.{Edit}
use Rattle.jfs_face.specs.steps.specs.After.{takes}
use Rattle.jfs_face.specs.steps.specs.objects.specs.Readers.{Readers}
use Rattle.jfs_face.specs.recovery.specs.Face.{Face, Pages, Item, Value, IsStart, IsStep, IsRedone}
use Rattle.jfs_face.specs.recovery.specs.Core.{Core, count, entry, image}
use Rattle.jfs_face.specs.recovery.specs.Sound.{IsSound}
use Rattle.jfs_face.specs.Places.{Places, AreInAreas, is_map_page}
use Rattle.jfs_face.specs.Items.{AreItems, extent_by, places}
use Rattle.jfs_face.specs.MapPages.{IsCanonicalPage}
use Rattle.jfs_face.specs.Marks.{any_puts}
use Rattle.jfs_face.specs.Volume.{items_on, face_of}
use Rattle.jfs_canonical_maps.specs.Places.{FitMaps, HaveOwnPlaces}
use Rattle.jfs_canonical_maps.specs.Images.{map_page, made_canonical, after_entry, after_redo}

-- ---- what the maps keep

-- Each item is of its kind, and the descriptor of each extent has a place on a page.
pub record FitItems (pl : Places) (items : Item → Value) : Type 0 where
  pub kept : AreItems pl items
  pub extents : (e : ℕ) → e < places pl → FitsPxd (extent_by items e)

-- For each such items there is a canonical page in each place of a map.
abbrev pub MapPageLaw : Type 0
MapPageLaw = (pl : Places) (s : Pages) (items : Item → Value) (p : ℕ) → FitMaps pl → HaveOwnPlaces pl → FitItems pl items → is_map_page pl p ≡ true → IsCanonicalPage pl s items p (map_page pl s items p)

-- ---- images

-- the maps' pages are lists of bytes
abbrev pub HasMapBytes : Places → Pages → Type 0
HasMapBytes pl s = (p : ℕ) → is_map_page pl p ≡ true → AreBytes (s p)

-- An image stands for these pages: its map pages are bytes, and the canonical ones of what it has itself; and its pages have the sizes that theirs have.
pub record IsImageOf (pl : Places) (s t : Pages) : Type 0 where
  pub own : (p : ℕ) → is_map_page pl p ≡ true → IsCanonicalPage pl t (items_on pl t) p (t p)
  pub bytes : HasMapBytes pl t
  pub sizes : ((p : ℕ) → length (s p) ≡ 4096) → (p : ℕ) → length (t p) ≡ 4096

-- Edits take no block past the volume's end, and put no inode extent where the map has no place for it.
pub record StaysWithin (pl : Places) (tx : List Edit) : Type 0 where
  pub blocks : (b : ℕ) → 0 < takes tx b → b < pl.blocks
  pub places : (e : ℕ) → any_puts tx e ≡ true → e < places pl

-- ---- they are there

-- An image follows each entry that stays within the volume.
pub record FollowsEntry (f : Face) (pl : Places) (s : Pages) (tx : List Edit) : Type 0 where
  pub follows : IsStep f s tx (after_entry pl s tx)
  pub image : IsImageOf pl s (after_entry pl s tx)

pub record FollowLaw : Type 0 where
  -- a start
  pub start : (r : Readers) (pl : Places) (changes : Pages → List Edit → ℕ → Bool) (s : Pages) → FitMaps pl → HaveOwnPlaces pl → HasMapBytes pl s
      → IsStart (face_of r pl changes) s (made_canonical pl s) × IsImageOf pl s (made_canonical pl s)
  -- an entry
  pub entry : (r : Readers) (pl : Places) (changes : Pages → List Edit → ℕ → Bool) (s : Pages) (tx : List Edit) → FitMaps pl → HaveOwnPlaces pl → HasMapBytes pl s → StaysWithin pl tx
      → FollowsEntry (face_of r pl changes) pl s tx
  -- redo of entries over what a crash left
  pub redo : (r : Readers) (pl : Places) (changes : Pages → List Edit → ℕ → Bool) (low : Pages) (txs : List (List Edit)) → FitMaps pl → HaveOwnPlaces pl → HasMapBytes pl low → AllByRecursion (StaysWithin pl) txs
      → IsRedone (face_of r pl changes) low txs (after_redo pl low txs) × IsImageOf pl low (after_redo pl low txs)

-- So of a sound core: each entry that stays within the volume has an image.
abbrev pub CoreLaw : Type 0
CoreLaw = (r : Readers) (pl : Places) (changes : Pages → List Edit → ℕ → Bool) (core : Core) (tx : List Edit) → AreInAreas pl → FitMaps pl → HaveOwnPlaces pl → IsSound (face_of r pl changes) core → StaysWithin pl tx
    → FollowsEntry (face_of r pl changes) pl (image core (count core)) tx

-- ---- they are one

pub record OneLaw : Type 0 where
  pub starts : (r : Readers) (pl : Places) (changes : Pages → List Edit → ℕ → Bool) (s t : Pages) → FitMaps pl → HaveOwnPlaces pl → HasMapBytes pl s → IsStart (face_of r pl changes) s t → (p : ℕ) → t p ≡ made_canonical pl s p
  pub entries : (r : Readers) (pl : Places) (changes : Pages → List Edit → ℕ → Bool) (s t : Pages) (tx : List Edit) → FitMaps pl → HaveOwnPlaces pl → HasMapBytes pl s → StaysWithin pl tx → IsStep (face_of r pl changes) s tx t → (p : ℕ) → t p ≡ after_entry pl s tx p
  -- so the images of a sound core follow from its entries
  pub cores : (r : Readers) (pl : Places) (changes : Pages → List Edit → ℕ → Bool) (core : Core) (k : ℕ) → AreInAreas pl → FitMaps pl → HaveOwnPlaces pl → IsSound (face_of r pl changes) core → k < count core → StaysWithin pl (entry core k)
      → (p : ℕ) → image core (suc k) p ≡ after_entry pl (image core k) (entry core k) p
