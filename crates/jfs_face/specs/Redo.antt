-- Redo of a volume, as its code does it: all edits of the committed transactions in a row, page by page and item by item.
use Rattle.std.specs.Prelude.{◌≡◌, ◌<◌, ℕ, Bool, true, false, List, length, get_or, Option, None}
use Rattle.jfs_ranges.specs.declared.edit.Edit.{Edit}
use Rattle.jfs_recovery.specs.records.specs.Redo.{redone, all_of}
use Rattle.jfs_steps.specs.objects.specs.Readers.{Readers}
use Rattle.jfs_steps.specs.objects.specs.Image.{extent_place}
use Rattle.jfs_steps.specs.After.{used_after, extents_after}
use Rattle.jfs_recovery.specs.Face.{Pages, Item, Value, IsRedone}
use Rattle.jfs_recovery.specs.Face.Item.{BlockBit, ExtentPlace}
use Rattle.jfs_recovery.specs.Face.Value.{InUse}
use Rattle.jfs_face.specs.Places.{Places, is_map_page}
use Rattle.jfs_face.specs.Items.{set_by, place_of}
use Rattle.jfs_face.specs.MapPages.{IsCanonicalPage}
use Rattle.jfs_face.specs.Volume.{items_on, face_of}

abbrev pub pages_redone : Pages → List (List Edit) → Pages
pages_redone low txs p = redone p (low p) (low p) (all_of txs)

abbrev pub items_redone : Places → Pages → List (List Edit) → Item → Value
items_redone pl low txs i = set_by (all_of txs) i (items_on pl low i)

pub record IsRedoneInRow (pl : Places) (low : Pages) (txs : List (List Edit)) (new : Pages) : Type 0 where
  pub pages : (p : ℕ) → is_map_page pl p ≡ false → new p ≡ pages_redone low txs p
  pub maps : (p : ℕ) → is_map_page pl p ≡ true → IsCanonicalPage pl (pages_redone low txs) (items_redone pl low txs) p (new p)

pub record RedoLaw : Type 0 where
  -- that is redo of the transactions, one after the other
  pub redo : (r : Readers) (pl : Places) (changes : Pages → List Edit → ℕ → Bool) (low new : Pages) (txs : List (List Edit)) → IsRedoneInRow pl low txs new → IsRedone (face_of r pl changes) low txs new
  -- and the items are what edits leave of the blocks in use and of the inode extents
  pub blocks : (tx : List Edit) (used : ℕ → Bool) (b : ℕ) → set_by tx (BlockBit b) (InUse (used b)) ≡ InUse (used_after tx used b)
  pub extents : (tx : List Edit) (extents : List (Option ℕ)) (e : ℕ) (x : Value) → e < length extents → extent_place (place_of x) ≡ get_or extents e None
      → extent_place (place_of (set_by tx (ExtentPlace e) x)) ≡ get_or (extents_after tx extents) e None
