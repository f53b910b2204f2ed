-- What a crash left can be redone.
use Rattle.std.proofs.Common.{◌≡◌, ◌<◌, ◌≤◌, ℕ, true, false, List, length, map, get_or, Option, Some, None, sym, ap, ◌∙◌, subst, inl, inr, arith}
use Rattle.std.specs.List.{range_with_len}
use Rattle.std.proofs.Math.Path.{fun_ext}
use Rattle.std.proofs.lemmas.List.{ext_get_or}
use Rattle.std.proofs.lemmas.List.FromFn.{get_or-map-range_with_len, length-map-range_with_len}
use Rattle.jfs_bits.specs.declared.descriptor.Pxd.{Pxd}
use Rattle.jfs_disk.specs.Image.{Image, page_of}
use Rattle.jfs_ranges.specs.Apply.{touches_tx}
use Rattle.jfs_ranges.specs.declared.edit.Edit.{Edit}
use Rattle.jfs_records.specs.Redo.{all_of}
use Rattle.jfs_super.specs.Rules.{blocks_of}
use Rattle.jfs_super.specs.declared.fields.Super.{Super}
use Rattle.jfs_steps.specs.After.{extents_after}
use Rattle.jfs_shown.specs.meaning.specs.Readers.{readers}
use Rattle.jfs_shown.specs.objects.specs.Image.{extent_place, extents_on}
use Rattle.jfs_shown.specs.objects.specs.Owners.{extents_have}
use Rattle.jfs_shown.specs.objects.specs.Readers.{Readers}
use Rattle.jfs_shown.specs.objects.specs.Volume.{home}
use Rattle.jfs_shown.specs.objects.proofs.Homes.{home_counts}
use Rattle.jfs_left_maps.specs.Items.{IsExtent, IsOfHistory}
use Rattle.jfs_left_maps.proofs.Items.{items_law}
use Rattle.jfs_held_maps.specs.mounted_places.specs.held.specs.canonical_maps.specs.Laws.{HasMapBytes}
use Rattle.jfs_held_maps.specs.mounted_places.specs.held.specs.canonical_maps.proofs.Items.{read-fit}
use Rattle.jfs_held_maps.specs.mounted_places.specs.held.specs.survival.specs.MapMarks.{map_marks}
use Rattle.jfs_held_maps.specs.mounted_places.specs.held.specs.survival.specs.face.specs.Items.{AreItems, places, place_of, extent_by, set_by, read, home as item_home}
use Rattle.jfs_held_maps.specs.mounted_places.specs.held.specs.survival.specs.face.specs.Places.{Places, is_map_page}
use Rattle.jfs_held_maps.specs.mounted_places.specs.held.specs.survival.specs.face.specs.Redo.{items_redone}
use Rattle.jfs_held_maps.specs.mounted_places.specs.held.specs.survival.specs.face.specs.Volume.{items_on}
use Rattle.jfs_held_maps.specs.mounted_places.specs.held.specs.survival.specs.face.proofs.InRow.{redo_law}
use Rattle.jfs_held_maps.specs.mounted_places.specs.held.specs.survival.specs.face.proofs.Reading.{at_home}
use Rattle.jfs_held_maps.specs.mounted_places.specs.held.specs.survival.specs.recovery.specs.Core.{Core, count, image}
use Rattle.jfs_held_maps.specs.mounted_places.specs.held.specs.survival.specs.recovery.specs.Face.{Pages, Item, Value}
use Rattle.jfs_held_maps.specs.mounted_places.specs.held.specs.survival.specs.recovery.specs.Face.Item.{ExtentPlace}
use Rattle.jfs_held_maps.specs.mounted_places.specs.held.specs.survival.specs.recovery.specs.Sound.{IsLogImage, window}
use Rattle.jfs_redo.specs.Apart.{KeepsOffMaps, AreNamedOnce}
use Rattle.jfs_redo.specs.Partly.{MapsStandApart, extents_then}
use Rattle.jfs_redo.specs.redo_steps.specs.Pages.{redone_page}
use Rattle.jfs_redo.proofs.Apart.{stand_apart}
use Rattle.jfs_redo.proofs.Places.{extents-number}
use Rattle.jfs_mount_maps.specs.sets.specs.Sets.{extent_from}
use Rattle.jfs_redone_volumes.specs.Redone.{found_places, CanBeRedone}
use Rattle.jfs_crashes_redone.proofs.Facts.{AreFacts}
use Rattle.jfs_crashes_redone.proofs.Rules.{extents_list, extent_within, four_then, unbroken}

-- what is asked of the items, for any places
record OfItems (s : Super) (txs : List (List Edit)) (old : Image) (q : Places) : Type 0 where
  within : (p : ℕ) → is_map_page q p ≡ true → p < blocks_of s
  items : AreItems q (items_redone q (page_of old) txs)
  extents : (e : ℕ) → e < places q → let extent = extent_by (items_redone q (page_of old) txs) e in extent ≡ extent_from (extent_place extent)

-- an extent of four blocks is told by its place
told_by_place : (d : Pxd) → IsExtent d → d ≡ extent_from (extent_place d)
told_by_place d (inl none) = none ∙ sym (ap (λ (p : Pxd). extent_from (extent_place p)) none)
told_by_place d (inr four) = four ∙ sym (ap (λ (p : Pxd). extent_from (extent_place p)) four)

module _ (s : Super) (pl : Places) (core : Core) (left : Pages) (old : Image) (facts : AreFacts s pl core left old) (bytes : (k : ℕ) → k ≤ count core → HasMapBytes pl (image core k))
    (c n : ℕ) (log : IsLogImage core c n) (low : n ≤ count core) (txs : List (List Edit)) (same : all_of txs ≡ all_of (window core c n)) where
  abbrev pub r : Readers
  r = readers (blocks_of s)

  -- ---- redo gives the items after the window's last entry

  found_left : (i : Item) → items_on pl (page_of old) i ≡ items_on pl left i
  found_left i = ap (λ (a : List ℕ). read pl i a) (sym (facts.same_low (item_home pl i) (facts.within (item_home pl i) (at_home pl i))))

  items_are : items_redone pl (page_of old) txs ≡ items_on pl (image core n)
  items_are = fun_ext (λ i. at i)
    where
      at : (i : Item) → items_redone pl (page_of old) txs i ≡ items_on pl (image core n) i
      at i =
          let of : IsOfHistory pl core left c n i = items_law r pl (map_marks pl) core left c n facts.areas facts.sound facts.is_left log i in
          ap (λ (es : List Edit). set_by es i (items_on pl (page_of old) i)) same
          ∙ ap (λ (v : Value). set_by (all_of (window core c n)) i v) (found_left i) ∙ of.redone

  of_items : OfItems s txs old pl
  of_items = record {
    within = facts.within;
    items = subst (AreItems pl) (sym items_are) (read-fit pl (image core n) (bytes n low)).kept;
    extents = λ e within. subst (λ (its : Item → Value). extent_by its e ≡ extent_from (extent_place (extent_by its e))) (sym items_are)
        (told_by_place (extent_by (items_on pl (image core n)) e) (four_then s pl core left old facts n low e within));
  }

  found : OfItems s txs old (found_places s old)
  found = subst (OfItems s txs old) (sym facts.places_are) of_items

  -- ---- and the inode extents

  list_old : extents_on r (page_of old) ≡ map (λ e. extent_place (extent_by (items_on pl (page_of old)) e)) (range_with_len 0 (places pl))
  list_old = extents_list r (blocks_of s) s.agsize _ s.ait2 s.aim2 pl (page_of old) facts.has_pages facts.places_are

  list_new : extents_on r (image core n) ≡ map (λ e. extent_place (extent_by (items_on pl (image core n)) e)) (range_with_len 0 (places pl))
  list_new = extents_list r (blocks_of s) s.agsize _ s.ait2 s.aim2 pl (image core n) (facts.stands n low).pages (facts.stands n low).places

  size_old : length (extents_on r (page_of old)) ≡ places pl
  size_old = ap length list_old ∙ length-map-range_with_len (λ e. extent_place (extent_by (items_on pl (page_of old)) e)) 0 (places pl)

  size_new : length (extents_on r (image core n)) ≡ places pl
  size_new = ap length list_new ∙ length-map-range_with_len (λ e. extent_place (extent_by (items_on pl (image core n)) e)) 0 (places pl)

  size_then : length (extents_then s txs old) ≡ places pl
  size_then = extents-number (all_of txs) (extents_on r (page_of old)) ∙ size_old

  extents_are : extents_then s txs old ≡ extents_on r (image core n)
  extents_are = ext_get_or None (extents_then s txs old) (extents_on r (image core n)) (size_then ∙ sym size_new) (λ e w. at e (omega (arith, w, size_then)))
    where
      at : (e : ℕ) → e < places pl → get_or (extents_then s txs old) e None ≡ get_or (extents_on r (image core n)) e None
      at e within =
          let was : extent_place (place_of (items_on pl (page_of old) (ExtentPlace e))) ≡ get_or (extents_on r (page_of old)) e None =
          sym (ap (λ (es : List (Option ℕ)). get_or es e None) list_old ∙ get_or-map-range_with_len (λ e. extent_place (extent_by (items_on pl (page_of old)) e)) 0 (places pl) e e None within (omega arith)) in
          sym (redo_law.extents (all_of txs) (extents_on r (page_of old)) e (items_on pl (page_of old) (ExtentPlace e)) (omega (arith, within, size_old)) was)
          ∙ ap (λ (its : Item → Value). extent_place (extent_by its e)) items_are
          ∙ sym (ap (λ (es : List (Option ℕ)). get_or es e None) list_new ∙ get_or-map-range_with_len (λ e. extent_place (extent_by (items_on pl (image core n)) e)) 0 (places pl) e e None within (omega arith))

  homes : (k p : ℕ) → home (extents_then s txs old) k ≡ Some p → p < blocks_of s
  homes k p at = extent_within s pl core left old facts n p low (home_counts (extents_on r (image core n)) k p (ap (λ (es : List (Option ℕ)). home es k) (sym extents_are) ∙ at))

  -- ---- the maps stand apart

  once : AreNamedOnce s txs old
  once =
      let is = (facts.keeps_apart c n log).once in
      record { areas = is.areas; extents = λ b at. subst (λ (es : List Edit). extents_have (extents_after es (extents_on r (page_of old))) b ≡ 0) (sym same) (is.extents b at) }

  off : KeepsOffMaps s txs old
  off =
      let is = (facts.keeps_apart c n log).off in
      record {
        maps = λ b at. subst (λ (es : List Edit). touches_tx b es ≡ false) (sym same) (is.maps b at);
        files = λ b has. subst (λ (es : List Edit). redone_page (blocks_of s) es old b ≡ page_of old b) (sym same) (is.files b has);
      }

  pub apart : MapsStandApart s txs old
  apart = stand_apart s txs old (unbroken s pl core left old facts c n log) once off

  pub can : CanBeRedone s txs old
  can = record { pages = facts.has_pages; apart = apart; within = found.within; items = found.items; extents = found.extents; homes = homes }
