-- Images with canonical map pages are there, and are one.
use Rattle.std.proofs.Common.{◌≡◌, ◌⊎◌, ◌≤◌, ◌%◌, ◌&&◌, not, ℕ, suc, Bool, true, false, if◌then◌else◌, List, [], ◌∷◌, length, Option, Some, None, inl, inr, refl, sym, ap, ◌∙◌, subst, arith}
use Rattle.std.proofs.Math.Path.{fun_ext}
use Rattle.std.specs.List.{AllByRecursion}
use Rattle.std.proofs.lemmas.Bool.{cases_Bool, cond-true, cond-false}
use Rattle.jfs_ranges.specs.declared.edit.Edit.{Edit}
use Rattle.jfs_ranges.specs.Apply.{apply_tx, apply_edit}
use Rattle.jfs_ranges.proofs.Overlaid.{length-apply_edit}
use Rattle.jfs_face.specs.steps.specs.objects.specs.Objects.{is_live}
use Rattle.jfs_face.specs.steps.specs.objects.specs.Readers.{Readers}
use Rattle.jfs_face.specs.steps.specs.objects.specs.Volume.{slot_of}
use Rattle.jfs_face.specs.recovery.specs.crash_core.proofs.Bytes.{length-apply_tx}
use Rattle.jfs_face.specs.recovery.specs.Face.{IsFace, Pages, Item, Value, IsClosed, IsStep}
use Rattle.jfs_face.specs.recovery.specs.Core.{Core, count, entry, image}
use Rattle.jfs_face.specs.recovery.specs.Sound.{IsSound}
use Rattle.jfs_face.specs.recovery.specs.records.specs.Redo.{all_of, is_noredo, redone}
use Rattle.jfs_face.specs.recovery.proofs.Images.{canonical_image}
use Rattle.jfs_face.specs.Places.{Places, is_map_page}
use Rattle.jfs_face.specs.Items.{home, extent_by, set_by}
use Rattle.jfs_face.specs.Redo.{pages_redone, items_redone}
use Rattle.jfs_face.specs.MapPages.{home_by, is_used_on, IsInodeMapPage, IsCanonicalPage}
use Rattle.jfs_face.specs.Volume.{items_on, face_of}
use Rattle.jfs_face.proofs.Agreed.{pages_agree}
use Rattle.jfs_face.proofs.InRow.{redo_law}
use Rattle.jfs_face.proofs.Reading.{at_home, read_back}
use Rattle.jfs_face.proofs.Whole.{is_face}
use Rattle.jfs_canonical_maps.specs.Places.{FitMaps, HaveOwnPlaces}
use Rattle.jfs_canonical_maps.specs.Images.{map_page, with_maps, made_canonical, after_entry, after_redo}
use Rattle.jfs_canonical_maps.specs.Laws.{FitItems, HasMapBytes, IsImageOf, StaysWithin, FollowsEntry, FollowLaw, CoreLaw, OneLaw}
use Rattle.jfs_canonical_maps.proofs.Items.{read-fit, edits-fit, all-within}
use Rattle.jfs_canonical_maps.proofs.Pages.{map_pages}

-- ---- pages with maps

-- the pages beside the maps stay, and each page of a map is canonical
record IsWithMaps (pl : Places) (s : Pages) (items : Item → Value) (t : Pages) : Type 0 where
  pages : (p : ℕ) → is_map_page pl p ≡ false → t p ≡ s p
  maps : (p : ℕ) → is_map_page pl p ≡ true → IsCanonicalPage pl s items p (t p)

with-maps : (pl : Places) (s : Pages) (items : Item → Value) → FitMaps pl → HaveOwnPlaces pl → FitItems pl items → IsWithMaps pl s items (with_maps pl s items)
unfolding with_maps
with-maps pl s items fits own fit = record {
  pages = λ p e. cond-false (is_map_page pl p) (map_page pl s items p) (s p) e;
  maps = λ p e. subst (λ (z : List ℕ). IsCanonicalPage pl s items p z) (sym (cond-true (is_map_page pl p) (map_page pl s items p) (s p) e)) (map_pages pl s items p fits own fit e);
}

-- ---- canonical pages of what an image has itself

used_same : (pl : Places) (s t : Pages) → ((q : ℕ) → is_map_page pl q ≡ false → s q ≡ t q) → (n : ℕ) (home : Option ℕ) → is_used_on pl s n home ≡ is_used_on pl t n home
used_same pl s t same n None = refl
used_same pl s t same n (Some q) = at (cases_Bool (is_map_page pl q))
  where
    at : (is_map_page pl q ≡ true) ⊎ (is_map_page pl q ≡ false) → (not (is_map_page pl q) && is_live n (slot_of (s q) (n % 8))) ≡ (not (is_map_page pl q) && is_live n (slot_of (t q) (n % 8)))
    at (inl this) = rw this refl
    at (inr page) = ap (λ (x : List ℕ). not (is_map_page pl q) && is_live n (slot_of x (n % 8))) (same q page)

canonical_with : (pl : Places) (s t : Pages) (items others : Item → Value) (p : ℕ) (page : List ℕ) → ((q : ℕ) → is_map_page pl q ≡ false → s q ≡ t q) → ((i : Item) → items i ≡ others i)
    → IsCanonicalPage pl s items p page → IsCanonicalPage pl t others p page
canonical_with pl s t items others p page same_pages same_items h = subst (λ (x : Item → Value). IsCanonicalPage pl t x p page) (fun_ext same_items) (record {
  size = h.size;
  bytes = h.bytes;
  kept = h.kept;
  block_map = h.block_map;
  inode_map = λ k low at. subst (λ (used : ℕ → Bool). IsInodeMapPage pl used (extent_by items) k page) (fun_ext (λ n. used_same pl s t same_pages n (home_by items n))) (h.inode_map k low at);
})

own-pages : (pl : Places) (s : Pages) (items : Item → Value) (t : Pages) → IsWithMaps pl s items t → (p : ℕ) → is_map_page pl p ≡ true → IsCanonicalPage pl t (items_on pl t) p (t p)
own-pages pl s items t h p e =
    canonical_with pl s t items (items_on pl t) p (t p) (λ q other. sym (h.pages q other)) (λ i. sym (read_back pl s items i (t (home pl i)) (h.maps (home pl i) (at_home pl i)))) (h.maps p e)

image-of : (pl : Places) (s : Pages) (items : Item → Value) (t base : Pages) → IsWithMaps pl s items t → ((p : ℕ) → length (s p) ≡ length (base p)) → IsImageOf pl base t
image-of pl s items t base h same = record {
  own = own-pages pl s items t h;
  bytes = λ p e. (h.maps p e).bytes;
  sizes = λ size p. at size p (cases_Bool (is_map_page pl p));
}
  where
    at : ((p : ℕ) → length (base p) ≡ 4096) → (p : ℕ) → (is_map_page pl p ≡ true) ⊎ (is_map_page pl p ≡ false) → length (t p) ≡ 4096
    at size p (inl e) = (h.maps p e).size
    at size p (inr e) = ap (λ (z : List ℕ). length z) (h.pages p e) ∙ same p ∙ size p

closed : (r : Readers) (pl : Places) (changes : Pages → List Edit → ℕ → Bool) (s : Pages) (items : Item → Value) (t : Pages) → IsWithMaps pl s items t → IsClosed (face_of r pl changes) s items t
closed r pl changes s items t h = record { pages = h.pages; maps = h.maps }

-- ---- they are there

start-is : (pl : Places) (s : Pages) → FitMaps pl → HaveOwnPlaces pl → HasMapBytes pl s → IsWithMaps pl s (items_on pl s) (made_canonical pl s)
start-is pl s fits own bytes = with-maps pl s (items_on pl s) fits own (read-fit pl s bytes)

entry-is : (pl : Places) (s : Pages) (tx : List Edit) → FitMaps pl → HaveOwnPlaces pl → HasMapBytes pl s → StaysWithin pl tx → IsWithMaps pl (λ p. apply_tx p tx (s p)) (λ i. set_by tx i (items_on pl s i)) (after_entry pl s tx)
entry-is pl s tx fits own bytes within = with-maps pl (λ p. apply_tx p tx (s p)) (λ i. set_by tx i (items_on pl s i)) fits own (edits-fit pl (items_on pl s) tx fits (read-fit pl s bytes) within)

-- the size of a page that is redone
length-redone : (p : ℕ) (left now : List ℕ) (es : List Edit) → length now ≡ length left → length (redone p left now es) ≡ length left
length-redone p left now [] size = size
length-redone p left now (e ∷ es) size = length-redone p left (if is_noredo p e then left else apply_edit p e now) es (at (is_noredo p e))
  where
    at : (closes : Bool) → length (if closes then left else apply_edit p e now) ≡ length left
    at true = refl
    at false = length-apply_edit p e now ∙ size

redo-is : (pl : Places) (low : Pages) (txs : List (List Edit)) → FitMaps pl → HaveOwnPlaces pl → HasMapBytes pl low → AllByRecursion (StaysWithin pl) txs → IsWithMaps pl (pages_redone low txs) (items_redone pl low txs) (after_redo pl low txs)
redo-is pl low txs fits own bytes within = with-maps pl (pages_redone low txs) (items_redone pl low txs) fits own (edits-fit pl (items_on pl low) (all_of txs) fits (read-fit pl low bytes) (all-within pl txs within))

entry_follows : (r : Readers) (pl : Places) (changes : Pages → List Edit → ℕ → Bool) (s : Pages) (tx : List Edit) → FitMaps pl → HaveOwnPlaces pl → HasMapBytes pl s → StaysWithin pl tx → FollowsEntry (face_of r pl changes) pl s tx
entry_follows r pl changes s tx fits own bytes within =
    let h = entry-is pl s tx fits own bytes within in
    record {
      follows = closed r pl changes (λ p. apply_tx p tx (s p)) (λ i. set_by tx i (items_on pl s i)) (after_entry pl s tx) h;
      image = image-of pl (λ p. apply_tx p tx (s p)) (λ i. set_by tx i (items_on pl s i)) (after_entry pl s tx) s h (λ p. length-apply_tx p tx (s p));
    }

pub follow_law : FollowLaw
follow_law = record {
  start = λ r pl changes s fits own bytes.
      let h = start-is pl s fits own bytes in
      (closed r pl changes s (items_on pl s) (made_canonical pl s) h, image-of pl s (items_on pl s) (made_canonical pl s) s h (λ p. refl));
  entry = entry_follows;
  redo = λ r pl changes low txs fits own bytes within.
      let h = redo-is pl low txs fits own bytes within in
      (redo_law.redo r pl changes low (after_redo pl low txs) txs (record { pages = h.pages; maps = h.maps }), image-of pl (pages_redone low txs) (items_redone pl low txs) (after_redo pl low txs) low h (λ p. length-redone p (low p) (low p) (all_of txs) refl));
}

-- map pages of a sound core's images are bytes
core-bytes : (r : Readers) (pl : Places) (changes : Pages → List Edit → ℕ → Bool) (core : Core) (k : ℕ) → IsFace (face_of r pl changes) → IsSound (face_of r pl changes) core → k ≤ count core → HasMapBytes pl (image core k)
core-bytes r pl changes core k laws sound low p e = (canonical_image (face_of r pl changes) laws core sound k low p e).map.bytes

pub core_law : CoreLaw
core_law r pl changes core tx areas fits own sound within =
    entry_follows r pl changes (image core (count core)) tx fits own (core-bytes r pl changes core (count core) (is_face r pl changes areas) sound (omega arith)) within

-- ---- they are one

same : (pl : Places) (s : Pages) (items : Item → Value) (t u : Pages) → IsWithMaps pl s items t → IsWithMaps pl s items u → (p : ℕ) → t p ≡ u p
same pl s items t u a b p = at (cases_Bool (is_map_page pl p))
  where
    at : (is_map_page pl p ≡ true) ⊎ (is_map_page pl p ≡ false) → t p ≡ u p
    at (inl e) = pages_agree pl s s items items (λ i. refl) (λ q other there. refl) p (t p) (u p) e (a.maps p e) (b.maps p e)
    at (inr e) = a.pages p e ∙ sym (b.pages p e)

entry_one : (r : Readers) (pl : Places) (changes : Pages → List Edit → ℕ → Bool) (s t : Pages) (tx : List Edit) → FitMaps pl → HaveOwnPlaces pl → HasMapBytes pl s → StaysWithin pl tx → IsStep (face_of r pl changes) s tx t → (p : ℕ) → t p ≡ after_entry pl s tx p
entry_one r pl changes s t tx fits own bytes within h p =
    same pl (λ p. apply_tx p tx (s p)) (λ i. set_by tx i (items_on pl s i)) t (after_entry pl s tx) (record { pages = h.pages; maps = h.maps }) (entry-is pl s tx fits own bytes within) p

pub one_law : OneLaw
one_law = record {
  starts = λ r pl changes s t fits own bytes h p. same pl s (items_on pl s) t (made_canonical pl s) (record { pages = h.pages; maps = h.maps }) (start-is pl s fits own bytes) p;
  entries = entry_one;
  cores = λ r pl changes core k areas fits own sound below within p.
      entry_one r pl changes (image core k) (image core (suc k)) (entry core k) fits own (core-bytes r pl changes core k (is_face r pl changes areas) sound (omega arith)) within (sound.follows k below) p;
}
