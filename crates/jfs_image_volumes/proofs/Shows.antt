-- An image that shows what the log keeps safe of a volume, and an entry.
use Rattle.std.proofs.Common.{◌≡◌, ◌⊎◌, ◌<◌, ℕ, Bool, true, false, if◌then◌else◌, List, [], ◌∷◌, length, get_or, set, Option, Some, None, refl, sym, ap, ◌∙◌, inl, inr, arith}
use Rattle.std.proofs.lemmas.Bool.{cases_Bool}
use Rattle.std.proofs.lemmas.List.{ext_get_or, length-set}
use Rattle.std.proofs.lemmas.List.FromFn.{length-map-range_with_len, get_or-map-range_with_len}
use Rattle.jfs_ranges.specs.declared.edit.Edit.{Edit}
use Rattle.jfs_ranges.specs.declared.edit.Edit.TheVariants.{Lines, NoRedo, Alloc, Free}
use Rattle.jfs_ranges.specs.Apply.{apply_tx}
use Rattle.jfs_survival.specs.face.specs.steps.specs.After.{is_extent, place_in, extents_after}
use Rattle.jfs_survival.specs.recovery.specs.objects.specs.Readers.{Readers}
use Rattle.jfs_survival.specs.recovery.specs.objects.specs.Volume.{Volume}
use Rattle.jfs_survival.specs.recovery.specs.objects.specs.Image.{extent_place}
use Rattle.jfs_survival.specs.recovery.specs.records.specs.Redo.{closes_in}
use Rattle.jfs_survival.specs.recovery.specs.Face.{Face, IsFace, Pages, Value, byte, lined, items_after, IsStep}
use Rattle.jfs_survival.specs.recovery.specs.Face.Item.{ExtentPlace}
use Rattle.jfs_survival.specs.recovery.proofs.Images.{closed_item}
use Rattle.jfs_survival.specs.face.specs.Places.{Places, AreInAreas}
use Rattle.jfs_survival.specs.face.specs.Items.{places, place_of, extent_by}
use Rattle.jfs_survival.specs.face.specs.Volume.{items_on, volume_with, face_of}
use Rattle.jfs_survival.specs.face.proofs.InRow.{redo_law}
use Rattle.jfs_survival.specs.face.proofs.Whole.{is_face}
use Rattle.jfs_survival.specs.logged.specs.Logged.{logged_in}
use Rattle.jfs_survival.specs.Entry.{ShowsLogged}
use Rattle.jfs_survival.proofs.Lines.{whole_lines}
use Rattle.jfs_image_volumes.specs.Stands.{IsVolumeAfter, ShowsLaw}
use Rattle.jfs_image_volumes.proofs.Read.{no_map_page}

-- ---- extents

length-after : (tx : List Edit) (es : List (Option ℕ)) → length (extents_after tx es) ≡ length es
length-after [] es = refl
length-after (Lines page kind first bytes ∷ tx) es = length-after tx (if is_extent kind first bytes then set es (place_in bytes) (Some page) else es) ∙ by (is_extent kind first bytes)
  where
    by : (extent : Bool) → length (if extent then set es (place_in bytes) (Some page) else es) ≡ length es
    by true = length-set es (place_in bytes) (Some page)
    by false = refl
length-after (NoRedo page ∷ tx) es = length-after tx es
length-after (Alloc run ∷ tx) es = length-after tx es
length-after (Free run ∷ tx) es = length-after tx es

extent-at : (pl : Places) (s : Pages) (e : ℕ) → e < places pl → get_or (volume_with pl s).extents e None ≡ extent_place (extent_by (items_on pl s) e)
extent-at pl s e h = get_or-map-range_with_len (λ e. extent_place (extent_by (items_on pl s) e)) 0 (places pl) e e None h (omega arith)

extents-length : (pl : Places) (s : Pages) → length (volume_with pl s).extents ≡ places pl
extents-length pl s = length-map-range_with_len (λ e. extent_place (extent_by (items_on pl s) e)) 0 (places pl)

extents-then : (r : Readers) (pl : Places) (changes : Pages → List Edit → ℕ → Bool) (s t : Pages) (tx : List Edit) → AreInAreas pl → IsStep (face_of r pl changes) s tx t → (volume_with pl t).extents ≡ extents_after tx (volume_with pl s).extents
extents-then r pl changes s t tx areas follows =
    let f : Face = face_of r pl changes in
    let laws : IsFace f = is_face r pl changes areas in
    let old : List (Option ℕ) = (volume_with pl s).extents in
    let size = extents-length pl s in
    let long = extents-length pl t in
    ext_get_or None (volume_with pl t).extents (extents_after tx old) (long ∙ sym size ∙ sym (length-after tx old)) (λ e low.
    let within : e < places pl = omega (arith, low, long) in
    extent-at pl t e within
    ∙ ap (λ (x : Value). extent_place (place_of x)) (closed_item f laws (lined f s tx) (items_after f s tx) t follows (ExtentPlace e))
    ∙ redo_law.extents tx old e (items_on pl s (ExtentPlace e)) (omega (arith, within, size)) (sym (extent-at pl s e within)))

-- ---- pages

module _ (r : Readers) (pl : Places) (changes : Pages → List Edit → ℕ → Bool) (s t : Pages) (tx : List Edit) (v w : Volume) (areas : AreInAreas pl) (sizes : (p : ℕ) → length (s p) ≡ 4096) (shows : ShowsLogged r pl s v)
    (follows : IsStep (face_of r pl changes) s tx t) (after : IsVolumeAfter r v w tx) where
  abbrev f : Face
  f = face_of r pl changes

  laws : IsFace f
  laws = is_face r pl changes areas

  area : (b : ℕ) → pl.area b ≡ w.area b
  area b = shows.area b ∙ sym (after.area b)

  -- a page that is given whole
  given : (b : ℕ) → ((a : List ℕ) → length a ≡ 4096 → f.redoes tx b a ≡ w.page b) → apply_tx b tx (s b) ≡ w.page b
  given b whole =
      let w_size : length (w.page b) ≡ 4096 = ap (λ (a : List ℕ). length a) (sym (whole (s b) (sizes b))) ∙ laws.size_redoes tx b (s b) (sizes b) in
      whole_lines f laws tx b (w.page b) w_size (λ a i a_size l. ap (λ (x : List ℕ). byte x i) (whole a a_size)) (s b) (sizes b)

  page_is : (b : ℕ) → logged_in r w b ≡ true → w.area b ≡ 0 → apply_tx b tx (s b) ≡ w.page b
  page_is b logged none = at (cases_Bool (closes_in b tx)) (cases_Bool (logged_in r v b))
    where
      at : (closes_in b tx ≡ true) ⊎ (closes_in b tx ≡ false) → (logged_in r v b ≡ true) ⊎ (logged_in r v b ≡ false) → apply_tx b tx (s b) ≡ w.page b
      at (inl closed) was = given b (λ a a_size. (after.logs.logs b).whole logged (inl closed) a a_size)
      at (inr stays) (inr new) = given b (λ a a_size. (after.logs.logs b).whole logged (inr new) a a_size)
      at (inr stays) (inl was) = ap (apply_tx b tx) (shows.pages b was (sym (after.area b) ∙ none)) ∙ sym (after.logs.pages b was logged)

  pub shown : ShowsLogged r pl t w
  shown = record {
    extents = extents-then r pl changes s t tx areas follows ∙ ap (extents_after tx) shows.extents ∙ sym after.extents;
    area = area;
    pages = λ b logged none. follows.pages b (no_map_page pl b areas (area b ∙ none)) ∙ page_is b logged none;
  }

pub shows_law : ShowsLaw
shows_law r pl changes s t tx v w areas sizes shows follows after = shown r pl changes s t tx v w areas sizes shows follows after
