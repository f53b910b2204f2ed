-- One volume after another, and their images.
use Rattle.std.proofs.Common.{◌≡◌, ◌⊎◌, ◌<◌, ℕ, Bool, true, false, true≢false, List, [], ◌∷◌, length, Option, not, nat_lt, refl, sym, ap, ◌∙◌, subst, inl, inr, arith}
use Rattle.std.proofs.Math.Path.{fun_ext}
use Rattle.std.proofs.lemmas.Bool.{and_parts, ltb-true}
use Rattle.jfs_bits.specs.declared.descriptor.Pxd.{Pxd}
use Rattle.jfs_ranges.specs.declared.edit.Edit.{Edit}
use Rattle.jfs_ranges.specs.Apply.{apply_tx}
use Rattle.jfs_survival.specs.face.specs.steps.specs.After.{used_after}
use Rattle.jfs_survival.specs.recovery.specs.objects.specs.Readers.{Readers}
use Rattle.jfs_survival.specs.recovery.specs.objects.specs.Volume.{Volume}
use Rattle.jfs_survival.specs.recovery.specs.objects.specs.Image.{volume_on}
use Rattle.jfs_survival.specs.recovery.specs.objects.specs.Owners.{IsSound}
use Rattle.jfs_survival.specs.recovery.specs.kinds.specs.Owner.{Owner, is_logged}
use Rattle.jfs_survival.specs.recovery.specs.kinds.specs.Owner.Owner.{Area}
use Rattle.jfs_survival.specs.recovery.specs.kinds.proofs.Single.{has_owners}
use Rattle.jfs_survival.specs.recovery.specs.Face.{Pages, IsStep}
use Rattle.jfs_survival.specs.recovery.specs.Lines.{rest_of}
use Rattle.jfs_survival.specs.face.specs.Places.{Places, AreInAreas, is_map_page, is_fixed_page}
use Rattle.jfs_survival.specs.face.specs.Recovered.{IsVolumeAt}
use Rattle.jfs_survival.specs.face.specs.Volume.{volume_with, face_of}
use Rattle.jfs_survival.specs.face.proofs.Mounted.{seen_as_it_is}
use Rattle.jfs_survival.specs.logged.specs.Logged.{LogsPage, logged_in}
use Rattle.jfs_survival.specs.Entry.{ShowsLogged}
use Rattle.jfs_canonical_maps.specs.Places.{HaveOwnPlaces}
use Rattle.jfs_canonical_maps.specs.Images.{made_canonical, after_entry}
use Rattle.jfs_canonical_maps.specs.Laws.{HasMapBytes, FollowsEntry}
use Rattle.jfs_canonical_maps.proofs.Images.{follow_law}
use Rattle.jfs_canonical_maps.proofs.OwnPlaces.{own_places}
use Rattle.jfs_image_volumes.specs.Stands.{FixedStay, IsVolumeAfter}
use Rattle.jfs_image_volumes.specs.Next.{IsImageOfVolume, MayFollow, NextLaw, StartLaw, RunLaw}
use Rattle.jfs_image_volumes.proofs.Read.{extents_are}
use Rattle.jfs_image_volumes.proofs.Shows.{shows_law}
use Rattle.jfs_image_volumes.proofs.Volumes.{volume_law}

own : (r : Readers) (blocks agsize numag : ℕ) (table map : Pxd) (pl : Places) (s : Pages) → IsVolumeAt r blocks agsize numag table map pl s → HaveOwnPlaces pl
own r blocks agsize numag table map pl s is_at = subst (λ (x : Places). HaveOwnPlaces x) is_at.places (own_places r blocks agsize numag table map s is_at.sound.agrees is_at.pages)

pub in_areas : (r : Readers) (blocks agsize numag : ℕ) (table map : Pxd) (pl : Places) (s : Pages) → IsVolumeAt r blocks agsize numag table map pl s → AreInAreas pl
in_areas r blocks agsize numag table map pl s is_at = subst (λ (x : Places). AreInAreas x) is_at.places (seen_as_it_is r blocks agsize numag table map s is_at.pages).areas

-- a page beside the maps isn't one of them
beside : (pl : Places) (p : ℕ) → is_fixed_page pl p ≡ true → is_map_page pl p ≡ false
beside pl p fixed = by (is_map_page pl p) (and_parts (nat_lt 0 (pl.area p)) (not (is_map_page pl p)) fixed).1
  where
    by : (x : Bool) → not x ≡ true → x ≡ false
    by false e = refl
    by true e = absurd (true≢false (sym e))

-- the log keeps the fixed areas safe
area_logged : (r : Readers) (v : Volume) → IsSound r v → (p : ℕ) → 0 < v.area p → logged_in r v p ≡ true
area_logged r v sound p some = ap (λ (o : Option Owner). is_logged o) ((has_owners r v sound.agrees).alone p Area some)

-- ---- one step

pub next_by : (r : Readers) (blocks agsize numag : ℕ) (table map : Pxd) (pl : Places) (changes : Pages → List Edit → ℕ → Bool) (s t : Pages) (v w : Volume) (tx : List Edit) → IsImageOfVolume r blocks agsize numag table map pl s v → MayFollow r pl v w tx
    → IsStep (face_of r pl changes) s tx t → HasMapBytes pl t → ((p : ℕ) → length (t p) ≡ 4096) → IsImageOfVolume r blocks agsize numag table map pl t w
next_by r blocks agsize numag table map pl changes s t v w tx image may follows bytes sizes =
    let is_at = image.is.stands in
    let shows = shows_law r pl changes s t tx v w (in_areas r blocks agsize numag table map pl s is_at) image.sizes image.shows follows may.after in
    let some_area : (p : ℕ) → is_fixed_page pl p ≡ true → 0 < v.area p = λ p e. (let some = ltb-true 0 (pl.area p) (and_parts (nat_lt 0 (pl.area p)) (not (is_map_page pl p)) e).0 in let same = image.shows.area p in omega (arith, some, same)) in
    let fixed : (p : ℕ) → is_fixed_page pl p ≡ true → t p ≡ w.page p = λ p e. follows.pages p (beside pl p e) ∙ ap (apply_tx p tx) (image.fixed p e) ∙ sym (may.after.logs.pages p (area_logged r v image.sound p (some_area p e)) (area_logged r w may.sound p (let same = may.after.area p in let some = some_area p e in omega (arith, same, some)))) in
    let stay : FixedStay pl s t = λ p e. fixed p e ∙ may.fixed p e ∙ sym (image.fixed p e) in
    let used : (b : ℕ) → w.used b ≡ used_after tx (volume_on r blocks table map s).used b = λ b. may.used b ∙ ap (λ (u : ℕ → Bool). used_after tx u b) (fun_ext (λ c. sym (image.is.same.used c))) in
    record {
      sizes = sizes;
      bytes = bytes;
      sound = may.sound;
      shows = shows;
      fixed = fixed;
      is = volume_law r blocks agsize numag table map pl changes s t tx w is_at follows stay may.sound shows used;
    }

pub next_law : NextLaw
next_law r blocks agsize numag table map pl changes s v w tx fits image may =
    let there : FollowsEntry (face_of r pl changes) pl s tx = follow_law.entry r pl changes s tx fits (own r blocks agsize numag table map pl s image.is.stands) image.bytes may.within in
    record { follows = there; image = next_by r blocks agsize numag table map pl changes s (after_entry pl s tx) v w tx image may there.follows there.image.bytes (there.image.sizes image.sizes) }

-- ---- the start

-- no edits log what matters of one volume
page-logged : (p : ℕ) (matters : Bool) (page : List ℕ) → LogsPage p matters matters [] page
unfolding rest_of
page-logged p matters page = record {
  whole = λ now why a size. never now why;
  shut = λ gone a size. refl;
  noted = λ gone was. absurd (true≢false (sym was ∙ gone));
}
  where
    never : {A : Type 0} → matters ≡ true → (false ≡ true) ⊎ (matters ≡ false) → A
    never now (inl e) = absurd (true≢false (sym e))
    never now (inr e) = absurd (true≢false (sym now ∙ e))

none-after : (r : Readers) (v : Volume) → IsVolumeAfter r v v []
none-after r v = record {
  logs = record { owners = λ b was now. refl; pages = λ p was now. refl; logs = λ p. page-logged p _ (v.page p) };
  area = λ b. refl;
  extents = refl;
}

shows-itself : (r : Readers) (blocks agsize numag : ℕ) (table map : Pxd) (pl : Places) (low : Pages) → IsVolumeAt r blocks agsize numag table map pl low → ShowsLogged r pl low (volume_on r blocks table map low)
shows-itself r blocks agsize numag table map pl low is_at = record {
  extents = ap (λ (x : Places). (volume_with x low).extents) (sym is_at.places) ∙ sym (extents_are r blocks agsize numag table map low is_at.pages);
  area = λ b. ap (λ (x : Places). x.area b) (sym is_at.places);
  pages = λ b logged none. refl;
}

pub start_law : StartLaw
start_law r blocks agsize numag table map pl changes low fits is_at bytes sizes =
    let there = follow_law.start r pl changes low fits (own r blocks agsize numag table map pl low is_at) bytes in
    let t : Pages = made_canonical pl low in
    let v : Volume = volume_on r blocks table map low in
    let follows : IsStep (face_of r pl changes) low [] t = record { pages = there.0.pages; maps = there.0.maps } in
    let shows = shows_law r pl changes low t [] v v (in_areas r blocks agsize numag table map pl low is_at) sizes (shows-itself r blocks agsize numag table map pl low is_at) follows (none-after r v) in
    let stay : FixedStay pl low t = λ p e. there.0.pages p (beside pl p e) in (
      there.0,
      record {
        sizes = there.1.sizes sizes;
        bytes = there.1.bytes;
        sound = is_at.sound;
        shows = shows;
        fixed = stay;
        is = volume_law r blocks agsize numag table map pl changes low t [] v is_at follows stay is_at.sound shows (λ b. refl);
      },
    )

-- ---- a run

pub run_law : RunLaw
run_law r blocks agsize numag table map pl s v [] fits image all = image
run_law r blocks agsize numag table map pl s v (one ∷ rest) fits image all =
    run_law r blocks agsize numag table map pl (after_entry pl s one.tx) one.volume rest fits (next_law r blocks agsize numag table map pl (λ u tx p. false) s v one.volume one.tx fits image all.0).image all.1
