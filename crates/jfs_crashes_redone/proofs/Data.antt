-- Redo leaves the blocks that hold file data of the volume that it makes.
use Rattle.std.proofs.Common.{◌≡◌, ◌⊎◌, ◌<◌, ◌≤◌, ◌+◌, nat_lt, ℕ, zero, suc, Bool, true, false, true≢false, if◌then◌else◌, List, length, Option, Some, None, refl, sym, ap, ◌∙◌, inl, inr, arith}
use Rattle.std.proofs.lemmas.Bool.{cases_lt, cases_Bool, cond-true, cond-false, lt-ltb, le-ltb}
use Rattle.jfs_disk.specs.Image.{Image, page_of}
use Rattle.jfs_ranges.specs.declared.edit.Edit.{Edit}
use Rattle.jfs_records.specs.Redo.{all_of, redone}
use Rattle.jfs_super.specs.Rules.{blocks_of}
use Rattle.jfs_super.specs.declared.fields.Super.{Super}
use Rattle.jfs_shown.specs.meaning.specs.Readers.{readers}
use Rattle.jfs_shown.specs.objects.specs.Objects.{Object, objects}
use Rattle.jfs_shown.specs.objects.specs.Owners.{Agrees, IsSound, data_held, holds, is_data}
use Rattle.jfs_shown.specs.objects.specs.Readers.{Readers}
use Rattle.jfs_shown.specs.objects.specs.Volume.{Volume}
use Rattle.jfs_shown.specs.objects.proofs.Owned.{unfixed}
use Rattle.jfs_shown.specs.objects.proofs.Sums.{zero_or_more}
use Rattle.jfs_held_maps.specs.mounted_places.specs.held.specs.survival.specs.MapMarks.{map_marks}
use Rattle.jfs_held_maps.specs.mounted_places.specs.held.specs.survival.specs.Entry.{ShowsLogged}
use Rattle.jfs_held_maps.specs.mounted_places.specs.held.specs.survival.proofs.Seen.{seen_law}
use Rattle.jfs_held_maps.specs.mounted_places.specs.held.specs.survival.specs.face.specs.Places.{Places, is_map_page}
use Rattle.jfs_held_maps.specs.mounted_places.specs.held.specs.survival.specs.face.specs.Volume.{face_of}
use Rattle.jfs_held_maps.specs.mounted_places.specs.held.specs.survival.specs.face.proofs.Owned.{map_matters}
use Rattle.jfs_held_maps.specs.mounted_places.specs.held.specs.survival.specs.face.proofs.Whole.{is_face, reads_edits}
use Rattle.jfs_held_maps.specs.mounted_places.specs.held.specs.survival.specs.recovery.specs.kinds.specs.Owner.{Owner, is_regular_file, has_data, has_still, is_logged, owner_of}
use Rattle.jfs_held_maps.specs.mounted_places.specs.held.specs.survival.specs.recovery.specs.kinds.specs.Owner.Owner.{Data, Still}
use Rattle.jfs_held_maps.specs.mounted_places.specs.held.specs.survival.specs.recovery.specs.kinds.proofs.Single.{has_owners}
use Rattle.jfs_held_maps.specs.mounted_places.specs.held.specs.survival.specs.recovery.specs.Core.{Core, count, entry, image, matters_at}
use Rattle.jfs_held_maps.specs.mounted_places.specs.held.specs.survival.specs.recovery.specs.Face.{Face, IsFace, Pages, redo_page}
use Rattle.jfs_held_maps.specs.mounted_places.specs.held.specs.survival.specs.recovery.specs.Sound.{IsSound as IsSoundCore, IsLogImage, window}
use Rattle.jfs_held_maps.specs.mounted_places.specs.held.specs.survival.specs.recovery.proofs.EditByEdit.{edit_by_edit}
use Rattle.jfs_held_maps.specs.mounted_places.specs.held.specs.survival.specs.recovery.proofs.Images.{redo_none, redo_next, size_redo}
use Rattle.jfs_held_maps.specs.mounted_places.specs.held.specs.survival.specs.recovery.proofs.Redo.{Facts, facts as facts_of, size_left}
use Rattle.jfs_redo.specs.Partly.{IsPartlyRedone}
use Rattle.jfs_redo.specs.Redo.{IsMapPlace, IsRedone}
use Rattle.jfs_redo.specs.mount_rules.specs.Subject.{Subject, subject_of, volume}
use Rattle.jfs_redo.specs.redo_steps.specs.Pages.{redone_page}
use Rattle.jfs_redo.proofs.Apart.{in_area, in_both, place_has}
use Rattle.jfs_redo.proofs.TakenUp.{page_stays}
use Rattle.jfs_crashes_redone.proofs.Facts.{AreFacts}

-- ---- the core leaves a page that the log doesn't keep safe

module _ (f : Face) (laws : IsFace f) (core : Core) (sound : IsSoundCore f core) (p : ℕ) (page : f.is_map p ≡ false) (c : ℕ) (left : List ℕ) (size : length left ≡ 4096) where
  -- after the first k entries
  abbrev after : ℕ → List ℕ
  after k = redo_page f p left left (window core c k)

  base_size : (t : Bool) (now : List ℕ) → length now ≡ 4096 → length (if t then left else now) ≡ 4096
  base_size true now long = size
  base_size false now long = long

  none : (k : ℕ) → k ≡ c → after k ≡ left
  none k e = ap (λ (j : ℕ). after j) e ∙ redo_none f core p c left

  -- an entry that takes it out of the log's care has a NoRedo of it, and no line behind that
  more : (k : ℕ) → c ≤ k → k < count core → (matters_at f core p k ≡ false → after k ≡ left) → matters_at f core p (suc k) ≡ false → after (suc k) ≡ left
  more k past low before gone =
      redo_next f core p c k left past low ∙ (sound.logged k p low page).shut gone (base (f.closes (entry core k) p)) (base_size (f.closes (entry core k) p) (after k) (size_redo f laws p left size (window core c k) left size))
      ∙ at (f.closes (entry core k) p) refl (cases_Bool (matters_at f core p k))
    where
      base : Bool → List ℕ
      base t = if t then left else after k

      at : (t : Bool) → f.closes (entry core k) p ≡ t → (matters_at f core p k ≡ true) ⊎ (matters_at f core p k ≡ false) → base t ≡ left
      at true e was = refl
      at false e (inr out) = before out
      at false e (inl in_care) = absurd (true≢false (sym ((sound.logged k p low page).noted gone in_care) ∙ e))

  pub core_leaves : (k : ℕ) → c ≤ k → k ≤ count core → matters_at f core p k ≡ false → after k ≡ left
  core_leaves zero past low gone = none zero (omega (arith, past))
  core_leaves (suc k) past low gone = at (cases_lt k c) (λ q. core_leaves k q (omega (arith, low)))
    where
      at : (k < c) ⊎ (c ≤ k) → (c ≤ k → matters_at f core p k ≡ false → after k ≡ left) → after (suc k) ≡ left
      at (inl under) before = none (suc k) (omega (arith, under, past))
      at (inr over) before = more k over (omega (arith, low)) (before over) gone

-- ---- data isn't in the log's care

data_is_held : (r : Readers) (o : Option Object) (b : ℕ) → is_data r o b ≤ holds r o b
unfolding is_data holds
data_is_held r None b = omega arith
data_is_held r (Some o) b = omega arith

data_is_its : (r : Readers) (o : Option Object) (b : ℕ) → is_data r o b ≤ has_data r o b + has_still r o b
unfolding is_data has_data has_still
data_is_its r None b = omega arith
data_is_its r (Some o) b = elim (cases_Bool (is_regular_file o)) [
  | inl e ↦ (let d = cond-true (is_regular_file o) (data_held r o b) 0 e in omega (arith, d))
  | inr e ↦ (let d = cond-false (is_regular_file o) 0 (data_held r o b) e in omega (arith, d))
]

not_logged : (r : Readers) (v : Volume) → Agrees r v → (k b : ℕ) → 0 < is_data r (objects r v k) b → is_logged (owner_of r v b) ≡ false
not_logged r v agrees k b some = elim (zero_or_more (has_data r (objects r v k) b)) [
  | inr more ↦ ap (λ (o : Option Owner). is_logged o) ((has_owners r v agrees).alone b (Data k) more)
  | inl none ↦ ap (λ (o : Option Owner). is_logged o) ((has_owners r v agrees).alone b (Still k) (let its = data_is_its r (objects r v k) b in omega (arith, some, its, none)))
]

-- ---- the disk that a crash left, and the volume that its log leads to

module _ (s : Super) (pl : Places) (core : Core) (left : Pages) (old : Image) (facts : AreFacts s pl core left old) (c n : ℕ) (log : IsLogImage core c n) (txs : List (List Edit)) (same : all_of txs ≡ all_of (window core c n))
    (v : Volume) (sound : IsSound (readers (blocks_of s)) v) (shows : ShowsLogged (readers (blocks_of s)) pl (image core n) v) (k b : ℕ) (some : 0 < is_data (readers (blocks_of s)) (objects (readers (blocks_of s)) v k) b) where
  abbrev r : Readers
  r = readers (blocks_of s)

  abbrev f : Face
  f = face_of r pl (map_marks pl)

  abbrev sub : Subject
  sub = subject_of s (page_of old)

  known : Facts core c n
  known = facts_of f core facts.sound c n log

  gone : matters_at f core b n ≡ false
  gone = ap (λ (o : Option Owner). is_logged o) (seen_law r pl (image core n) v sound shows b) ∙ not_logged r v sound.agrees k b some

  no_map : is_map_page pl b ≡ false
  no_map = elim (cases_Bool (is_map_page pl b)) [ inl is ↦ absurd (true≢false (sym (map_matters r pl facts.areas (image core n) b is) ∙ gone)) | inr other ↦ other ]

  size : length (left b) ≡ 4096
  size = size_left f core facts.sound left facts.is_left b

  core_stays : redo_page f b (left b) (left b) (window core c n) ≡ left b
  core_stays = core_leaves f (is_face r pl (map_marks pl) facts.areas) core facts.sound b no_map c (left b) size n (let t = known.told in let l = known.later in omega (arith, t, l)) known.within gone

  unchanged : redone_page (blocks_of s) (all_of txs) old b ≡ page_of old b
  unchanged = elim (cases_lt b (blocks_of s)) [
    | inl low ↦
        cond-true (nat_lt b (blocks_of s)) (redone b (page_of old b) (page_of old b) (all_of txs)) (page_of old b) (lt-ltb b (blocks_of s) low)
        ∙ ap (λ (es : List Edit). redone b (page_of old b) (page_of old b) es) same
        ∙ ap (λ (page : List ℕ). redone b page page (all_of (window core c n))) (sym (facts.same_low b low))
        ∙ sym (edit_by_edit f (reads_edits r pl (map_marks pl)) b (left b) (window core c n)) ∙ core_stays ∙ facts.same_low b low
    | inr high ↦ cond-false (nat_lt b (blocks_of s)) (redone b (page_of old b) (page_of old b) (all_of txs)) (page_of old b) (le-ltb b (blocks_of s) high)
  ]

  -- it lies outside of the fixed areas
  no_area : (volume sub).area b ≡ 0
  no_area =
      let held = data_is_held r (objects r v k) b in
      let fixed = unfixed r v sound.agrees k b (omega (arith, some, held)) in
      ap (λ (q : Places). q.area b) facts.places_are ∙ shows.area b ∙ omega (arith, fixed)

  not_place : IsMapPlace sub b → ⊥
  not_place place = let has = place_has sub b place in let in_it = in_area sub b in omega (arith, has, in_it, no_area)

  not_superblock : b ≡ 8 → ⊥
  not_superblock e = let in_it = in_both sub b (omega (arith, e)) in omega (arith, in_it, no_area)

  pub data_stays : (new : Image) → IsPartlyRedone s txs old new ⊎ IsRedone s txs old new → page_of new b ≡ page_of old b
  data_stays new either = page_stays s txs old new either b (λ low. ap length (sym (facts.same_low b low)) ∙ size) unchanged not_place not_superblock
