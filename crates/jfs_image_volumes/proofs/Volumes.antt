-- The image after an entry is the volume after it.
use Rattle.std.proofs.Common.{◌≡◌, ◌≢◌, ◌⊎◌, ◌<◌, ◌≤◌, ◌+◌, ◌*◌, ◌/◌, ◌%◌, ◌&&◌, not, ℕ, suc, Bool, true, false, true≢false, if◌then◌else◌, List, length, get_or, is_some, Option, Some, None, refl, sym, ap, ◌∙◌, subst, inl, inr, arith}
use Rattle.std.proofs.lemmas.Bool.{cases_eq, cases_lt}
use Rattle.std.proofs.lemmas.List.{get_or_past}
use Rattle.std.proofs.lemmas.List.FromFn.{length-map-range_with_len, get_or-map-range_with_len}
use Rattle.jfs_bits.specs.Bits.{is_taken}
use Rattle.jfs_bits.specs.Field.{range_of}
use Rattle.jfs_bits.specs.declared.descriptor.Pxd.{Pxd}
use Rattle.jfs_ranges.specs.declared.edit.Edit.{Edit}
use Rattle.jfs_survival.specs.face.specs.steps.specs.After.{used_after}
use Rattle.jfs_survival.specs.recovery.specs.objects.specs.Readers.{Readers}
use Rattle.jfs_survival.specs.recovery.specs.objects.specs.Volume.{Volume, page_in, home, slot_of}
use Rattle.jfs_survival.specs.recovery.specs.objects.specs.Objects.{Object, objects, object_in, shown, is_live, spelled}
use Rattle.jfs_survival.specs.recovery.specs.objects.specs.Owners.{bit, IsSound}
use Rattle.jfs_survival.specs.recovery.specs.objects.specs.Image.{iag_page, extent_place, is_block_used, is_inode_used, volume_on}
use Rattle.jfs_survival.specs.recovery.specs.kinds.specs.Owner.{Owner, owner_of, is_logged}
use Rattle.jfs_survival.specs.recovery.specs.kinds.specs.Owner.Owner.{Area, Inodes}
use Rattle.jfs_survival.specs.recovery.specs.kinds.specs.Images.{IsSameVolume}
use Rattle.jfs_survival.specs.recovery.specs.kinds.proofs.Logged.{reads}
use Rattle.jfs_survival.specs.recovery.specs.kinds.proofs.Single.{has_owners as one_owner}
use Rattle.jfs_survival.specs.recovery.specs.Face.{Pages, Item, Value, lined, items_after, IsStep}
use Rattle.jfs_survival.specs.recovery.specs.Face.Item.{BlockBit, ExtentPlace}
use Rattle.jfs_survival.specs.recovery.specs.Face.Value.{InUse}
use Rattle.jfs_survival.specs.recovery.proofs.Images.{closed_item}
use Rattle.jfs_survival.specs.face.specs.Places.{Places, AreInAreas, is_map_page}
use Rattle.jfs_survival.specs.face.specs.Items.{places, place_of, bit_of, extent_by, set_by}
use Rattle.jfs_survival.specs.face.specs.MapPages.{home_by, is_used_on, inode_used_by}
use Rattle.jfs_survival.specs.face.specs.Mounted.{places_on, HasMapPages}
use Rattle.jfs_survival.specs.face.specs.Volume.{items_on, face_of}
use Rattle.jfs_survival.specs.face.proofs.InRow.{redo_law}
use Rattle.jfs_survival.specs.face.proofs.Mounted.{seen_as_it_is}
use Rattle.jfs_survival.specs.face.proofs.Reading.{inode_page}
use Rattle.jfs_survival.specs.face.proofs.Whole.{is_face}
use Rattle.jfs_survival.specs.Entry.{ShowsLogged}
use Rattle.jfs_image_volumes.specs.Stands.{VolumeLaw}
use Rattle.jfs_image_volumes.proofs.Read.{no_map_page, file_page_is, used_is, extents_are}
use Rattle.jfs_image_volumes.proofs.Places.{places_law}
use Rattle.jfs_image_volumes.proofs.Objects.{ShowsOutside, has_objects, has_owners, has_counts}

live_some : (r : Readers) (page : ℕ → List ℕ) (n p : ℕ) → is_some (shown r page n (slot_of (page p) (n % 8))) ≡ is_live n (slot_of (page p) (n % 8))
live_some r page n p = by (is_live n (slot_of (page p) (n % 8)))
  where
    by : (live : Bool) → is_some (if live then Some (spelled r page (slot_of (page p) (n % 8))) else None) ≡ live
    by true = refl
    by false = refl

and_true : (x y : Bool) → x ≡ true → (x && y) ≡ y
and_true true y e = refl
and_true false y e = absurd (true≢false (sym e))

-- the volume that stands on the image, at the places where the maps are
module _ (r : Readers) (blocks agsize numag : ℕ) (table map : Pxd) (changes : Pages → List Edit → ℕ → Bool) (s t : Pages) (tx : List Edit) (w : Volume) (has : HasMapPages r blocks t) (areas : AreInAreas (places_on r blocks agsize numag table map t))
    (follows : IsStep (face_of r (places_on r blocks agsize numag table map t) changes) s tx t) (sound : IsSound r w) (shows : ShowsLogged r (places_on r blocks agsize numag table map t) t w) where
  abbrev mounted : Places
  mounted = places_on r blocks agsize numag table map t

  abbrev x : Volume
  x = volume_on r blocks table map t

  abbrev items : Item → Value
  items i = set_by tx i (items_on mounted s i)

  item_is : (i : Item) → items_on mounted t i ≡ items i
  item_is i = closed_item (face_of r mounted changes) (is_face r mounted changes areas) (lined (face_of r mounted changes) s tx) (items_after (face_of r mounted changes) s tx) t follows i

  extents : x.extents ≡ w.extents
  extents = extents_are r blocks agsize numag table map t has ∙ shows.extents

  outside : ShowsOutside r w x
  outside = record { extents = extents; area = shows.area; pages = shows.pages }

  -- ---- inodes in use

  -- an inode's page isn't one of a map, and is the volume's
  inode_page_is : (n p : ℕ) → home w.extents n ≡ Some p → (is_map_page mounted p ≡ false) × (t p ≡ w.page p)
  inode_page_is n p h = (no_map_page mounted p areas (shows.area p ∙ none), shows.pages p (ap (λ (o : Option Owner). is_logged o) owner) none)
    where
      owner : owner_of r w p ≡ Some Inodes
      owner = (reads r w sound).inodes n p h

      none : w.area p ≡ 0
      none = by (cases_eq (w.area p) 0)
        where
          by : (w.area p ≡ 0) ⊎ (w.area p ≢ 0) → w.area p ≡ 0
          by (inl e) = e
          by (inr more) = absurd (let e : Some Inodes ≡ Some Area = sym owner ∙ (one_owner r w sound.agrees).alone p Area (positive (w.area p) more) in cc)
            where
              positive : (k : ℕ) → k ≢ 0 → 0 < k
              positive k h = omega (arith, h)

  -- an inode's place lies in the map
  within : (n p : ℕ) → home w.extents n ≡ Some p → n / 32 < places mounted
  within n p h = by (cases_lt (n / 32) (places mounted))
    where
      size : length w.extents ≡ places mounted
      size = ap (λ (es : List (Option ℕ)). length es) (sym shows.extents) ∙ length-map-range_with_len (λ e. extent_place (extent_by (items_on mounted t) e)) 0 (places mounted)

      by : (n / 32 < places mounted) ⊎ (places mounted ≤ n / 32) → n / 32 < places mounted
      by (inl e) = e
      by (inr past) = absurd (let e : None ≡ Some p = sym (ap (λ (o : Option ℕ). page_in o n) (get_or_past w.extents (n / 32) None (omega (arith, past, size)))) ∙ h in cc (e))

  home_is : (n p : ℕ) → home w.extents n ≡ Some p → home_by items n ≡ Some p
  home_is n p h =
      let e = n / 32 in
      let at : get_or w.extents e None ≡ extent_place (extent_by (items_on mounted t) e) =
      ap (λ (es : List (Option ℕ)). get_or es e None) (sym shows.extents) ∙ get_or-map-range_with_len (λ e. extent_place (extent_by (items_on mounted t) e)) 0 (places mounted) e e None (within n p h) (omega arith) in
      ap (λ (o : Option ℕ). page_in o n) (ap (λ (v : Value). extent_place (place_of v)) (sym (item_is (ExtentPlace e))) ∙ sym at) ∙ h

  -- the bit of an inode on the canonical page
  bit_said : (n p : ℕ) → home w.extents n ≡ Some p → is_taken (range_of (iag_page r t (n / 4096)) 2560 512) (n % 4096) ≡ is_live n (slot_of (w.page p) (n % 8))
  bit_said n p h =
      let k = n / 4096 in
      let inside = within n p h in
      let low : suc k ≤ mounted.iags = omega (arith, inside) in
      let page = t (mounted.inode_map (suc k)) in
      let iag = (follows.maps (mounted.inode_map (suc k)) (inode_page mounted (suc k) low)).inode_map (suc k) low refl in
      let held = iag.2.held in
      let place : 4096 * k + n % 4096 ≡ n = omega arith in
      let is = inode_page_is n p h in
      let slot = λ (a : List ℕ). is_live n (slot_of a (n % 8)) in
      ap (λ (a : List ℕ). is_taken (range_of a 2560 512) (n % 4096)) (sym (file_page_is r t 16 (suc k) (has.inode_map (suc k) low)))
      ∙ ap (λ (a : List ℕ). is_taken a (n % 4096)) (sym held.pmap)
      ∙ iag.2.canonical.pmap (n % 4096) (omega arith)
      ∙ ap (inode_used_by mounted (lined (face_of r mounted changes) s tx) items) place
      ∙ ap (is_used_on mounted (lined (face_of r mounted changes) s tx) n) (home_is n p h)
      ∙ ap (λ (y : Bool). not y && slot (lined (face_of r mounted changes) s tx p)) is.0
      ∙ ap slot (sym (follows.pages p is.0) ∙ is.1)

  in_use : (n : ℕ) → is_inode_used r t n ≡ w.in_use n
  unfolding is_inode_used objects
  in_use n = ap (λ (es : List (Option ℕ)). is_some (home es n) && is_taken (range_of (iag_page r t (n / 4096)) 2560 512) (n % 4096)) extents ∙ by (home w.extents n) refl ∙ sym (sound.agrees.inodes n)
    where
      by : (o : Option ℕ) → home w.extents n ≡ o → (is_some (home w.extents n) && is_taken (range_of (iag_page r t (n / 4096)) 2560 512) (n % 4096)) ≡ is_some (object_in r w.page n (home w.extents n))
      by None e = ap (λ (o : Option ℕ). is_some o && is_taken (range_of (iag_page r t (n / 4096)) 2560 512) (n % 4096)) e ∙ sym (ap (λ (o : Option ℕ). is_some (object_in r w.page n o)) e)
      by (Some p) e =
          and_true (is_some (home w.extents n)) (is_taken (range_of (iag_page r t (n / 4096)) 2560 512) (n % 4096)) (ap (λ (o : Option ℕ). is_some o) e)
          ∙ bit_said n p e
          ∙ sym (live_some r w.page n p)
          ∙ sym (ap (λ (o : Option ℕ). is_some (object_in r w.page n o)) e)

  -- ---- blocks in use

  -- what it says of a block, by what the image before said
  used_then : (used : ℕ → Bool) (b : ℕ) → items_on mounted s (BlockBit b) ≡ InUse (used b) → is_block_used r t blocks b ≡ used_after tx used b
  used_then used b was =
      ap bit_of (sym (used_is r blocks agsize numag table map t has b) ∙ item_is (BlockBit b) ∙ ap (set_by tx (BlockBit b)) was ∙ redo_law.blocks tx used b)

  -- ---- the volume

  pub same : ((b : ℕ) → is_block_used r t blocks b ≡ w.used b) → IsSameVolume r w x
  same used = record {
    extents = extents;
    area = shows.area;
    used = used;
    in_use = in_use;
    objects = has_objects r w x sound outside;
    owners = has_owners r w x sound outside;
    sound = record {
      agrees = record {
        blocks = λ b. has_counts r w x sound outside b ∙ sound.agrees.blocks b ∙ ap bit (sym (used b));
        inodes = λ n. in_use n ∙ sound.agrees.inodes n ∙ ap (λ (o : Option Object). is_some o) (sym (has_objects r w x sound outside n));
      };
      whole = λ n o h. sound.whole n o (sym (has_objects r w x sound outside n) ∙ h);
    };
  }

  pub used_is_then : (used : ℕ → Bool) → ((b : ℕ) → items_on mounted s (BlockBit b) ≡ InUse (used b)) → (b : ℕ) → is_block_used r t blocks b ≡ used_after tx used b
  used_is_then used was b = used_then used b (was b)

-- ---- for any places

record Asked (r : Readers) (blocks agsize numag : ℕ) (table map : Pxd) (changes : Pages → List Edit → ℕ → Bool) (s t : Pages) (tx : List Edit) (w : Volume) (pl : Places) : Type 0 where
  areas : AreInAreas pl
  follows : IsStep (face_of r pl changes) s tx t
  shows : ShowsLogged r pl t w
  before : (b : ℕ) → items_on pl s (BlockBit b) ≡ InUse (is_block_used r s blocks b)

abbrev Same : Readers → ℕ → ℕ → ℕ → Pxd → Pxd → (Pages → List Edit → ℕ → Bool) → Pages → Pages → List Edit → Volume → Places → Type 0
Same r blocks agsize numag table map changes s t tx w pl = Asked r blocks agsize numag table map changes s t tx w pl → IsSameVolume r w (volume_on r blocks table map t)

pub volume_law : VolumeLaw
volume_law r blocks agsize numag table map pl changes s t tx w is_at follows fixed sound shows used =
    let stands = places_law r blocks agsize numag table map pl changes s t tx is_at follows fixed in
    let areas : AreInAreas pl = subst (λ (x : Places). AreInAreas x) is_at.places (seen_as_it_is r blocks agsize numag table map s is_at.pages).areas in
    let before : (b : ℕ) → items_on pl s (BlockBit b) ≡ InUse (is_block_used r s blocks b) = λ b. subst (λ (x : Places). items_on x s (BlockBit b) ≡ InUse (is_block_used r s blocks b)) is_at.places (used_is r blocks agsize numag table map s is_at.pages b) in
    let one = subst (λ (x : Places). Same r blocks agsize numag table map changes s t tx w x) stands.places
    (λ asked. same r blocks agsize numag table map changes s t tx w stands.pages asked.areas asked.follows sound asked.shows
    (λ b. used_is_then r blocks agsize numag table map changes s t tx w stands.pages asked.areas asked.follows sound asked.shows (is_block_used r s blocks) asked.before b ∙ sym (used b)))
    (record { areas = areas; follows = follows; shows = shows; before = before }) in
    record { same = one; stands = record { sound = one.sound; files = stands.files; pages = stands.pages; places = stands.places } }
