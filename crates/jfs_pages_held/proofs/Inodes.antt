-- What an image tells of inodes is what the inode map in memory has, before an entry and after it.
use Rattle.std.proofs.Common.{◌≡◌, ◌⊎◌, ◌<◌, ◌≤◌, ◌*◌, ◌/◌, ◌%◌, ◌&&◌, not, nat_lt, refl, sym, ap, ◌∙◌, subst, ℕ, Bool, true, false, true≢false, List, get_or, Option, Some, None, is_some, inl, inr, arith}
use Rattle.std.proofs.lemmas.Bool.{cases_Bool, cases_lt, ltb-true}
use Rattle.std.proofs.lemmas.List.{get_or_past}
use Rattle.std.proofs.lemmas.List.FromFn.{get_or-map-range_with_len, length-map-range_with_len}
use Rattle.jfs_bits.specs.declared.descriptor.Pxd.{Pxd}
use Rattle.jfs_ranges.specs.declared.edit.Edit.{Edit}
use Rattle.jfs_ranges.specs.Apply.{apply_tx}
use Rattle.jfs_joined_held.specs.entered.proofs.Homes.{live_at}
use Rattle.jfs_joined_held.specs.entered.specs.marks.specs.objects.proofs.Found.{no_home}
use Rattle.jfs_joined_held.specs.held.specs.image_volumes.proofs.Next.{in_areas}
use Rattle.jfs_joined_held.specs.held.specs.image_volumes.proofs.Objects.{has_objects}
use Rattle.jfs_joined_held.specs.held.specs.image_volumes.proofs.Read.{no_map_page}
use Rattle.jfs_joined_held.specs.held.specs.survival.specs.face.proofs.Reading.{at_home, read_back}
use Rattle.jfs_joined_held.specs.held.specs.survival.specs.face.specs.Items.{places, extent_by, set_by, read, home as home_of_item, place_of}
use Rattle.jfs_joined_held.specs.held.specs.survival.specs.face.specs.MapPages.{home_by, is_used_on, inode_used_by}
use Rattle.jfs_joined_held.specs.held.specs.survival.specs.face.specs.Marks.{used_before, used_after}
use Rattle.jfs_joined_held.specs.held.specs.survival.specs.face.specs.Places.{Places, AreInAreas, is_map_page}
use Rattle.jfs_joined_held.specs.held.specs.survival.specs.face.specs.Volume.{items_on, volume_with}
use Rattle.jfs_joined_held.specs.held.specs.survival.specs.recovery.specs.Face.{Pages, Item, Value, IsStep}
use Rattle.jfs_joined_held.specs.held.specs.survival.specs.recovery.specs.Face.Item.{ExtentPlace}
use Rattle.jfs_joined_held.specs.held.specs.survival.specs.recovery.specs.kinds.proofs.Logged.{logged_law}
use Rattle.jfs_joined_held.specs.held.specs.survival.specs.recovery.specs.kinds.proofs.Single.{has_owners as one_owner}
use Rattle.jfs_joined_held.specs.held.specs.survival.specs.recovery.specs.kinds.specs.Owner.{owner_of}
use Rattle.jfs_joined_held.specs.held.specs.survival.specs.recovery.specs.kinds.specs.Owner.Owner.{Area, Inodes as InodesOwn}
use Rattle.jfs_joined_held.specs.held.specs.Held.{Mount, IsImageAt, face_at}
use Rattle.jfs_joined_held.specs.volume.specs.data_steps.specs.objects.specs.Image.{extent_place}
use Rattle.jfs_joined_held.specs.volume.specs.data_steps.specs.objects.specs.Objects.{Object, objects, is_live}
use Rattle.jfs_joined_held.specs.volume.specs.data_steps.specs.objects.specs.Volume.{Volume, home, page_in, slot_of}
use Rattle.jfs_iag.specs.Iag.{no_run}

-- ---- where the items say that an inode stands

-- past the last place there is no extent
pub extent_past : (pl : Places) (s : Pages) (e : ℕ) → places pl ≤ e → extent_by (items_on pl s) e ≡ no_run
extent_past pl s e past = rw (none (cases_Bool (nat_lt e (places pl)))) refl
  where
    none : (nat_lt e (places pl) ≡ true) ⊎ (nat_lt e (places pl) ≡ false) → nat_lt e (places pl) ≡ false
    none (inr h) = h
    none (inl h) = absurd (let l = ltb-true e (places pl) h in omega (arith, l, past))

-- the extents of a volume that is seen so
pub place_is : (pl : Places) (s : Pages) (e : ℕ) → get_or (volume_with pl s).extents e None ≡ extent_place (extent_by (items_on pl s) e)
place_is pl s e = by (cases_lt e (places pl))
  where
    by : (e < places pl) ⊎ (places pl ≤ e) → get_or (volume_with pl s).extents e None ≡ extent_place (extent_by (items_on pl s) e)
    by (inl l) = get_or-map-range_with_len (λ (k : ℕ). extent_place (extent_by (items_on pl s) k)) 0 (places pl) e e None l (omega arith)
    by (inr past) = get_or_past (volume_with pl s).extents e None (let n = length-map-range_with_len (λ (k : ℕ). extent_place (extent_by (items_on pl s) k)) 0 (places pl) in omega (arith, n, past))
        ∙ sym (ap extent_place (extent_past pl s e past))

pub home_is : (pl : Places) (s : Pages) (n : ℕ) → home (volume_with pl s).extents n ≡ home_by (items_on pl s) n
home_is pl s n = ap (λ (o : Option ℕ). page_in o n) (place_is pl s (n / 32))

-- an inode in use has a place
pub in_room : (pl : Places) (s : Pages) (n : ℕ) → inode_used_by pl s (items_on pl s) n ≡ true → n < 4096 * pl.iags
in_room pl s n used = by (cases_lt (n / 32) (places pl))
  where
    by : (n / 32 < places pl) ⊎ (places pl ≤ n / 32) → n < 4096 * pl.iags
    by (inl l) = omega (arith, l)
    by (inr past) = absurd (true≢false (sym used ∙ ap (λ (p : Pxd). is_used_on pl s n (page_in (extent_place p) n)) (extent_past pl s (n / 32) past)))

-- ---- the inodes of an image

module _ (m : Mount) (s : Pages) (v : Volume) (is : IsImageAt m s v) where
  abbrev pl : Places
  pl = m.places

  areas : AreInAreas pl
  areas = in_areas m.readers m.blocks m.agsize m.numag m.table m.map pl s is.is.stands

  same_objects : (n : ℕ) → objects m.readers (volume_with pl s) n ≡ objects m.readers v n
  same_objects = has_objects m.readers v (volume_with pl s) is.sound (record { extents = is.shows.extents; area = is.shows.area; pages = is.shows.pages })

  -- no inode stands on a page of a map
  apart : (n p : ℕ) → home (volume_with pl s).extents n ≡ Some p → is_map_page pl p ≡ false
  apart n p h = by (is_map_page pl p) refl
    where
      own : Some InodesOwn ≡ Some Area → ⊥
      own e = cc (e)

      by : (b : Bool) → is_map_page pl p ≡ b → b ≡ false
      by false e = refl
      by true e = absurd (own (sym ((logged_law.reads m.readers v is.sound).inodes n p (subst (λ (es : List (Option ℕ)). home es n ≡ Some p) is.shows.extents h)) ∙ area_own e))
        where
          area_own : is_map_page pl p ≡ true → owner_of m.readers v p ≡ Some Area
          area_own map_is = (one_owner m.readers v is.sound.agrees).alone p Area (let some = some_area map_is in let same = is.shows.area p in omega (arith, some, same))
            where
              some_area : is_map_page pl p ≡ true → 0 < pl.area p
              some_area e = by_area (cases_lt 0 (pl.area p))
                where
                  by_area : (0 < pl.area p) ⊎ (pl.area p ≤ 0) → 0 < pl.area p
                  by_area (inl l) = l
                  by_area (inr none) = absurd (true≢false (sym e ∙ no_map_page pl p areas (omega (arith, none))))

  on_page : (n : ℕ) (o : Option ℕ) → home (volume_with pl s).extents n ≡ o → is_used_on pl s n o ≡ is_some (objects m.readers (volume_with pl s) n)
  on_page n None h = sym (ap (λ (o : Option Object). is_some o) (no_home m.readers (volume_with pl s) n h))
  on_page n (Some p) h = ap (λ (b : Bool). not b && is_live n (slot_of (s p) (n % 8))) (apart n p h) ∙ sym (live_at m.readers (volume_with pl s) n p h)

  pub own_used : (n : ℕ) → inode_used_by pl s (items_on pl s) n ≡ v.in_use n
  own_used n = on_page n (home_by (items_on pl s) n) (home_is pl s n) ∙ ap (λ (o : Option Object). is_some o) (same_objects n) ∙ sym (is.sound.agrees.inodes n)

-- ---- after an entry

pub used_same : (pl : Places) (s t : Pages) → ((q : ℕ) → is_map_page pl q ≡ false → s q ≡ t q) → (n : ℕ) (o : Option ℕ) → is_used_on pl s n o ≡ is_used_on pl t n o
used_same pl s t same n None = refl
used_same pl s t same n (Some q) = at (cases_Bool (is_map_page pl q))
  where
    at : (is_map_page pl q ≡ true) ⊎ (is_map_page pl q ≡ false) → (not (is_map_page pl q) && is_live n (slot_of (s q) (n % 8))) ≡ (not (is_map_page pl q) && is_live n (slot_of (t q) (n % 8)))
    at (inl this) = rw this refl
    at (inr page) = ap (λ (x : List ℕ). not (is_map_page pl q) && is_live n (slot_of x (n % 8))) (same q page)

module _ (m : Mount) (s t : Pages) (tx : List Edit) (w : Volume) (follows : IsStep (face_at m) s tx t) (is : IsImageAt m t w) where
  abbrev pl' : Places
  pl' = m.places

  abbrev items_then : Item → Value
  items_then i = set_by tx i (items_on pl' s i)

  pub item_then : (i : Item) → items_on pl' t i ≡ items_then i
  item_then i = read_back pl' (λ p. apply_tx p tx (s p)) items_then i (t (home_of_item pl' i)) (follows.maps (home_of_item pl' i) (at_home pl' i))

  pub used_then : (n : ℕ) → used_after pl' s tx n ≡ w.in_use n
  used_then n = used_same pl' (λ p. apply_tx p tx (s p)) t (λ q other. sym (follows.pages q other)) n (home_by items_then n)
      ∙ ap (λ (v : Value). is_used_on pl' t n (page_in (extent_place (place_of v)) n)) (sym (item_then (ExtentPlace (n / 32)))) ∙ own_used m t w is n

  pub then_in_room : (n : ℕ) → used_after pl' s tx n ≡ true → n < 4096 * m.places.iags
  then_in_room n used = in_room pl' t n (own_used m t w is n ∙ sym (used_then n) ∙ used)

pub before_in_room : (m : Mount) (s : Pages) (n : ℕ) → used_before m.places s n ≡ true → n < 4096 * m.places.iags
before_in_room m s n used = in_room m.places s n used
