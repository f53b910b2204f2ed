-- Of a volume that is held other pages of its maps may be shown; and dirty pages may leave, once all is acknowledged.
use Rattle.std.proofs.Common.{◌≡◌, not, nat_lt, refl, sym, ap, ◌∙◌, ℕ, Bool, true, false, true≢false, Option, is_some, inl, inr}
use Rattle.std.proofs.lemmas.Bool.{and_parts}
use Rattle.jfs_joined_held.specs.held.specs.image_volumes.proofs.Next.{in_areas}
use Rattle.jfs_joined_held.specs.held.specs.image_volumes.proofs.Objects.{has_objects, has_owners, has_counts}
use Rattle.jfs_joined_held.specs.held.specs.image_volumes.proofs.Read.{no_map_page}
use Rattle.jfs_joined_held.specs.held.specs.survival.specs.face.specs.Places.{AreInAreas, is_fixed_page, is_map_page}
use Rattle.jfs_joined_held.specs.held.specs.survival.specs.recovery.specs.Face.{Pages}
use Rattle.jfs_joined_held.specs.held.specs.survival.specs.recovery.specs.kinds.specs.Laws.{HasObjects, HasSameOwners}
use Rattle.jfs_joined_held.specs.held.specs.survival.specs.recovery.specs.kinds.specs.Owner.{Owner, owner_of, is_logged}
use Rattle.jfs_joined_held.specs.held.specs.Changes.{MayLeave}
use Rattle.jfs_joined_held.specs.held.specs.Held.{Mount, Held, IsImageAt, newest_image}
use Rattle.jfs_joined_held.specs.volume.specs.data_steps.specs.objects.specs.Objects.{Object}
use Rattle.jfs_joined_held.specs.volume.specs.data_steps.specs.objects.specs.Owners.{owners, bit, IsSound}
use Rattle.jfs_joined_held.specs.volume.specs.data_steps.specs.objects.specs.Readers.{Readers}
use Rattle.jfs_joined_held.specs.volume.specs.data_steps.specs.objects.specs.Volume.{Volume}
use Rattle.jfs_pages_held.specs.Homes.{LeaveLaw, SameButMaps, MapsLaw}
use Rattle.jfs_pages_held.specs.Pages.{MayBeDirty}

pub leave_law : LeaveLaw
leave_law m x q all homes some = by (homes q some)
  where
    by : MayBeDirty m.readers x.volume q → MayLeave m x q
    by (inl logged) = inl logged
    by (inr (inl own)) = inr (inl own)
    by (inr (inr free)) = inr (inr (free, all))

module _ (m : Mount) (s : Pages) (v w : Volume) (is : IsImageAt m s v) (same : SameButMaps m.places v w) where
  abbrev r : Readers
  r = m.readers

  areas : AreInAreas m.places
  areas = in_areas r m.blocks m.agsize m.numag m.table m.map m.places s is.is.stands

  outside : (b : ℕ) → is_logged (owner_of r v b) ≡ true → v.area b ≡ 0 → w.page b ≡ v.page b
  outside b logged none = same.pages b (no_map_page m.places b areas (is.shows.area b ∙ none))

  objects_are : HasObjects r v w
  objects_are = has_objects r v w is.sound (record { extents = same.extents; area = same.area; pages = outside })

  owners_are : HasSameOwners r v w
  owners_are = has_owners r v w is.sound (record { extents = same.extents; area = same.area; pages = outside })

  counts : (b : ℕ) → owners r w b ≡ owners r v b
  counts = has_counts r v w is.sound (record { extents = same.extents; area = same.area; pages = outside })

  sound : IsSound r w
  sound = record {
    agrees = record {
      blocks = λ c. counts c ∙ is.sound.agrees.blocks c ∙ ap bit (sym (same.used c));
      inodes = λ n. same.in_use n ∙ is.sound.agrees.inodes n ∙ ap (λ (o : Option Object). is_some o) (sym (objects_are n));
    };
    whole = λ n o h. is.sound.whole n o (sym (objects_are n) ∙ h);
  }

  beside : (p : ℕ) → is_fixed_page m.places p ≡ true → is_map_page m.places p ≡ false
  beside p fixed = by (is_map_page m.places p) (and_parts (nat_lt 0 (m.places.area p)) (not (is_map_page m.places p)) fixed).1
    where
      by : (x : Bool) → not x ≡ true → x ≡ false
      by false e = refl
      by true e = absurd (true≢false (sym e))

  pub image_moves : IsImageAt m s w
  image_moves = record {
    sizes = is.sizes;
    bytes = is.bytes;
    sound = sound;
    shows = record {
      extents = is.shows.extents ∙ sym same.extents;
      area = λ c. is.shows.area c ∙ sym (same.area c);
      pages = λ c logged none. (
          let l = sym (ap (λ (o : Option Owner). is_logged o) (owners_are c)) ∙ logged in
          let z = sym (same.area c) ∙ none in
          is.shows.pages c l z ∙ sym (outside c l z));
    };
    fixed = λ p e. is.fixed p e ∙ sym (same.pages p (beside p e));
    is = record {
      same = record {
        extents = is.is.same.extents ∙ sym same.extents;
        area = λ c. is.is.same.area c ∙ sym (same.area c);
        used = λ c. is.is.same.used c ∙ sym (same.used c);
        in_use = λ n. is.is.same.in_use n ∙ sym (same.in_use n);
        objects = λ n. is.is.same.objects n ∙ sym (objects_are n);
        owners = λ c. is.is.same.owners c ∙ sym (owners_are c);
        sound = is.is.same.sound;
      };
      stands = is.is.stands;
    };
  }

pub maps_law : MapsLaw
maps_law m x w held same = record {
  fits = held.fits;
  core_is = held.core_is;
  states = held.states;
  images = held.images;
  now = image_moves m (newest_image x) x.volume w held.now same;
  mapped = λ b some. held.mapped b (sym (same.used b) ∙ some);
  maps_within = held.maps_within;
}
