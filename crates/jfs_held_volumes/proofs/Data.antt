-- What leaves an image the volume's: data, and whatever stands in blocks that aren't in use.
use Rattle.std.proofs.Common.{◌≡◌, ◌≢◌, ◌⊎◌, ◌<◌, nat_lt, not, ℕ, Bool, true, false, true≢false, if◌then◌else◌, List, Option, Some, None, is_some, refl, sym, ap, ◌∙◌, inl, inr, arith}
use Rattle.std.proofs.lemmas.Bool.{cases_eq, ne_eqb, and_parts, ltb-true}
use Rattle.jfs_image_volumes.specs.survival.specs.recovery.specs.objects.specs.Readers.{Readers}
use Rattle.jfs_image_volumes.specs.survival.specs.recovery.specs.objects.specs.Volume.{Volume}
use Rattle.jfs_image_volumes.specs.survival.specs.recovery.specs.objects.specs.Objects.{Object, objects}
use Rattle.jfs_image_volumes.specs.survival.specs.recovery.specs.objects.specs.Owners.{owners, bit, data_held, is_data, IsSound}
use Rattle.jfs_image_volumes.specs.survival.specs.recovery.specs.objects.specs.Changes.{WritesData}
use Rattle.jfs_image_volumes.specs.survival.specs.recovery.specs.kinds.specs.Owner.{Owner, owner_of, is_logged, is_regular_file, has_data}
use Rattle.jfs_image_volumes.specs.survival.specs.recovery.specs.kinds.specs.Owner.Owner.{Area}
use Rattle.jfs_image_volumes.specs.survival.specs.recovery.specs.kinds.specs.Laws.{HasPlaces, KeepsLogged, HasSameOwners, HasObjects}
use Rattle.jfs_image_volumes.specs.survival.specs.recovery.specs.kinds.proofs.Edits.{edit_law}
use Rattle.jfs_image_volumes.specs.survival.specs.recovery.specs.kinds.proofs.Logged.{logged_law}
use Rattle.jfs_image_volumes.specs.survival.specs.recovery.specs.kinds.proofs.Single.{has_owners as one_owner}
use Rattle.jfs_image_volumes.specs.survival.specs.recovery.specs.Face.{Pages}
use Rattle.jfs_image_volumes.specs.survival.specs.face.specs.Places.{is_fixed_page, is_map_page}
use Rattle.jfs_image_volumes.proofs.Objects.{has_counts}
use Rattle.jfs_held_volumes.specs.Held.{Mount, IsImageAt}
use Rattle.jfs_held_volumes.specs.Changes.{TakesData, with_page}
use Rattle.jfs_held_volumes.specs.Laws.{DataLaw, SameLaw}

-- ---- a volume with the same sets and the same logged pages

record HasSets (v w : Volume) : Type 0 where
  extents : w.extents ≡ v.extents
  area : (b : ℕ) → w.area b ≡ v.area b
  used : (b : ℕ) → w.used b ≡ v.used b
  in_use : (n : ℕ) → w.in_use n ≡ v.in_use n

module _ (m : Mount) (s : Pages) (v w : Volume) (is : IsImageAt m s v) (sets : HasSets v w) (kept : KeepsLogged m.readers v w) where
  abbrev r : Readers
  r = m.readers

  places : HasPlaces v w
  places = record { extents = sets.extents; area = sets.area }

  objects_are : HasObjects r v w
  objects_are = logged_law.objects_stay r v w is.sound places kept

  owners_are : HasSameOwners r v w
  owners_are = logged_law.owners_stay r v w is.sound places kept

  counts : (c : ℕ) → owners r w c ≡ owners r v c
  counts = has_counts r v w is.sound (record { extents = sets.extents; area = sets.area; pages = λ c l none. kept c l })

  sound : IsSound r w
  sound = record {
    agrees = record {
      blocks = λ c. counts c ∙ is.sound.agrees.blocks c ∙ ap bit (sym (sets.used c));
      inodes = λ n. sets.in_use n ∙ is.sound.agrees.inodes n ∙ ap (λ (o : Option Object). is_some o) (sym (objects_are n));
    };
    whole = λ n o h. is.sound.whole n o (sym (objects_are n) ∙ h);
  }

  -- pages of the fixed areas are logged
  fixed : (p : ℕ) → is_fixed_page m.places p ≡ true → w.page p ≡ v.page p
  fixed p e = kept p (ap (λ (o : Option Owner). is_logged o) ((one_owner r v is.sound.agrees).alone p Area
      (let some = ltb-true 0 (m.places.area p) (and_parts (nat_lt 0 (m.places.area p)) (not (is_map_page m.places p)) e).0 in let same = is.shows.area p in omega (arith, some, same))))

  image_moves : IsImageAt m s w
  image_moves = record {
    sizes = is.sizes;
    bytes = is.bytes;
    sound = sound;
    shows = record {
      extents = is.shows.extents ∙ sym sets.extents;
      area = λ c. is.shows.area c ∙ sym (sets.area c);
      pages = λ c logged none. (
          let l = sym (ap (λ (o : Option Owner). is_logged o) (owners_are c)) ∙ logged in
          is.shows.pages c l (sym (sets.area c) ∙ none) ∙ sym (kept c l));
    };
    fixed = λ p e. is.fixed p e ∙ sym (fixed p e);
    is = record {
      same = record {
        extents = is.is.same.extents ∙ sym sets.extents;
        area = λ c. is.is.same.area c ∙ sym (sets.area c);
        used = λ c. is.is.same.used c ∙ sym (sets.used c);
        in_use = λ n. is.is.same.in_use n ∙ sym (sets.in_use n);
        objects = λ n. is.is.same.objects n ∙ sym (objects_are n);
        owners = λ c. is.is.same.owners c ∙ sym (owners_are c);
        sound = is.is.same.sound;
      };
      stands = is.is.stands;
    };
  }

-- ---- pages in use

-- what is logged is in use
in_use_by : (o : Option Owner) → is_logged o ≡ true → is_some o ≡ true
in_use_by None e = absurd (true≢false (sym e))
in_use_by (Some a) e = refl

pub same_law : SameLaw
same_law m s v w is same = image_moves m s v w is (record { extents = same.extents; area = same.area; used = same.used; in_use = same.in_use })
    (λ b logged. same.pages b ((one_owner m.readers v is.sound.agrees).used b ∙ in_use_by (owner_of m.readers v b) logged))

-- ---- data

is_its_data : (r : Readers) (o : Option Object) (b : ℕ) → 0 < has_data r o b → 0 < is_data r o b
unfolding has_data is_data
is_its_data r None b more = more
is_its_data r (Some o) b more = by (is_regular_file o) more
  where
    by : (x : Bool) → 0 < (if x then data_held r o b else 0) → 0 < data_held r o b
    by true h = h
    by false h = absurd (omega (arith, h))

module _ (m : Mount) (s : Pages) (v : Volume) (b : ℕ) (bytes : List ℕ) (is : IsImageAt m s v) (takes : TakesData m.readers v b) where
  abbrev put : Volume
  put = with_page b bytes v

  other : (q : ℕ) → q ≢ b → put.page q ≡ v.page q
  other q ne = ap (λ (x : Bool). if x then bytes else v.page q) (ne_eqb b q (λ e. ne (sym e)))

  writes : TakesData m.readers v b → (n : ℕ) × WritesData m.readers v put n
  writes (inl free) = (0, record { keeps = λ q some none. at q (cases_eq q b) some; extents = refl; area = refl; used = refl; in_use = refl })
    where
      at : (q : ℕ) → (q ≡ b) ⊎ (q ≢ b) → 0 < owners m.readers v q → put.page q ≡ v.page q
      at q (inr ne) some = other q ne
      at q (inl e) some = absurd (let none : owners m.readers v b ≡ 0 = is.sound.agrees.blocks b ∙ ap bit free in let same = ap (λ (k : ℕ). owners m.readers v k) e in omega (arith, some, none, same))
  writes (inr (n, more)) = (n, record { keeps = λ q some none. at q (cases_eq q b) none; extents = refl; area = refl; used = refl; in_use = refl })
    where
      at : (q : ℕ) → (q ≡ b) ⊎ (q ≢ b) → is_data m.readers (objects m.readers v n) q ≡ 0 → put.page q ≡ v.page q
      at q (inr ne) none = other q ne
      at q (inl e) none = absurd (let data_of = is_its_data m.readers (objects m.readers v n) b more in let same = ap (λ (k : ℕ). is_data m.readers (objects m.readers v n) k) e in omega (arith, data_of, none, same))

  put_keeps : KeepsLogged m.readers v put
  put_keeps = let x = writes takes in (edit_law.writes m.readers v put x.0 is.sound x.1).0

  put_sets : HasSets v put
  put_sets = record { extents = refl; area = λ c. refl; used = λ c. refl; in_use = λ n. refl }

  pub image_stays : IsImageAt m s put
  image_stays = image_moves m s v put is put_sets put_keeps

  pub objects_stay : HasObjects m.readers v put
  objects_stay = objects_are m s v put is put_sets put_keeps

  pub fixed_stay : (p : ℕ) → is_fixed_page m.places p ≡ true → put.page p ≡ v.page p
  fixed_stay = fixed m s v put is put_sets put_keeps

pub data_law : DataLaw
data_law m s v b bytes is takes = image_stays m s v b bytes is takes
