-- An image that has what the log keeps safe of a volume has its owners, whatever stands in the fixed areas.
use Rattle.std.proofs.Common.{◌≡◌, ◌≢◌, ◌⊎◌, ◌<◌, ◌==◌, ◌&&◌, ℕ, zero, suc, Bool, true, false, refl, sym, ap, ◌∙◌, inl, inr, Option, Some, is_some, arith}
use Rattle.std.proofs.lemmas.Bool.{cases_eq, cases_Bool, eq-eqb, ne_eqb}
use Rattle.jfs_face.specs.recovery.specs.objects.specs.Readers.{Readers}
use Rattle.jfs_face.specs.recovery.specs.objects.specs.Volume.{Volume, room}
use Rattle.jfs_face.specs.recovery.specs.objects.specs.Objects.{Object, objects}
use Rattle.jfs_face.specs.recovery.specs.objects.specs.Owners.{owners, holds, extents_have, sum_below, bit, IsSound}
use Rattle.jfs_face.specs.recovery.specs.objects.proofs.Sums.{sum_same}
use Rattle.jfs_face.specs.recovery.specs.kinds.specs.Owner.{Owner, owner_of, owner_below, owner_in, or_else, is_logged}
use Rattle.jfs_face.specs.recovery.specs.kinds.specs.Owner.Owner.{Area, Inodes}
use Rattle.jfs_face.specs.recovery.specs.kinds.proofs.Parts.{it, passed}
use Rattle.jfs_face.specs.recovery.specs.kinds.proofs.Stay.{is_free}
use Rattle.jfs_face.specs.recovery.specs.kinds.proofs.Logged.{logged_law}
use Rattle.jfs_face.specs.recovery.specs.Face.{Pages}
use Rattle.jfs_face.specs.Places.{Places}
use Rattle.jfs_face.specs.Volume.{volume_with}
use Rattle.jfs_survival.specs.Entry.{ShowsLogged, SeenLaw}

-- a volume without its fixed areas: their blocks aren't in use
abbrev without : Volume → Volume
without v = record v { area = λ b. 0; used = λ b. v.used b && (v.area b == 0) }

same_objects : (r : Readers) (v : Volume) (n : ℕ) → objects r (without v) n ≡ objects r v n
unfolding objects
same_objects r v n = refl

below_same : (r : Readers) (v : Volume) (most b : ℕ) → owner_below most r (without v) b ≡ owner_below most r v b
unfolding owner_below objects
below_same r v zero b = refl
below_same r v (suc n) b = ap (λ (o : Option Owner). owner_in r (objects r v n) n b o) (below_same r v n b)

-- outside of the areas it has the same owners
owner_outside : (r : Readers) (v : Volume) (b : ℕ) → v.area b ≡ 0 → owner_of r (without v) b ≡ owner_of r v b
unfolding owner_of
owner_outside r v b none_here = passed 0 Area (or_else (extents_have v.extents b) Inodes (owner_below (room v) r (without v) b)) refl
    ∙ ap (λ (o : Option Owner). or_else (extents_have v.extents b) Inodes o) (below_same r v (room v) b)
    ∙ sym (passed (v.area b) Area (or_else (extents_have v.extents b) Inodes (owner_below (room v) r v b)) none_here)

owner_inside : (r : Readers) (v : Volume) (b : ℕ) → 0 < v.area b → owner_of r v b ≡ Some Area
unfolding owner_of
owner_inside r v b more = it (v.area b) Area (or_else (extents_have v.extents b) Inodes (owner_below (room v) r v b)) more

module _ (r : Readers) (v : Volume) (sound : IsSound r v) where
  same_sum : (b : ℕ) → sum_below (room v) (λ n. holds r (objects r (without v) n) b) ≡ sum_below (room v) (λ n. holds r (objects r v n) b)
  same_sum b = sum_same (room v) (λ n. holds r (objects r v n) b) (λ n. holds r (objects r (without v) n) b) (λ n _. ap (λ (o : Option Object). holds r o b) (same_objects r v n))

  agrees : (b : ℕ) → owners r (without v) b ≡ bit ((without v).used b)
  agrees b = by (v.used b) refl (cases_eq (v.area b) 0)
    where
      by : (x : Bool) → v.used b ≡ x → (v.area b ≡ 0) ⊎ (v.area b ≢ 0) → owners r (without v) b ≡ bit (v.used b && (v.area b == 0))
      by true u (inl none_here) = rw u (rw (eq-eqb (v.area b) 0 none_here) (let s = same_sum b in let was : owners r v b ≡ 1 = sound.agrees.blocks b ∙ ap bit u in omega (arith, s, was, none_here)))
      by true u (inr more) = rw u (rw (ne_eqb (v.area b) 0 more) (let s = same_sum b in let was : owners r v b ≡ 1 = sound.agrees.blocks b ∙ ap bit u in omega (arith, s, was, more)))
      by false u e = rw u (let s = same_sum b in let was : owners r v b ≡ 0 = sound.agrees.blocks b ∙ ap bit u in omega (arith, s, was))

  pub sound_without : IsSound r (without v)
  sound_without = record {
    agrees = record { blocks = agrees; inodes = λ n. sound.agrees.inodes n ∙ ap (λ (o : Option Object). is_some o) (sym (same_objects r v n)) };
    whole = λ n o h. sound.whole n o (sym (same_objects r v n) ∙ h);
  }

module _ (r : Readers) (pl : Places) (s : Pages) (v : Volume) (sound : IsSound r v) (shows : ShowsLogged r pl s v) where
  abbrev x : Volume
  x = volume_with pl s

  outside : IsSound r (without v)
  outside = sound_without r v sound

  keeps : (b : ℕ) → is_logged (owner_of r (without v) b) ≡ true → s b ≡ v.page b
  keeps b l = at (cases_Bool ((without v).used b)) (cases_eq (v.area b) 0)
    where
      none : {A : Type 0} → (without v).used b ≡ false → A
      none free = absurd (let e : false ≡ true = sym (ap (λ (o : Option Owner). is_logged o) (is_free r (without v) outside.agrees b free)) ∙ l in cc)

      at : ((without v).used b ≡ true) ⊎ ((without v).used b ≡ false) → (v.area b ≡ 0) ⊎ (v.area b ≢ 0) → s b ≡ v.page b
      at (inr free) e = none free
      at (inl used) (inl none_here) = shows.pages b (ap (λ (o : Option Owner). is_logged o) (sym (owner_outside r v b none_here)) ∙ l) none_here
      at (inl used) (inr more) = none (ap (λ (y : Bool). v.used b && y) (ne_eqb (v.area b) 0 more) ∙ and_false (v.used b))
        where
          and_false : (y : Bool) → (y && false) ≡ false
          and_false true = refl
          and_false false = refl

  same_outside : (b : ℕ) → owner_of r (without x) b ≡ owner_of r (without v) b
  same_outside = logged_law.owners_stay r (without v) (without x) outside (record { extents = shows.extents; area = λ b. refl }) keeps

  pub seen : (b : ℕ) → owner_of r x b ≡ owner_of r v b
  seen b = at (cases_eq (v.area b) 0)
    where
      at : (v.area b ≡ 0) ⊎ (v.area b ≢ 0) → owner_of r x b ≡ owner_of r v b
      at (inl none_here) = sym (owner_outside r x b (shows.area b ∙ none_here)) ∙ same_outside b ∙ owner_outside r v b none_here
      at (inr more) = let some : 0 < v.area b = positive (v.area b) more in let area = shows.area b in owner_inside r x b (omega (arith, some, area)) ∙ sym (owner_inside r v b some)
        where
          positive : (k : ℕ) → k ≢ 0 → 0 < k
          positive k h = omega (arith, h)

pub seen_law : SeenLaw
seen_law r pl s v sound shows = seen r pl s v sound shows
