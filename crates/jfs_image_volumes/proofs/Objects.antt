-- A volume that has what the log keeps safe of another, whatever stands in the fixed areas, has its objects and its owners.
use Rattle.std.proofs.Common.{◌≡◌, ◌≢◌, ◌⊎◌, ◌*◌, ◌==◌, ◌&&◌, ℕ, zero, suc, Bool, true, false, List, length, refl, sym, ap, ◌∙◌, inl, inr, Option, is_some, arith}
use Rattle.std.proofs.lemmas.Bool.{cases_eq, cases_Bool, eq-eqb, ne_eqb}
use Rattle.jfs_survival.specs.recovery.specs.objects.specs.Readers.{Readers}
use Rattle.jfs_survival.specs.recovery.specs.objects.specs.Volume.{Volume, room}
use Rattle.jfs_survival.specs.recovery.specs.objects.specs.Objects.{Object, objects}
use Rattle.jfs_survival.specs.recovery.specs.objects.specs.Owners.{owners, holds, extents_have, sum_below, bit, IsSound}
use Rattle.jfs_survival.specs.recovery.specs.objects.proofs.Sums.{sum_same}
use Rattle.jfs_survival.specs.recovery.specs.kinds.specs.Owner.{Owner, owner_of, owner_below, owner_in, or_else, is_logged}
use Rattle.jfs_survival.specs.recovery.specs.kinds.specs.Owner.Owner.{Area, Inodes}
use Rattle.jfs_survival.specs.recovery.specs.kinds.specs.Laws.{HasObjects, HasSameOwners}
use Rattle.jfs_survival.specs.recovery.specs.kinds.proofs.Parts.{passed}
use Rattle.jfs_survival.specs.recovery.specs.kinds.proofs.Stay.{is_free, same_owners}
use Rattle.jfs_survival.specs.recovery.specs.kinds.proofs.Logged.{logged_law}

-- a volume without its fixed areas: their blocks aren't in use
abbrev without : Volume → Volume
without v = record v { area = λ b. 0; used = λ b. v.used b && (v.area b == 0) }

same_objects : (r : Readers) (v : Volume) (n : ℕ) → objects r (without v) n ≡ objects r v n
unfolding objects
same_objects r v n = refl

below_same : (r : Readers) (v : Volume) (most b : ℕ) → owner_below most r (without v) b ≡ owner_below most r v b
unfolding owner_below objects
below_same r v zero b = refl
below_same r v (suc n) b = ap (λ (o : Option Owner). owner_in r (objects r v n) n b o) (below_same r v n b)

-- outside of the areas it has the same owners
owner_outside : (r : Readers) (v : Volume) (b : ℕ) → v.area b ≡ 0 → owner_of r (without v) b ≡ owner_of r v b
unfolding owner_of
owner_outside r v b none_here = passed 0 Area (or_else (extents_have v.extents b) Inodes (owner_below (room v) r (without v) b)) refl
    ∙ ap (λ (o : Option Owner). or_else (extents_have v.extents b) Inodes o) (below_same r v (room v) b)
    ∙ sym (passed (v.area b) Area (or_else (extents_have v.extents b) Inodes (owner_below (room v) r v b)) none_here)

module _ (r : Readers) (v : Volume) (sound : IsSound r v) where
  same_sum : (b : ℕ) → sum_below (room v) (λ n. holds r (objects r (without v) n) b) ≡ sum_below (room v) (λ n. holds r (objects r v n) b)
  same_sum b = sum_same (room v) (λ n. holds r (objects r v n) b) (λ n. holds r (objects r (without v) n) b) (λ n _. ap (λ (o : Option Object). holds r o b) (same_objects r v n))

  agrees : (b : ℕ) → owners r (without v) b ≡ bit ((without v).used b)
  agrees b = by (v.used b) refl (cases_eq (v.area b) 0)
    where
      by : (x : Bool) → v.used b ≡ x → (v.area b ≡ 0) ⊎ (v.area b ≢ 0) → owners r (without v) b ≡ bit (v.used b && (v.area b == 0))
      by true u (inl none_here) = rw u (rw (eq-eqb (v.area b) 0 none_here) (let s = same_sum b in let was : owners r v b ≡ 1 = sound.agrees.blocks b ∙ ap bit u in omega (arith, s, was, none_here)))
      by true u (inr more) = rw u (rw (ne_eqb (v.area b) 0 more) (let s = same_sum b in let was : owners r v b ≡ 1 = sound.agrees.blocks b ∙ ap bit u in omega (arith, s, was, more)))
      by false u e = rw u (let s = same_sum b in let was : owners r v b ≡ 0 = sound.agrees.blocks b ∙ ap bit u in omega (arith, s, was))

  sound_without : IsSound r (without v)
  sound_without = record {
    agrees = record { blocks = agrees; inodes = λ n. sound.agrees.inodes n ∙ ap (λ (o : Option Object). is_some o) (sym (same_objects r v n)) };
    whole = λ n o h. sound.whole n o (sym (same_objects r v n) ∙ h);
  }

-- the same extents and areas, and the pages beside the areas as far as the log keeps them safe
pub record ShowsOutside (r : Readers) (v x : Volume) : Type 0 where
  pub extents : x.extents ≡ v.extents
  pub area : (b : ℕ) → x.area b ≡ v.area b
  pub pages : (b : ℕ) → is_logged (owner_of r v b) ≡ true → v.area b ≡ 0 → x.page b ≡ v.page b

module _ (r : Readers) (v x : Volume) (sound : IsSound r v) (shows : ShowsOutside r v x) where
  outside : IsSound r (without v)
  outside = sound_without r v sound

  keeps : (b : ℕ) → is_logged (owner_of r (without v) b) ≡ true → x.page b ≡ v.page b
  keeps b l = at (cases_Bool ((without v).used b)) (cases_eq (v.area b) 0)
    where
      none : {A : Type 0} → (without v).used b ≡ false → A
      none free = absurd (let e : false ≡ true = sym (ap (λ (o : Option Owner). is_logged o) (is_free r (without v) outside.agrees b free)) ∙ l in cc)

      at : ((without v).used b ≡ true) ⊎ ((without v).used b ≡ false) → (v.area b ≡ 0) ⊎ (v.area b ≢ 0) → x.page b ≡ v.page b
      at (inr free) e = none free
      at (inl used) (inl none_here) = shows.pages b (ap (λ (o : Option Owner). is_logged o) (sym (owner_outside r v b none_here)) ∙ l) none_here
      at (inl used) (inr more) = none (ap (λ (y : Bool). v.used b && y) (ne_eqb (v.area b) 0 more) ∙ and_false (v.used b))
        where
          and_false : (y : Bool) → (y && false) ≡ false
          and_false true = refl
          and_false false = refl

  pub has_objects : HasObjects r v x
  has_objects n =
      sym (same_objects r x n) ∙ logged_law.objects_stay r (without v) (without x) outside (record { extents = shows.extents; area = λ b. refl }) keeps n ∙ same_objects r v n

  pub has_owners : HasSameOwners r v x
  has_owners = same_owners r v x (record { extents = shows.extents; area = shows.area }) has_objects

  -- so its blocks have as many owners
  pub has_counts : (b : ℕ) → owners r x b ≡ owners r v b
  has_counts b =
      let a = shows.area b in
      let e = ap (λ (es : List (Option ℕ)). extents_have es b) shows.extents in
      let m = ap (λ (es : List (Option ℕ)). sum_below (32 * length es) (λ k. holds r (objects r x k) b)) shows.extents in
      let t = sum_same (room v) (λ k. holds r (objects r v k) b) (λ k. holds r (objects r x k) b) (λ k _. ap (λ (o : Option Object). holds r o b) (has_objects k)) in
      omega (arith, a, e, m, t)
