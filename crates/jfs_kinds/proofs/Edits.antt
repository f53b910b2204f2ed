-- Edits of one object leave the owners of blocks that stay in use.
use Rattle.std.proofs.Common.{◌≡◌, ◌≢◌, ◌≤◌, ◌<◌, refl, sym, ap, ◌∙◌, ◌⊎◌, inl, inr, subst, ℕ, ◌+◌, Bool, true, false, List, Option, Some, None, arith}
use Rattle.jfs_objects.specs.Readers.{Readers}
use Rattle.jfs_objects.specs.Volume.{Volume}
use Rattle.jfs_objects.specs.Objects.{Object, objects, spelled}
use Rattle.jfs_objects.specs.Owners.{holds, is_data, bit, extent_has, extents_have, Agrees, IsSound}
use Rattle.jfs_objects.specs.Changes.{WritesData, AddsExtent}
use Rattle.jfs_objects.specs.Laws.{ChangesOne, ChangesNone}
use Rattle.jfs_objects.proofs.Sums.{put_here, put_other, eq_or_not}
use Rattle.jfs_objects.proofs.Owned.{holds_none, alone, owned_once, fixed_is_no_objects}
use Rattle.jfs_objects.proofs.Set.{object_is_set}
use Rattle.jfs_objects.proofs.Drop.{object_goes}
use Rattle.jfs_objects.proofs.Extent.{extent_law}
use Rattle.jfs_objects.proofs.Data.{data_law}
use Rattle.jfs_kinds.specs.Owner.{Owner, has, has_page, has_data, has_still, owner_of, is_logged}
use Rattle.jfs_kinds.specs.Owner.Owner.{Area, Inodes, Tree, Data, Still}
use Rattle.jfs_kinds.specs.Laws.{HasPlaces, KeepsLogged, KeepsOwner, OwnersStay, IsOwnerIn, KeepsKinds, EditLaw}
use Rattle.jfs_kinds.proofs.Parts.{parts}
use Rattle.jfs_kinds.proofs.Single.{has_owners, counted}
use Rattle.jfs_kinds.proofs.Stay.{same_owners, is_used, is_free, goes_on, kept_law}

-- ---- one object changes

module _ (r : Readers) (v w : Volume) (n : ℕ) (x : Option Object) (before : Agrees r v) (c : ChangesOne r v w n x) (places : HasPlaces v w) (kinds : KeepsKinds r v w (objects r v n) x) where
  here : objects r w n ≡ x
  here = c.objects_are n ∙ put_here n x (objects r v)

  -- what an object has of a kind, of the one that changes and of others
  of_kind : (count : Option Object → ℕ) → count x ≡ count (objects r v n) → (k : ℕ) → count (objects r w k) ≡ count (objects r v k)
  of_kind count same k = elim (eq_or_not k n) [
    | inl e ↦ subst (λ j. count (objects r w j) ≡ count (objects r v j)) (sym e) (ap count here ∙ same)
    | inr t ↦ ap count (c.objects_are k ∙ put_other n x (objects r v) k t)
  ]

  keeps_owner : (b : ℕ) → v.used b ≡ true → w.used b ≡ true → KeepsOwner r v w b
  keeps_owner b was now Area = places.area b
  keeps_owner b was now Inodes = ap (λ (es : List (Option ℕ)). extents_have es b) places.extents
  keeps_owner b was now (Tree k) = of_kind (λ o. has_page r o b) (kinds.pages b was now) k
  keeps_owner b was now (Data k) = of_kind (λ o. has_data r o b) (kinds.file_data b was now) k
  keeps_owner b was now (Still k) =
      let page = of_kind (λ o. has_page r o b) (kinds.pages b was now) k in
      let file = of_kind (λ o. has_data r o b) (kinds.file_data b was now) k in
      let whole = c.owners_stay b k was now in
      let p = parts r (objects r v k) b in
      let q = parts r (objects r w k) b in
      omega (arith, page, file, whole, p, q)

  pub owners_stay : OwnersStay r v w
  owners_stay b was now = kept_law.kept r v w before c.sound.agrees b (keeps_owner b was now)

-- what comes into use is the object's
module _ (r : Readers) (v w : Volume) (n : ℕ) (x : Option Object) (before : Agrees r v) (c : ChangesOne r v w n x) (places : HasPlaces v w) (b : ℕ) (free : v.used b ≡ false) where
  -- no owner had it, and the others have what they had
  not_others : (y : Owner) → has r w y b ≡ has r v y b → owner_of r w b ≡ Some y → IsOwnerIn n (owner_of r w b)
  not_others y same h = absurd (absent (sym (is_free r v before b free) ∙ goes_on r w v c.sound.agrees before b y (sym same) h))
    where
      absent : None ≡ Some y → ⊥
      absent e = cc (e)

  other : (k : ℕ) → k ≢ n → objects r w k ≡ objects r v k
  other k t = c.objects_are k ∙ put_other n x (objects r v) k t

  by_owner : (y : Owner) → owner_of r w b ≡ Some y → IsOwnerIn n (owner_of r w b)
  by_owner Area h = not_others Area (places.area b) h
  by_owner Inodes h = not_others Inodes (ap (λ (es : List (Option ℕ)). extents_have es b) places.extents) h
  by_owner (Tree k) h = elim (eq_or_not k n) [ inl e ↦ inl (h ∙ ap (λ j. Some (Tree j)) e) | inr t ↦ not_others (Tree k) (ap (λ o. has_page r o b) (other k t)) h ]
  by_owner (Data k) h = elim (eq_or_not k n) [ inl e ↦ inr (inl (h ∙ ap (λ j. Some (Data j)) e)) | inr t ↦ not_others (Data k) (ap (λ o. has_data r o b) (other k t)) h ]
  by_owner (Still k) h = elim (eq_or_not k n) [ inl e ↦ inr (inr (h ∙ ap (λ j. Some (Still j)) e)) | inr t ↦ not_others (Still k) (ap (λ o. has_still r o b) (other k t)) h ]

  pub takes : w.used b ≡ true → IsOwnerIn n (owner_of r w b)
  takes now = let y = is_used r w c.sound.agrees b now in by_owner y.0 y.1

-- an object that goes has nothing that stays in use
gone_kinds : (r : Readers) (v w : Volume) (n : ℕ) → ChangesOne r v w n None → KeepsKinds r v w (objects r v n) None
unfolding has_page has_data
gone_kinds r v w n c = record {
  pages = λ b was now. (let p = parts r (objects r v n) b in let z = nothing b was now in omega (arith, p, z));
  file_data = λ b was now. (let p = parts r (objects r v n) b in let z = nothing b was now in omega (arith, p, z));
}
  where
    nothing : (b : ℕ) → v.used b ≡ true → w.used b ≡ true → holds r (objects r v n) b ≡ 0
    nothing b was now = sym (c.owners_stay b n was now) ∙ ap (λ o. holds r o b) (c.objects_are n ∙ put_here n None (objects r v)) ∙ holds_none r b

-- ---- an inode extent is added

module _ (r : Readers) (v w : Volume) (place first : ℕ) (sound : IsSound r v) (s : AddsExtent v w place first) where
  none : ChangesNone r v w
  none = (extent_law r v w place first sound s).0

  -- all other owners have what they had
  same : (x : Owner) (b : ℕ) → (x ≡ Inodes) ⊎ (has r w x b ≡ has r v x b)
  same Area b = inr (ap (λ (area : ℕ → ℕ). area b) s.area)
  same Inodes b = inl refl
  same (Tree n) b = inr (ap (λ o. has_page r o b) (none.objects_stay n))
  same (Data n) b = inr (ap (λ o. has_data r o b) (none.objects_stay n))
  same (Still n) b = inr (ap (λ o. has_still r o b) (none.objects_stay n))

  pub others_stay : OwnersStay r v w
  others_stay b was now =
      let x = is_used r v sound.agrees b was in
      let y = is_used r w none.sound.agrees b now in
      elim (same x.0 b) [
        | inr e ↦ goes_on r v w sound.agrees none.sound.agrees b x.0 e x.1 ∙ sym x.1
        | inl i ↦ elim (same y.0 b) [
          | inr e ↦ y.1 ∙ sym (goes_on r w v none.sound.agrees sound.agrees b y.0 (sym e) y.1)
          | inl j ↦ y.1 ∙ ap Some (j ∙ sym i) ∙ sym x.1
        ]
      ]

  pub comes : (b : ℕ) → 0 < extent_has (Some first) b → owner_of r w b ≡ Some Inodes
  comes b h =
      let y = is_used r w none.sound.agrees b (now (w.used b) (let u = s.used b in omega (arith, u, h))) in
      elim (same y.0 b) [
        | inl i ↦ y.1 ∙ ap Some i
        | inr e ↦ absurd (absent (sym (is_free r v sound.agrees b (s.fresh b h)) ∙ goes_on r w v none.sound.agrees sound.agrees b y.0 (sym e) y.1))
      ]
    where
      now : (x : Bool) → 0 < bit x → x ≡ true
      now true h = refl
      now false h = absurd (omega (arith, h))

      absent : {x : Owner} → None ≡ Some x → ⊥
      absent h = cc (h)

-- ---- data is written

page_or_data : (r : Readers) (o : Option Object) (b : ℕ) → has_page r o b + is_data r o b ≤ holds r o b
unfolding has_page is_data holds
page_or_data r None b = omega arith
page_or_data r (Some o) b = omega arith

module _ (r : Readers) (v w : Volume) (n : ℕ) (sound : IsSound r v) (s : WritesData r v w n) where
  -- a block that an owner has, and that isn't the object's data
  stays : (b : ℕ) (x : Owner) → owner_of r v b ≡ Some x → is_data r (objects r v n) b ≡ 0 → w.page b ≡ v.page b
  stays b x h none = s.keeps b (counted r v sound.agrees b x (let o = (has_owners r v sound.agrees).has_it b x h in omega (arith, o))) none

  no_data : (b : ℕ) → holds r (objects r v n) b ≡ 0 → is_data r (objects r v n) b ≡ 0
  no_data b h = let p = page_or_data r (objects r v n) b in omega (arith, p, h)

  no_page : (b m : ℕ) → has_page r (objects r v m) b ≡ 1 → is_data r (objects r v n) b ≡ 0
  no_page b m h = elim (eq_or_not n m) [
    | inl e ↦ subst (λ j. is_data r (objects r v j) b ≡ 0) (sym e) (let p = page_or_data r (objects r v m) b in let o = (owned_once r v sound.agrees).once m b in omega (arith, p, o, h))
    | inr t ↦ no_data b (alone r v sound.agrees m n b t (let p = page_or_data r (objects r v m) b in omega (arith, p, h)))
  ]

  logged : (b : ℕ) (o : Option Owner) → owner_of r v b ≡ o → is_logged o ≡ true → w.page b ≡ v.page b
  logged b None h l = absurd (cc (l))
  logged b (Some Area) h l = stays b Area h (no_data b (fixed_is_no_objects r v sound.agrees n b (let o = (has_owners r v sound.agrees).has_it b Area h in omega (arith, o))))
  logged b (Some Inodes) h l = stays b Inodes h (no_data b (fixed_is_no_objects r v sound.agrees n b (let o = (has_owners r v sound.agrees).has_it b Inodes h in omega (arith, o))))
  logged b (Some (Tree m)) h l = stays b (Tree m) h (no_page b m ((has_owners r v sound.agrees).has_it b (Tree m) h))
  logged b (Some (Data m)) h l = absurd (cc (l))
  logged b (Some (Still m)) h l = absurd (cc (l))

  pub keeps_logged : KeepsLogged r v w
  keeps_logged b l = logged b (owner_of r v b) refl l

places : (v w : Volume) → w.extents ≡ v.extents → w.area ≡ v.area → HasPlaces v w
places v w extents area = record { extents = extents; area = λ b. ap (λ (f : ℕ → ℕ). f b) area }

pub edit_law : EditLaw
edit_law = record {
  writes = λ r v w n sound s. (keeps_logged r v w n sound s, same_owners r v w (places v w s.extents s.area) (data_law r v w n sound s).0.objects_stay);
  sets = λ r v w n after mid taken freed sound s kinds.
      owners_stay r v w n (Some (spelled r mid after)) sound.agrees (object_is_set r v w n after mid taken freed sound s).0 (places v w s.extents s.area) kinds;
  takes = λ r v w n after mid taken freed sound s b free now.
      takes r v w n (Some (spelled r mid after)) sound.agrees (object_is_set r v w n after mid taken freed sound s).0 (places v w s.extents s.area) b free now;
  drops = λ r v w n left freed sound s.
      (let c = object_goes r v w n left freed sound s in owners_stay r v w n None sound.agrees c (places v w s.extents s.area) (gone_kinds r v w n c));
  adds = others_stay;
  comes = comes;
}
