-- An owner stays where what it has stays.
use Rattle.std.proofs.Common.{◌≡◌, refl, sym, ap, ◌∙◌, inl, inr, ℕ, zero, suc, ◌*◌, true, false, List, length, is_some, Option, Some, None, arith}
use Rattle.std.proofs.lemmas.Bool.{cases_Bool}
use Rattle.jfs_objects.specs.Readers.{Readers}
use Rattle.jfs_objects.specs.Volume.{Volume, room}
use Rattle.jfs_objects.specs.Objects.{Object, objects}
use Rattle.jfs_objects.specs.Owners.{extents_have, Agrees}
use Rattle.jfs_objects.proofs.Sums.{zero_or_more}
use Rattle.jfs_kinds.specs.Owner.{Owner, has, or_else, owner_in, owner_below, owner_of}
use Rattle.jfs_kinds.specs.Owner.Owner.{Area, Inodes}
use Rattle.jfs_kinds.specs.Laws.{HasOwners, HasObjects, SameOwnersLaw, KeepsOwner, KeptLaw}
use Rattle.jfs_kinds.proofs.Single.{has_owners}

-- ---- the same places and objects

same_below : (r : Readers) (v w : Volume) → HasObjects r v w → (b most : ℕ) → owner_below most r w b ≡ owner_below most r v b
unfolding owner_below
same_below r v w same b zero = refl
same_below r v w same b (suc n) = ap (λ (o : Option Object). owner_in r o n b (owner_below n r w b)) (same n) ∙ ap (λ (next : Option Owner). owner_in r (objects r v n) n b next) (same_below r v w same b n)

pub same_owners : SameOwnersLaw
unfolding owner_of
same_owners r v w places same b =
    ap (λ (area : ℕ). or_else area Area (or_else (extents_have w.extents b) Inodes (owner_below (room w) r w b))) (places.area b)
    ∙ ap (λ (es : List (Option ℕ)). or_else (v.area b) Area (or_else (extents_have es b) Inodes (owner_below (32 * length es) r w b))) places.extents
    ∙ ap (λ (next : Option Owner). or_else (v.area b) Area (or_else (extents_have v.extents b) Inodes next)) (same_below r v w same b (room v))

-- ---- the same counts

pub is_there : (o : Option Owner) → is_some o ≡ true → (x : Owner) × (o ≡ Some x)
is_there None h = absurd (cc (h))
is_there (Some x) h = (x, refl)

none_there : (o : Option Owner) → is_some o ≡ false → o ≡ None
none_there None h = refl
none_there (Some x) h = absurd (cc (h))

pub is_used : (r : Readers) (v : Volume) → Agrees r v → (b : ℕ) → v.used b ≡ true → (x : Owner) × (owner_of r v b ≡ Some x)
is_used r v a b h = is_there (owner_of r v b) (sym ((has_owners r v a).used b) ∙ h)

pub is_free : (r : Readers) (v : Volume) → Agrees r v → (b : ℕ) → v.used b ≡ false → owner_of r v b ≡ None
is_free r v a b h = none_there (owner_of r v b) (sym ((has_owners r v a).used b) ∙ h)

-- an owner that has the block as often, still has it
pub goes_on : (r : Readers) (v w : Volume) → Agrees r v → Agrees r w → (b : ℕ) (x : Owner) → has r w x b ≡ has r v x b → owner_of r v b ≡ Some x → owner_of r w b ≡ Some x
goes_on r v w before after b x same h = (has_owners r w after).alone b x (let o = (has_owners r v before).has_it b x h in omega (arith, same, o))

kept : (r : Readers) (v w : Volume) → Agrees r v → Agrees r w → (b : ℕ) → KeepsOwner r v w b → owner_of r w b ≡ owner_of r v b
kept r v w before after b same = elim (cases_Bool (v.used b)) [
  | inl was ↦ (let x = is_used r v before b was in goes_on r v w before after b x.0 (same x.0) x.1 ∙ sym x.1)
  | inr free ↦ elim (cases_Bool (w.used b)) [
    | inl now ↦ (let x = is_used r w after b now in x.1 ∙ sym (goes_on r w v after before b x.0 (sym (same x.0)) x.1))
    | inr gone ↦ is_free r w after b gone ∙ sym (is_free r v before b free)
  ]
]

keeps : (r : Readers) (v w : Volume) → Agrees r v → Agrees r w → (b : ℕ) → owner_of r w b ≡ owner_of r v b → KeepsOwner r v w b
keeps r v w before after b same x = elim (zero_or_more (has r v x b)) [
  | inr was ↦ (let h = old.alone b x was in old_is (old.has_it b x h) (new.has_it b x (same ∙ h)))
  | inl none ↦ elim (zero_or_more (has r w x b)) [
    | inr now ↦ (let h = new.alone b x now in old_is (old.has_it b x (sym same ∙ h)) (new.has_it b x h))
    | inl gone ↦ gone ∙ sym none
  ]
]
  where
    old : HasOwners r v
    old = has_owners r v before

    new : HasOwners r w
    new = has_owners r w after

    old_is : has r v x b ≡ 1 → has r w x b ≡ 1 → has r w x b ≡ has r v x b
    old_is one other = other ∙ sym one

pub kept_law : KeptLaw
kept_law = record {
  kept = kept;
  keeps = keeps;
  chained = λ r v w u first second fresh b was now. (let between = fresh b was now in second b between now ∙ first b was between);
  may_own = λ r v w before after stay b. elim (cases_Bool (v.used b)) [
    | inr free ↦ inr (inr (is_free r v before b free))
    | inl was ↦ elim (cases_Bool (w.used b)) [
      | inl now ↦ inl (stay b was now)
      | inr gone ↦ inr (inl (is_free r w after b gone))
    ]
  ];
}
