-- Where maps agree, each block has one owner at most.
use Rattle.std.proofs.Common.{◌≡◌, ◌≤◌, ◌<◌, refl, sym, ap, ◌∙◌, ◌⊎◌, inl, inr, ℕ, Bool, true, false, is_some, Option, Some, None, arith}
use Rattle.jfs_objects.specs.Readers.{Readers}
use Rattle.jfs_objects.specs.Volume.{Volume, room}
use Rattle.jfs_objects.specs.Objects.{objects}
use Rattle.jfs_objects.specs.Owners.{holds, owners, bit, extents_have, sum_below, Agrees}
use Rattle.jfs_objects.proofs.Sums.{zero_or_more}
use Rattle.jfs_objects.proofs.Owned.{is_bit, owned_once, within, alone, owned, unfixed}
use Rattle.jfs_kinds.specs.Owner.{Owner, has, or_else, owner_in, owner_below, owner_of}
use Rattle.jfs_kinds.specs.Owner.Owner.{Area, Inodes, Tree, Data, Still}
use Rattle.jfs_kinds.specs.Laws.{HasOwners}
use Rattle.jfs_kinds.proofs.Parts.{parts, it, passed, page_first, data_next, still_last, only, none_below, IsOwned, search_below}

-- what nobody has, has no owner
unowned : (r : Readers) (v : Volume) (b : ℕ) → owners r v b ≡ 0 → owner_of r v b ≡ None
unfolding owner_of
unowned r v b h =
    passed (v.area b) Area (or_else (extents_have v.extents b) Inodes (owner_below (room v) r v b)) (omega (arith, h))
    ∙ passed (extents_have v.extents b) Inodes (owner_below (room v) r v b) (omega (arith, h))
    ∙ none_below r v b (room v) (omega (arith, h))

search : (r : Readers) (v : Volume) (b : ℕ) → (owners r v b ≡ 0) ⊎ IsOwned r v b
search r v b = by (zero_or_more (v.area b)) (zero_or_more (extents_have v.extents b)) (search_below r v b (room v))
  where
    by : (v.area b ≡ 0) ⊎ (0 < v.area b) → (extents_have v.extents b ≡ 0) ⊎ (0 < extents_have v.extents b) → (sum_below (room v) (λ k. holds r (objects r v k) b) ≡ 0) ⊎ IsOwned r v b
        → (owners r v b ≡ 0) ⊎ IsOwned r v b
    by (inr a) e s = inr (Area, a)
    by (inl a) (inr e) s = inr (Inodes, e)
    by (inl a) (inl e) (inr s) = inr s
    by (inl a) (inl e) (inl s) = inl (omega (arith, a, e, s))

module _ (r : Readers) (v : Volume) (a : Agrees r v) where
  at_most : (b : ℕ) → owners r v b ≤ 1
  at_most b = let e = a.blocks b in let o = is_bit (v.used b) in omega (arith, e, o)

  -- the owner is in the only object that has the block
  in_object : (n b : ℕ) (x : Owner) → 0 < holds r (objects r v n) b → ((next : Option Owner) → owner_in r (objects r v n) n b next ≡ Some x) → owner_of r v b ≡ Some x
  unfolding owner_of
  in_object n b x h here =
      let f = unfixed r v a n b h in
      passed (v.area b) Area (or_else (extents_have v.extents b) Inodes (owner_below (room v) r v b)) (omega (arith, f))
      ∙ passed (extents_have v.extents b) Inodes (owner_below (room v) r v b) (omega (arith, f))
      ∙ only r v b n (Some x) (λ k t. alone r v a n k b t h) here (room v) (within r v n b h)

  held_once : (n b : ℕ) → holds r (objects r v n) b ≤ 1
  held_once n b = (owned_once r v a).once n b

  one : (b : ℕ) (x : Owner) → 0 < has r v x b → owner_of r v b ≡ Some x
  unfolding owner_of
  one b Area h = it (v.area b) Area (or_else (extents_have v.extents b) Inodes (owner_below (room v) r v b)) h
  one b Inodes h =
      let m = at_most b in
      passed (v.area b) Area (or_else (extents_have v.extents b) Inodes (owner_below (room v) r v b)) (omega (arith, m, h))
      ∙ it (extents_have v.extents b) Inodes (owner_below (room v) r v b) h
  one b (Tree n) h = let p = parts r (objects r v n) b in in_object n b (Tree n) (omega (arith, p, h)) (λ next. page_first r (objects r v n) n b next h)
  one b (Data n) h =
      let p = parts r (objects r v n) b in
      let o = held_once n b in
      in_object n b (Data n) (omega (arith, p, h)) (λ next. data_next r (objects r v n) n b next (omega (arith, p, o, h)) h)
  one b (Still n) h =
      let p = parts r (objects r v n) b in
      let o = held_once n b in
      in_object n b (Still n) (omega (arith, p, h)) (λ next. still_last r (objects r v n) n b next (omega (arith, p, o, h)) (omega (arith, p, o, h)) h)

  once : (b : ℕ) (x : Owner) → has r v x b ≤ 1
  once b Area = let m = at_most b in omega (arith, m)
  once b Inodes = let m = at_most b in omega (arith, m)
  once b (Tree n) = let p = parts r (objects r v n) b in let o = held_once n b in omega (arith, p, o)
  once b (Data n) = let p = parts r (objects r v n) b in let o = held_once n b in omega (arith, p, o)
  once b (Still n) = let p = parts r (objects r v n) b in let o = held_once n b in omega (arith, p, o)

  pub counted : (b : ℕ) (x : Owner) → 0 < has r v x b → 0 < owners r v b
  counted b Area h = omega (arith, h)
  counted b Inodes h = omega (arith, h)
  counted b (Tree n) h = owned r v a n b (let p = parts r (objects r v n) b in omega (arith, p, h))
  counted b (Data n) h = owned r v a n b (let p = parts r (objects r v n) b in omega (arith, p, h))
  counted b (Still n) h = owned r v a n b (let p = parts r (objects r v n) b in omega (arith, p, h))

  has_it : (b : ℕ) (x : Owner) → owner_of r v b ≡ Some x → has r v x b ≡ 1
  has_it b x h = by (search r v b)
    where
      absent : None ≡ Some x → ⊥
      absent e = cc (e)

      some_is : {y : Owner} → Some y ≡ Some x → y ≡ x
      some_is e = cc (e)

      by : (owners r v b ≡ 0) ⊎ IsOwned r v b → has r v x b ≡ 1
      by (inl z) = absurd (absent (sym (unowned r v b z) ∙ h))
      by (inr (y, l)) =
          let same = ap (λ (z : Owner). has r v z b) (some_is (sym (one b y l) ∙ h)) in
          let o = once b x in
          omega (arith, l, same, o)

  used : (b : ℕ) → v.used b ≡ is_some (owner_of r v b)
  used b = by (search r v b)
    where
      free : (x : Bool) → bit x ≡ 0 → x ≡ false
      free true h = absurd (omega (arith, h))
      free false h = refl

      taken : (x : Bool) → 0 < bit x → x ≡ true
      taken true h = refl
      taken false h = absurd (omega (arith, h))

      by : (owners r v b ≡ 0) ⊎ IsOwned r v b → v.used b ≡ is_some (owner_of r v b)
      by (inl z) = free (v.used b) (sym (a.blocks b) ∙ z) ∙ sym (ap is_some (unowned r v b z))
      by (inr (y, l)) = taken (v.used b) (let e = a.blocks b in let c = counted b y l in omega (arith, e, c)) ∙ sym (ap is_some (one b y l))

  pub has_owners : HasOwners r v
  has_owners = record { has_it = has_it; alone = one; used = used }
