-- What is given back of a claim.
use Rattle.std.proofs.Common.{◌≡◌, ◌<◌, refl, sym, ap, ◌∙◌, subst, ℕ, Bool, true, false, true≢false, ◌||◌, nat_lt, if◌then◌else◌, List, [], ◌∷◌, ◌++◌, length, arith}
use Rattle.std.proofs.lemmas.Bool.{both_ways, or_left, or_right, or_parts, false_from_ne_true}
use Rattle.jfs_bits.specs.declared.descriptor.Pxd.{Pxd}
use Rattle.jfs_bits.specs.Bits.{is_in_run}
use Rattle.jfs_room.specs.bmap.specs.States.{BlockState, Free, Reserved, Blocks, state_of, put_state, is_in_list, AreApart, AreReserved}
use Rattle.jfs_room.specs.bmap.proofs.States.{same_blocks, changed-at, changed-length}
use Rattle.jfs_room.specs.bmap.proofs.Puts.{in_list-append, put-length, put-at, put-append, put-back, reserved-put, reserved-beside}
use Rattle.jfs_room.specs.page_tree.specs.Edit.{count_in}
use Rattle.jfs_runs.specs.Laws.{IsLeft}
use Rattle.jfs_runs.proofs.Left.{what_is_left}
use Rattle.jfs_claim.specs.Take.{run_list, claimed, reserving, Reserves, IsPartlyTaken}
use Rattle.jfs_claim.specs.declared.reserve.Claim.{Claim}

-- ---- parts of a list

apart_front : (xs ys : List Pxd) → AreApart (xs ++ ys) → AreApart xs
unfolding AreApart
apart_front [] ys h = tt
apart_front (run ∷ runs) ys h = (λ b here. (or_parts (is_in_list runs b) (is_in_list ys b) (sym (in_list-append runs ys b) ∙ h.0 b here)).0, apart_front runs ys h.1)

apart_back : (xs ys : List Pxd) → AreApart (xs ++ ys) → AreApart ys
unfolding AreApart
apart_back [] ys h = h
apart_back (run ∷ runs) ys h = apart_back runs ys h.1

apart_between : (xs ys : List Pxd) → AreApart (xs ++ ys) → (b : ℕ) → is_in_list xs b ≡ true → is_in_list ys b ≡ false
unfolding AreApart is_in_list
apart_between [] ys h b here = absurd (true≢false (sym here))
apart_between (run ∷ runs) ys h b here = by (is_in_run run.addr run.len b) refl here (apart_between runs ys h.1 b)
  where
    by : (x : Bool) → is_in_run run.addr run.len b ≡ x → (x || is_in_list runs b) ≡ true → (is_in_list runs b ≡ true → is_in_list ys b ≡ false) → is_in_list ys b ≡ false
    by true e t f = (or_parts (is_in_list runs b) (is_in_list ys b) (sym (in_list-append runs ys b) ∙ h.0 b e)).1
    by false e t f = f t

module _ (before now : Blocks) (xs ys : List Pxd) (r : Reserves before now (xs ++ ys)) where
  all_reserved : AreReserved now (xs ++ ys)
  all_reserved = subst (λ (m : Blocks). AreReserved m (xs ++ ys)) (sym r.now_is) (reserved-put (xs ++ ys) before r.once r.free)

  pub front_reserved : AreReserved now xs
  front_reserved = record {
    reserved = λ b h. all_reserved.reserved b (in_list-append xs ys b ∙ or_left (is_in_list xs b) (is_in_list ys b) h);
    once = apart_front xs ys r.once;
  }

  pub back_reserved : AreReserved now ys
  back_reserved = record {
    reserved = λ b h. all_reserved.reserved b (in_list-append xs ys b ∙ or_right (is_in_list xs b) (is_in_list ys b) h);
    once = apart_back xs ys r.once;
  }

  not_front : (b : ℕ) → is_in_list ys b ≡ true → is_in_list xs b ≡ false
  not_front b h = false_from_ne_true (is_in_list xs b) (λ t. both_ways (is_in_list ys b) (apart_between xs ys r.once b t) h)

  -- the others stay reserved once the first are given back
  pub still_reserved : AreReserved (put_state Free xs now) ys
  still_reserved = reserved-beside Free ys xs now back_reserved not_front

  pub all_back : put_state Free ys (put_state Free xs now) ≡ before
  all_back = put-append Free xs ys now ∙ ap (λ (m : Blocks). put_state Free (xs ++ ys) m) r.now_is ∙ put-back (xs ++ ys) before r.free

-- ---- what trees left

module _ (before now : Blocks) (claim : Claim) (taken : List ℕ) (is : IsPartlyTaken before now claim taken) where
  abbrev run : List Pxd
  run = run_list claim.run

  abbrev left : List Pxd
  left = claim.fresh

  left_is : IsLeft now claim.blocks left taken
  left_is = what_is_left now claim.blocks left taken (record { reserved = back_reserved before now run claim.blocks is.reserves; parts = is.parts })

  pub left_reserved : AreReserved now left
  left_reserved = left_is.reserved

  in_blocks : (b : ℕ) → is_in_list left b ≡ true → is_in_list claim.blocks b ≡ true
  in_blocks b h = left_is.others b ∙ or_right (nat_lt 0 (count_in b taken)) (is_in_list left b) h

  not_taken : (b : ℕ) → is_in_list left b ≡ true → nat_lt 0 (count_in b taken) ≡ false
  not_taken b h = rw (left_is.apart b h) refl

  was_free : (b : ℕ) → is_in_list left b ≡ true → state_of before b ≡ Free
  was_free b h = is.reserves.free b (in_list-append run claim.blocks b ∙ or_right (is_in_list run b) (is_in_list claim.blocks b) (in_blocks b h))

  pub settled : put_state Free left now ≡ reserving run taken before
  settled =
      let all = put_state Reserved (claimed claim) before in
      let size = put-length Reserved (claimed claim) before in
      let change = λ (b : ℕ) (s : BlockState). if is_in_list run b || nat_lt 0 (count_in b taken) then Reserved else s in
      let sizes : length (put_state Free left all).states ≡ length before.states = put-length Free left all ∙ size in
      ap (λ (m : Blocks). put_state Free left m) is.reserves.now_is
      ∙ same_blocks (put_state Free left all) (reserving run taken before) (sizes ∙ sym (changed-length change before)) (λ b h.
      let within : b < length before.states = omega (arith, sizes, h) in
      put-at Free left all b (omega (arith, size, within))
      ∙ ap (λ (s : BlockState). if is_in_list left b then Free else s) (put-at Reserved (claimed claim) before b within)
      ∙ ap (λ (x : Bool). if is_in_list left b then Free else (if x then Reserved else state_of before b)) (in_list-append run claim.blocks b ∙ ap (λ (y : Bool). is_in_list run b || y) (left_is.others b))
      ∙ by (is_in_list left b) (is_in_list run b) (nat_lt 0 (count_in b taken)) (state_of before b) (λ l. not_front before now run claim.blocks is.reserves b (in_blocks b l)) (not_taken b) (was_free b)
      ∙ sym (changed-at change before b within))
      refl refl
    where
      by : (l r t : Bool) (s : BlockState) → (l ≡ true → r ≡ false) → (l ≡ true → t ≡ false) → (l ≡ true → s ≡ Free) → (if l then Free else (if r || (t || l) then Reserved else s)) ≡ (if r || t then Reserved else s)
      by true true t s e f g = absurd (true≢false (e refl))
      by true false true s e f g = absurd (true≢false (f refl))
      by true false false s e f g = sym (g refl)
      by false true t s e f g = refl
      by false false true s e f g = refl
      by false false false s e f g = refl
