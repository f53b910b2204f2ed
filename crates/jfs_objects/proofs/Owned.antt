-- Where maps agree, a block has one owner at most.
use Rattle.std.proofs.Common.{◌≡◌, ◌≢◌, ◌≤◌, ◌<◌, refl, ap, ◌∙◌, ℕ, zero, suc, ◌+◌, ◌*◌, ◌/◌, inl, inr, Bool, true, false, List, [], ◌∷◌, length, get_or, Option, Some, None, arith}
use Rattle.std.proofs.lemmas.Bool.{cases_lt}
use Rattle.jfs_objects.specs.Readers.{Readers}
use Rattle.jfs_objects.specs.Volume.{Volume, page_in, room}
use Rattle.jfs_objects.specs.Objects.{Object, IsWhole, objects, object_in, footprint, met}
use Rattle.jfs_objects.specs.Owners.{holds, is_data, unless_broken, fixed, owners, bit, Agrees}
use Rattle.jfs_objects.specs.Laws.{IsOwnedOnce}
use Rattle.jfs_objects.proofs.Sums.{sum_one, sum_two}

pub holds_none : (r : Readers) (b : ℕ) → holds r None b ≡ 0
unfolding holds
holds_none r b = refl

pub is_bit : (x : Bool) → bit x ≤ 1
is_bit true = omega arith
is_bit false = omega arith

pub get_past : (xs : List (Option ℕ)) (i : ℕ) → length xs ≤ i → get_or xs i None ≡ None
get_past [] i h = refl
get_past (x ∷ xs) zero h = absurd (omega (arith, h))
get_past (x ∷ xs) (suc i) h = get_past xs i (omega (arith, h))

pub outside : (r : Readers) (v : Volume) (n : ℕ) → room v ≤ n → objects r v n ≡ None
unfolding objects
outside r v n h = ap (λ o. object_in r v.page n (page_in o n)) (get_past v.extents (n / 32) (past (length v.extents) n h))
  where
    past : (k n : ℕ) → 32 * k ≤ n → k ≤ n / 32
    past k n h = omega (arith, h)

pub within : (r : Readers) (v : Volume) (n b : ℕ) → 0 < holds r (objects r v n) b → n < room v
within r v n b h = elim (cases_lt n (room v)) [ inl l ↦ l | inr l ↦ absurd (let e = ap (λ o. holds r o b) (outside r v n l) in let z = holds_none r b in omega (arith, h, e, z)) ]

module _ (r : Readers) (v : Volume) (a : Agrees r v) where
  pub alone : (n m b : ℕ) → m ≢ n → 0 < holds r (objects r v n) b → holds r (objects r v m) b ≡ 0
  alone n m b apart h = elim (cases_lt m (room v)) [
    | inl lm ↦ (let s = sum_two (room v) (λ k. holds r (objects r v k) b) n m (within r v n b h) lm apart in
        let e = a.blocks b in let o = is_bit (v.used b) in omega (arith, s, e, o, h))
    | inr lm ↦ ap (λ o. holds r o b) (outside r v m lm) ∙ holds_none r b
  ]

  pub owned : (n b : ℕ) → 0 < holds r (objects r v n) b → 0 < owners r v b
  owned n b h = let s = sum_one (room v) (λ k. holds r (objects r v k) b) n (within r v n b h) in omega (arith, s, h)

  pub unfixed : (n b : ℕ) → 0 < holds r (objects r v n) b → fixed v b ≡ 0
  unfixed n b h =
      let s = sum_one (room v) (λ k. holds r (objects r v k) b) n (within r v n b h) in
      let e = a.blocks b in let o = is_bit (v.used b) in omega (arith, s, e, o, h)

  -- no object has a block of a fixed area or of an inode extent
  pub fixed_is_no_objects : (n b : ℕ) → 0 < fixed v b → holds r (objects r v n) b ≡ 0
  fixed_is_no_objects n b h = by (holds r (objects r v n) b) refl
    where
      by : (k : ℕ) → holds r (objects r v n) b ≡ k → holds r (objects r v n) b ≡ 0
      by zero e = e
      by (suc k) e = absurd (let u = unfixed n b (omega (arith, e)) in omega (arith, u, h))

  at_most_once : (n b : ℕ) → holds r (objects r v n) b ≤ 1
  at_most_once n b = elim (cases_lt n (room v)) [
    | inl l ↦ (let s = sum_one (room v) (λ k. holds r (objects r v k) b) n l in let e = a.blocks b in let o = is_bit (v.used b) in omega (arith, s, e, o))
    | inr l ↦ (let e = ap (λ o. holds r o b) (outside r v n l) in let z = holds_none r b in omega (arith, e, z))
  ]

  is_used : (x : Bool) → 0 < bit x → x ≡ true
  is_used true h = refl
  is_used false h = absurd (omega (arith, h))

  pub owned_once : IsOwnedOnce r v
  owned_once = record {
    alone = alone;
    once = at_most_once;
    apart = unfixed;
    in_use = λ n b h. is_used (v.used b) (let e = a.blocks b in let o = owned n b h in omega (arith, e, o));
  }

-- A tree that breaks no rule owns each page that its walk meets; none of them is data, where a block has one owner.
pub whole_trees : (r : Readers) (o : Object) → IsWhole r o → (b : ℕ) → footprint o b + is_data r (Some o) b ≤ holds r (Some o) b
unfolding holds footprint is_data
whole_trees r o w b =
    let x = ap (λ l. unless_broken l (met o.names b)) w.names_are in
    let y = ap (λ l. unless_broken l (met o.extents b)) w.extents_are in
    omega (arith, x, y)

pub whole_holds : (r : Readers) (o : Object) → IsWhole r o → (b : ℕ) → footprint o b ≤ holds r (Some o) b
whole_holds r o w b = let t = whole_trees r o w b in omega (arith, t)
