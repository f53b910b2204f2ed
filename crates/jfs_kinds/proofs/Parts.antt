-- What an object has, in parts, and the owner that these give.
use Rattle.std.proofs.Common.{◌≡◌, ◌≢◌, ◌<◌, refl, ap, ◌∙◌, ◌⊎◌, inl, inr, ℕ, zero, suc, ◌+◌, true, false, nat_lt, Option, Some, None, arith}
use Rattle.std.proofs.lemmas.Bool.{cases_Bool, cond-true, cond-false}
use Rattle.std.proofs.lemmas.Bool.Decides.{nat_tests}
use Rattle.jfs_objects.specs.Readers.{Readers}
use Rattle.jfs_objects.specs.Volume.{Volume}
use Rattle.jfs_objects.specs.Objects.{Object, objects}
use Rattle.jfs_objects.specs.Owners.{data_held, holds, sum_below}
use Rattle.jfs_objects.proofs.Sums.{eq_or_not, zero_or_more}
use Rattle.jfs_kinds.specs.Owner.{Owner, is_regular_file, has_page, has_data, has_still, has, or_else, owner_in, owner_below}
use Rattle.jfs_kinds.specs.Owner.Owner.{Tree, Data, Still}

-- an object's blocks are its pages, its data, and the rest
pub parts : (r : Readers) (o : Option Object) (b : ℕ) → holds r o b ≡ has_page r o b + has_data r o b + has_still r o b
unfolding holds has_page has_data has_still
parts r None b = refl
parts r (Some o) b = elim (cases_Bool (is_regular_file o)) [
  | inl e ↦ (let d = cond-true (is_regular_file o) (data_held r o b) 0 e in let s = cond-true (is_regular_file o) 0 (data_held r o b) e in omega (arith, d, s))
  | inr e ↦ (let d = cond-false (is_regular_file o) (data_held r o b) 0 e in let s = cond-false (is_regular_file o) 0 (data_held r o b) e in omega (arith, d, s))
]

pub it : (count : ℕ) (x : Owner) (next : Option Owner) → 0 < count → or_else count x next ≡ Some x
it count x next h = cond-true (nat_lt 0 count) (Some x) next (positive count h)
  where
    positive : (n : ℕ) → 0 < n → nat_lt 0 n ≡ true
    positive n h = grind (arith, nat_tests)

pub passed : (count : ℕ) (x : Owner) (next : Option Owner) → count ≡ 0 → or_else count x next ≡ next
passed count x next h = cond-false (nat_lt 0 count) (Some x) next (none count h)
  where
    none : (n : ℕ) → n ≡ 0 → nat_lt 0 n ≡ false
    none n h = grind (arith, nat_tests)

module _ (r : Readers) (o : Option Object) (n b : ℕ) (next : Option Owner) where
  pub page_first : 0 < has_page r o b → owner_in r o n b next ≡ Some (Tree n)
  page_first h = it (has_page r o b) (Tree n) (or_else (has_data r o b) (Data n) (or_else (has_still r o b) (Still n) next)) h

  pub data_next : has_page r o b ≡ 0 → 0 < has_data r o b → owner_in r o n b next ≡ Some (Data n)
  data_next p h = passed (has_page r o b) (Tree n) (or_else (has_data r o b) (Data n) (or_else (has_still r o b) (Still n) next)) p
      ∙ it (has_data r o b) (Data n) (or_else (has_still r o b) (Still n) next) h

  pub still_last : has_page r o b ≡ 0 → has_data r o b ≡ 0 → 0 < has_still r o b → owner_in r o n b next ≡ Some (Still n)
  still_last p d h = passed (has_page r o b) (Tree n) (or_else (has_data r o b) (Data n) (or_else (has_still r o b) (Still n) next)) p
      ∙ passed (has_data r o b) (Data n) (or_else (has_still r o b) (Still n) next) d
      ∙ it (has_still r o b) (Still n) next h

  pub not_in : holds r o b ≡ 0 → owner_in r o n b next ≡ next
  not_in h = passed (has_page r o b) (Tree n) (or_else (has_data r o b) (Data n) (or_else (has_still r o b) (Still n) next)) (let p = parts r o b in omega (arith, p, h))
      ∙ passed (has_data r o b) (Data n) (or_else (has_still r o b) (Still n) next) (let p = parts r o b in omega (arith, p, h))
      ∙ passed (has_still r o b) (Still n) next (let p = parts r o b in omega (arith, p, h))

-- the only object that has a block gives its owner
pub only : (r : Readers) (v : Volume) (b n : ℕ) (x : Option Owner) → ((k : ℕ) → k ≢ n → holds r (objects r v k) b ≡ 0) → ((next : Option Owner) → owner_in r (objects r v n) n b next ≡ x)
    → (most : ℕ) → n < most → owner_below most r v b ≡ x
unfolding owner_below
only r v b n x others here zero l = absurd (omega (arith, l))
only r v b n x others here (suc k) l = by (eq_or_not k n) (only r v b n x others here k)
  where
    by : (k ≡ n) ⊎ (k ≢ n) → (n < k → owner_below k r v b ≡ x) → owner_in r (objects r v k) k b (owner_below k r v b) ≡ x
    by (inl e) below = ap (λ (j : ℕ). owner_in r (objects r v j) j b (owner_below k r v b)) e ∙ here (owner_below k r v b)
    by (inr e) below = not_in r (objects r v k) k b (owner_below k r v b) (others k e) ∙ below (less k n l e)
      where
        less : (k n : ℕ) → n < suc k → k ≢ n → n < k
        less k n l e = grind arith

-- what no object has, has no owner among them
pub none_below : (r : Readers) (v : Volume) (b most : ℕ) → sum_below most (λ k. holds r (objects r v k) b) ≡ 0 → owner_below most r v b ≡ None
unfolding owner_below sum_below
none_below r v b zero h = refl
none_below r v b (suc k) h = not_in r (objects r v k) k b (owner_below k r v b) (omega (arith, h)) ∙ none_below r v b k (omega (arith, h))

-- some owner has a block
abbrev pub IsOwned : Readers → Volume → ℕ → Type 0
IsOwned r v b = (x : Owner) × (0 < has r v x b)

pub part_of : (r : Readers) (v : Volume) (b n : ℕ) → 0 < holds r (objects r v n) b → IsOwned r v b
part_of r v b n h = elim (zero_or_more (has_page r (objects r v n) b)) [
  | inr p ↦ (Tree n, p)
  | inl p ↦ elim (zero_or_more (has_data r (objects r v n) b)) [
    | inr d ↦ (Data n, d)
    | inl d ↦ (Still n, (let s = parts r (objects r v n) b in omega (arith, s, p, d, h)))
  ]
]

pub search_below : (r : Readers) (v : Volume) (b most : ℕ) → (sum_below most (λ k. holds r (objects r v k) b) ≡ 0) ⊎ IsOwned r v b
unfolding sum_below
search_below r v b zero = inl refl
search_below r v b (suc k) = elim (zero_or_more (holds r (objects r v k) b)) [
  | inr h ↦ inr (part_of r v b k h)
  | inl z ↦ elim (search_below r v b k) [ inl s ↦ inl (omega (arith, s, z)) | inr o ↦ inr o ]
]
