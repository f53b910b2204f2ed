-- How many slots a page has for its entries.
use Rattle.std.proofs.Common.{◌≡◌, ◌≤◌, ◌<◌, ◌⊎◌, ◌+◌, ℕ, zero, suc, Bool, true, false, List, [], ◌∷◌, length, refl, ap, ◌∙◌, subst, inl, inr, length-append, arith}
use Rattle.std.specs.Prelude.{if◌then◌else◌, nat_le, nat_lt, ◌&&◌, ◌||◌}
use Rattle.std.specs.List.{flat_map, AllByRecursion}
use Rattle.std.proofs.lemmas.Bool.{cases_eq, cases_lt, lt-ltb, le-leb, le-ltb, lt-leb, or_from, and_right}
use Rattle.jfs_bits.specs.Field.{field_of}
use Rattle.jfs_dtpage.specs.declared.head.DtForm.{DtForm}
use Rattle.jfs_dtpage.specs.declared.head.DtForm.TheVariants.{Root, Full}
use Rattle.jfs_dtpage.specs.Form.{slots_of, most_of, count_of, is_leaf, is_usable}
use Rattle.jfs_dtpage.specs.Slots.{times}
use Rattle.jfs_dtpage.specs.Page.{chain_of, table_of, taken_of, usable, TableFits}
use Rattle.jfs_dtpage.proofs.Lists.{times_here, times_other, times_rest, all_from}
use Rattle.jfs_dtpage.proofs.Pages.{usable_range, table_length}

-- ---- a list of different numbers below a bound is no longer than the bound

total : ℕ → List ℕ → ℕ
total zero ys = 0
total (suc n) ys = total n ys + times n ys

total_bound : (n : ℕ) (ys : List ℕ) → ((k : ℕ) → times k ys ≤ 1) → total n ys ≤ n
unfolding total
total_bound zero ys h = omega arith
total_bound (suc n) ys h = let a = total_bound n ys h in let b = h n in omega (arith, a, b)

total_none : (n : ℕ) → total n [] ≡ 0
unfolding total
total_none zero = refl
total_none (suc n) = let a = total_none n in omega (arith, a)

total_skip : (n y : ℕ) (ys : List ℕ) → n ≤ y → total n (y ∷ ys) ≡ total n ys
unfolding total
total_skip zero y ys h = refl
total_skip (suc n) y ys h = let a = total_skip n y ys (omega (arith, h)) in let b = times_other n y ys (λ e. wrong n y h e) in omega (arith, a, b)
  where
    wrong : (n y : ℕ) → suc n ≤ y → y ≡ n → ⊥
    wrong n y h e = omega (arith, h, e)

total_hit : (n y : ℕ) (ys : List ℕ) → y < n → total n (y ∷ ys) ≡ suc (total n ys)
unfolding total
total_hit zero y ys h = absurd (none y h)
  where
    none : (y : ℕ) → y < 0 → ⊥
    none y h = omega (arith, h)
total_hit (suc n) y ys h = elim (cases_eq y n) [
  | inl e ↦ let a = total_skip n y ys (omega (arith, e)) in let b = subst (λ (k : ℕ). times k (y ∷ ys) ≡ suc (times k ys)) e (times_here y ys) in omega (arith, a, b)
  | inr other ↦ let a = total_hit n y ys (omega (arith, h, other)) in let b = times_other n y ys other in omega (arith, a, b)
]

total_length : (n : ℕ) (ys : List ℕ) → AllByRecursion (λ y. y < n) ys → total n ys ≡ length ys
total_length n [] all = total_none n
total_length n (y ∷ ys) all = total_hit n y ys all.0 ∙ ap suc (total_length n ys all.1)

short : (n : ℕ) (ys : List ℕ) → ((k : ℕ) → times k ys ≤ 1) → AllByRecursion (λ y. y < n) ys → length ys ≤ n
short n ys once all = let a = total_bound n ys once in let b = total_length n ys all in omega (arith, a, b)

once_more : (x : ℕ) (ys : List ℕ) → times x ys ≡ 0 → ((k : ℕ) → times k ys ≤ 1) → (k : ℕ) → times k (x ∷ ys) ≤ 1
once_more x ys z once k = elim (cases_eq x k) [
  | inl e ↦ subst (λ (j : ℕ). times j (x ∷ ys) ≤ 1) e (let a = times_here x ys in omega (arith, a, z))
  | inr other ↦ let a = times_other k x ys other in let b = once k in omega (arith, a, b)
]

-- ---- usable slots

if_one : (b : Bool) → (if b then 1 else 0) ≤ 1
if_one true = omega arith
if_one false = omega arith

pub usable_one : (form : DtForm) (bytes : List ℕ) (slot : ℕ) → usable form bytes slot ≤ 1
usable_one form bytes slot = if_one (is_usable form bytes slot)

pub unusable_header : (form : DtForm) (bytes : List ℕ) → usable form bytes 0 ≡ 0
unusable_header Root bytes = refl
unusable_header Full bytes = refl

pub unusable_table : (bytes : List ℕ) (q : ℕ) → q < 4 → usable Full bytes (field_of bytes 21 1 + q) ≡ 0
unusable_table bytes q h =
    let t = field_of bytes 21 1 in
    let apart = or_from (nat_lt (t + q) t) (nat_le (t + 4) (t + q)) (le-ltb (t + q) t (omega arith)) (lt-leb (t + 4) (t + q) (omega (arith, h))) in
    ap (λ (b : Bool). if b then 1 else 0) (and_right (nat_le 1 (t + q) && nat_lt (t + q) 128) (nat_lt (t + q) t || nat_le (t + 4) (t + q)) apart)

absent : (form : DtForm) (bytes : List ℕ) (xs : List ℕ) (k : ℕ) → ((k : ℕ) → times k xs ≤ usable form bytes k) → usable form bytes k ≡ 0 → times k xs ≡ 0
absent form bytes xs k h z = let a = h k in omega (arith, a, z)

all_range : (form : DtForm) (bytes : List ℕ) (xs : List ℕ) → ((k : ℕ) → times k xs ≤ usable form bytes k) → AllByRecursion (λ y. y < slots_of form) xs
all_range form bytes xs h = all_from (λ y. y < slots_of form) xs (λ k there. let a = h k in (usable_range form bytes k (omega (arith, there, a))).1)

-- slots that entries may have, each once, are no more than the page has
pub usable_fit : (form : DtForm) (bytes : List ℕ) (xs : List ℕ) → TableFits form bytes → ((k : ℕ) → times k xs ≤ usable form bytes k) → length xs ≤ most_of form
usable_fit Root bytes xs fits h =
    let once : (k : ℕ) → times k xs ≤ 1 = λ k. let a = h k in let b = usable_one Root bytes k in omega (arith, a, b) in
    let n = short 9 (0 ∷ xs) (once_more 0 xs (absent Root bytes xs 0 h refl) once) (omega arith, all_range Root bytes xs h) in
    omega (arith, n)
usable_fit Full bytes xs fits h =
    let t = field_of bytes 21 1 in
    let low = fits.1 in let high = fits.2 in
    let once : (k : ℕ) → times k xs ≤ 1 = λ k. let a = h k in let b = usable_one Full bytes k in omega (arith, a, b) in
    let z : (q : ℕ) → q < 4 → times (t + q) xs ≡ 0 = λ q l. absent Full bytes xs (t + q) h (unusable_table bytes q l) in
    let d = once_more (t + 3) xs (z 3 (omega arith)) once in
    let c = once_more (t + 2) ((t + 3) ∷ xs) (times_other (t + 2) (t + 3) xs (λ e. differ t 3 2 e (omega arith)) ∙ z 2 (omega arith)) d in
    let b = once_more (t + 1) ((t + 2) ∷ (t + 3) ∷ xs) (times_other (t + 1) (t + 2) ((t + 3) ∷ xs) (λ e. differ t 2 1 e (omega arith)) ∙ times_other (t + 1) (t + 3) xs (λ e. differ t 3 1 e (omega arith)) ∙ z 1 (omega arith)) c in
    let a = once_more (t + 0) ((t + 1) ∷ (t + 2) ∷ (t + 3) ∷ xs)
    (times_other (t + 0) (t + 1) ((t + 2) ∷ (t + 3) ∷ xs) (λ e. differ t 1 0 e (omega arith)) ∙ times_other (t + 0) (t + 2) ((t + 3) ∷ xs) (λ e. differ t 2 0 e (omega arith)) ∙ times_other (t + 0) (t + 3) xs (λ e. differ t 3 0 e (omega arith)) ∙ z 0 (omega arith)) b in
    let zero_free : times 0 ((t + 0) ∷ (t + 1) ∷ (t + 2) ∷ (t + 3) ∷ xs) ≡ 0 =
    times_other 0 (t + 0) ((t + 1) ∷ (t + 2) ∷ (t + 3) ∷ xs) (λ e. above t 0 low e) ∙ times_other 0 (t + 1) ((t + 2) ∷ (t + 3) ∷ xs) (λ e. above t 1 low e) ∙ times_other 0 (t + 2) ((t + 3) ∷ xs) (λ e. above t 2 low e) ∙ times_other 0 (t + 3) xs (λ e. above t 3 low e)
    ∙ absent Full bytes xs 0 h refl in
    let n = short 128 (0 ∷ (t + 0) ∷ (t + 1) ∷ (t + 2) ∷ (t + 3) ∷ xs) (once_more 0 ((t + 0) ∷ (t + 1) ∷ (t + 2) ∷ (t + 3) ∷ xs) zero_free a)
    (omega arith, (omega (arith, high), (omega (arith, high), (omega (arith, high), (omega (arith, high), all_range Full bytes xs h))))) in
    omega (arith, n)
  where
    differ : (t p q : ℕ) → t + p ≡ t + q → q < p → ⊥
    differ t p q e h = omega (arith, e, h)

    above : (t p : ℕ) → 1 ≤ t → t + p ≡ 0 → ⊥
    above t p low e = omega (arith, low, e)

total_each : (n : ℕ) (ys : List ℕ) → ((k : ℕ) → k < n → 1 ≤ times k ys) → n ≤ total n ys
unfolding total
total_each zero ys h = omega arith
total_each (suc n) ys h = let a = total_each n ys (λ k l. h k (omega (arith, l))) in let b = h n (omega arith) in omega (arith, a, b)

-- each number below a bound stands in the list, and none else
long : (n : ℕ) (ys : List ℕ) → ((k : ℕ) → k < n → 1 ≤ times k ys) → AllByRecursion (λ y. y < n) ys → n ≤ length ys
long n ys each all = let a = total_each n ys each in let b = total_length n ys all in omega (arith, a, b)

is_there : (k x : ℕ) (xs : List ℕ) → x ≡ k → 1 ≤ times k (x ∷ xs)
is_there k x xs e = subst (λ (j : ℕ). 1 ≤ times j (x ∷ xs)) e (let a = times_here x xs in omega (arith, a))

is_behind : (k x : ℕ) (xs : List ℕ) → 1 ≤ times k xs → 1 ≤ times k (x ∷ xs)
is_behind k x xs h = let a = times_rest k x xs in omega (arith, a, h)

full_usable : (bytes : List ℕ) (k : ℕ) → 1 ≤ k → k < 128 → (k < field_of bytes 21 1) ⊎ (field_of bytes 21 1 + 4 ≤ k) → usable Full bytes k ≡ 1
full_usable bytes k a b (inl c) = rw (le-leb 1 k a, lt-ltb k 128 b, lt-ltb k (field_of bytes 21 1) c) refl
full_usable bytes k a b (inr c) = rw (le-leb 1 k a, lt-ltb k 128 b, le-ltb k (field_of bytes 21 1) (omega (arith, c)), le-leb (field_of bytes 21 1 + 4) k c) refl

-- a slot of the header, of the table, or among these
full_each : (bytes xs : List ℕ) (t k : ℕ) → t ≡ field_of bytes 21 1 → k < 128 → times k xs ≡ usable Full bytes k → 1 ≤ times k (0 ∷ t ∷ (t + 1) ∷ (t + 2) ∷ (t + 3) ∷ xs)
full_each bytes xs t k is l h = elim (cases_eq 0 k) [
  | inl e ↦ is_there k 0 (t ∷ (t + 1) ∷ (t + 2) ∷ (t + 3) ∷ xs) e
  | inr some ↦ is_behind k 0 (t ∷ (t + 1) ∷ (t + 2) ∷ (t + 3) ∷ xs) (elim (cases_eq t k) [
    | inl e ↦ is_there k t ((t + 1) ∷ (t + 2) ∷ (t + 3) ∷ xs) e
    | inr a ↦ is_behind k t ((t + 1) ∷ (t + 2) ∷ (t + 3) ∷ xs) (elim (cases_eq (t + 1) k) [
      | inl e ↦ is_there k (t + 1) ((t + 2) ∷ (t + 3) ∷ xs) e
      | inr b ↦ is_behind k (t + 1) ((t + 2) ∷ (t + 3) ∷ xs) (elim (cases_eq (t + 2) k) [
        | inl e ↦ is_there k (t + 2) ((t + 3) ∷ xs) e
        | inr c ↦ is_behind k (t + 2) ((t + 3) ∷ xs) (elim (cases_eq (t + 3) k) [
          | inl e ↦ is_there k (t + 3) xs e
          | inr d ↦ is_behind k (t + 3) xs (let u = full_usable bytes k (omega (arith, some)) l (beside (field_of bytes 21 1) k t is a b c d) in omega (arith, h, u))
        ])
      ])
    ])
  ])
]
  where
    beside : (u k t : ℕ) → t ≡ u → (t ≡ k → ⊥) → (t + 1 ≡ k → ⊥) → (t + 2 ≡ k → ⊥) → (t + 3 ≡ k → ⊥) → (k < u) ⊎ (u + 4 ≤ k)
    beside u k t is a b c d = elim (cases_lt k u) [ inl l ↦ inl l | inr m ↦ inr (omega (arith, is, a, b, c, d, m)) ]

-- slots that entries may have, all of them, are as many as the page has
pub usable_whole : (form : DtForm) (bytes : List ℕ) (xs : List ℕ) → TableFits form bytes → ((k : ℕ) → times k xs ≡ usable form bytes k) → length xs ≡ most_of form
usable_whole Root bytes xs fits h =
    let most = usable_fit Root bytes xs fits (λ k. let a = h k in omega (arith, a)) in
    let n = long 9 (0 ∷ xs) (λ k l. elim (cases_eq 0 k) [ inl e ↦ is_there k 0 xs e | inr o ↦ is_behind k 0 xs (let a = h k in let u = root_usable k (omega (arith, o)) l in omega (arith, a, u)) ])
    (omega arith, all_range Root bytes xs (λ k. let a = h k in omega (arith, a))) in
    omega (arith, n, most)
  where
    root_usable : (k : ℕ) → 1 ≤ k → k < 9 → usable Root bytes k ≡ 1
    root_usable k a b = rw (le-leb 1 k a, lt-ltb k 9 b) refl
usable_whole Full bytes xs fits h =
    let t = field_of bytes 21 1 in
    let high = fits.2 in
    let most = usable_fit Full bytes xs fits (λ k. let a = h k in omega (arith, a)) in
    let n = long 128 (0 ∷ t ∷ (t + 1) ∷ (t + 2) ∷ (t + 3) ∷ xs) (λ k l. full_each bytes xs t k refl l (h k))
    (omega arith, (omega (arith, high), (omega (arith, high), (omega (arith, high), (omega (arith, high), all_range Full bytes xs (λ k. let a = h k in omega (arith, a))))))) in
    omega (arith, n, most)

-- each entry has a slot at least
pub length_chains : (leaf : Bool) (bytes : List ℕ) (xs : List ℕ) → length xs ≤ length (flat_map (chain_of leaf bytes) xs)
unfolding chain_of
length_chains leaf bytes [] = omega arith
length_chains leaf bytes (x ∷ xs) = let a = length_chains leaf bytes xs in let b = length-append (chain_of leaf bytes x) (flat_map (chain_of leaf bytes) xs) in omega (arith, a, b)

pub entries_fit : (form : DtForm) (bytes : List ℕ) → TableFits form bytes → ((k : ℕ) → times k (taken_of form bytes) ≤ usable form bytes k) → count_of bytes ≤ most_of form
entries_fit form bytes fits h =
    let a = usable_fit form bytes (taken_of form bytes) fits h in let b = length_chains (is_leaf bytes) bytes (table_of form bytes) in omega (arith, a, b, table_length form bytes)
