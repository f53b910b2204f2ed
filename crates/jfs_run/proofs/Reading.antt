-- Marks that are read one after the other, each client's in their order.
use Rattle.std.proofs.Common.{◌≡◌, ◌≤◌, ◌<◌, ◌+◌, ◌⊎◌, ℕ, zero, suc, Bool, true, false, List, [], ◌∷◌, ◌++◌, length, drop, refl, sym, ap, ◌∙◌, subst, inl, inr, arith, append_assoc, replicate}
use Rattle.std.specs.Prelude.{◌&&◌, nat_le, if◌then◌else◌, slice_set, slice_index_or}
use Rattle.std.proofs.lemmas.Bool.{cases_eq, eq-eqb, ne_eqb}
use Rattle.std.specs.Global.{Vec}
use Rattle.jfs_plain.specs.declared.call.Entry.{Entry}
use Rattle.jfs_run.specs.Telling.{first_of, rest_of, mark_of, left_by, marks_of, told_from, marks_in, left_at, marks_left}

-- ---- what is left of one client's

-- so many are read, and this one is next
next_is : (ms : List Bool) (n : ℕ) (m : Bool) → n < length ms → m ≡ slice_index_or ms n m → drop n ms ≡ m ∷ drop (suc n) ms
next_is [] n m less is = absurd (omega (arith, less))
next_is (x ∷ xs) zero m less is = ap (λ (b : Bool). b ∷ xs) (sym is)
next_is (x ∷ xs) (suc n) m less is = next_is xs n m (omega (arith, less)) is

none_left : (ms : List Bool) (n : ℕ) → length ms ≤ n → drop n ms ≡ []
none_left [] zero past = refl
none_left [] (suc n) past = refl
none_left (x ∷ xs) zero past = absurd (omega (arith, past))
none_left (x ∷ xs) (suc n) past = none_left xs n (omega (arith, past))

-- ---- of a client that there is

at_first : (k client : ℕ) (ms : List Bool) (more : List (List Bool)) → client ≡ k → (mark_of k client (ms ∷ more) ≡ first_of ms) × (left_by k client (ms ∷ more) ≡ rest_of ms ∷ more)
at_first k client ms more is = let e = eq-eqb client k is in (ap (λ (b : Bool). if b then first_of ms else mark_of (suc k) client more) e, ap (λ (b : Bool). if b then rest_of ms ∷ more else ms ∷ left_by (suc k) client more) e)

at_later : (k client : ℕ) (ms : List Bool) (more : List (List Bool)) → (client ≡ k → ⊥) → (mark_of k client (ms ∷ more) ≡ mark_of (suc k) client more) × (left_by k client (ms ∷ more) ≡ ms ∷ left_by (suc k) client more)
at_later k client ms more is_not = let e = ne_eqb client k is_not in (ap (λ (b : Bool). if b then first_of ms else mark_of (suc k) client more) e, ap (λ (b : Bool). if b then rest_of ms ∷ more else ms ∷ left_by (suc k) client more) e)

-- its next mark is read
pub read_at : (k client : ℕ) (next : List ℕ) (marks : List (Vec Bool)) (i n : ℕ) (w : Vec Bool) (m : Bool) → i + k ≡ client → i < length marks → length marks ≤ length next → n ≡ slice_index_or next i 0 → w ≡ slice_index_or marks i w → n < length w.items → m ≡ slice_index_or w.items n m
    → (m ≡ mark_of k client (left_at next marks)) × (left_at (slice_set next i (n + 1)) marks ≡ left_by k client (left_at next marks))
read_at k client next [] i n w m is less long at_n at_w inside at_m = absurd (omega (arith, less))
read_at k client [] (x ∷ xs) i n w m is less long at_n at_w inside at_m = absurd (omega (arith, long))
read_at k client (y ∷ ys) (x ∷ xs) zero n w m is less long at_n at_w inside at_m =
    let first = at_first k client (drop y x.items) (left_at ys xs) (sym is ∙ zero_is) in
    let here : drop y x.items ≡ m ∷ drop (suc n) w.items = subst {A = ℕ × Vec Bool} (λ z. drop z.0 z.1.items ≡ m ∷ drop (suc n) w.items) (λ j. (at_n j, at_w j)) (next_is w.items n m inside at_m) in
    let there : drop (n + 1) x.items ≡ drop (suc n) w.items = subst {A = ℕ × Vec Bool} (λ z. drop z.0 z.1.items ≡ drop (suc n) w.items) (λ j. (one_more j, at_w j)) refl in (
      sym (first.0 ∙ ap first_of here),
      ap (λ (ms : List Bool). ms ∷ left_at ys xs) there ∙ sym (first.1 ∙ ap (λ (ms : List Bool). rest_of ms ∷ left_at ys xs) here),
    )
  where
    zero_is : zero + k ≡ k
    zero_is = omega arith

    one_more : suc n ≡ n + 1
    one_more = omega arith
read_at k client (y ∷ ys) (x ∷ xs) (suc i) n w m is less long at_n at_w inside at_m =
    let later = at_later k client (drop y x.items) (left_at ys xs) (λ same. omega (arith, is, same)) in
    let rest = read_at (suc k) client ys xs i n w m (omega (arith, is)) (omega (arith, less)) (omega (arith, long)) at_n at_w inside at_m in
    (rest.0 ∙ sym later.0, ap (λ (left : List (List Bool)). drop y x.items ∷ left) rest.1 ∙ sym later.1)

-- all of its marks are read
pub read_none : (k client : ℕ) (next : List ℕ) (marks : List (Vec Bool)) (i n : ℕ) (w : Vec Bool) → i + k ≡ client → i < length marks → length marks ≤ length next → n ≡ slice_index_or next i 0 → w ≡ slice_index_or marks i w → length w.items ≤ n
    → (false ≡ mark_of k client (left_at next marks)) × (left_at next marks ≡ left_by k client (left_at next marks))
read_none k client next [] i n w is less long at_n at_w past = absurd (omega (arith, less))
read_none k client [] (x ∷ xs) i n w is less long at_n at_w past = absurd (omega (arith, long))
read_none k client (y ∷ ys) (x ∷ xs) zero n w is less long at_n at_w past =
    let first = at_first k client (drop y x.items) (left_at ys xs) (sym is ∙ zero_is) in
    let here : drop y x.items ≡ [] = subst {A = ℕ × Vec Bool} (λ z. drop z.0 z.1.items ≡ []) (λ j. (at_n j, at_w j)) (none_left w.items n past) in (
      sym (first.0 ∙ ap first_of here),
      ap (λ (ms : List Bool). ms ∷ left_at ys xs) here ∙ sym (first.1 ∙ ap (λ (ms : List Bool). rest_of ms ∷ left_at ys xs) here),
    )
  where
    zero_is : zero + k ≡ k
    zero_is = omega arith
read_none k client (y ∷ ys) (x ∷ xs) (suc i) n w is less long at_n at_w past =
    let later = at_later k client (drop y x.items) (left_at ys xs) (λ same. omega (arith, is, same)) in
    let rest = read_none (suc k) client ys xs i n w (omega (arith, is)) (omega (arith, less)) (omega (arith, long)) at_n at_w past in
    (rest.0 ∙ sym later.0, ap (λ (left : List (List Bool)). drop y x.items ∷ left) rest.1 ∙ sym later.1)

-- ---- of one that there isn't

pub nobody : (k client : ℕ) (left : List (List Bool)) → (client < k) ⊎ (k + length left ≤ client) → (false ≡ mark_of k client left) × (left ≡ left_by k client left)
nobody k client [] out = (refl, refl)
nobody k client (ms ∷ more) out =
    let later = at_later k client ms more (other out) in
    let rest = nobody (suc k) client more (further out) in
    (rest.0 ∙ sym later.0, ap (λ (left : List (List Bool)). ms ∷ left) rest.1 ∙ sym later.1)
  where
    other : (client < k) ⊎ (k + suc (length more) ≤ client) → client ≡ k → ⊥
    other (inl below) same = omega (arith, below, same)
    other (inr above) same = omega (arith, above, same)

    further : (client < k) ⊎ (k + suc (length more) ≤ client) → (client < suc k) ⊎ (suc k + length more ≤ client)
    further (inl below) = inl (omega (arith, below))
    further (inr above) = inr (omega (arith, above))

pub as_many_left : (next : List ℕ) (marks : List (Vec Bool)) → length (left_at next marks) ≡ length marks
as_many_left next [] = refl
as_many_left [] (x ∷ xs) = ap suc (as_many_left [] xs)
as_many_left (y ∷ ys) (x ∷ xs) = ap suc (as_many_left ys xs)

-- none is read yet
pub none_read : (n : ℕ) (marks : List (Vec Bool)) → left_at (replicate n 0) marks ≡ marks_in marks
none_read n [] = refl
none_read zero (x ∷ xs) = ap (λ (left : List (List Bool)). x.items ∷ left) (none_read zero xs)
none_read (suc n) (x ∷ xs) = ap (λ (left : List (List Bool)). x.items ∷ left) (none_read n xs)

-- ---- how many are left

fewer : (ms : List Bool) → first_of ms ≡ true → suc (length (rest_of ms)) ≡ length ms
fewer [] e = absurd cc
fewer (m ∷ ms) e = refl

no_more : (ms : List Bool) → length (rest_of ms) ≤ length ms
no_more [] = omega arith
no_more (m ∷ ms) = omega arith

-- a mark that is read is one less
pub one_less : (k client : ℕ) (left : List (List Bool)) → mark_of k client left ≡ true → suc (marks_left (left_by k client left)) ≡ marks_left left
one_less k client [] e = absurd cc
one_less k client (ms ∷ more) e = by (cases_eq client k) (λ e. one_less (suc k) client more e)
  where
    by : (client ≡ k) ⊎ (client ≡ k → ⊥) → (mark_of (suc k) client more ≡ true → suc (marks_left (left_by (suc k) client more)) ≡ marks_left more) → suc (marks_left (left_by k client (ms ∷ more))) ≡ marks_left (ms ∷ more)
    by (inl is) later = let a = at_first k client ms more is in let one = fewer ms (sym a.0 ∙ e) in ap (λ (left : List (List Bool)). suc (marks_left left)) a.1 ∙ (omega (arith, one))
    by (inr is_not) later = let a = at_later k client ms more is_not in let one = later (sym a.0 ∙ e) in ap (λ (left : List (List Bool)). suc (marks_left left)) a.1 ∙ (omega (arith, one))

pub not_more : (k client : ℕ) (left : List (List Bool)) → marks_left (left_by k client left) ≤ marks_left left
not_more k client [] = omega arith
not_more k client (ms ∷ more) = by (cases_eq client k) (not_more (suc k) client more)
  where
    by : (client ≡ k) ⊎ (client ≡ k → ⊥) → marks_left (left_by (suc k) client more) ≤ marks_left more → marks_left (left_by k client (ms ∷ more)) ≤ marks_left (ms ∷ more)
    by (inl is) later = let a = ap marks_left (at_first k client ms more is).1 in let one = no_more ms in omega (arith, a, one)
    by (inr is_not) later = let a = ap marks_left (at_later k client ms more is_not).1 in omega (arith, a, later)

-- ---- what is told so far

pub told_next : (n durable : ℕ) (left : List (List Bool)) (e : Entry) (es : List Entry) (b : Bool) → (mark_of 1 e.client left && nat_le n durable) ≡ b
    → told_from n durable (marks_of left (e ∷ es)) ≡ (if b then n ∷ told_from (suc n) durable (marks_of (left_by 1 e.client left) es) else told_from (suc n) durable (marks_of (left_by 1 e.client left) es))
told_next n durable left e es b is = ap (λ (a : Bool). if a then n ∷ told_from (suc n) durable (marks_of (left_by 1 e.client left) es) else told_from (suc n) durable (marks_of (left_by 1 e.client left) es)) is

-- ---- a loop over a list

pub next_in : {X : Type 0} (xs : List X) (i : ℕ) (x : X) → i < length xs → x ≡ slice_index_or xs i x → drop i xs ≡ x ∷ drop (i + 1) xs
next_in [] i x less is = absurd (omega (arith, less))
next_in (y ∷ ys) zero x less is = ap (λ z. z ∷ ys) (sym is)
next_in (y ∷ ys) (suc i) x less is = let e : suc (i + 1) ≡ suc i + 1 = omega arith in next_in ys i x (omega (arith, less)) is ∙ ap (λ (k : ℕ). x ∷ drop k (y ∷ ys)) e

pub none_in : {X : Type 0} (xs : List X) (i : ℕ) → length xs ≤ i → drop i xs ≡ []
none_in [] zero past = refl
none_in [] (suc i) past = refl
none_in (x ∷ xs) zero past = absurd (omega (arith, past))
none_in (x ∷ xs) (suc i) past = none_in xs i (omega (arith, past))

pub all_in : {X : Type 0} (xs : List X) → drop 0 xs ≡ xs
all_in [] = refl
all_in (x ∷ xs) = refl

-- ---- with one entry more

module _ (n durable : ℕ) (left left' : List (List Bool)) (e : Entry) (es rest : List Entry) (told total : List ℕ) (es_are : es ≡ e ∷ rest) (left_is : left' ≡ left_by 1 e.client left) (so_far : told ++ told_from n durable (marks_of left es) ≡ total) where
  here : told ++ told_from n durable (marks_of left (e ∷ rest)) ≡ total
  here = ap (λ (xs : List Entry). told ++ told_from n durable (marks_of left xs)) (sym es_are) ∙ so_far

  abbrev behind : List ℕ
  behind = told_from (suc n) durable (marks_of (left_by 1 e.client left) rest)

  then_left : told_from (suc n) durable (marks_of left' rest) ≡ behind
  then_left = ap (λ (l : List (List Bool)). told_from (suc n) durable (marks_of l rest)) left_is

  pub one_told : (mark_of 1 e.client left && nat_le n durable) ≡ true → (told ++ n ∷ []) ++ told_from (suc n) durable (marks_of left' rest) ≡ total
  one_told one =
      append_assoc told (n ∷ []) (told_from (suc n) durable (marks_of left' rest)) ∙ ap (λ (ns : List ℕ). told ++ n ∷ ns) then_left
      ∙ sym (ap (λ (ns : List ℕ). told ++ ns) (told_next n durable left e rest true one)) ∙ here

  pub untold : (mark_of 1 e.client left && nat_le n durable) ≡ false → told ++ told_from (suc n) durable (marks_of left' rest) ≡ total
  untold none = ap (λ (ns : List ℕ). told ++ ns) then_left ∙ sym (ap (λ (ns : List ℕ). told ++ ns) (told_next n durable left e rest false none)) ∙ here

-- what is told is marked
pub is_marked : (mark in_time : Bool) → (mark && in_time) ≡ true → mark ≡ true
is_marked true in_time e = refl
is_marked false in_time e = absurd cc
