-- Two lists in strict order with the same members are one.
use Rattle.std.proofs.Common.{◌≡◌, ◌<◌, ◌⊎◌, inl, inr, refl, sym, ap₂, subst, ℕ, zero, suc, Bool, true, false, ◌&&◌, ◌||◌, ◌==◌, nat_lt, List, [], ◌∷◌, arith}
use Rattle.std.specs.List.{Contains}
use Rattle.std.proofs.lemmas.Bool.{ltb-true, eqb-true, and_parts}
use Rattle.jfs_findings.specs.Kind.{number_of}
use Rattle.jfs_findings.specs.Findings.{is_before, Rise}
use Rattle.jfs_findings.specs.Laws.{OneListLaw}
use Rattle.jfs_findings.specs.declared.finding.Finding.{Finding}

-- ---- the order

-- three numbers in order
abbrev lexical : ℕ → ℕ → ℕ → ℕ → ℕ → ℕ → Type 0
lexical a b c x y z = (a < x) ⊎ ((a ≡ x) × ((b < y) ⊎ ((b ≡ y) × (c < z))))

or_either : (x y : Bool) → (x || y) ≡ true → (x ≡ true) ⊎ (y ≡ true)
or_either true y e = inl refl
or_either false y e = inr e

abbrev IsBefore : Finding → Finding → Type 0
IsBefore f g = lexical (number_of f.kind) f.page f.value (number_of g.kind) g.page g.value

told : (a b c x y z : ℕ) → (nat_lt a x || (a == x && (nat_lt b y || (b == y && nat_lt c z)))) ≡ true → lexical a b c x y z
told a b c x y z e = elim (or_either (nat_lt a x) (a == x && (nat_lt b y || (b == y && nat_lt c z))) e) [
  | inl l ↦ inl (ltb-true a x l)
  | inr t ↦ (let p = and_parts (a == x) (nat_lt b y || (b == y && nat_lt c z)) t in inr (
    eqb-true a x p.0,
    elim (or_either (nat_lt b y) (b == y && nat_lt c z) p.1) [
      | inl l ↦ inl (ltb-true b y l)
      | inr u ↦ (let q = and_parts (b == y) (nat_lt c z) u in inr (eqb-true b y q.0, ltb-true c z q.1))
    ],
  ))
]

before : (f g : Finding) → is_before f g ≡ true → IsBefore f g
before f g e = told (number_of f.kind) f.page f.value (number_of g.kind) g.page g.value e

never_both : (f g : Finding) → IsBefore f g → IsBefore g f → ⊥
never_both f g (inl l) (inl m) = omega (arith, l, m)
never_both f g (inl l) (inr m) = (let e = m.0 in omega (arith, l, e))
never_both f g (inr l) (inl m) = (let e = l.0 in omega (arith, m, e))
never_both f g (inr (e, inl l)) (inr (d, inl m)) = omega (arith, l, m)
never_both f g (inr (e, inl l)) (inr (d, inr (c, m))) = omega (arith, l, c)
never_both f g (inr (e, inr (c, l))) (inr (d, inl m)) = omega (arith, m, c)
never_both f g (inr (e, inr (c, l))) (inr (d, inr (b, m))) = omega (arith, l, m)

chained : (f g h : Finding) → IsBefore f g → IsBefore g h → IsBefore f h
chained f g h (inl l) (inl m) = inl (omega (arith, l, m))
chained f g h (inl l) (inr (e, m)) = inl (omega (arith, l, e))
chained f g h (inr (e, l)) (inl m) = inl (omega (arith, m, e))
chained f g h (inr (e, inl l)) (inr (d, inl m)) = inr (omega (arith, e, d), inl (omega (arith, l, m)))
chained f g h (inr (e, inl l)) (inr (d, inr (c, m))) = inr (omega (arith, e, d), inl (omega (arith, l, c)))
chained f g h (inr (e, inr (c, l))) (inr (d, inl m)) = inr (omega (arith, e, d), inl (omega (arith, m, c)))
chained f g h (inr (e, inr (c, l))) (inr (d, inr (b, m))) = inr (omega (arith, e, d), inr (omega (arith, c, b), omega (arith, l, m)))

-- ---- members

first_in : (x : Finding) (xs : List Finding) → Contains (x ∷ xs) x
first_in x xs = (0, omega arith, refl)

later_in : (x y : Finding) (xs : List Finding) → Contains xs y → Contains (x ∷ xs) y
later_in x y xs h = let l = h.1 in (suc h.0, omega (arith, l), h.2)

none_in : (x : Finding) → Contains [] x → ⊥
none_in x h = let l = h.1 in omega (arith, l)

first_or_later : (x y : Finding) (xs : List Finding) → Contains (x ∷ xs) y → (x ≡ y) ⊎ Contains xs y
first_or_later x y xs (zero, l, e) = inl e
first_or_later x y xs (suc k, l, e) = inr (k, omega (arith, l), e)

tail_rises : (x : Finding) (xs : List Finding) → Rise (x ∷ xs) → Rise xs
tail_rises x [] r = tt
tail_rises x (y ∷ ys) r = r.1

-- the first is before all others
all_behind : (x y : Finding) (xs : List Finding) → Rise (x ∷ xs) → Contains xs y → IsBefore x y
all_behind x y [] r h = absurd (none_in y h)
all_behind x y (z ∷ zs) r h = elim (first_or_later z y zs h) [
  | inl e ↦ subst (IsBefore x) e (before x z r.0)
  | inr w ↦ chained x z y (before x z r.0) (all_behind z y zs r.1 w)
]

not_itself : (x : Finding) → IsBefore x x → ⊥
not_itself x b = never_both x x b b

same_first : (x y : Finding) (xs ys : List Finding) → Rise (x ∷ xs) → Rise (y ∷ ys) → Contains (y ∷ ys) x → Contains (x ∷ xs) y → x ≡ y
same_first x y xs ys r s h k = elim (first_or_later y x ys h) [
  | inl e ↦ sym e
  | inr w ↦ elim (first_or_later x y xs k) [ inl e ↦ e | inr v ↦ absurd (never_both x y (all_behind x y xs r v) (all_behind y x ys s w)) ]
]

-- a member of the rest isn't the first one
in_rest : (x y : Finding) (xs ys : List Finding) → Rise (x ∷ xs) → Contains xs y → Contains (x ∷ ys) y → Contains ys y
in_rest x y xs ys r h k = elim (first_or_later x y ys k) [
  | inl e ↦ absurd (not_itself x (subst (IsBefore x) (sym e) (all_behind x y xs r h)))
  | inr w ↦ w
]

pub same_list : (xs ys : List Finding) → Rise xs → Rise ys → ((f : Finding) → Contains xs f → Contains ys f) → ((f : Finding) → Contains ys f → Contains xs f) → xs ≡ ys
same_list [] [] r s h k = refl
same_list [] (y ∷ ys) r s h k = absurd (none_in y (k y (first_in y ys)))
same_list (x ∷ xs) [] r s h k = absurd (none_in x (h x (first_in x xs)))
same_list (x ∷ xs) (y ∷ ys) r s h k =
    let e : x ≡ y = same_first x y xs ys r s (h x (first_in x xs)) (k y (first_in y ys)) in
    let rest : xs ≡ ys = same_list xs ys (tail_rises x xs r) (tail_rises y ys s)
    (λ f c. in_rest x f xs ys r c (subst (λ z. Contains (z ∷ ys) f) (sym e) (h f (later_in x f xs c))))
    (λ f c. in_rest y f ys xs s c (subst (λ z. Contains (z ∷ xs) f) e (k f (later_in y f ys c)))) in
    ap₂ (λ (z : Finding) (zs : List Finding). z ∷ zs) e rest

pub one_list : OneListLaw
one_list s one other a b = same_list one other a.order b.order (λ f c. b.all f (a.each f c)) (λ f c. a.all f (b.each f c))
