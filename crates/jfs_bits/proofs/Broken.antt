-- The first broken rule of a list: it is one alone, lists of rules one after another, and how a test finds it.
use Rattle.std.proofs.Common.{◌≡◌, ℕ, zero, suc, Bool, true, false, cond, List, [], ◌∷◌, ◌++◌, get_or, map, Option, Some, None, Decides, inl, inr, refl, sym, ap, ◌∙◌}
use Rattle.std.proofs.lemmas.Bool.{true≢false}
use Rattle.jfs_bits.specs.Broken.{AllHold, IsFirstBroken, Row, Holds, first_broken, row_of}

-- ---- the relation

-- where every rule holds, none is the first broken one
pub none_broken : {Name : Type 0} (holds : Name → Type 0) (rules : List Name) (broken : Name) → AllHold holds rules → IsFirstBroken holds rules broken → ⊥
none_broken holds [] broken all first = first
none_broken holds (rule ∷ rules) broken all (inl here) = here.1 all.0
none_broken holds (rule ∷ rules) broken all (inr later) = none_broken holds rules broken all.1 later.1

-- the first broken rule is one alone
pub same_broken : {Name : Type 0} (holds : Name → Type 0) (rules : List Name) (one other : Name) → IsFirstBroken holds rules one → IsFirstBroken holds rules other → one ≡ other
same_broken holds [] one other f g = absurd f
same_broken holds (rule ∷ rules) one other (inl f) (inl g) = f.0 ∙ sym g.0
same_broken holds (rule ∷ rules) one other (inl f) (inr g) = absurd (f.1 g.0)
same_broken holds (rule ∷ rules) one other (inr f) (inl g) = absurd (g.1 f.0)
same_broken holds (rule ∷ rules) one other (inr f) (inr g) = same_broken holds rules one other f.1 g.1

-- rules, and then others
pub broken_before : {Name : Type 0} (holds : Name → Type 0) (rules others : List Name) (broken : Name) → IsFirstBroken holds rules broken → IsFirstBroken holds (rules ++ others) broken
broken_before holds [] others broken first = absurd first
broken_before holds (rule ∷ rules) others broken (inl here) = inl here
broken_before holds (rule ∷ rules) others broken (inr later) = inr (later.0, broken_before holds rules others broken later.1)

pub broken_behind : {Name : Type 0} (holds : Name → Type 0) (rules others : List Name) (broken : Name) → AllHold holds rules → IsFirstBroken holds others broken → IsFirstBroken holds (rules ++ others) broken
broken_behind holds [] others broken all first = first
broken_behind holds (rule ∷ rules) others broken all first = inr (all.0, broken_behind holds rules others broken all.1 first)

pub all_hold : {Name : Type 0} (holds : Name → Type 0) (rules others : List Name) → AllHold holds rules → AllHold holds others → AllHold holds (rules ++ others)
all_hold holds [] others all also = also
all_hold holds (rule ∷ rules) others all also = (all.0, all_hold holds rules others all.1 also)

-- ---- the table

held : {A B : Type 0} (b : Bool) (answer : A) (rest : Option A) → cond b rest (Some answer) ≡ None → (b ≡ true → rest ≡ None → B) → B
held true answer rest e f = f refl e
held false answer rest e f = absurd cc

chosen : {A : Type 0} (b : Bool) (answer other : A) (rest longer : Option A) → cond b rest (Some answer) ≡ Some other → (rest ≡ Some other → longer ≡ Some other) → cond b longer (Some answer) ≡ Some other
chosen true answer other rest longer e f = f e
chosen false answer other rest longer e f = e

passed : {A : Type 0} (b : Bool) (answer : A) (longer z : Option A) → b ≡ true → longer ≡ z → cond b longer (Some answer) ≡ z
passed true answer longer z e f = f
passed false answer longer z e f = absurd cc

-- one table, and then another
pub later : {A : Type 0} (xs ys : List (Row A)) → first_broken xs ≡ None → first_broken (xs ++ ys) ≡ first_broken ys
later [] ys h = refl
later (r ∷ xs) ys h = held r.holds r.answer (first_broken xs) h (λ is rest. passed r.holds r.answer (first_broken (xs ++ ys)) (first_broken ys) is (later xs ys rest))

pub earlier : {A : Type 0} (xs ys : List (Row A)) (answer : A) → first_broken xs ≡ Some answer → first_broken (xs ++ ys) ≡ Some answer
earlier [] ys answer h = absurd cc
earlier (r ∷ xs) ys answer h = chosen r.holds r.answer answer (first_broken xs) (first_broken (xs ++ ys)) h (λ rest. earlier xs ys answer rest)

-- where no rule is broken, each holds; past the end of the table one holds that is given
pub each_holds : {A : Type 0} (rows : List (Row A)) (i : ℕ) (d : Row A) → first_broken rows ≡ None → d.holds ≡ true → (get_or rows i d).holds ≡ true
each_holds [] i d h e = e
each_holds (r ∷ rows) zero d h e = held r.holds r.answer (first_broken rows) h (λ is rest. is)
each_holds (r ∷ rows) (suc i) d h e = held r.holds r.answer (first_broken rows) h (λ is rest. each_holds rows i d rest e)

-- ---- a table finds exactly what the relation says

-- no row is broken exactly where each holds
pub first_broken-none : {A : Type 0} (rows : List (Row A)) → first_broken rows ≡ None → AllHold Holds rows
first_broken-none [] h = tt
first_broken-none (r ∷ rows) h = held r.holds r.answer (first_broken rows) h (λ is rest. (is, first_broken-none rows rest))

pub none-first_broken : {A : Type 0} (rows : List (Row A)) → AllHold Holds rows → first_broken rows ≡ None
none-first_broken [] all = refl
none-first_broken (r ∷ rows) all = passed r.holds r.answer (first_broken rows) None all.0 (none-first_broken rows all.1)

-- a row, its answer, and that it is the first that is broken
abbrev Finds : {A : Type 0} → List (Row A) → A → Type 0
Finds {A} rows answer = (row : Row A) × (row.answer ≡ answer) × IsFirstBroken Holds rows row

found : {A : Type 0} (b : Bool) (answer : A) (row : Row A) (rows : List (Row A)) (other : A) → row ≡ record { answer = answer; holds = b } → cond b (first_broken rows) (Some answer) ≡ Some other → (first_broken rows ≡ Some other → Finds rows other) → Finds (row ∷ rows) other
found true answer row rows other e h rest = let r = rest h in (r.0, r.1, inr (ap (λ (r : Row _). r.holds) e, r.2))
found false answer row rows other e h rest = (row, ap (λ (r : Row _). r.answer) e ∙ cc, inl (refl, λ is. true≢false (sym is ∙ ap (λ (r : Row _). r.holds) e)))

-- a row's answer is found exactly where it is the first that is broken
pub first_broken-some : {A : Type 0} (rows : List (Row A)) (answer : A) → first_broken rows ≡ Some answer → (row : Row A) × (row.answer ≡ answer) × IsFirstBroken Holds rows row
first_broken-some [] answer h = absurd cc
first_broken-some (r ∷ rows) answer h = found r.holds r.answer r rows answer refl h (first_broken-some rows answer)

stopped : {A : Type 0} (b : Bool) (answer : A) (rest : Option A) → ¬ (b ≡ true) → cond b rest (Some answer) ≡ Some answer
stopped true answer rest isnt = absurd (isnt refl)
stopped false answer rest isnt = refl

pub some-first_broken : {A : Type 0} (rows : List (Row A)) (row : Row A) → IsFirstBroken Holds rows row → first_broken rows ≡ Some row.answer
some-first_broken [] row first = absurd first
some-first_broken {A} (r ∷ rows) row (inl here) =
    stopped r.holds r.answer (first_broken rows) here.1 ∙ ap (λ (r : Row A). Some r.answer) (sym here.0)
some-first_broken (r ∷ rows) row (inr later) = passed r.holds r.answer (first_broken rows) (Some row.answer) later.0 (some-first_broken rows row later.1)

-- ---- rules that a test decides by their names

module _ {Name : Type 0} (holds : Name → Type 0) (test : Name → Bool) (decides : (rule : Name) → Decides (test rule) (holds rule)) where
  -- the test finds none exactly where all hold
  pub decided-none : (rules : List Name) → first_broken (map (row_of test) rules) ≡ None → AllHold holds rules
  decided-none [] h = tt
  decided-none (rule ∷ rules) h = held (test rule) rule (first_broken (map (row_of test) rules)) h (λ is rest. ((decides rule).0 is, decided-none rules rest))

  pub none-decided : (rules : List Name) → AllHold holds rules → first_broken (map (row_of test) rules) ≡ None
  none-decided [] all = refl
  none-decided (rule ∷ rules) all = passed (test rule) rule (first_broken (map (row_of test) rules)) None ((decides rule).1 all.0) (none-decided rules all.1)

  at_rule : (b : Bool) (rule : Name) (rules : List Name) (broken : Name) → (b ≡ true → holds rule) → (holds rule → b ≡ true) → cond b (first_broken (map (row_of test) rules)) (Some rule) ≡ Some broken → (first_broken (map (row_of test) rules) ≡ Some broken → IsFirstBroken holds rules broken) → IsFirstBroken holds (rule ∷ rules) broken
  at_rule true rule rules broken is only h rest = inr (is refl, rest h)
  at_rule false rule rules broken is only h rest = inl (cc, λ all. true≢false (sym (only all)))

  -- it finds a rule exactly where this is the first that is broken
  pub decided-some : (rules : List Name) (broken : Name) → first_broken (map (row_of test) rules) ≡ Some broken → IsFirstBroken holds rules broken
  decided-some [] broken h = absurd cc
  decided-some (rule ∷ rules) broken h = at_rule (test rule) rule rules broken (decides rule).0 (decides rule).1 h (decided-some rules broken)

  pub some-decided : (rules : List Name) (broken : Name) → IsFirstBroken holds rules broken → first_broken (map (row_of test) rules) ≡ Some broken
  some-decided [] broken first = absurd first
  some-decided (rule ∷ rules) broken (inl here) = stopped (test rule) rule (first_broken (map (row_of test) rules)) (λ is. here.1 ((decides rule).0 is)) ∙ ap Some (sym here.0)
  some-decided (rule ∷ rules) broken (inr later) = passed (test rule) rule (first_broken (map (row_of test) rules)) (Some broken) ((decides rule).1 later.0) (some-decided rules broken later.1)
