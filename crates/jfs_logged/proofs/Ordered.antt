-- Parts of a transaction in another order.
use Rattle.std.proofs.Common.{◌≡◌, ◌⊎◌, ◌||◌, ℕ, Bool, true, false, List, [], ◌∷◌, ◌++◌, length, refl, sym, ap, ◌∙◌, inl, inr}
use Rattle.std.proofs.lemmas.Bool.{cond-true, cond-false}
use Rattle.jfs_ranges.specs.declared.edit.Edit.{Edit}
use Rattle.jfs_ranges.specs.Apply.{apply_tx, touches_edit, touches_tx}
use Rattle.jfs_ranges.proofs.OnTop.{applied_onto}
use Rattle.jfs_recovery.specs.crash_core.proofs.Bytes.{length-apply_tx}
use Rattle.jfs_recovery.specs.records.specs.Redo.{closes_in}
use Rattle.jfs_recovery.specs.Lines.{rest_of}
use Rattle.jfs_recovery.proofs.Lines.{all_rest}
use Rattle.jfs_logged.specs.Logged.{LeavesPage, LogsPage, logged_in}
use Rattle.jfs_logged.specs.Own.{LogsItsOwn, OrderLaw}
use Rattle.jfs_logged.proofs.Joined.{closes_onto, rest_onto}

swap : (a b c : Bool) → (a || (b || c)) ≡ (b || (a || c))
swap true true c = refl
swap true false c = refl
swap false b c = refl

-- whether edits have lines of a page, one part after another
same_touches : (p : ℕ) (tx more last : List Edit) → touches_tx p (more ++ (tx ++ last)) ≡ touches_tx p (tx ++ (more ++ last))
same_touches p tx more last =
    touched p more (tx ++ last) ∙ ap (λ (b : Bool). touches_tx p more || b) (touched p tx last) ∙ swap (touches_tx p more) (touches_tx p tx) (touches_tx p last)
    ∙ sym (touched p tx (more ++ last) ∙ ap (λ (b : Bool). touches_tx p tx || b) (touched p more last))
  where
    assoc : (a b c : Bool) → (a || (b || c)) ≡ ((a || b) || c)
    assoc true b c = refl
    assoc false b c = refl

    touched : (p : ℕ) (xs ys : List Edit) → touches_tx p (xs ++ ys) ≡ (touches_tx p xs || touches_tx p ys)
    touched p [] ys = refl
    touched p (e ∷ es) ys = ap (λ (b : Bool). touches_edit p e || b) (touched p es ys) ∙ assoc (touches_edit p e) (touches_tx p es) (touches_tx p ys)

-- what redo makes of one part after another
module _ (p : ℕ) (last : List Edit) where
  abbrev redone : List Edit → List ℕ → List ℕ
  redone tx a = apply_tx p (rest_of p tx) a

  later : (x y : List Edit) (a : List ℕ) → closes_in p y ≡ true → redone (x ++ y) a ≡ redone y a
  later x y a e = ap (λ (tx : List Edit). apply_tx p tx a) (rest_onto p x y ∙ cond-true (closes_in p y) (rest_of p y) (rest_of p x ++ y) e)

  onto : (x y : List Edit) (a : List ℕ) → closes_in p y ≡ false → redone (x ++ y) a ≡ apply_tx p y (redone x a)
  onto x y a e = ap (λ (tx : List Edit). apply_tx p tx a) (rest_onto p x y ∙ cond-false (closes_in p y) (rest_of p y) (rest_of p x ++ y) e) ∙ applied_onto p (rest_of p x) y a

  both : (y : List Edit) (c d : Bool) → closes_in p y ≡ c → closes_in p last ≡ d → closes_in p (y ++ last) ≡ (c || d)
  both y c d e f = closes_onto p y last ∙ ap (λ (b : Bool). b || closes_in p last) e ∙ ap (λ (b : Bool). c || b) f

  -- where the last part has a NoRedo
  ends : (x y : List Edit) (a : List ℕ) → closes_in p last ≡ true → redone (x ++ (y ++ last)) a ≡ redone last a
  ends x y a e = later x (y ++ last) a (by (closes_in p y) refl) ∙ later y last a e
    where
      by : (c : Bool) → closes_in p y ≡ c → closes_in p (y ++ last) ≡ true
      by true h = both y true true h e
      by false h = both y false true h e

  -- where the part before it has the last one
  begins : (x y : List Edit) (a : List ℕ) → closes_in p y ≡ true → closes_in p last ≡ false → redone (x ++ (y ++ last)) a ≡ apply_tx p last (redone y a)
  begins x y a c e = later x (y ++ last) a (both y true false c e) ∙ onto y last a e

  -- where neither has one
  none : (x y : List Edit) (a : List ℕ) → closes_in p y ≡ false → closes_in p last ≡ false → redone (x ++ (y ++ last)) a ≡ apply_tx p last (apply_tx p y (redone x a))
  none x y a c e = onto x (y ++ last) a (both y false false c e) ∙ applied_onto p y last (redone x a)

  module _ (tx more : List Edit) (quiet : LeavesPage p more) (apart : closes_in p more ≡ true → (closes_in p tx ≡ false) × LeavesPage p tx) where
    sized : (x : List Edit) (a : List ℕ) → length a ≡ 4096 → length (redone x a) ≡ 4096
    sized x a s = length-apply_tx p (rest_of p x) a ∙ s

    whole : (x : List Edit) (a : List ℕ) → closes_in p x ≡ false → redone x a ≡ apply_tx p x a
    whole x a e = ap (λ (tx : List Edit). apply_tx p tx a) (all_rest p x e)

    same : (a : List ℕ) → length a ≡ 4096 → (l m t : Bool) → closes_in p last ≡ l → closes_in p more ≡ m → closes_in p tx ≡ t → redone (more ++ (tx ++ last)) a ≡ redone (tx ++ (more ++ last)) a
    same a s true m t l c d = ends more tx a l ∙ sym (ends tx more a l)
    same a s false true t l c d = none more tx a (apart c).0 l ∙ ap (apply_tx p last) ((apart c).1 (redone more a) (sized more a s)) ∙ sym (begins tx more a c l)
    same a s false false true l c d = begins more tx a d l ∙ sym (none tx more a c l ∙ ap (apply_tx p last) (quiet (redone tx a) (sized tx a s)))
    same a s false false false l c d =
        none more tx a d l ∙ ap (λ (b : List ℕ). apply_tx p last (apply_tx p tx b)) (whole more a c ∙ quiet a s)
        ∙ sym (none tx more a c l ∙ ap (apply_tx p last) (quiet (redone tx a) (sized tx a s) ∙ whole tx a d))

    pub same_redone : (a : List ℕ) → length a ≡ 4096 → redone (more ++ (tx ++ last)) a ≡ redone (tx ++ (more ++ last)) a
    same_redone a s = same a s (closes_in p last) (closes_in p more) (closes_in p tx) refl refl refl

  pub same_closes : (tx more : List Edit) → closes_in p (more ++ (tx ++ last)) ≡ closes_in p (tx ++ (more ++ last))
  same_closes tx more =
      closes_onto p more (tx ++ last) ∙ ap (λ (b : Bool). closes_in p more || b) (closes_onto p tx last) ∙ swap (closes_in p more) (closes_in p tx) (closes_in p last)
      ∙ sym (closes_onto p tx (more ++ last) ∙ ap (λ (b : Bool). closes_in p tx || b) (closes_onto p more last))

pub order_law : OrderLaw
order_law r v w tx more last pages quiet apart part = record {
  own = record {
    before = logs.before;
    after = logs.after;
    areas = logs.areas;
    owners = logs.owners;
    pages = pages;
    logs = page;
    untold = λ p area. same_touches p tx more last ∙ logs.untold p area;
    closed = λ p some was. logs.closed p (sym (same_closes p last tx more) ∙ some) was;
    told = λ p told. logs.told p (sym (same_touches p tx more last) ∙ told);
    comes = logs.comes;
  };
  kept = λ p told. part.kept p (sym (same_touches p tx more last) ∙ told);
}
  where
    logs : LogsItsOwn r v w (tx ++ (more ++ last))
    logs = part.own

    page : (p : ℕ) → LogsPage p (logged_in r v p) (logged_in r w p) (more ++ (tx ++ last)) (w.page p)
    page p = record {
      whole = λ there why a s. same_redone p last tx more (quiet p) (apart p) a s ∙ (logs.logs p).whole there (other why) a s;
      shut = λ gone a s. same_redone p last tx more (quiet p) (apart p) a s ∙ (logs.logs p).shut gone a s;
      noted = λ gone there. same_closes p last tx more ∙ (logs.logs p).noted gone there;
    }
      where
        other : (closes_in p (more ++ (tx ++ last)) ≡ true) ⊎ (logged_in r v p ≡ false) → (closes_in p (tx ++ (more ++ last)) ≡ true) ⊎ (logged_in r v p ≡ false)
        other (inl c) = inl (sym (same_closes p last tx more) ∙ c)
        other (inr out) = inr out
