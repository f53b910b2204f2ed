-- What a pass knows goes on, step by step.
use Rattle.std.proofs.Common.{◌≡◌, ◌≤◌, ℕ, List, [], ◌∷◌, ◌++◌, false, sym, ap, subst, ◌∙◌, arith, append_assoc, append-nil}
use Rattle.jfs_turns.specs.Lists.{IsPrefix, Lacks, HasOwn}
use Rattle.jfs_turns.specs.Views.{Seated}
use Rattle.jfs_turns.specs.Told.{Learned, LearnedLog, saw_durable}
use Rattle.jfs_turns.specs.declared.view.View.{View}
use Rattle.jfs_groups.specs.Collects.{IsExact}
use Rattle.jfs_groups.specs.Commit.{GoesOn}

module _ {E : Type 0} (client : E → ℕ) where
  lacks_both : (k : ℕ) (xs ys : List E) → Lacks client k xs → Lacks client k ys → Lacks client k (xs ++ ys)
  lacks_both k [] ys a b = b
  lacks_both k (x ∷ xs) ys a b = (a.0, lacks_both k xs ys a.1 b)

  own_trans : (k : ℕ) (xs ys zs : List E) → HasOwn client k xs ys → HasOwn client k ys zs → HasOwn client k xs zs
  own_trans k xs ys zs a b = (a.0 ++ b.0, sym (append_assoc xs a.0 b.0) ∙ ap (λ (l : List E). l ++ b.0) a.1 ∙ b.1, lacks_both k a.0 b.0 a.2 b.2)

  prefix_trans : (xs ys zs : List ℕ) → IsPrefix xs ys → IsPrefix ys zs → IsPrefix xs zs
  prefix_trans xs ys zs a b = (a.0 ++ b.0, sym (append_assoc xs a.0 b.0) ∙ ap (λ (l : List ℕ). l ++ b.0) a.1 ∙ b.1)

  pub onwards : (u v w : View E) → GoesOn client u v → GoesOn client v w → GoesOn client u w
  onwards u v w a b = record {
    number = b.number ∙ a.number;
    base = b.base ∙ a.base;
    passes = (b.passes.0 ∙ a.passes.0, b.passes.1 ∙ a.passes.1, b.passes.2 ∙ a.passes.2);
    list = own_trans u.number u.list v.list w.list a.list (subst (λ (k : ℕ). HasOwn client k v.list w.list) a.number b.list);
    points = prefix_trans u.points v.points w.points a.points b.points;
    durable = omega (arith, a.durable, b.durable);
    stable = omega (arith, a.stable, b.stable);
  }

  -- the lists stay, and the bounds don't fall
  pub stays : (v w : View E) → w.number ≡ v.number → w.base ≡ v.base → (w.dealt ≡ v.dealt) × (w.back ≡ v.back) × (w.returned ≡ v.returned) → w.list ≡ v.list → w.points ≡ v.points → v.durable ≤ w.durable → v.stable ≤ w.stable → GoesOn client v w
  stays v w number base passes list points durable stable = record {
    number = number;
    base = base;
    passes = passes;
    list = ([], append-nil v.list ∙ sym list, tt);
    points = ([], append-nil v.points ∙ sym points);
    durable = durable;
    stable = stable;
  }

  -- the log turn is given
  pub given_log : (v w : View E) → w ≡ record v { log = false } → GoesOn client v w
  given_log v w e = stays v w (ap (λ (u : View E). u.number) e) (ap (λ (u : View E). u.base) e) (ap (λ (u : View E). u.dealt) e, ap (λ (u : View E). u.back) e, ap (λ (u : View E). u.returned) e)
      (ap (λ (u : View E). u.list) e) (ap (λ (u : View E). u.points) e) (omega (arith, ap (λ (u : View E). u.durable) e)) (omega (arith, ap (λ (u : View E). u.stable) e))

module _ {V L E : Type 0} (client : E → ℕ) where
  pub learned : (m m' : Seated V L E) → Learned client m m' → GoesOn client m.0 m'.0
  learned m m' l = let e = l.0 in record {
    number = ap (λ (v : View E). v.number) e;
    base = ap (λ (v : View E). v.base) e;
    passes = (ap (λ (v : View E). v.dealt) e, ap (λ (v : View E). v.back) e, ap (λ (v : View E). v.returned) e);
    list = l.1;
    points = l.2;
    durable = l.3;
    stable = l.4;
  }

  pub learned_log : (m m' : Seated V L E) → LearnedLog m m' → GoesOn client m.0 m'.0
  learned_log m m' l = let e = l.0 in
      stays client m.0 m'.0 (ap (λ (v : View E). v.number) e) (ap (λ (v : View E). v.base) e) (ap (λ (v : View E). v.dealt) e, ap (λ (v : View E). v.back) e, ap (λ (v : View E). v.returned) e)
      (ap (λ (v : View E). v.list) e) (ap (λ (v : View E). v.points) e) (omega (arith, l.1, ap (λ (v : View E). v.durable) e)) (omega (arith, l.2, ap (λ (v : View E). v.stable) e))

  pub exact_log : (m m' : Seated V L E) → LearnedLog m m' → IsExact m'.0
  exact_log m m' l = (ap (λ (v : View E). v.durable) l.0, ap (λ (v : View E). v.stable) l.0)

  -- the durable count is seen, and the log turn is taken and given
  pub looked : (m m' m'' : Seated V L E) (r : ℕ) (w : View E) → saw_durable m r m' → LearnedLog m' m'' → w ≡ record m''.0 { log = false } → GoesOn client m.0 w
  looked m m' m'' r w s l e = onwards client m.0 m'.0 w saw (onwards client m'.0 m''.0 w (learned_log m' m'' l) (given_log client m''.0 w e))
    where
      saw : GoesOn client m.0 m'.0
      saw = stays client m.0 m'.0 (ap (λ x. x.0.number) s.0) (ap (λ x. x.0.base) s.0) (ap (λ x. x.0.dealt) s.0, ap (λ x. x.0.back) s.0, ap (λ x. x.0.returned) s.0)
          (ap (λ x. x.0.list) s.0) (ap (λ x. x.0.points) s.0) (omega (arith, s.1, ap (λ x. x.0.durable) s.0)) (omega (arith, ap (λ x. x.0.stable) s.0))
