-- What whoever has both turns knows.
use Rattle.std.proofs.Common.{◌≡◌, ℕ, List, length, true, sym, ap, subst, ◌∙◌, arith}
use Rattle.jfs_turns.specs.Lists.{IsPrefix}
use Rattle.jfs_turns.specs.Standing.{Standing, LogStands}
use Rattle.jfs_turns.specs.Told.{Learned, LearnedLog}
use Rattle.jfs_turns.specs.Views.{Seated}
use Rattle.jfs_turns.specs.declared.view.View.{View}
use Rattle.jfs_groups.proofs.Leading.{stands_at}
use Rattle.jfs_serving.specs.Held.{Knows}

module _ {V L E : Type 0} (client : E → ℕ) where
  -- v before any turn, m with the log turn, u with both
  pub knows_both : (v m u : Seated V L E) → LearnedLog v m → Learned client m u → m.0.log ≡ true → Knows u.0
  knows_both v m u first then has =
      let b = then.6 has in
      let e = then.0 in
      let log_list : u.0.log_list ≡ m.0.log_list = ap (λ (x : View E). x.log_list) e in
      let log_points : u.0.log_points ≡ m.0.log_points = ap (λ (x : View E). x.log_points) e in
      let log_durable : u.0.log_durable ≡ m.0.log_durable = ap (λ (x : View E). x.log_durable) e in
      let log_stable : u.0.log_stable ≡ m.0.log_stable = ap (λ (x : View E). x.log_stable) e in
      let order = first.3 in
      record {
        front = subst (λ l. IsPrefix l u.0.list) (sym log_list) b.3;
        points = log_points ∙ b.4;
        durable_exact = omega (arith, b.1, log_durable);
        stable_exact = omega (arith, b.2, log_stable);
        durable_within = omega (arith, log_durable, order.1, ap (λ (l : List E). length l) log_list);
        durable_taken = omega (arith, log_durable, order.0, b.0);
        stable_within = omega (arith, log_stable, order.2, ap (λ (l : List ℕ). length l) log_points);
      }

  pub log_stands : (of_log : Standing L E) (y z : L) (m u : Seated V L E) → LogStands of_log y m.0 → z ≡ y → Learned client m u → m.0.log ≡ true → LogStands of_log z u.0
  log_stands of_log y z m u s same then has =
      let e = then.0 in
      subst (λ x. LogStands of_log x u.0) (sym same)
      (stands_at of_log y u.0 m.0.base m.0.log_list m.0.taken m.0.log_durable m.0.log_points m.0.log_stable s
      (ap (λ (x : View E). x.base) e) (ap (λ (x : View E). x.log_list) e) (then.6 has).0 (ap (λ (x : View E). x.log_durable) e) (ap (λ (x : View E). x.log_points) e) (ap (λ (x : View E). x.log_stable) e))
