-- What whoever has both turns knows once both sides have a mark that the log has halted.
use Rattle.std.proofs.Common.{◌≡◌, ℕ, max, List, [], length, append-nil, refl, sym, ap, subst, arith}
use Rattle.std.proofs.Math.Nat.{le-max_left}
use Rattle.jfs_turns.specs.Lists.{IsPrefix}
use Rattle.jfs_turns.specs.Standing.{Standing, LogStands}
use Rattle.jfs_turns.specs.Views.{got_points}
use Rattle.jfs_turns.specs.declared.view.View.{View}
use Rattle.jfs_groups.specs.Commit.{GoesOn}
use Rattle.jfs_groups.proofs.Leading.{again, stays_greater, max_is}
use Rattle.jfs_serving.specs.Held.{Knows}
use Rattle.jfs_serving.proofs.Numbers.{front_is_short}

module _ {E : Type 0} (u : View E) (ps : List ℕ) (k : ℕ) (knows : Knows u) (more : IsPrefix u.points ps) (solid : k ≡ u.log_stable) where
  abbrev w : View E
  w = again (got_points ps k u)

  stable_is : max u.log_stable k ≡ u.log_stable
  stable_is = stays_greater u.log_stable k (omega (arith, solid))

  bound_is : max (max u.stable k) (max u.log_stable k) ≡ max u.log_stable k
  bound_is = max_is (max u.stable k) (max u.log_stable k) (omega (arith, stable_is, solid, max_is u.stable k (omega (arith, knows.stable_exact, solid))))

  durable_is : max u.durable u.log_durable ≡ u.log_durable
  durable_is = max_is u.durable u.log_durable knows.durable_exact

  pub halted_log : {L : Type 0} (of_log : Standing L E) (y : L) → of_log y u.base u.log_list u.taken u.log_durable ps u.log_stable → LogStands of_log y w
  halted_log of_log y s = subst (λ (n : ℕ). of_log y u.base u.log_list u.taken u.log_durable ps n) (sym stable_is) s

  pub halted_knows : Knows w
  halted_knows = record {
    front = knows.front;
    points = refl;
    durable_exact = omega (arith, durable_is);
    stable_exact = omega (arith, bound_is);
    durable_within = knows.durable_within;
    durable_taken = knows.durable_taken;
    stable_within = omega (arith, stable_is, knows.stable_within, ap (λ (l : List ℕ). length l) knows.points, front_is_short u.points ps more);
  }

  pub halted_goes : (client : E → ℕ) → GoesOn client u w
  halted_goes client = record {
    number = refl;
    base = refl;
    passes = (refl, refl, refl);
    list = ([], append-nil u.list, tt);
    points = more;
    durable = le-max_left u.durable u.log_durable;
    stable = omega (arith, bound_is, stable_is, knows.stable_exact);
  }
