-- What the marks of whoever has both turns leave.
use Rattle.std.proofs.Common.{◌≡◌, ◌≤◌, ℕ, max, List, [], length, append-nil, refl, sym, ap, subst, ◌∙◌, arith}
use Rattle.jfs_turns.specs.Lists.{Base, IsPrefix}
use Rattle.jfs_turns.specs.Standing.{Standing, VolumeStands, LogStands}
use Rattle.jfs_turns.specs.Told.{raised}
use Rattle.jfs_turns.specs.Views.{Seated, aside, without, rejoined, took_all, got_points}
use Rattle.jfs_turns.specs.declared.view.View.{View}
use Rattle.jfs_groups.specs.Commit.{GoesOn}
use Rattle.jfs_groups.proofs.Leading.{max_is}
use Rattle.jfs_serving.specs.Held.{Knows, seen_of}
use Rattle.jfs_serving.specs.Room.{Seen, AreOf, HasRoom}
use Rattle.jfs_serving.proofs.Numbers.{raised_max, raised_thrice, front_is_short}

module _ {E : Type 0} where
  -- the seats of both halves once all is marked
  abbrev pub marked_main : View E → List ℕ → ℕ → ℕ → View E
  marked_main u ps k n =
      let t = took_all u in
      let g = got_points ps k (rejoined (without t) (aside t)) in
      record (without g) { durable = max g.durable n; log_durable = max g.log_durable n }

  abbrev pub marked_aside : View E → List ℕ → ℕ → View E
  marked_aside u ps k =
      let t = took_all u in
      aside (got_points ps k (rejoined (without t) (aside t)))

  abbrev pub marked : View E → List ℕ → ℕ → ℕ → View E
  marked u ps k n = rejoined (marked_main u ps k n) (marked_aside u ps k)

module _ {V L E : Type 0} (of_volume : Standing V E) (of_log : Standing L E) (count : V → ℕ) where
  -- what a commit or a syncpoint makes of both, by what both halves know
  pub together : (u : View E) (x : V) (y : L) (told known : ℕ) → of_volume x u.base u.list u.taken told u.points known → told ≤ u.durable → known ≤ u.stable → LogStands of_log y u → Knows u → AreOf of_volume of_log (seen_of u told known) x y
  together u x y told known stands low solid log knows = record {
    volume = stands;
    log = subst (λ ps. of_log y u.base u.log_list u.taken u.log_durable ps u.log_stable) knows.points log;
    front = knows.front;
    told_within = omega (arith, low, knows.durable_exact);
    durable_within = omega (arith, knows.durable_within, front_is_short u.log_list u.list knows.front);
    known_within = omega (arith, solid, knows.stable_exact);
    stable_within = omega (arith, knows.stable_within, ap (λ (ps : List ℕ). length ps) knows.points);
  }

  -- how many were acknowledged and taken, and what the log had, doesn't matter
  pub room_of_same : (n m : Seen E) (ps : List ℕ) (x : V) (y : L) → m.base ≡ n.base → m.list ≡ n.list → m.durable ≡ n.durable → m.points ≡ n.points → m.stable ≡ n.stable → HasRoom of_volume of_log count n ps x y → HasRoom of_volume of_log count m ps x y
  room_of_same n m ps x y base list durable points stable h = record {
    told = h.told;
    durable = h.durable;
    known = h.known;
    stable = h.stable;
    volume = subst {A = Base × List E} (λ z. of_volume x z.0 z.1 (length z.1) h.told ps h.known) (λ i. (sym base i, sym list i)) h.volume;
    log = subst {A = Base × List E} (λ z. of_log y z.0 z.1 (length z.1) h.durable ps h.stable) (λ i. (sym base i, sym list i)) h.log;
    counted = h.counted;
    told_within = h.told_within;
    durable_grows = omega (arith, durable, h.durable_grows);
    durable_within = omega (arith, h.durable_within, ap (λ (l : List E). length l) list);
    points_grow = subst (λ l. IsPrefix l ps) (sym points) h.points_grow;
    known_within = h.known_within;
    stable_grows = omega (arith, stable, h.stable_grows);
    stable_within = h.stable_within;
  }

  module _ (u : View E) (x : V) (y : L) (ps : List ℕ) (k n : ℕ) (knows : Knows u) (h : HasRoom of_volume of_log count (seen_of u 0 0) ps x y) (is : n ≡ h.durable) (solid : k ≡ h.stable) where
    durable_is : (marked u ps k n).durable ≡ n
    durable_is = raised_max u.durable u.log_durable n knows.durable_exact (omega (arith, is, h.durable_grows))

    log_durable_is : max u.log_durable n ≡ n
    log_durable_is = max_is u.log_durable n (omega (arith, is, h.durable_grows))

    stable_is : (marked u ps k n).stable ≡ k
    stable_is = raised_thrice u.stable u.log_stable k knows.stable_exact (omega (arith, solid, h.stable_grows))

    log_stable_is : max u.log_stable k ≡ k
    log_stable_is = max_is u.log_stable k (omega (arith, solid, h.stable_grows))

    pub marked_volume : VolumeStands of_volume x (marked u ps k n)
    marked_volume = (h.told, h.known, h.volume, omega (arith, durable_is, is, h.told_within), omega (arith, stable_is, solid, h.known_within))

    pub marked_log : LogStands of_log y (marked u ps k n)
    marked_log = subst {A = ℕ × ℕ} (λ z. of_log y u.base u.list (length u.list) z.0 ps z.1) (λ i. ((sym is ∙ sym log_durable_is) i, (sym solid ∙ sym log_stable_is) i)) h.log

    pub marked_knows : Knows (marked u ps k n)
    marked_knows = record {
      front = ([], append-nil u.list);
      points = refl;
      durable_exact = omega (arith, durable_is, log_durable_is);
      stable_exact = omega (arith, stable_is, log_stable_is);
      durable_within = omega (arith, log_durable_is, is, h.durable_within);
      durable_taken = omega (arith, log_durable_is, is, h.durable_within);
      stable_within = omega (arith, log_stable_is, solid, h.stable_within);
    }

    pub marked_goes : (client : E → ℕ) → GoesOn client u (marked u ps k n)
    marked_goes client = record {
      number = refl;
      base = refl;
      passes = (refl, refl, refl);
      list = ([], append-nil u.list, tt);
      points = h.points_grow;
      durable = omega (arith, durable_is, is, h.durable_grows, knows.durable_exact);
      stable = omega (arith, stable_is, solid, h.stable_grows, knows.stable_exact);
    }

module _ {V L E : Type 0} (of_volume : Standing V E) (of_log : Standing L E) (count : V → ℕ) where
  -- the seats m and a are those of u, all of whose entries are marked as taken
  pub room_marked : (u m a : View E) (ps : List ℕ) (x : V) (y : L) → m ≡ without (took_all u) → a ≡ aside (took_all u) → HasRoom of_volume of_log count (seen_of u 0 0) ps x y → HasRoom of_volume of_log count (seen_of (rejoined m a) 0 0) ps x y
  room_marked u m a ps x y main half h =
      subst {A = View E × View E} (λ z. HasRoom of_volume of_log count (seen_of (rejoined z.0 z.1) 0 0) ps x y) (λ i. (sym main i, sym half i))
      (room_of_same of_volume of_log count (seen_of u 0 0) (seen_of (rejoined (without (took_all u)) (aside (took_all u))) 0 0) ps x y refl refl refl refl refl h)

  pub room_back : (u m a : View E) (ps : List ℕ) (x : V) (y : L) → m ≡ without (took_all u) → a ≡ aside (took_all u) → HasRoom of_volume of_log count (seen_of (rejoined m a) 0 0) ps x y → HasRoom of_volume of_log count (seen_of u 0 0) ps x y
  room_back u m a ps x y main half h =
      room_of_same of_volume of_log count (seen_of (rejoined (without (took_all u)) (aside (took_all u))) 0 0) (seen_of u 0 0) ps x y refl refl refl refl refl
      (subst {A = View E × View E} (λ z. HasRoom of_volume of_log count (seen_of (rejoined z.0 z.1) 0 0) ps x y) (λ i. (main i, half i)) h)

-- the seats once all is marked, step by step
pub main_is : {V L E : Type 0} (u m a : View E) (s s' : Seated V L E) (ps : List ℕ) (k n : ℕ) → m ≡ without (took_all u) → a ≡ aside (took_all u) → s.0 ≡ without (got_points ps k (rejoined m a)) → raised n s s' → s'.0 ≡ marked_main u ps k n
main_is {E = E} u m a s s' ps k n main half points up =
    ap (λ z. z.0) up
    ∙ ap (λ (v : View E). record v { durable = max v.durable n; log_durable = max v.log_durable n }) (points ∙ (λ i. without (got_points ps k (rejoined (main i) (half i)))))

pub aside_is : {E : Type 0} (u m a half' : View E) (ps : List ℕ) (k : ℕ) → m ≡ without (took_all u) → a ≡ aside (took_all u) → half' ≡ aside (got_points ps k (rejoined m a)) → half' ≡ marked_aside u ps k
aside_is u m a half' ps k main half points = points ∙ (λ i. aside (got_points ps k (rejoined (main i) (half i))))

-- the count may be raised up to the length of the list
pub may_raise : {E : Type 0} (u m a v : View E) (ps : List ℕ) (k n : ℕ) → m ≡ without (took_all u) → a ≡ aside (took_all u) → v ≡ without (got_points ps k (rejoined m a)) → n ≤ length u.list → (n ≤ length v.log_list) × (n ≤ v.taken)
may_raise {E = E} u m a v ps k n main half points small =
    subst (λ (z : View E). (n ≤ length z.log_list) × (n ≤ z.taken)) (sym (points ∙ (λ i. without (got_points ps k (rejoined (main i) (half i)))))) (small, small)
