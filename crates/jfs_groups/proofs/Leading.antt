-- The leader: what it knows from the group that it takes to the write.
use Rattle.std.proofs.Common.{◌≡◌, ◌≤◌, ◌<◌, ◌⊎◌, ℕ, List, [], ◌∷◌, ◌++◌, length, max, true, false, Option, Some, sym, ap, subst, ◌∙◌, arith, append-nil, inl, inr}
use Rattle.std.proofs.Math.Nat.{le-max_left, le-max_right, max-le}
use Rattle.jfs_disk.specs.declared.disk.Fault.{Fault}
use Rattle.jfs_logpages.specs.declared.group_text.GroupText.{GroupText}
use Rattle.jfs_records.specs.Records.{Noted}
use Rattle.jfs_turns.specs.Lists.{Base, IsPrefix}
use Rattle.jfs_turns.specs.Views.{Seated, aside, without, rejoined, took_all, got_points}
use Rattle.jfs_turns.specs.Both.{AreHalvesOf, whole}
use Rattle.jfs_turns.specs.Standing.{Standing, VolumeStands, LogStands}
use Rattle.jfs_turns.specs.Told.{Learned}
use Rattle.jfs_turns.specs.declared.view.View.{View}
use Rattle.jfs_turns.specs.declared.both.BothTurns.{BothTurns}
use Rattle.jfs_groups.specs.Group.{IsGroupOf}
use Rattle.jfs_groups.specs.Collects.{IsExact, KeepsCounts, Collects}
use Rattle.jfs_groups.specs.Points.{halt_mark, syncs, IsMarked}
use Rattle.jfs_groups.specs.Start.{LogStart}
use Rattle.jfs_groups.specs.Commit.{GoesOn, HasFailed, IsLed, IsCommitted}
use Rattle.jfs_groups.specs.declared.committed.Committed.{Committed}
use Rattle.jfs_groups.specs.declared.committed.Committed.TheVariants.{Durable, Failed}
use Rattle.jfs_groups.proofs.Views.{onwards, stays, learned}

pub max_is : (a b : ℕ) → a ≤ b → max a b ≡ b
max_is a b h = let low = le-max_right a b in let high = max-le {a = a} {b = b} {k = b} h (omega arith) in omega (arith, low, high)

pub stays_greater : (a b : ℕ) → b ≤ a → max a b ≡ a
stays_greater a b h = let low = le-max_left a b in let high = max-le {a = a} {b = b} {k = a} (omega arith) h in omega (arith, low, high)

-- both halves of a view, put together again
abbrev pub again : {E : Type 0} → View E → View E
again k = rejoined (without k) (aside k)

pub behind_all : (points later : List ℕ) → (later ≡ points) ⊎ (later ≡ points ++ halt_mark ∷ []) → IsPrefix points later
behind_all points later (inl same) = ([], append-nil points ∙ sym same)
behind_all points later (inr more) = (halt_mark ∷ [], sym more)

module _ {V L E : Type 0} where
  pub halves_again : (k : View E) (both : BothTurns V L E) → AreHalvesOf k both → whole both ≡ again k
  halves_again k both h = ap (λ (p : View E). rejoined p both.volume.seat.me.0) h.0 ∙ ap (λ (q : View E). rejoined (without k) q) h.1

  -- the volume stands for what the halves have once all is taken
  pub taken_stands : (of_volume : Standing V E) (x : V) (v : View E) (both : BothTurns V L E) → AreHalvesOf (took_all v) both → (told known : ℕ) → of_volume x v.base v.list (length v.list) told v.points known → told ≤ v.durable → known ≤ v.stable → VolumeStands of_volume x (whole both)
  taken_stands of_volume x v both h told known s t k = subst (λ (w : View E). VolumeStands of_volume x w) (sym (halves_again (took_all v) both h))
      (told, known, s, omega (arith, t, le-max_left v.durable v.log_durable), omega (arith, k, le-max_left v.stable v.log_stable))

  module _ (client : E → ℕ) (logs : E → Option (List Noted)) (start : Base → LogStart) where
    -- from the log turn to the group: v before, u with both turns, w once the volume turn is given
    pub collects : (m m' : Seated V L E) (w : View E) (both : BothTurns V L E) (group : GroupText) → m.0.log ≡ true → Learned client m m' → AreHalvesOf (took_all m'.0) both → w ≡ record (whole both) { volume = false; appends = false }
        → IsGroupOf logs (start m'.0.base).ring m'.0.list m'.0.taken (syncs m'.0.points) group → GoesOn client m.0 w × IsExact w × Collects logs start m.0 w group
    collects m m' w both group has l h e g = (
      onwards client m.0 m'.0 w (learned client m m' l) goes,
      (
        ap (λ (x : View E). x.durable) is ∙ (max_is m'.0.durable m'.0.log_durable (omega (arith, b.1, own)) ∙ (own ∙ sym log_durable)),
        ap (λ (x : View E). x.stable) is ∙ (max_is m'.0.stable m'.0.log_stable (omega (arith, b.2, own_stable)) ∙ (own_stable ∙ sym log_stable)),
      ),
      record {
        keeps = (log_durable, log_stable, ap (λ (x : View E). x.log_points) is ∙ ap (λ (x : View E). x.log_points) l.0);
        all = ap (λ (x : View E). x.taken) is ∙ sym (ap (λ (x : View E). length x.list) is);
        log = ap (λ (x : View E). x.log_list) is ∙ sym (ap (λ (x : View E). x.list) is);
        before = subst (λ (es : List E). IsPrefix m.0.log_list es) (sym (ap (λ (x : View E). x.list) is)) b.3;
        group = subst {A = Base × List E × ℕ × List ℕ} (λ z. IsGroupOf logs (start z.0).ring z.1 z.2 (syncs z.3) group) (λ k. (ap (λ (x : View E). x.base) l.0 k, sym (ap (λ (x : View E). x.list) is) k, b.0 k, sym b.4 k)) g;
      },
    )
      where
        b : (m'.0.taken ≡ m.0.taken) × (m'.0.durable ≡ m.0.log_durable) × (m'.0.stable ≡ m.0.log_stable) × IsPrefix m.0.log_list m'.0.list × (m.0.log_points ≡ m'.0.points)
        b = l.6 has

        is : w ≡ record (again (took_all m'.0)) { volume = false; appends = false }
        is = e ∙ ap (λ (x : View E). record x { volume = false; appends = false }) (halves_again (took_all m'.0) both h)

        own : m'.0.log_durable ≡ m.0.log_durable
        own = ap (λ (x : View E). x.log_durable) l.0

        own_stable : m'.0.log_stable ≡ m.0.log_stable
        own_stable = ap (λ (x : View E). x.log_stable) l.0

        log_durable : w.log_durable ≡ m.0.log_durable
        log_durable = ap (λ (x : View E). x.log_durable) is ∙ own

        log_stable : w.log_stable ≡ m.0.log_stable
        log_stable = ap (λ (x : View E). x.log_stable) is ∙ own_stable

        goes : GoesOn client m'.0 w
        goes = stays client m'.0 w (ap (λ (x : View E). x.number) is) (ap (λ (x : View E). x.base) is) (ap (λ (x : View E). x.dealt) is, ap (λ (x : View E). x.back) is, ap (λ (x : View E). x.returned) is)
            (ap (λ (x : View E). x.list) is) (ap (λ (x : View E). x.points) is) (omega (arith, ap (λ (x : View E). x.durable) is, le-max_left m'.0.durable m'.0.log_durable)) (omega (arith, ap (λ (x : View E). x.stable) is, le-max_left m'.0.stable m'.0.log_stable))

  -- ---- the log has halted

  -- the volume stands for what the halves have once the syncpoints are those of ps
  pub halted_stands : (of_volume : Standing V E) (x : V) (v : View E) (ps : List ℕ) (k : ℕ) (both : BothTurns V L E) → AreHalvesOf (got_points ps k v) both → VolumeStands of_volume x (record v { points = ps }) → VolumeStands of_volume x (whole both)
  halted_stands of_volume x v ps k both h s = subst (λ (w : View E). VolumeStands of_volume x w) (sym (halves_again (got_points ps k v) both h)) (
    s.0,
    s.1,
    s.2,
    omega (arith, s.3, le-max_left v.durable v.log_durable),
    omega (arith, s.4, le-max_left v.stable k, le-max_left (max v.stable k) (max v.log_stable k)),
  )

  -- from the log turn to the mark: w once the volume turn is given
  pub halts : (client : E → ℕ) (m m' : Seated V L E) (w : View E) (ps : List ℕ) (k : ℕ) (both : BothTurns V L E) → m.0.log ≡ true → Learned client m m' → IsMarked m'.0.points ps → k ≤ m.0.log_stable → AreHalvesOf (got_points ps k m'.0) both
      → w ≡ record (whole both) { volume = false; appends = false } → GoesOn client m.0 w × IsExact w × KeepsCounts m.0 w
  halts client m m' w ps k both has l more few h e = (
    onwards client m.0 m'.0 w (learned client m m' l) record {
      number = ap (λ (x : View E). x.number) is;
      base = ap (λ (x : View E). x.base) is;
      passes = (ap (λ (x : View E). x.dealt) is, ap (λ (x : View E). x.back) is, ap (λ (x : View E). x.returned) is);
      list = ([], append-nil m'.0.list ∙ sym (ap (λ (x : View E). x.list) is), tt);
      points = subst (λ (qs : List ℕ). IsPrefix m'.0.points qs) (sym (ap (λ (x : View E). x.points) is)) (more.0, more.1);
      durable = omega (arith, ap (λ (x : View E). x.durable) is, le-max_left m'.0.durable m'.0.log_durable);
      stable = omega (arith, ap (λ (x : View E). x.stable) is, le-max_left m'.0.stable k, le-max_left (max m'.0.stable k) (max m'.0.log_stable k));
    },
    (
      ap (λ (x : View E). x.durable) is ∙ (max_is m'.0.durable m'.0.log_durable (omega (arith, b.1, own)) ∙ sym (ap (λ (x : View E). x.log_durable) is)),
      ap (λ (x : View E). x.stable) is ∙ (max_is (max m'.0.stable k) (max m'.0.log_stable k) small ∙ sym (ap (λ (x : View E). x.log_stable) is)),
    ),
    (
      ap (λ (x : View E). x.log_durable) is ∙ own,
      ap (λ (x : View E). x.log_stable) is ∙ (stays_greater m'.0.log_stable k (omega (arith, few, own_stable)) ∙ own_stable),
      ap (λ (x : View E). x.log_list) is ∙ ap (λ (x : View E). x.log_list) l.0,
      ap (λ (x : View E). x.taken) is ∙ b.0,
      subst (λ (qs : List ℕ). IsMarked m.0.log_points qs) (sym (ap (λ (x : View E). x.log_points) is)) (subst (λ (qs : List ℕ). IsMarked qs ps) (sym b.4) more),
    ),
  )
    where
      b : (m'.0.taken ≡ m.0.taken) × (m'.0.durable ≡ m.0.log_durable) × (m'.0.stable ≡ m.0.log_stable) × IsPrefix m.0.log_list m'.0.list × (m.0.log_points ≡ m'.0.points)
      b = l.6 has

      is : w ≡ record (again (got_points ps k m'.0)) { volume = false; appends = false }
      is = e ∙ ap (λ (x : View E). record x { volume = false; appends = false }) (halves_again (got_points ps k m'.0) both h)

      own : m'.0.log_durable ≡ m.0.log_durable
      own = ap (λ (x : View E). x.log_durable) l.0

      own_stable : m'.0.log_stable ≡ m.0.log_stable
      own_stable = ap (λ (x : View E). x.log_stable) l.0

      small : max m'.0.stable k ≤ max m'.0.log_stable k
      small = max-le {a = m'.0.stable} {b = k} {k = max m'.0.log_stable k} (omega (arith, b.2, own_stable, le-max_left m'.0.log_stable k)) (le-max_right m'.0.log_stable k)

module _ {L E : Type 0} (of_log : Standing L E) where
  -- what a log side stands for, by the view's names
  pub stands_at : (y : L) (w : View E) (base : Base) (list : List E) (taken durable : ℕ) (points : List ℕ) (stable : ℕ) → of_log y base list taken durable points stable → w.base ≡ base → w.log_list ≡ list → w.taken ≡ taken → w.log_durable ≡ durable → w.log_points ≡ points → w.log_stable ≡ stable → LogStands of_log y w
  stands_at y w base list taken durable points stable s b l t d p k =
      subst {A = Base × List E × ℕ × ℕ × List ℕ × ℕ} (λ z. of_log y z.0 z.1 z.2 z.3 z.4 z.5) (λ i. (sym b i, sym l i, sym t i, sym d i, sym p i, sym k i)) s

  -- the log side that has failed, as the pass knows it
  pub has_failed : (halted : L → Option Fault) (y : L) (w q : View E) (n : ℕ) (fault : Fault) → LogStands of_log y w → IsExact w → q ≡ record w { log = false } → halted y ≡ Some fault → w.log_durable < n → HasFailed of_log halted n q fault
  has_failed halted y w q n fault s x e halts past = let many : q.durable ≡ w.log_durable = ap (λ (u : View E). u.durable) e ∙ x.0 in record {
    log = y;
    list = w.log_list;
    taken = w.taken;
    points = w.log_points;
    stable = w.log_stable;
    stands = subst {A = Base × ℕ} (λ z. of_log y z.0 w.log_list w.taken z.1 w.log_points w.log_stable) (λ i. (sym (ap (λ (u : View E). u.base) e) i, sym many i)) s;
    halts = halts;
    past = omega (arith, many, past);
  }

  -- what the leader tells is what a commit tells
  pub led_commits : (halted : L → Option Fault) (n : ℕ) (v w : View E) (r : Committed) → IsLed of_log halted n w r → IsCommitted of_log halted n v w r
  led_commits halted n v w Durable led = (led.0, inr led.1)
  led_commits halted n v w (Failed fault) led = led
