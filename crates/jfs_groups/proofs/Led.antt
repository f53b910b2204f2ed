-- The leader's group is written: what the log side stands for, and what the pass knows.
use Rattle.std.proofs.Common.{◌≡◌, ◌≤◌, ℕ, List, length, false, Option, refl, ap, ◌∙◌, arith}
use Rattle.std.proofs.lemmas.List.{length-append}
use Rattle.jfs_logpages.specs.declared.group_text.GroupText.{GroupText}
use Rattle.jfs_records.specs.Records.{Noted}
use Rattle.jfs_turns.specs.Lists.{Base, IsPrefix}
use Rattle.jfs_turns.specs.Views.{Seated}
use Rattle.jfs_turns.specs.Standing.{Standing, LogStands}
use Rattle.jfs_turns.specs.Told.{raised}
use Rattle.jfs_turns.specs.declared.view.View.{View}
use Rattle.jfs_groups.specs.Collects.{KeepsLog, KeepsCounts, Collects}
use Rattle.jfs_groups.specs.Start.{LogStart}
use Rattle.jfs_groups.specs.Commit.{GoesOn}
use Rattle.jfs_groups.proofs.Views.{onwards, given_log}
use Rattle.jfs_groups.proofs.Leading.{max_is, stands_at}

pub prefix_long : {A : Type 0} (xs ys : List A) → IsPrefix xs ys → length xs ≤ length ys
prefix_long xs ys p = omega (arith, ap (λ l. length l) p.1, length-append xs p.0)

module _ {V L E : Type 0} (client : E → ℕ) (logs : E → Option (List Noted)) (start : Base → LogStart) where
  -- v before the group was taken, w with it, x once the count is raised to the list's length
  pub raised_stands : (of_log : Standing L E) (y : L) (v : View E) (m m' : Seated V L E) (n : ℕ) (group : GroupText) → GoesOn client v m.0 → Collects logs start v m.0 group → v.log_durable ≤ length v.log_list → n ≡ group.last → raised n m m'
      → of_log y v.base m.0.list (length m.0.list) (length m.0.list) v.log_points v.log_stable → LogStands of_log y m'.0
  raised_stands of_log y v m m' n group goes c low is r s =
      let all : n ≡ length m.0.list = is ∙ c.group.last in
      let long = prefix_long v.log_list m.0.list c.before in
      stands_at of_log y m'.0 v.base m.0.list (length m.0.list) (length m.0.list) v.log_points v.log_stable s
      (ap (λ x. x.0.base) r ∙ goes.base)
      (ap (λ x. x.0.log_list) r ∙ c.log)
      (ap (λ x. x.0.taken) r ∙ c.all)
      (ap (λ x. x.0.log_durable) r ∙ (max_is m.0.log_durable n (omega (arith, c.keeps.0, low, long, all)) ∙ all))
      (ap (λ x. x.0.log_points) r ∙ c.keeps.2)
      (ap (λ x. x.0.log_stable) r ∙ c.keeps.1)

module _ {L E : Type 0} (client : E → ℕ) (of_log : Standing L E) where
  -- the log has failed: the log side stands for its counts
  pub failed_stands : (y : L) (v w u : View E) → GoesOn client v w → GoesOn client w u → KeepsLog v w → KeepsCounts w u → of_log y v.base u.log_list u.taken v.log_durable u.log_points v.log_stable → LogStands of_log y u
  failed_stands y v w u a b k l s = stands_at of_log y u v.base u.log_list u.taken v.log_durable u.log_points v.log_stable s (b.base ∙ a.base) refl refl (l.0 ∙ k.0) refl (l.1 ∙ k.1)

module _ {E : Type 0} (client : E → ℕ) where
  pub failed_goes : (v w u q : View E) → GoesOn client v w → GoesOn client w u → q ≡ record u { log = false } → GoesOn client v q
  failed_goes v w u q a b e = onwards client v w q a (onwards client w u q b (given_log client u q e))
