use Rattle.std.proofs.Common.{◌++◌, ◌∷◌, [], List, ℕ, subst, rules}
use Rattle.jfs_script.specs.Lines.{lines_of}
use Rattle.jfs_script.specs.Progress.{Judged}
use Rattle.jfs_script.proofs.Reading.{few_lines, judged_none, judged_open}
use Rattle.jfs_script.proofs.reader.Reader.finish.Goals as goal
use Rattle.jfs_script.proofs.reader.Reader.finish.Goals.{then-not-is_empty+in_ok-bad, else-not-is_empty}

pub returns-in-None : goal.returns-in-None
returns-in-None c =
    let r = c.args.self in
    λ front read.
    let judged : Judged (lines_of front) c.if-not-is_empty.bad c.if-not-is_empty.asked.items =
    elim c.if-not-is_empty.branch [
      | then-not-is_empty+in_ok-bad w ↦ rw (w.asked-is, w.bad-is) (judged_open front r w.in_ok-bad.bad w.judge.new.asked.items read (search rules)
          (λ ended n j. subst (λ (z : List ℕ). Judged (ended ++ z ∷ []) w.in_ok-bad.bad w.judge.new.asked.items) w.deref.ensures.value (w.in_ok-bad.ensures.ok ended n j)))
      | else-not-is_empty w ↦ rw (w.asked-is, w.bad-is) (judged_none front r read (search rules))
    ] in
    (few_lines front r read, rw c.in-None.is at judged)

pub returns-in-Some : goal.returns-in-Some
returns-in-Some c =
    let r = c.args.self in
    λ front read.
    let judged : Judged (lines_of front) c.if-not-is_empty.bad c.if-not-is_empty.asked.items =
    elim c.if-not-is_empty.branch [
      | then-not-is_empty+in_ok-bad w ↦ rw (w.asked-is, w.bad-is) (judged_open front r w.in_ok-bad.bad w.judge.new.asked.items read (search rules)
          (λ ended n j. subst (λ (z : List ℕ). Judged (ended ++ z ∷ []) w.in_ok-bad.bad w.judge.new.asked.items) w.deref.ensures.value (w.in_ok-bad.ensures.ok ended n j)))
      | else-not-is_empty w ↦ rw (w.asked-is, w.bad-is) (judged_none front r read (search rules))
    ] in
    (few_lines front r read, rw c.in-Some.is at judged)
