use Rattle.jfs_script.proofs.Reading.{skipped, asked_more}
use Rattle.jfs_script.proofs.reader.judge.Goals as goal

pub returns-in-Ok-None-clause-ok : goal.returns-in-Ok-None-clause-ok
returns-in-Ok-None-clause-ok c =
    λ ended n judged. skipped ended c.args.line.now c.args.asked.now.items (rw c.in_default.is at judged) (rw c.in-Ok-None.field-0-is at c.in-Ok-None.ensures)

pub returns-in_ok-push-in-Ok-Some-clause-ok : goal.returns-in_ok-push-in-Ok-Some-clause-ok
returns-in_ok-push-in-Ok-Some-clause-ok c =
    λ ended n judged. rw c.in_ok-push-in-Ok-Some.ensures.items (asked_more ended c.args.line.now c.args.asked.now.items c.args.number c.in-Ok-Some.request n (rw c.in_default.is at judged) (rw c.in-Ok-Some.field-0-is at c.in-Ok-Some.ensures))
