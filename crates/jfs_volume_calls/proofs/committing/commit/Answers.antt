use Rattle.std.proofs.Common.{◌∙◌}
use Rattle.jfs_volume.specs.halves.specs.Both.{after}
use Rattle.jfs_volume_calls.specs.Together.{log_parts}
use Rattle.jfs_volume_calls.proofs.Chained.{commit_closes}
use Rattle.jfs_volume_calls.proofs.Kept.{group_settles, group_pages, told_settles, told_pages}
use Rattle.jfs_volume_calls.proofs.committing.commit.Goals as goal

pub returns-in-Ok-clause-commit : goal.returns-in-Ok-clause-commit
returns-in-Ok-clause-commit g c seen asked told crashes both s t none =
    let w = c.in-Ok.ensures.write seen asked told crashes both s t none in
    let m = c.told_all.ensures.told seen asked told crashes (after both w.written).volume w.closes.moves.stands in
    commit_closes seen asked c.args.volume.now c.write_waiting.new.volume c.told_all.new.self (log_parts g.D.Disk c.write_waiting.new.log) both m.0 s w (c.in-Ok.ensures.taken ∙ c.in-Ok.ensures.counts.0) m.1

pub returns-in-Err-clause-commit : goal.returns-in-Err-clause-commit
returns-in-Err-clause-commit g c seen asked told crashes both s t none = c.in-Err.ensures.write seen asked told crashes both s t none

pub returns-in-Ok-clause-settles : goal.returns-in-Ok-clause-settles
returns-in-Ok-clause-settles g c = told_settles c.args.volume.now c.write_waiting.new.volume c.told_all.new.self c.write_waiting.ensures.parts c.told_all.ensures.parts

pub returns-in-Ok-clause-files : goal.returns-in-Ok-clause-files
returns-in-Ok-clause-files g c = told_pages g.D.Disk.tells c.args.volume.now c.write_waiting.new.volume c.told_all.new.self c.write_waiting.ensures.parts c.told_all.ensures.parts c.told_all.ensures.shows

pub returns-in-Err-clause-settles : goal.returns-in-Err-clause-settles
returns-in-Err-clause-settles g c = group_settles c.args.volume.now c.write_waiting.new.volume c.write_waiting.ensures.parts

pub returns-in-Err-clause-files : goal.returns-in-Err-clause-files
returns-in-Err-clause-files g c = group_pages g.D.Disk.tells c.args.volume.now c.write_waiting.new.volume c.write_waiting.ensures.parts
