use Rattle.std.proofs.Common.{rules}
use Rattle.jfs_turns_rows.proofs.Callers.{caller_at, keeps_at, still_callers}
use Rattle.jfs_turns_rows.proofs.at_once.work_at_once.Goals as goal

pub for_each_mut-requires-clause-accepts : goal.for_each_mut-requires-clause-accepts
for_each_mut-requires-clause-accepts g c κs within i p lt is = caller_at c.args.turns.now.table.shared.table_id c.args.total c.args.callers.now c.requires.1 i p.now lt is

pub returns : goal.returns
returns g c = still_callers c.args.turns.now.table.shared.table_id c.args.total c.args.callers.now c.for_each_mut.new.s c.requires.1 (search rules) (λ i d lt. let t = (c.for_each_mut.ensures i d lt).1 in keeps_at _ _ _ _ t.argument_is t.left t.call)
