use Rattle.std.proofs.Common.{refl, inl, inr, rules}
use Rattle.jfs_volume_calls.specs.Together.{log_parts}
use Rattle.jfs_call.proofs.Lending.{lent_still}
use Rattle.jfs_call.proofs.lent.call_again.Goals as goal

pub returns-then-is_some-clause-answered : goal.returns-then-is_some-clause-answered
returns-then-is_some-clause-answered g c = lent_still c.args.caller.client c.args.caller.line c.args.request.now c.args.volume.now (log_parts g.D.Disk c.args.log.now) (g.D.Disk.fault_count c.args.log.now.part) c.requires.both

pub returns-then-is_some-clause-does : goal.returns-then-is_some-clause-does
returns-then-is_some-clause-does g c = inl (search rules, (refl, refl))

pub returns-clause-does : goal.returns-clause-does
returns-clause-does g c = inr c.call_after_commit.ensures.does
