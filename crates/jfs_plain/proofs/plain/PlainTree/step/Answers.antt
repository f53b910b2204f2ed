use Rattle.std.proofs.Common.{inl}
use Rattle.jfs_plain.proofs.Chained.{done_steps, refused_steps}
use Rattle.jfs_plain.proofs.plain.PlainTree.step.Goals as goal

pub returns-in-Ok : goal.returns-in-Ok
returns-in-Ok c = record { step = inl (done_steps _ _ _ _ c.in-Ok.ensures.answer); limit = c.perform.ensures.limit }

pub returns-in-Err : goal.returns-in-Err
returns-in-Err c = record { step = refused_steps _ _ _ _ c.in-Err.ensures.answer; limit = c.perform.ensures.limit }
