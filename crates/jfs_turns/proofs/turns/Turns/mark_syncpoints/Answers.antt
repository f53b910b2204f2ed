use Rattle.jfs_turns.proofs.turns.Turns.mark_syncpoints.Goals as goal

pub mark_syncpoints_as-requires-clause-said : goal.mark_syncpoints_as-requires-clause-said
mark_syncpoints_as-requires-clause-said g c = let p = c.requires.points in (p.0, p.1, p.1.0, p.1.1)

pub mark_syncpoints_as-requires-clause-bound : goal.mark_syncpoints_as-requires-clause-bound
mark_syncpoints_as-requires-clause-bound g c = c.requires.points.1.2
