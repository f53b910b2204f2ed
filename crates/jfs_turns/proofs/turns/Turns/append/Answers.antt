use Rattle.jfs_turns.proofs.turns.Turns.append.Goals as goal

pub append_as-requires-clause-said : goal.append_as-requires-clause-said
append_as-requires-clause-said g c = let e = c.requires.entry in (e.0, (e.1, e.2), e.2)
