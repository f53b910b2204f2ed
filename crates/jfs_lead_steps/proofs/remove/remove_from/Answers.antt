use Rattle.jfs_lead_steps.proofs.remove.remove_from.Goals as goal

pub returns-in-Ok-remove-clause-removes : goal.returns-in-Ok-remove-clause-removes
returns-in-Ok-remove-clause-removes g c tells = rw c.in-Ok.ensures at (c.in-Ok-remove.ensures.removes tells)

pub returns-in-Ok-remove-clause-edits : goal.returns-in-Ok-remove-clause-edits
returns-in-Ok-remove-clause-edits g c tells = rw c.in-Ok.ensures at (c.in-Ok-remove.ensures.edits tells)
