use Rattle.jfs_dtree.proofs.form.DtPagesPageForm.put.Goals as goal

pub returns-clause-row : goal.returns-clause-row
returns-clause-row c = c.put_name.ensures.row c.args.self.now.blocks

pub returns-clause-apart : goal.returns-clause-apart
returns-clause-apart c = c.put_name.ensures.apart c.args.self.now.blocks
