use Rattle.jfs_core.proofs.state.CoreState.refuses.Goals as goal

pub returns-in-Fault : goal.returns-in-Fault
returns-in-Fault c = rw c.in-Fault.is (c.refuses_fault.ensures c.in-Fault.fault)
