use Rattle.jfs_disk.proofs.Tables.{last_of-synced}
use Rattle.jfs_disk.proofs.store.Store.sync.Goals as goal

pub invariant_of-self-clause-current : goal.invariant_of-self-clause-current
invariant_of-self-clause-current c =
    let store = c.args.self.now in
    last_of-synced store.past.states c.then-self.result.states store.count store.slots.items c.settle_all.new.slots.items store.current c.settle_all.ensures.settled c.then-self.ensures
