use Rattle.std.proofs.Common.{arith}
use Rattle.jfs_disk.proofs.Tables.{last_of-after}
use Rattle.jfs_disk.proofs.store.Store.write.Goals as goal

pub invariant_of-self-2-clause-current : goal.invariant_of-self-2-clause-current
invariant_of-self-2-clause-current c =
    let store = c.make_place.new.self in
    last_of-after c.args.fails store.past.states c.then-self.result.states store.count store.slots.items c.args.n c.args.from.now.0 c.index_mut.result.now c.write_place.new.place
    store.current (omega (arith, c.requires, c.in_ok-make_place.ensures.count)) (c.in_ok-make_place.ensures.place) c.index_mut.ensures.value c.in_ok-write_place.ensures.ok c.then-self.ensures
