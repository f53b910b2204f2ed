use Rattle.std.proofs.Common.{ap, sym, ◌∙◌}
use Rattle.jfs_disk.specs.Table.{state_in}
use Rattle.jfs_disk.proofs.Tables.{Places, state_in-more}
use Rattle.jfs_disk.proofs.store.Store.make_place.Goals as goal

pub invariant_of-self-then-len-clause-current : goal.invariant_of-self-then-len-clause-current
invariant_of-self-then-len-clause-current c =
    let count = c.args.self.now.count in
    c.args.self.now.current
    ∙ sym (state_in-more count _ c.reserve.new.self.items c.lengthen.new.slots.items c.lengthen.ensures.items
    ∙ ap (λ (slots : Places). state_in count slots) c.in_ok-reserve.ensures.items)
