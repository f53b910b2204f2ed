use Rattle.std.proofs.Common.{ap, sym, ◌∙◌, None, arith}
use Rattle.std.proofs.Math.ListN.{get_or-eq_default}
use Rattle.std.proofs.lemmas.List.{get_or_read}
use Rattle.jfs_disk.specs.Table.{page_in}
use Rattle.jfs_disk.proofs.Tables.{page_of-table}
use Rattle.jfs_disk.proofs.store.Store.read.Goals as goal

pub returns-then-place-len : goal.returns-then-place-len
returns-then-place-len c =
    let store = c.args.self.now in
    c.read_place.ensures
    ∙ ap (λ place. (page_in place).seen) (get_or_read store.slots.items c.args.n c.index.result.now (omega (arith, c.if-place-len.true, store.slots.ok)) c.index.ensures None)
    ∙ sym (page_of-table store.count store.slots.items store.past.states c.args.n store.current c.requires)

pub returns-else-place-len : goal.returns-else-place-len
returns-else-place-len c =
    let store = c.args.self.now in
    c.zeros.ensures
    ∙ ap (λ place. (page_in place).seen) (sym (get_or-eq_default store.slots.items None (omega (arith, c.if-place-len.false, store.slots.ok))))
    ∙ sym (page_of-table store.count store.slots.items store.past.states c.args.n store.current c.requires)
