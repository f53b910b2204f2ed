use Rattle.std.proofs.Common.{ap, sym, ◌∙◌, ◌-◌, arith}
use Rattle.jfs_disk.specs.Crash.{last_of}
use Rattle.jfs_disk.specs.Table.{state_in}
use Rattle.jfs_disk.proofs.Tables.{Places}
use Rattle.jfs_disk.proofs.Cuts.{state_in-low, state_in-high}
use Rattle.jfs_disk.proofs.store.Store.cut.Goals as goal

pub invariant_of-low-clause-current : goal.invariant_of-low-clause-current
invariant_of-low-clause-current c =
    let store = c.args.self in
    ap last_of c.then-2.ensures
    ∙ state_in-low store.count c.args.at c.min-keep.result store.slots.items store.past.states store.current store.begun c.requires (omega (arith, c.min-keep.ensures, c.len.ensures, store.slots.ok))
    ∙ ap (λ (slots : Places). state_in c.args.at slots) (sym c.in-Ok.ensures.kept)

pub invariant_of-high-clause-current : goal.invariant_of-high-clause-current
invariant_of-high-clause-current c =
    let store = c.args.self in
    ap last_of c.then.ensures
    ∙ state_in-high store.count c.args.at c.min-keep.result store.slots.items store.past.states store.current store.begun c.requires (omega (arith, c.min-keep.ensures, c.len.ensures, store.slots.ok))
    ∙ ap (λ (slots : Places). state_in (store.count - c.args.at) slots) (sym c.in-Ok.ensures.tail)
