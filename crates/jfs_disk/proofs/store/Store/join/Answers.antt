use Rattle.std.proofs.Common.{ap, ◌∙◌, ◌++◌, arith}
use Rattle.jfs_disk.specs.Crash.{last_of}
use Rattle.jfs_disk.proofs.Tables.{Places}
use Rattle.jfs_disk.proofs.Cuts.{state_in-joined}
use Rattle.jfs_disk.proofs.store.Store.join.Goals as goal

pub invariant_of-result-clause-current : goal.invariant_of-result-clause-current
invariant_of-result-clause-current c =
    let low = c.args.low in
    let high = c.args.high in
    ap last_of c.then-past.ensures
    ∙ state_in-joined low.count high.count _ low.slots.items high.slots.items c.append.new.slots.items low.past.states high.past.states low.current high.current high.begun low.within (omega (arith, c.len.ensures, low.slots.ok))
    (c.append.ensures.items ∙ ap (λ (slots : Places). slots ++ high.slots.items) c.lengthen.ensures.items)
