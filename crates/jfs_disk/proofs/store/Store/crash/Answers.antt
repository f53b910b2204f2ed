use Rattle.std.proofs.Common.{◌≡◌, ap, ◌∙◌, List, [], ◌∷◌}
use Rattle.jfs_disk.specs.Crash.{DiskState, seen_of, last_of}
use Rattle.jfs_disk.specs.Table.{state_in}
use Rattle.jfs_disk.proofs.Tables.{Places, IsChosen-settled, state_in-rests}
use Rattle.jfs_disk.proofs.store.Store.crash.Goals as goal

pub returns-clause-chosen : goal.returns-clause-chosen
returns-clause-chosen c =
    let store = c.args.self.now in
    let began : c.then-self.result.states ≡ state_in store.count c.settle_all.new.slots.items ∷ [] = c.then-self.ensures ∙ ap (λ (slots : Places). let states : List DiskState = state_in store.count slots ∷ [] in states) c.as_slice.ensures.value in
    rw (store.current, ap (λ (past : List DiskState). seen_of (last_of past)) began)
    (IsChosen-settled store.count c.args.choices.now store.slots.items c.settle_all.new.slots.items c.settle_all.ensures.settled)

pub returns-clause-past : goal.returns-clause-past
returns-clause-past c =
    let store = c.args.self.now in
    let began : c.then-self.result.states ≡ state_in store.count c.settle_all.new.slots.items ∷ [] = c.then-self.ensures ∙ ap (λ (slots : Places). let states : List DiskState = state_in store.count slots ∷ [] in states) c.as_slice.ensures.value in
    rw began (ap (λ (state : DiskState). let states : List DiskState = state ∷ [] in states) (state_in-rests store.count c.args.choices.now store.slots.items c.settle_all.new.slots.items c.settle_all.ensures.settled))
