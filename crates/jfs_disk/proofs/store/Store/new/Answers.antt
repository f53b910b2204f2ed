use Rattle.std.proofs.Common.{ap, ◌∙◌, List, [], ◌∷◌}
use Rattle.jfs_disk.specs.Crash.{DiskState}
use Rattle.jfs_disk.proofs.Tables.{state_in-none}
use Rattle.jfs_disk.proofs.store.Store.new.Goals as goal

pub returns-clause-past : goal.returns-clause-past
returns-clause-past c =
    c.then-past.ensures
    ∙ ap (λ (state : DiskState). let states : List DiskState = state ∷ [] in states) (state_in-none c.args.count c.as_slice.result.now (c.as_slice.ensures.value ∙ c.new-slots.ensures.items))
