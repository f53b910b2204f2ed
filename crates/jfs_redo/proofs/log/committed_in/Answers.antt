use Rattle.std.proofs.Common.{◌∙◌, drop, sym, ap, subst}
use Rattle.std.specs.List.{AllByRecursion}
use Rattle.jfs_records.specs.Committed.{committed}
use Rattle.jfs_redo.specs.Log.{ExtentsLieWithin}
use Rattle.jfs_redo.proofs.Extents.{extents-lie}
use Rattle.jfs_redo.proofs.log.committed_in.Goals as goal

pub returns-in-Ok-transactions-clause-log : goal.returns-in-Ok-transactions-clause-log
returns-in-Ok-transactions-clause-log g c =
    let logged = c.in-Ok.ensures.records in
    (logged.0, logged.1, record { read = logged.2.read; reads = logged.2.reads; are = c.in-Ok-transactions.ensures ∙ ap committed (c.as_slice.ensures.value ∙ logged.2.are) })

pub returns-in-Ok-transactions-clause-within : goal.returns-in-Ok-transactions-clause-within
returns-in-Ok-transactions-clause-within g c =
    subst (AllByRecursion (ExtentsLieWithin c.args.blocks)) (sym (c.in-Ok-transactions.ensures ∙ ap committed c.as_slice.ensures.value))
    (extents-lie c.args.blocks c.in-Ok.records.items c.in-Ok.ensures.kept)
