use Rattle.std.proofs.Common.{◌∷◌, drop, sym, subst, Err}
use Rattle.jfs_redo.specs.Log.{IsLogOf}
use Rattle.jfs_redo.specs.declared.error.RedoError.{RedoError}
use Rattle.jfs_redo.proofs.LogParts.{refused, stand}
use Rattle.jfs_redo.proofs.log.records_in.Goals as goal

pub returns-in-Err-clause-refused : goal.returns-in-Err-clause-refused
returns-in-Err-clause-refused g c =
    let read = c.in-Err.ensures.read in
    let log = drop c.args.log.addr read.0 in
    (read.0, read.1, subst (λ (e : RedoError). IsLogOf c.args.log.len c.args.blocks log (Err e)) (sym c.refusal_of.ensures) (refused c.args.log.len c.args.blocks log c.in-Err.why read.2))

pub read_records-requires : goal.read_records-requires
read_records-requires g c =
    let read = c.in-Ok.ensures.read in
    (read.2.m ∷ read.2.ms, stand c.args.log.len c.args.blocks (drop c.args.log.addr read.0) c.in-Ok.read read.2)

pub returns-in-Ok-read_records-clause-records : goal.returns-in-Ok-read_records-clause-records
returns-in-Ok-read_records-clause-records g c =
    let read = c.in-Ok.ensures.read in
    let log = drop c.args.log.addr read.0 in
    (read.0, read.1, record { read = c.in-Ok.read; reads = read.2; are = c.in-Ok-read_records.ensures.records (read.2.m ∷ read.2.ms) (stand c.args.log.len c.args.blocks log c.in-Ok.read read.2) })
