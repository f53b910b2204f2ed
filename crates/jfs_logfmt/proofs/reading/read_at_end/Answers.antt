use Rattle.std.proofs.Common.{sym, arith}
use Rattle.std.proofs.lemmas.Result.{err_from_is_err_and}
use Rattle.jfs_logfmt.proofs.Cut.{first_found}
use Rattle.jfs_logfmt.proofs.reading.read_at_end.Goals as goal

pub returns-in_err-record-clause-broken : goal.returns-in_err-record-clause-broken
returns-in_err-record-clause-broken c =
    let p = err_from_is_err_and c.from_residual.result c.from_residual.ensures.1 in
    rw (p.1, p.2) (first_found c.args.blocks c.args.bytes.now c.split_at.result.0.now c.split_at.result.1.now c.split_at-2.result.1.now c.in-Some.of c.get_descriptor-d.result c.from-long.result c.in_err-record.field-0.0
    (omega arith) c.split_at.ensures.front c.split_at.ensures.back c.split_at.ensures.front_len c.get_descriptor-d.ensures.value (sym c.in-Some.ensures)
    c.from-long.ensures (omega arith) (sym c.if-not-fits_type.ensures) c.split_at-2.ensures.back c.in_err-record.ensures.broken)
