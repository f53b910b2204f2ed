use Rattle.std.proofs.Common.{nat_lt, refl, sym, ap, ◌∙◌}
use Rattle.jfs_server.proofs.Marking.{did_is}
use Rattle.jfs_server.proofs.client.ClientCaller.call.Goals as goal

pub returns-clause-did : goal.returns-clause-did
returns-clause-did g c =
    let p = c.in-Some.pass in
    let q = c.call-reply.result.2 in
    did_is g.D.Disk _ _ c.args.line c.args.request.now c.call-reply.result.0 c.call-reply.result.1 p q _ (ap (λ n. nat_lt n c.calls_left-left.result) c.calls_left.ensures ∙ ap (λ n. nat_lt q.calls_left n) c.calls_left-left.ensures)
    c.mark-self.ensures.waits c.mark-self.ensures.failed (sym c.take.ensures.value ∙ c.in-Some.is) c.replace.ensures.after refl c.call-reply.ensures.called
