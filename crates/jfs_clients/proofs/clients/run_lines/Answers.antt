use Rattle.std.proofs.Common.{◌∙◌, sym}
use Rattle.jfs_clients.proofs.Runs.{begins, asks, goes_on, stops, ends}
use Rattle.jfs_clients.proofs.clients.run_lines.Goals as goal

pub loop-line-init : goal.loop-line-init
loop-line-init g c = begins g.C.Caller.left g.C.Caller.did c.args.lines.now c.args.caller.now c.requires.may

pub call-reply-requires : goal.call-reply-requires
call-reply-requires g c =
    let may = asks g.C.Caller.left g.C.Caller.did c.args.lines.now c.loop-line.line-index c.line-item.result c.args.caller.now c.loop-line.caller c.loop-line-test.true c.line-item.is c.loop-line.invariant in
    record { sync = c.requires.sync; one = may.0; fits = may.1 }

pub loop-line-preserved : goal.loop-line-preserved
loop-line-preserved g c =
    goes_on g.C.Caller.left g.C.Caller.did c.args.lines.now c.loop-line.line-index c.line-item.result c.args.caller.now c.loop-line.caller c.call-reply.new.self c.call-reply.result.0 c.call-reply.result.1
    c.loop-line-test.true c.line-item.is c.loop-line.invariant c.call-reply.ensures.left c.call-reply.ensures.did (sym c.wants_memory.ensures ∙ c.if-wants_memory.false)

pub returns-then-wants_memory : goal.returns-then-wants_memory
returns-then-wants_memory g c =
    stops g.C.Caller.left g.C.Caller.did c.args.lines.now c.loop-line.line-index c.line-item.result c.args.caller.now c.loop-line.caller c.call-reply.new.self c.call-reply.result.0 c.call-reply.result.1
    c.loop-line-test.true c.line-item.is c.loop-line.invariant c.call-reply.ensures.did (sym c.wants_memory.ensures ∙ c.if-wants_memory.true)

pub returns : goal.returns
returns g c = ends g.C.Caller.left g.C.Caller.did c.args.lines.now c.loop-line.line-index c.args.caller.now c.loop-line.caller c.loop-line-test.false c.loop-line.invariant
