use Rattle.std.proofs.Common.{sym, subst}
use Rattle.jfs_serving.specs.Calls.{asked, CallIs}
use Rattle.jfs_server.specs.Served.{standing, client_of, entry_in, moment_of}
use Rattle.jfs_server.proofs.Answering.{call_is}
use Rattle.jfs_server.proofs.served.ServedVolumeServesRecorded.call.Goals as goal

pub returns-clause-list : goal.returns-clause-list
returns-clause-list g c =
    subst (λ given. CallIs client_of entry_in moment_of (standing g.D.Disk) (asked c.args.client c.args.line c.args.request.now c.args.now) c.args.self.now (record { shared = c.call.new.shared }) given) (sym c.given.ensures)
    (call_is g.D.Disk c.args.client c.args.line c.args.request.now c.args.now c.args.self.now.shared c.call.new.shared c.call.result c.call.ensures.list c.call.ensures.answered)
