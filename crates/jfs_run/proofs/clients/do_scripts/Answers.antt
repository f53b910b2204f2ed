use Rattle.std.proofs.Common.{arith}
use Rattle.jfs_run.proofs.Callers.{may_run, have, each_came, all_of_table, none_marked, as_many_ready, as_many_ran}
use Rattle.jfs_run.proofs.clients.do_scripts.Goals as goal

pub clients_of-clients-requires-clause-same : goal.clients_of-clients-requires-clause-same
clients_of-clients-requires-clause-same g c =
    let many = as_many_ready g.D.Disk c.args.server.now.turns.table.shared.table_id c.args.scripts.now c.args.passes.items c.args.marks.now.items c.requires.ready in
    let a = many.0 in
    let b = many.1 in
    let passes = c.args.passes.ok.0 in
    let marks = c.args.marks.now.ok.0 in
    omega (arith, a, b, passes, marks)

pub clients_of-clients-requires-clause-table : goal.clients_of-clients-requires-clause-table
clients_of-clients-requires-clause-table g c = all_of_table g.D.Disk c.args.server.now.turns.table.shared.table_id c.args.scripts.now c.args.passes.items c.args.marks.now.items c.requires.ready

pub clients_of-clients-requires-clause-empty : goal.clients_of-clients-requires-clause-empty
clients_of-clients-requires-clause-empty g c = none_marked g.D.Disk c.args.server.now.turns.table.shared.table_id c.args.scripts.now c.args.passes.items c.args.marks.now.items c.requires.ready

pub run_scripts-clients-requires-after_bounds : goal.run_scripts-clients-requires-after_bounds
run_scripts-clients-requires-after_bounds g c κs within =
    may_run g.D.Disk c.args.now c.args.server.now.turns.table.shared.table_id c.args.scripts.now c.args.passes.items c.args.marks.now.items c.clients_of-clients.result.items c.requires.ready c.clients_of-clients.ensures.clients

pub take_back-failed-requires-clause-have : goal.take_back-failed-requires-clause-have
take_back-failed-requires-clause-have g c =
    have g.D.Disk c.args.now c.args.scripts.now c.args.passes.items c.args.marks.now.items c.clients_of-clients.result.items c.run_scripts-clients.result.items c.clients_of-clients.ensures.clients c.run_scripts-clients.ensures

pub take_back-failed-requires-clause-passes : goal.take_back-failed-requires-clause-passes
take_back-failed-requires-clause-passes g c =
    let many = as_many_ready g.D.Disk c.args.server.now.turns.table.shared.table_id c.args.scripts.now c.args.passes.items c.args.marks.now.items c.requires.ready in
    let ran = as_many_ran g.D.Disk c.args.scripts.now c.clients_of-clients.result.items c.run_scripts-clients.result.items c.run_scripts-clients.ensures in
    let a = many.0 in
    let len = c.args.passes.ok.0 in
    let within = c.args.passes.ok.1 in
    let clients = c.run_scripts-clients.result.ok.0 in
    let cap = c.clients_of-clients.ensures.passes.1 in
    (c.clients_of-clients.ensures.passes.0, omega (arith, a, ran, len, within, clients, cap))

pub take_back-failed-requires-clause-marks : goal.take_back-failed-requires-clause-marks
take_back-failed-requires-clause-marks g c =
    let many = as_many_ready g.D.Disk c.args.server.now.turns.table.shared.table_id c.args.scripts.now c.args.passes.items c.args.marks.now.items c.requires.ready in
    let ran = as_many_ran g.D.Disk c.args.scripts.now c.clients_of-clients.result.items c.run_scripts-clients.result.items c.run_scripts-clients.ensures in
    let a = many.1 in
    let len = c.args.marks.now.ok.0 in
    let within = c.args.marks.now.ok.1 in
    let clients = c.run_scripts-clients.result.ok.0 in
    let cap = c.clients_of-clients.ensures.marks.1 in
    (c.clients_of-clients.ensures.marks.0, omega (arith, a, ran, len, within, clients, cap))

pub returns : goal.returns
returns g c = record {
  came = each_came g.D.Disk c.args.now c.args.server.now.turns.table.shared.table_id c.take_back-failed.result c.args.scripts.now c.args.passes.items c.take_back-failed.new.passes.items c.args.marks.now.items c.take_back-failed.new.marks.items
      c.clients_of-clients.result.items c.run_scripts-clients.result.items c.requires.ready c.clients_of-clients.ensures.clients c.run_scripts-clients.ensures c.take_back-failed.ensures.back;
}
