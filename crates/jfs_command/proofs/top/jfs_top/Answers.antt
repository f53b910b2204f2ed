use Rattle.jfs_command.specs.Words.{texts, command_of}
use Rattle.jfs_command.proofs.Concluding.{completes}
use Rattle.jfs_command.proofs.top.jfs_top.Goals as goal

pub returns-then-has_clients-clause-complete : goal.returns-then-has_clients-clause-complete
returns-then-has_clients-clause-complete g c =
    completes g.D.Disk g.S.Source g.K.Sink (command_of (texts c.args.words.now)) c.args.now
    (record { disk = c.args.disk; scripts = c.args.scripts.now.items; out = c.args.out.now })
    (record { disk = c.answer_with_clients.result.disk; scripts = c.answer_with_clients.new.scripts.items; out = c.answer_with_clients.new.out })
    c.answer_with_clients.result.status c.answer_with_clients.result.history.items c.answer_with_clients.result.told.items c.answer_with_clients.ensures.answer
