use Rattle.jfs_command.specs.Words.{texts, command_of}
use Rattle.jfs_command.proofs.Concluding.{completes}
use Rattle.jfs_command.proofs.top.jfs_without_clients.Goals as goal

pub returns-clause-complete : goal.returns-clause-complete
returns-clause-complete g c =
    completes g.D.Disk g.S.Source g.K.Sink (command_of (texts c.args.words.now)) c.args.now
    (record { disk = c.args.disk; scripts = c.args.scripts.now.items; out = c.args.out.now })
    (record { disk = c.answer_alone.result.disk; scripts = c.answer_alone.new.scripts.items; out = c.answer_alone.new.out })
    c.answer_alone.result.status c.answer_alone.result.history.items c.answer_alone.result.told.items c.answer_alone.ensures.answer
