use Rattle.std.proofs.Common.{length, sym}
use Rattle.jfs_command.specs.Words.{texts, command_of}
use Rattle.jfs_command.proofs.Asked.{is_within, few_scripts, some_scripts, has_clients_by}
use Rattle.jfs_command.proofs.Concluding.{answered}
use Rattle.jfs_command.proofs.top.answer_with_clients.Goals as goal

pub perform_with_clients-performed-requires-clause-few : goal.perform_with_clients-performed-requires-clause-few
perform_with_clients-performed-requires-clause-few g c κs within = few_scripts (texts c.args.words.now) c.in-Ok.command (length c.args.scripts.now.items) c.in-Ok.ensures c.requires.sources

pub perform_with_clients-performed-requires-clause-some : goal.perform_with_clients-performed-requires-clause-some
perform_with_clients-performed-requires-clause-some g c κs within = some_scripts (texts c.args.words.now) c.in-Ok.command (length c.args.scripts.now.items) c.in-Ok.ensures c.requires.sources

pub perform_with_clients-performed-requires-clause-within : goal.perform_with_clients-performed-requires-clause-within
perform_with_clients-performed-requires-clause-within g c κs within = is_within (texts c.args.words.now) c.in-Ok.command c.in-Ok.ensures

pub perform_with_clients-performed-requires-clause-clients : goal.perform_with_clients-performed-requires-clause-clients
perform_with_clients-performed-requires-clause-clients g c κs within = has_clients_by (texts c.args.words.now) c.in-Ok.command c.in-Ok.ensures c.requires.clients

pub returns-clause-answer : goal.returns-clause-answer
returns-clause-answer g c =
    let done = c.conclude_with in
    let performed = c.perform_with_clients-performed in
    rw (done.ensures.disk, done.ensures.history, done.ensures.told)
    (answered g.D.Disk g.S.Source g.K.Sink (command_of (texts c.args.words.now)) c.in-Ok.command (sym c.in-Ok.ensures) c.args.now
    (record { disk = c.args.disk; scripts = c.args.scripts.now.items; out = c.args.out.now })
    (record { disk = performed.result.disk; scripts = performed.new.scripts.items; out = done.new.out })
    performed.result.outcome done.result.status performed.ensures.meaning done.ensures.text)
