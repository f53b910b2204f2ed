use Rattle.std.proofs.Common.{ℕ, List, map, sym, subst, refl, ◌∙◌}
use Rattle.jfs_command.specs.declared.outcome.End.{End}
use Rattle.jfs_command.specs.declared.status.Status.TheVariants.{Usage}
use Rattle.jfs_command.specs.Status.{status_of}
use Rattle.jfs_command.specs.Print.{Concludes}
use Rattle.jfs_command.proofs.Asked.{is_alone_by}
use Rattle.jfs_command.specs.Words.{texts, command_of}
use Rattle.jfs_command.proofs.Performing.{without_scripts}
use Rattle.jfs_command.proofs.Concluding.{answered, refused}
use Rattle.jfs_command.proofs.top.answer_alone.Goals as goal

pub perform_alone-requires : goal.perform_alone-requires
perform_alone-requires g c = is_alone_by (texts c.args.words.now) c.in-Ok.command c.in-Ok.ensures c.requires.alone

pub returns-in-Ok-clause-answer : goal.returns-in-Ok-clause-answer
returns-in-Ok-clause-answer g c =
    let done = c.conclude_with in
    let performed = c.perform_alone in
    rw (done.ensures.disk, done.ensures.history, done.ensures.told)
    (answered g.D.Disk g.S.Source g.K.Sink (command_of (texts c.args.words.now)) c.in-Ok.command (sym c.in-Ok.ensures) c.args.now
    (record { disk = c.args.disk; scripts = c.args.scripts.now.items; out = c.args.out.now })
    (record { disk = performed.result.disk; scripts = c.args.scripts.now.items; out = done.new.out })
    performed.result.outcome done.result.status
    (without_scripts g.D.Disk g.S.Source c.in-Ok.command c.args.now c.args.disk performed.result.disk c.args.scripts.now.items performed.result.outcome
    (performed.ensures.meaning (record { scripts = map g.S.Source.remaining c.args.scripts.now.items; now = c.args.now }) refl))
    done.ensures.text)

pub returns-in-Err-clause-answer : goal.returns-in-Err-clause-answer
returns-in-Err-clause-answer g c =
    let done = c.conclude_with-in-Err in
    let idle = c.idle in
    rw (done.ensures.disk ∙ idle.ensures.disk)
    (refused g.D.Disk g.S.Source g.K.Sink (command_of (texts c.args.words.now)) c.in-Err.usage.word (sym c.in-Err.ensures) c.args.now
    c.args.disk c.args.scripts.now.items c.args.out.now done.new.out done.result.status done.result.history.items done.result.told.items
    idle.ensures.whole (done.ensures.history ∙ idle.ensures.history) (done.ensures.told ∙ idle.ensures.told)
    (subst (λ (t : List ℕ). Concludes g.K.Sink.tells (g.K.Sink.taken c.args.out.now) (g.K.Sink.taken done.new.out) (record { before = g.K.Sink.fault_count c.args.out.now; now = g.K.Sink.fault_count done.new.out }) t (Usage c.in-Err.usage.word) done.result.status) idle.ensures.text
    (subst (λ (e : End). Concludes g.K.Sink.tells (g.K.Sink.taken c.args.out.now) (g.K.Sink.taken done.new.out) (record { before = g.K.Sink.fault_count c.args.out.now; now = g.K.Sink.fault_count done.new.out }) idle.result.outcome.text.items (status_of e) done.result.status) idle.ensures.end done.ensures.text)))
