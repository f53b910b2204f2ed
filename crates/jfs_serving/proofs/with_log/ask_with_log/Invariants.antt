use Rattle.jfs_turns.specs.Both.{whole}
use Rattle.jfs_serving.specs.Calls.{asked}
use Rattle.jfs_serving.specs.Held.{IsJoined}
use Rattle.jfs_serving.proofs.with_log.ask_with_log.Given as goal

abbrev pub ghosts-count_both : goal.ghosts-count_both
ghosts-count_both g a = record { fits = λ e. IsJoined g.E.HasClient.client g.V.Serves.entry g.V.Serves.moment g.V.Stands.stands g.V.Serves.answers (asked a.client a.line a.request.now a.now) a.reply.now (whole a.both.now) a.both.now.volume.value e }
