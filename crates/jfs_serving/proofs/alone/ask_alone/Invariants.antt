use Rattle.jfs_serving.specs.Calls.{asked}
use Rattle.jfs_serving.specs.Held.{IsJoined}
use Rattle.jfs_serving.proofs.alone.ask_alone.Given as goal

abbrev pub ghosts-count_entry : goal.ghosts-count_entry
ghosts-count_entry g a = record { fits = λ e. IsJoined g.E.HasClient.client g.V.Serves.entry g.V.Serves.moment g.V.Stands.stands g.V.Serves.answers (asked a.client a.line a.request.now a.now) a.reply.now a.turn.now.seat.me.0 a.turn.now.value e }
