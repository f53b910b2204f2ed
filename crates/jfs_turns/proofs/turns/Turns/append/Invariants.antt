use Rattle.std.proofs.Common.{◌≡◌}
use Rattle.jfs_turns.specs.Standing.{VolumeStandsWith}
use Rattle.jfs_turns.proofs.turns.Turns.append.Given as goal

abbrev pub ghosts-append_as : goal.ghosts-append_as
ghosts-append_as g a = record { fits = λ e. VolumeStandsWith g.V.Stands.stands a.turn.now.value a.turn.now.seat.me.0 e × (g.E.HasClient.client e ≡ a.turn.now.client) }
