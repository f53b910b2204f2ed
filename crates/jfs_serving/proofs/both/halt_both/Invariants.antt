use Rattle.jfs_turns.specs.Both.{whole}
use Rattle.jfs_turns.specs.Standing.{VolumeStands}
use Rattle.jfs_groups.specs.Points.{IsMarked}
use Rattle.jfs_serving.proofs.both.halt_both.Given as goal

-- the volume stands for what was known, with these syncpoints: a mark may be new
abbrev pub ghosts-mark_syncpoints_as : goal.ghosts-mark_syncpoints_as
ghosts-mark_syncpoints_as g a = record { fits = λ ps. VolumeStands g.V.Stands.stands a.turn.now.volume.value (record (whole a.turn.now) { points = ps }) × IsMarked (whole a.turn.now).points ps }
