-- A volume and its log, as calls see both.
use Rattle.std.specs.Prelude.{◌≡◌, Bool, [], length, None}
use Rattle.jfs_disk.specs.declared.disk.Disk.{Ghosts}
use Rattle.jfs_logpages.specs.declared.log_side.LogSide.{LogSide}
use Rattle.jfs_logpages.specs.Group.{position_of}
use Rattle.jfs_volume.specs.halves.specs.Half.{Halves}
use Rattle.jfs_volume.specs.halves.specs.Parts.{Parts, StandsFor, Asked}
use Rattle.jfs_volume.specs.halves.specs.Log.{LogParts, LogStandsFor}

-- The log has written all that groups have taken, so that the volume's text will stand at its end; and it hasn't halted.
pub record AreTogether (p : Parts) (l : LogParts) : Type 0 where
  pub ring : l.last.ring ≡ p.text.ring
  pub place : position_of l.last ≡ p.text.place
  pub durable : l.durable ≡ p.taken
  pub running : l.halted ≡ None

-- the parts of a log side
abbrev pub log_parts : {D : Type 0} (d : Ghosts D) → LogSide D d → LogParts
log_parts d side = record { image = d.image side.part; past = d.past side.part; last = side.last; durable = side.durable; halted = side.halted }

-- No group is open: all that was taken is stable, and all sync counts are.
pub record NoGroup (both : Halves) : Type 0 where
  pub durable : both.log.durable ≡ both.volume.taken
  pub points : both.log.points_taken ≡ length both.volume.points
  pub stable : both.log.stable ≡ length both.volume.points
  pub group : both.log.group ≡ []

-- what is said of each two halves without an open group that the parts stand for, as far as their disk tells
abbrev pub OfBothHalves : (tells crashes : Type 0) → Parts → LogParts → (Bool → Bool → Halves → Type 0) → Type 0
OfBothHalves tells crashes p l fact =
    (seen asked : Bool) → Asked seen tells → Asked asked crashes → (both : Halves) → StandsFor seen asked p both.volume → LogStandsFor seen asked l both → NoGroup both → fact seen asked both
