-- What the log side holds, and when it stands for the log's half.
use Rattle.std.specs.Prelude.{◌≡◌, ◌+◌, ◌++◌, ℕ, Bool, true, List, length, Option, None}
use Rattle.jfs_disk.specs.Image.{Image}
use Rattle.jfs_disk.specs.Crash.{DiskState, last_of}
use Rattle.jfs_disk.specs.Moment.{IsResting}
use Rattle.jfs_disk.specs.declared.disk.Fault.{Fault}
use Rattle.jfs_records.specs.logpages.specs.declared.last.Last.{Last}
use Rattle.jfs_records.specs.logpages.specs.Group.{Holds, position_of}
use Rattle.jfs_records.specs.logpages.specs.Records.{log_text}
use Rattle.jfs_records.specs.Entries.{log_records, text_size}
use Rattle.jfs_halves.specs.Half.{Halves, LogHalf}

-- The parts of a log side: the pages and states of its part of the disk, its last page, and its counts.
pub record LogParts : Type 0 where
  pub image : Image
  pub past : List DiskState
  pub last : Last
  pub durable : ℕ
  pub halted : Option Fault

-- The text since the mount is that of the log's items, from where it began.
pub record HoldsItems (ring : ℕ) (log : LogHalf) (last : Last) (image : Image) : Type 0 where
  pub front : List ℕ
  pub begins : length front ≡ log.start
  pub ends : List ℕ
  pub holds : Holds last (front ++ log_text (log_records ring log.start log.items)) ends image

-- These parts stand for the log's half: while nothing failed, the log has its items, and what a group took will stand behind them.
pub record LogStandsFor (seen asked : Bool) (parts : LogParts) (both : Halves) : Type 0 where
  pub durable : parts.durable ≡ both.log.durable
  pub halted : parts.halted ≡ both.log.log_halted
  pub ring : parts.last.ring ≡ both.volume.waiting.ring
  pub place : both.log.log_halted ≡ None → position_of parts.last + text_size both.log.group ≡ both.volume.waiting.place
  pub items : seen ≡ true → both.log.log_halted ≡ None → HoldsItems both.volume.waiting.ring both.log parts.last parts.image
  pub resting : asked ≡ true → both.log.log_halted ≡ None → IsResting (last_of parts.past)
