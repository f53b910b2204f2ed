-- When the log side stands for a list of entries and for syncpoints.
use Rattle.std.specs.Prelude.{◌≡◌, ◌⊎◌, ◌<◌, ◌≤◌, ℕ, ◌+◌, ◌-◌, ◌*◌, ◌^◌, ◌++◌, List, [], ◌∷◌, length, take, false, Option, Some, None}
use Rattle.jfs_bits.specs.Count.{Rose}
use Rattle.jfs_disk.specs.Image.{Image}
use Rattle.jfs_disk.specs.Crash.{DiskState, IsCrashPage, history_of, last_of, Leaves}
use Rattle.jfs_disk.specs.Moment.{IsResting}
use Rattle.jfs_disk.specs.declared.disk.Fault.{Fault}
use Rattle.jfs_disk.specs.declared.disk.Part.TheVariants.{High}
use Rattle.jfs_disk.specs.declared.disk.Disk.{Ghosts}
use Rattle.jfs_logfmt.specs.Written.{text_of}
use Rattle.jfs_logpages.specs.declared.last.Last.{Last}
use Rattle.jfs_logpages.specs.Fresh.{first_record}
use Rattle.jfs_logpages.specs.Group.{Holds, position_of}
use Rattle.jfs_logpages.specs.Ring.{fresh_text}
use Rattle.jfs_records.specs.Records.{Noted}
use Rattle.jfs_records.specs.Entries.{Item}
use Rattle.jfs_turns.specs.Lists.{Base, IsPrefix}
use Rattle.jfs_turns.specs.Standing.{Standing}
use Rattle.jfs_groups.specs.Points.{is_marked, syncs, IsMarked}
use Rattle.jfs_groups.specs.Start.{LogStart, Grows}
use Rattle.jfs_groups.specs.Text.{AreCounts, FrontOf, HoldsText, items_with, end_of}
use Rattle.jfs_groups.specs.declared.log.SharedLog.{SharedLog}

-- What a log side has: what a read of its part gives, the states of the part, how many pages it has, and how often a call of it failed; its last page, its counts, and the fault by which it halted.
pub record LogData : Type 0 where
  pub image : Image
  pub past : List DiskState
  pub pages : ℕ
  pub faults : ℕ
  pub last : Last
  pub durable : ℕ
  pub points : ℕ
  pub halted : Option Fault

abbrev pub data_of : {D : Type 0} (d : Ghosts D) → SharedLog D d → LogData
data_of d log = record {
  image = d.image log.side.part;
  past = d.past log.side.part;
  pages = d.page_count log.side.part;
  faults = d.fault_count log.side.part;
  last = log.side.last;
  durable = log.side.durable;
  points = log.points;
  halted = log.side.halted;
}

module _ {E : Type 0} (logs : E → Option (List Noted)) where
  -- A log that hasn't halted has no open group: all entries that it knows are taken and durable, and all syncpoints are stable, among which there is no mark of a halt. Its text reaches as far as theirs does; where the disk tells, it is theirs, and where it tells crashes, nothing is pending.
  pub record IsRunning (tells crashes : Type 0) (ring : ℕ) (log : LogData) (list : List E) (taken durable : ℕ) (points : List ℕ) (stables : ℕ) : Type 0 where
    pub taken_all : durable ≡ taken
    pub durable_all : durable ≡ length list
    pub unmarked : is_marked points ≡ false
    pub stable_all : stables ≡ length points
    pub place : position_of log.last ≡ end_of logs ring list (syncs points)
    pub holds : tells → HoldsText logs ring list points log.last log.image
    pub resting : crashes → IsResting (last_of log.past)

  -- The group that halted it was of the next entries, or of one syncpoint more: groups have taken all that it was to make durable, and nothing since. A crash leaves what was stable before, and a front of the group's records.
  pub record IsLost (ring : ℕ) (past : List DiskState) (list : List E) (taken durable : ℕ) (points : List ℕ) (stables : ℕ) : Type 0 where
    -- the entries and the sync counts that were to stand in the log behind it
    pub entries : List E
    pub counts : List ℕ
    pub entries_are : IsPrefix entries list
    pub taken_are : taken ≡ length entries
    pub counts_are : IsMarked counts points
    pub placed : AreCounts 0 (length entries) counts
    pub durable_within : durable ≤ length entries
    pub stable_within : stables ≤ length counts
    -- the stable syncpoints lie within the durable entries; one more may be the group itself, behind all entries
    pub stable_behind : AreCounts 0 durable (take stables counts)
    pub rest : (counts ≡ take stables counts) ⊎ ((durable ≡ length entries) × (counts ≡ take stables counts ++ length entries ∷ []))
    pub group : List Item
    pub all : items_with logs 0 entries counts ≡ items_with logs 0 (take durable entries) (take stables counts) ++ group
    pub leaves : Leaves (FrontOf ring (items_with logs 0 (take durable entries) (take stables counts)) group) (last_of past)

  -- Since the start a count of faults has grown, if any. A log that has halted did so by its part's last fault, so that it has.
  pub record LogStandsFor (tells crashes : Type 0) (start : LogStart) (log : LogData) (list : List E) (taken durable : ℕ) (points : List ℕ) (stables : ℕ) : Type 0 where
    pub ring : log.last.ring ≡ start.ring
    pub pages : log.pages ≡ start.pages
    pub few : start.faults < 2 ^ 64
    pub faults : Grows start.faults log.faults
    pub count : log.durable ≡ durable
    pub stable : log.points ≡ stables
    pub runs : log.halted ≡ None → IsRunning tells crashes start.ring log list taken durable points stables
    -- a crash leaves its superblock
    pub super : tells → crashes → (page : List ℕ) → IsCrashPage (history_of (last_of log.past) 1) page → page ≡ start.super
    pub lost : tells → crashes → (fault : Fault) → log.halted ≡ Some fault → IsLost start.ring log.past list taken durable points stables
    pub halts : (fault : Fault) → log.halted ≡ Some fault → (fault ≡ record { part = High; count = log.faults }) × Rose start.faults log.faults

-- what a log side stands for, as the value that a turn guards
abbrev pub standing : {D E : Type 0} (d : Ghosts D) → (E → Option (List Noted)) → (Base → LogStart) → Standing (SharedLog D d) E
standing d logs start log base list taken durable points stable = LogStandsFor logs d.tells d.tells_crashes (start base) (data_of d log) list taken durable points stable

-- A log that holds a fresh text, and has written no group, stands for no entry and no syncpoint.
abbrev pub FreshStands : {E : Type 0} → (E → Option (List Noted)) → (tells crashes : Type 0) → Type 0
FreshStands logs tells crashes = (start : LogStart) (log : LogData) (ends : List ℕ) → log.last.ring ≡ start.ring → log.pages ≡ start.pages → log.faults ≡ start.faults → start.faults < 2 ^ 64 → position_of log.last ≡ 4080 * (start.ring - 1) + 36 → log.durable ≡ 0 → log.points ≡ 0 → log.halted ≡ None
    → (tells → Holds log.last (fresh_text start.ring (text_of first_record)) ends log.image) → (crashes → IsResting (last_of log.past))
    → (tells → crashes → (page : List ℕ) → IsCrashPage (history_of (last_of log.past) 1) page → page ≡ start.super) → LogStandsFor logs tells crashes start log [] 0 0 [] 0
