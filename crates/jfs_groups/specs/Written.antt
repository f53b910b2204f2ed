-- What a write of a group does to a log side.
use Rattle.std.specs.Prelude.{◌≡◌, ℕ, ◌+◌, List, ◌++◌, length, None, Some}
use Rattle.jfs_bits.specs.Count.{Rose}
use Rattle.jfs_disk.specs.Crash.{history_of, last_of, Leaves}
use Rattle.jfs_disk.specs.Moment.{IsResting}
use Rattle.jfs_disk.specs.declared.disk.Fault.{Fault}
use Rattle.jfs_disk.specs.declared.disk.Part.TheVariants.{High}
use Rattle.jfs_logpages.specs.declared.group_text.GroupText.{GroupText}
use Rattle.jfs_logpages.specs.Group.{Holds, position_of, number_after}
use Rattle.jfs_logpages.specs.Ring.{ReadsPrefix}
use Rattle.jfs_groups.specs.Log.{LogData}

-- it is at the log's end, and nothing is pending
pub record IsGroupWritten (tells crashes : Type 0) (group : GroupText) (l m : LogData) : Type 0 where
  pub ring : m.last.ring ≡ l.last.ring
  pub pages : m.pages ≡ l.pages
  pub faults : m.faults ≡ l.faults
  pub place : position_of m.last ≡ position_of l.last + length group.bytes.items
  pub durable : m.durable ≡ group.last
  pub points : m.points ≡ l.points
  pub runs : m.halted ≡ None
  pub holds : tells → (before ends : List ℕ) → Holds l.last before ends l.image → (later : List ℕ) × Holds m.last (before ++ group.bytes.items) later m.image
  pub resting : crashes → IsResting (last_of l.past) → IsResting (last_of m.past)
  -- of its superblock a crash leaves what it did
  pub super : crashes → IsResting (last_of l.past) → history_of (last_of m.past) 1 ≡ history_of (last_of l.past) 1

-- It isn't, and the log has halted: a crash leaves the text before it, and a front of its records.
pub record IsGroupLost (tells crashes : Type 0) (group : GroupText) (fault : Fault) (l m : LogData) : Type 0 where
  pub ring : m.last.ring ≡ l.last.ring
  pub pages : m.pages ≡ l.pages
  pub rose : Rose l.faults m.faults
  pub durable : m.durable ≡ l.durable
  pub points : m.points ≡ l.points
  pub halts : m.halted ≡ Some fault
  pub is : fault ≡ record { part = High; count = m.faults }
  pub leaves : tells → crashes → (before ends : List ℕ) → Holds l.last before ends l.image → IsResting (last_of l.past)
      → Leaves (ReadsPrefix l.last.ring before group.bytes.items group.ends.items (number_after l.last (length group.bytes.items))) (last_of m.past)
  -- of its superblock a crash leaves what it did
  pub super : crashes → IsResting (last_of l.past) → history_of (last_of m.past) 1 ≡ history_of (last_of l.past) 1
