-- A log without an open group, in which a next group has room.
use Rattle.std.specs.Prelude.{◌≡◌, ◌≤◌, ◌<◌, ◌+◌, ◌/◌, ◌^◌, ◌++◌, ℕ, List, [], ◌∷◌, length, None}
use Rattle.std.specs.List.{AllByRecursion}
use Rattle.jfs_logpages.specs.Group.{pages_of}
use Rattle.jfs_commits_held.specs.volume_calls.specs.records.specs.Entries.{Item, entry, point, item_size}
use Rattle.jfs_commits_held.specs.volume_calls.specs.records.specs.Limits.{ItemsFit}
use Rattle.jfs_commits_held.specs.volume_calls.specs.halves.specs.Half.{Halves}
use Rattle.jfs_commits_held.specs.volume_calls.specs.halves.specs.Parts.{Parts}
use Rattle.jfs_commits_held.specs.volume_calls.specs.volume.specs.Room.{IsWithinRoom}
use Rattle.jfs_commits_held.specs.volume_calls.specs.Together.{NoGroup}
use Rattle.jfs_log_window.specs.Events.{HaveEvents}
use Rattle.jfs_log_window.specs.Window.{IsOfEntry}

-- how many bytes of a text stand from the start of its last SYNCPT on, where so many do before these items
abbrev pub since : ℕ → List Item → ℕ
since n [] = n
since n (entry tid tx ∷ is) = since (n + item_size (entry tid tx)) is
since n (point sync ∷ is) = since 36 is

-- From each SYNCPT on the text up to the next one, with that one, touches half the ring at most; and so does it at the end, with one SYNCPT more.
abbrev pub KeepsHalf : (ring n : ℕ) → List Item → Type 0
KeepsHalf ring n [] = pages_of (n + 36) ≤ ring / 2
KeepsHalf ring n (entry tid tx ∷ is) = KeepsHalf ring (n + item_size (entry tid tx)) is
KeepsHalf ring n (point sync ∷ is) = (pages_of (n + 36) ≤ ring / 2) × KeepsHalf ring 36 is

-- No group is open and the log runs; it has what happened, each item as it can be logged on a volume of so many blocks. What waits are entries, behind a text that keeps within half the ring; its newest SYNCPT stands where the volume knows it to.
pub record IsAtRest (blocks : ℕ) (both : Halves) : Type 0 where
  pub none : NoGroup both
  pub runs : both.log.log_halted ≡ None
  pub events : HaveEvents both
  pub size : blocks ≤ 2 ^ 23
  pub some : 4 ≤ both.volume.waiting.ring
  pub most : both.volume.waiting.ring < 2 ^ 16
  pub fit : ItemsFit blocks (both.log.items ++ both.volume.waiting.items)
  pub waits : AllByRecursion IsOfEntry both.volume.waiting.items
  pub half : KeepsHalf both.volume.waiting.ring 0 both.log.items
  pub place : both.volume.waiting.place ≡ both.volume.waiting.sync + since 0 both.log.items

-- What waits fits one group, and half the ring with all since the newest SYNCPT: so it is of every volume, as whoever takes a group is told.
abbrev pub HasRoom : Parts → Type 0
HasRoom p = IsWithinRoom p.text.ring p.text.sync p.text.place (length p.text.bytes)
