-- What the pieces of a call make of a mounted volume that is held by a keeper.
use Rattle.std.specs.Bool.{⊤}
use Rattle.std.specs.Prelude.{◌≡◌, ◌<◌, ◌+◌, ◌^◌, ◌∷◌, ◌++◌, [], ℕ, true, List, length}
use Rattle.jfs_bits.specs.declared.descriptor.Moment.{Moment}
use Rattle.jfs_disk.specs.Crash.{torn}
use Rattle.jfs_disk.specs.declared.disk.Fault.{Fault}
use Rattle.jfs_ranges.specs.declared.edit.Edit.{Edit}
use Rattle.jfs_kept_volumes.specs.volume_calls.specs.plain.specs.declared.call.Entry.{Entry}
use Rattle.jfs_kept_volumes.specs.volume_calls.specs.plain.specs.declared.call.Request.{Request}
use Rattle.jfs_kept_volumes.specs.volume_calls.specs.plain.specs.declared.reply.Reply.{Reply}
use Rattle.jfs_kept_volumes.specs.volume_calls.specs.halves.specs.Entry.{Happened}
use Rattle.jfs_kept_volumes.specs.volume_calls.specs.halves.specs.Half.{VolumeHalf, block_in}
use Rattle.jfs_kept_volumes.specs.volume_calls.specs.halves.specs.Change.{Change, Enters, Writes, WriteTears, SameStates, changed}
use Rattle.jfs_kept_volumes.specs.volume_calls.specs.halves.specs.Both.{Changes}
use Rattle.jfs_kept_volumes.specs.volume_calls.specs.halves.specs.Moves.{Moves}
use Rattle.jfs_kept_volumes.specs.volume_calls.specs.halves.specs.Parts.{Parts, StandsFor}
use Rattle.jfs_kept_volumes.specs.volume_calls.specs.volume.specs.Append.{unreserved}
use Rattle.jfs_kept_volumes.specs.volume_calls.specs.volume.specs.Asked.{IsAskedOf}
use Rattle.jfs_kept_volumes.specs.volume_calls.specs.volume.specs.Called.{IsJoined, happened}
use Rattle.jfs_kept_volumes.specs.volume_calls.specs.volume.specs.Join.{entry_with, with_entry, unchanged}
use Rattle.jfs_kept_volumes.specs.volume_calls.specs.volume.specs.Written.{writes, IsWriteStop}
use Rattle.jfs_kept_volumes.specs.volume_calls.specs.volume.specs.data_steps.specs.After.{is_put, AreWholePages}
use Rattle.jfs_kept_volumes.specs.volume_calls.specs.volume.specs.data_steps.specs.declared.pages.DataPage.{DataPage}
use Rattle.jfs_kept_volumes.specs.volume_calls.specs.volume.specs.data_steps.specs.objects.specs.Volume.{Volume}
use Rattle.jfs_kept_volumes.specs.joined_held.specs.held.specs.survival.specs.recovery.specs.kinds.specs.Images.{IsSameVolume}
use Rattle.jfs_kept_volumes.specs.joined_held.specs.held.specs.Held.{Mount}
use Rattle.jfs_kept_volumes.specs.joined_held.specs.held.specs.Changes.{TakesData, with_page, Made, leaving}
use Rattle.jfs_kept_volumes.specs.joined_held.specs.held_calls.specs.Calls.{made_by}
use Rattle.jfs_kept_volumes.specs.joined_held.specs.Held.{volume_at}
use Rattle.jfs_kept_volumes.specs.joined_held.specs.Called.{volume_then, IsAnswered, LogsCall}
use Rattle.jfs_kept_volumes.specs.Keeper.{Keeper, kept_after, GrowsBy}
use Rattle.jfs_kept_volumes.specs.Kept.{IsHeldAtRest}
use Rattle.jfs_kept_volumes.specs.Reserved.{SameButReserved, shown_with}

-- These parts are held by a keeper that has these entries more.
pub record Comes (m : Mount) (area : ℕ → ℕ) (new : Parts) (hs : List Happened) (x y : Keeper) : Type 0 where
  pub rests : IsHeldAtRest m area new y
  pub grows : GrowsBy hs [] x y

-- ---- the volume after all entries

-- It is the volume now, by all that the log keeps safe.
abbrev pub NewestLaw : Type 0
NewestLaw = (m : Mount) (area : ℕ → ℕ) (p : Parts) (x : Keeper) → IsHeldAtRest m area p x → IsSameVolume m.readers (x.volumes (length x.both.volume.history)) (volume_at area p)

-- ---- a volume that is asked

-- What it was asked for leaves it, whatever is reserved: nothing else of its parts changes.
abbrev pub AskedLaw : Type 0
AskedLaw = (m : Mount) (area : ℕ → ℕ) (old new : Parts) (x : Keeper) → IsHeldAtRest m area old x → IsAskedOf ⊤ ⊤ old new → SameButReserved old.map new.map → Comes m area new [] x (shown_with new.map x)

-- Once all that was reserved for a transaction is free again, the parts stand for the half.
abbrev pub UnreservedLaw : Type 0
UnreservedLaw = (m : Mount) (area : ℕ → ℕ) (tx : List Edit) (old mid : Parts) (x : Keeper) → IsHeldAtRest m area old x → IsAskedOf ⊤ ⊤ old mid → SameStates (unreserved tx mid).map old.map → StandsFor true true (unreserved tx mid) x.both.volume

-- ---- a reply

-- A reply joins without a transaction.
abbrev pub replied : (m : Mount) (area : ℕ → ℕ) (p : Parts) → Happened → Keeper → Keeper
replied m area p h x = kept_after m area p x (leaving (volume_at area p) (Changes (Enters h) ∷ []))

abbrev pub ReplyLaw : Type 0
ReplyLaw = (m : Mount) (area : ℕ → ℕ) (client line : ℕ) (request : Request) (now : Moment) (reply : Reply) (old new : Parts) (x : Keeper) → IsHeldAtRest m area old x → new ≡ with_entry (entry_with client line request reply) old
    → Comes m area new (unchanged client line request now reply x.both.volume ∷ []) x (replied m area old (unchanged client line request now reply x.both.volume) x)

-- ---- an entry with a transaction

-- Its data is written, and it joins.
abbrev pub entered_by : (m : Mount) (area : ℕ → ℕ) (p : Parts) → List Edit → List DataPage → Happened → Keeper → Keeper
entered_by m area p tx put h x = kept_after m area p x (made_by (volume_at area p) put h (volume_then area p tx put))

abbrev pub EntryLaw : Type 0
EntryLaw = (m : Mount) (area : ℕ → ℕ) (now : Moment) (tx : List Edit) (put : List DataPage) (entry : Entry) (number : ℕ) (old mid new : Parts) (x : Keeper) → IsHeldAtRest m area old x → IsAnswered area old mid tx put
    → (joined : IsJoined ⊤ ⊤ entry tx put number mid new) → StandsFor true true (unreserved tx mid) x.both.volume → LogsCall m area old tx put → mid.appended + 1 < 2 ^ 32
    → Comes m area new (happened entry now tx joined.joins.notes put new.inodes x.both.volume ∷ []) x (entered_by m area old tx put (happened entry now tx joined.joins.notes put new.inodes x.both.volume) x)

-- ---- a write of data that failed

-- what its block holds then
abbrev pub left_at : Change → VolumeHalf → Volume → Volume
left_at (WriteTears p bytes sectors fault) half v = with_page p (torn sectors bytes (block_in half p).pages.seen) v
left_at c half v = v

-- The volume after pages of data, and the change behind them.
abbrev pub stopped_at : List DataPage → Change → VolumeHalf → Volume → Volume
stopped_at [] c half v = left_at c half v
stopped_at (d ∷ ds) c half v = stopped_at ds c (changed half (Writes d.block d.page.0)) (with_page d.block d.page.0 v)

-- pages of data are written, and another change is made behind them
abbrev pub made_to : Volume → List DataPage → Change → Volume → List Made
made_to v [] c w = record { change = Changes c; volume = w } ∷ []
made_to v (d ∷ ds) c w = record { change = Changes (Writes d.block d.page.0); volume = with_page d.block d.page.0 v } ∷ made_to (with_page d.block d.page.0 v) ds c w

abbrev pub stopped_by : (m : Mount) (area : ℕ → ℕ) (p : Parts) → List DataPage → Change → Keeper → Keeper
stopped_by m area p front c x = kept_after m area p x (made_to (volume_at area p) front c (stopped_at front c x.both.volume (volume_at area p)))

-- Some front of the data is written, where data may go, and then the write of the next page fails.
pub record StopsIn (m : Mount) (area : ℕ → ℕ) (old : Parts) (put front : List DataPage) (last : Change) : Type 0 where
  pub next : DataPage
  pub rest : List DataPage
  pub fault : Fault
  pub split : put ≡ front ++ next ∷ rest
  pub stop : IsWriteStop fault next last
  pub takes : (b : ℕ) → is_put b put ≡ true → TakesData m.readers (volume_at area old) b
  pub whole : AreWholePages put

-- From parts with the same pages and the same maps, but for memory, the half moves so.
abbrev pub StopLaw : Type 0
StopLaw = (m : Mount) (area : ℕ → ℕ) (put front : List DataPage) (last : Change) (old back new : Parts) (x : Keeper) → IsHeldAtRest m area old x → StopsIn m area old put front last
    → Moves true true back new x.both.volume (writes front ++ last ∷ []) → SameStates new.map old.map → new.inodes ≡ old.inodes → Comes m area new [] x (stopped_by m area old front last x)
