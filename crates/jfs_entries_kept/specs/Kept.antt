-- What the pieces of a call make of a mounted volume that is kept.
use Rattle.std.specs.Bool.{⊤}
use Rattle.std.specs.Prelude.{◌≡◌, ◌<◌, ◌+◌, ◌^◌, ◌∷◌, ◌++◌, [], ℕ, true, List}
use Rattle.jfs_bits.specs.declared.descriptor.Moment.{Moment}
use Rattle.jfs_ranges.specs.declared.edit.Edit.{Edit}
use Rattle.jfs_kept_volumes.specs.volume_calls.specs.plain.specs.declared.call.Entry.{Entry}
use Rattle.jfs_kept_volumes.specs.volume_calls.specs.plain.specs.declared.call.Request.{Request}
use Rattle.jfs_kept_volumes.specs.volume_calls.specs.plain.specs.declared.reply.Reply.{Reply}
use Rattle.jfs_kept_volumes.specs.volume_calls.specs.halves.specs.Change.{Change, SameStates}
use Rattle.jfs_kept_volumes.specs.volume_calls.specs.halves.specs.Moves.{Moves}
use Rattle.jfs_kept_volumes.specs.volume_calls.specs.halves.specs.Parts.{Parts, StandsFor}
use Rattle.jfs_kept_volumes.specs.volume_calls.specs.volume.specs.Append.{unreserved}
use Rattle.jfs_kept_volumes.specs.volume_calls.specs.volume.specs.Asked.{IsAskedOf}
use Rattle.jfs_kept_volumes.specs.volume_calls.specs.volume.specs.Called.{IsJoined, happened}
use Rattle.jfs_kept_volumes.specs.volume_calls.specs.volume.specs.Join.{entry_with, with_entry, unchanged}
use Rattle.jfs_kept_volumes.specs.volume_calls.specs.volume.specs.Written.{writes}
use Rattle.jfs_kept_volumes.specs.volume_calls.specs.volume.specs.data_steps.specs.After.{with_data}
use Rattle.jfs_kept_volumes.specs.volume_calls.specs.volume.specs.data_steps.specs.declared.pages.DataPage.{DataPage}
use Rattle.jfs_kept_volumes.specs.joined_held.specs.held.specs.Held.{Mount}
use Rattle.jfs_kept_volumes.specs.joined_held.specs.Held.{volume_at}
use Rattle.jfs_kept_volumes.specs.joined_held.specs.Called.{volume_then, IsAnswered, LogsCall}
use Rattle.jfs_kept_volumes.specs.pages_held.specs.Beside.{KeepsFiles}
use Rattle.jfs_kept_volumes.specs.pages_held.specs.Called.{DirtiesItsOwn}
use Rattle.jfs_kept_volumes.specs.Keeper.{Keeper}
use Rattle.jfs_kept_volumes.specs.Kept.{IsKept, Steps}
use Rattle.jfs_kept_volumes.specs.Reserved.{SameButReserved}
use Rattle.jfs_entries_kept.specs.Entries.{StopsIn}

-- it was asked for something
abbrev pub KeptAskedLaw : Type 0
KeptAskedLaw = (m : Mount) (area : ℕ → ℕ) (old new : Parts) (x : Keeper) → IsKept m area old x → IsAskedOf ⊤ ⊤ old new → SameButReserved old.map new.map → Steps m area new [] [] x

-- a reply joins
abbrev pub KeptReplyLaw : Type 0
KeptReplyLaw = (m : Mount) (area : ℕ → ℕ) (client line : ℕ) (request : Request) (now : Moment) (reply : Reply) (old new : Parts) (x : Keeper) → IsKept m area old x → new ≡ with_entry (entry_with client line request reply) old
    → Steps m area new (unchanged client line request now reply x.both.volume ∷ []) [] x

-- An entry joins with its data and its transaction, which dirties its own pages.
abbrev pub KeptEntryLaw : Type 0
KeptEntryLaw = (m : Mount) (area : ℕ → ℕ) (now : Moment) (tx : List Edit) (put : List DataPage) (entry : Entry) (number : ℕ) (old mid new : Parts) (x : Keeper) → IsKept m area old x → IsAnswered area old mid tx put → KeepsFiles old mid
    → (joined : IsJoined ⊤ ⊤ entry tx put number mid new) → StandsFor true true (unreserved tx mid) x.both.volume → LogsCall m area old tx put → DirtiesItsOwn m.readers (with_data put (volume_at area old)) (volume_then area old tx put) tx
    → mid.appended + 1 < 2 ^ 32 → Steps m area new (happened entry now tx joined.joins.notes put new.inodes x.both.volume ∷ []) [] x

-- a write of data failed
abbrev pub KeptStopLaw : Type 0
KeptStopLaw = (m : Mount) (area : ℕ → ℕ) (put front : List DataPage) (last : Change) (old back new : Parts) (x : Keeper) → IsKept m area old x → StopsIn m area old put front last
    → Moves true true back new x.both.volume (writes front ++ last ∷ []) → SameStates new.map old.map → KeepsFiles old new → Steps m area new [] [] x
