-- A call whose entry joins keeps the pages.
use Rattle.std.specs.Bool.{⊤}
use Rattle.std.specs.Prelude.{◌≡◌, ℕ, true, List, []}
use Rattle.jfs_ranges.specs.Apply.{touches_tx}
use Rattle.jfs_ranges.specs.declared.edit.Edit.{Edit}
use Rattle.jfs_joined_held.specs.held.specs.survival.specs.logged.specs.Own.{LogsItsOwn}
use Rattle.jfs_joined_held.specs.held.specs.survival.specs.recovery.specs.Core.{Core}
use Rattle.jfs_joined_held.specs.held.specs.Changes.{LeadsTo, next, after}
use Rattle.jfs_joined_held.specs.held.specs.Held.{Mount, Held, IsHeld}
use Rattle.jfs_joined_held.specs.held_calls.specs.Calls.{made_by}
use Rattle.jfs_joined_held.specs.Called.{volume_then, IsAnswered, IsRunOfCall}
use Rattle.jfs_joined_held.specs.Held.{volume_at, held_at, IsHeldAs}
use Rattle.jfs_joined_held.specs.volume.specs.Called.{JoinsWith}
use Rattle.jfs_joined_held.specs.volume.specs.data_steps.specs.After.{with_data}
use Rattle.jfs_joined_held.specs.volume.specs.data_steps.specs.declared.pages.DataPage.{DataPage}
use Rattle.jfs_joined_held.specs.volume.specs.data_steps.specs.objects.specs.Readers.{Readers}
use Rattle.jfs_joined_held.specs.volume.specs.data_steps.specs.objects.specs.Volume.{Volume}
use Rattle.jfs_joined_held.specs.volume.specs.halves.specs.Both.{Changes}
use Rattle.jfs_joined_held.specs.volume.specs.halves.specs.Change.{Enters}
use Rattle.jfs_joined_held.specs.volume.specs.halves.specs.Entry.{Happened, edits}
use Rattle.jfs_joined_held.specs.volume.specs.halves.specs.Half.{Halves}
use Rattle.jfs_joined_held.specs.volume.specs.halves.specs.Parts.{Parts}
use Rattle.jfs_joined_held.specs.volume.specs.plain.specs.declared.call.Entry.{Entry}
use Rattle.jfs_pages_held.specs.Beside.{MarksStay, DirtyStays, KeepsFiles}
use Rattle.jfs_pages_held.specs.Pages.{MayBeDirty, PagesKept}

-- Each page that a transaction has lines of may be dirty then, and each that might be before still may: no call makes blocks of attributes or of a long link's target, and a block that stays in use keeps its owner.
pub record DirtiesItsOwn (r : Readers) (v w : Volume) (tx : List Edit) : Type 0 where
  pub told : (q : ℕ) → touches_tx q tx ≡ true → MayBeDirty r w q
  pub stays : (q : ℕ) → MayBeDirty r v q → MayBeDirty r w q

-- So it is of whatever transaction logs its own alone, as those of file calls do.
abbrev pub OwnLaw : Type 0
OwnLaw = (r : Readers) (v w : Volume) (tx : List Edit) → LogsItsOwn r v w tx → DirtiesItsOwn r v w tx

-- A call was answered with a transaction and data, blocks were reserved for it and nothing else changed; and its entry joined. So it is a run of changes that keeps the volume held, and the pages are kept after it.
abbrev pub CalledLaw : Type 0
CalledLaw = (m : Mount) (area : ℕ → ℕ) (tx : List Edit) (put : List DataPage) (entry : Entry) (number : ℕ) (old mid new : Parts) (both : Halves) (core : Core) (volumes : ℕ → Volume) (h : Happened)
    → IsHeldAs m area old both core volumes → IsAnswered area old mid tx put → KeepsFiles old mid → JoinsWith ⊤ entry tx put number mid new
    → edits h ≡ tx → IsRunOfCall m area old new both core volumes put h (volume_then area old tx put) → DirtiesItsOwn m.readers (with_data put (volume_at area old)) (volume_then area old tx put) tx
    → PagesKept m area old both core
    → PagesKept m area new (after m (held_at both core volumes area old) (made_by (volume_at area old) put h (volume_then area old tx put))).both (after m (held_at both core volumes area old) (made_by (volume_at area old) put h (volume_then area old tx put))).core

-- An entry without edits leaves the newest image, and no page gets dirty: so do replies that change nothing.
abbrev pub EmptyLaw : Type 0
EmptyLaw = (m : Mount) (x : Held) (h : Happened) (w : Volume) → IsHeld m x → LeadsTo m x h w → edits h ≡ []
    → MarksStay m.places x.core (next m x (Changes (Enters h)) w).core × DirtyStays x.both.volume (next m x (Changes (Enters h)) w).both.volume
