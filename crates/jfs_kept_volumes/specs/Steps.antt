-- Changes of a volume that is kept.
use Rattle.std.specs.Bool.{⊤}
use Rattle.std.specs.Prelude.{◌≤◌, ◌≡◌, ◌<◌, ◌^◌, ◌||◌, ◌∷◌, [], ℕ, suc, Bool, true, false, List, length}
use Rattle.std.specs.List.{AllByRecursion}
use Rattle.jfs_disk.specs.declared.disk.Fault.{Fault}
use Rattle.jfs_commits_held.specs.volume_calls.specs.crash_core.specs.Step.{halted_by}
use Rattle.jfs_commits_held.specs.volume_calls.specs.records.specs.Limits.{IsLoggable}
use Rattle.jfs_commits_held.specs.volume_calls.specs.halves.specs.Entry.{Shown, Happened}
use Rattle.jfs_commits_held.specs.volume_calls.specs.halves.specs.Half.{VolumeHalf, Halves}
use Rattle.jfs_commits_held.specs.volume_calls.specs.halves.specs.Change.{Change, Enters, Takes, GoesHome, Tears, Writes, WriteTears, LogStops, Points, Fits, after}
use Rattle.jfs_commits_held.specs.volume_calls.specs.halves.specs.Both.{Changes, GroupIsWritten, changed as changed_both}
use Rattle.jfs_commits_held.specs.volume_calls.specs.halves.specs.Laws.{fresh_halves}
use Rattle.jfs_commits_held.specs.volume_calls.specs.halves.specs.Moves.{Moves}
use Rattle.jfs_commits_held.specs.volume_calls.specs.halves.specs.Parts.{Parts, StandsFor}
use Rattle.jfs_commits_held.specs.volume_calls.specs.volume.specs.Settles.{Settles}
use Rattle.jfs_commits_held.specs.volume_calls.specs.Written.{KeepsPages}
use Rattle.jfs_commits_held.specs.Committed.{AreBusy}
use Rattle.jfs_commits_held.specs.joined_held.specs.held.specs.Held.{Mount}
use Rattle.jfs_commits_held.specs.joined_held.specs.held.specs.Changes.{HasTheSame, Made, AllMay, after as after_all}
use Rattle.jfs_commits_held.specs.joined_held.specs.Held.{blocks_at, volume_at, held_at, IsHeldAs}
use Rattle.jfs_commits_held.specs.joined_held.specs.held.specs.survival.specs.recovery.specs.Core.{Core}
use Rattle.jfs_commits_held.specs.volume_calls.specs.volume.specs.data_steps.specs.objects.specs.Volume.{Volume}
use Rattle.jfs_held_maps.specs.Maps.{KeepsMaps}
use Rattle.jfs_pages_held.specs.Beside.{MarksStay, KeepsFiles}
use Rattle.jfs_kept_volumes.specs.Keeper.{Keeper, kept_after, GrowsBy}
use Rattle.jfs_kept_volumes.specs.Rest.{IsAtRest, HasRoom}
use Rattle.jfs_kept_volumes.specs.Kept.{IsHeldAtRest, IsKept, Steps}

-- ---- parts that hold the same volume

pub record SameSizes (old new : Parts) : Type 0 where
  pub blocks : blocks_at new ≡ blocks_at old
  pub extents : length new.inodes.extents ≡ length old.inodes.extents

pub record KeepsVolume (area : ℕ → ℕ) (old new : Parts) : Type 0 where
  pub sizes : SameSizes old new
  pub same : HasTheSame (volume_at area old) (volume_at area new)

-- So do parts with the same pages and maps; and what is acknowledged changes busy blocks alone, and pages that entries freed.
abbrev pub SameLaw : Type 0
SameLaw = (area : ℕ → ℕ) (old new : Parts) → new.view ≡ old.view → new.map ≡ old.map → new.inodes ≡ old.inodes → KeepsVolume area old new

abbrev pub SettledLaw : Type 0
SettledLaw = (area : ℕ → ℕ) (old new : Parts) → AreBusy old → Settles old new → KeepsPages ⊤ old new → KeepsVolume area old new

-- ---- changes that leave the volume

-- No page goes home or is written, nothing joins, and no sync count is made.
abbrev pub IsQuiet : Change → Type 0
IsQuiet (Enters h) = ⊥
IsQuiet (GoesHome p) = ⊥
IsQuiet (Tears p sectors fault) = ⊥
IsQuiet (Writes p bytes) = ⊥
IsQuiet (WriteTears p bytes sectors fault) = ⊥
IsQuiet Points = ⊥
IsQuiet c = Unit {0}

-- whether a group takes what waits
abbrev pub is_group : Change → Bool
is_group Takes = true
is_group c = false

abbrev pub takes_group : List Change → Bool
takes_group [] = false
takes_group (c ∷ cs) = is_group c || takes_group cs

-- A keeper of the parts after these changes.
pub record Goes (m : Mount) (area : ℕ → ℕ) (new : Parts) (list : List Change) (hs : List Happened) (points : List ℕ) (x y : Keeper) : Type 0 where
  pub rests : IsHeldAtRest m area new y
  pub half : y.both.volume ≡ after x.both.volume list
  pub grows : GrowsBy hs points x y

-- Groups that take what waits, acknowledgements, dropped pages, syncs and faults, in whatever order the half lets them be made. A group is stable at once in what keeps the volume; acknowledged is what the log that really is has made stable, or less. No page of the maps gets dirty or clean by it.
pub record GoesQuietly (m : Mount) (area : ℕ → ℕ) (new : Parts) (list : List Change) (x : Keeper) : Type 0 where
  pub keeper : Keeper
  pub goes : Goes m area new list [] [] x keeper
  pub marks : MarksStay m.places x.core keeper.core

abbrev pub QuietLaw : Type 0
QuietLaw = (m : Mount) (area : ℕ → ℕ) (old new : Parts) (list : List Change) (x : Keeper) → IsHeldAtRest m area old x → (takes_group list ≡ true → HasRoom old) → AllByRecursion IsQuiet list → Moves true true old new x.both.volume list
    → KeepsVolume area old new → GoesQuietly m area new list x

-- So a volume that is kept is kept after them, where the maps' files stay, and what has halted stays so.
abbrev pub KeptQuietLaw : Type 0
KeptQuietLaw = (m : Mount) (area : ℕ → ℕ) (old new : Parts) (list : List Change) (x : Keeper) → IsKept m area old x → (takes_group list ≡ true → HasRoom old) → AllByRecursion IsQuiet list → Moves true true old new x.both.volume list
    → KeepsVolume area old new → KeepsFiles old new → Steps m area new [] [] x

-- A volume that halts, for the log's fault, say.
abbrev pub HaltLaw : Type 0
HaltLaw = (fault : Fault) (old new : Parts) (half : VolumeHalf) → StandsFor true true old half → new ≡ record old { halted = halted_by fault old.halted } → Moves true true old new half (LogStops fault ∷ [])

-- ---- the start

-- At a mount the log is at rest.
abbrev pub BeginLaw : Type 0
BeginLaw = (blocks ring : ℕ) (shown : Shown) → blocks ≤ 2 ^ 23 → 4 ≤ ring → ring < 2 ^ 16 → IsAtRest blocks (fresh_halves ring shown)

-- So what a mount leaves is held at rest, with a fresh log.
abbrev pub StartLaw : Type 0
StartLaw = (m : Mount) (area : ℕ → ℕ) (p : Parts) (ring : ℕ) (shown : Shown) (core : Core) (volumes : ℕ → Volume) → IsHeldAs m area p (fresh_halves ring shown) core volumes → KeepsMaps m (held_at (fresh_halves ring shown) core volumes area p)
    → StandsFor true true p (fresh_halves ring shown).volume → 4 ≤ ring → ring < 2 ^ 16 → blocks_at p ≤ 2 ^ 23 → IsHeldAtRest m area p (record { both = fresh_halves ring shown; core = core; volumes = volumes })

-- ---- other changes

-- An entry that is logged can be: its number has 32 bits, and so is each of its edits.
pub record CanBeLogged (blocks : ℕ) (half : VolumeHalf) (h : Happened) : Type 0 where
  pub number : suc (length half.history) < 2 ^ 32
  pub edits : AllByRecursion (IsLoggable blocks) h.noted

-- a change after which the log is at rest as before
abbrev pub LeavesRest : ℕ → VolumeHalf → Change → Type 0
LeavesRest blocks half (Enters h) = (h.logs ≡ true) → CanBeLogged blocks half h
LeavesRest blocks half Takes = ⊥
LeavesRest blocks half Points = ⊥
LeavesRest blocks half c = Unit {0}

abbrev pub RestLaw : Type 0
RestLaw = (blocks : ℕ) (both : Halves) (c : Change) → IsAtRest blocks both → Fits both.volume c → LeavesRest blocks both.volume c → IsAtRest blocks (changed_both both (Changes c))

-- A sync count is made where nothing waits, and its SYNCPT is taken and stable at once.
abbrev pub PointLaw : Type 0
PointLaw = (blocks : ℕ) (both : Halves) → IsAtRest blocks both → both.volume.waiting.items ≡ [] → Fits both.volume Points
    → IsAtRest blocks (changed_both (changed_both (changed_both both (Changes Points)) (Changes Takes)) GroupIsWritten)

-- Changes that may be made lead to a keeper of the parts that stand for the half then, where the log is at rest.
abbrev pub MadeLaw : Type 0
MadeLaw = (m : Mount) (area : ℕ → ℕ) (old new : Parts) (ds : List Made) (x : Keeper) → IsHeldAtRest m area old x → AllMay m (held_at x.both x.core x.volumes area old) ds
    → StandsFor true true new (kept_after m area old x ds).both.volume → IsAtRest (blocks_at new) (kept_after m area old x ds).both → SameSizes old new
    → HasTheSame (after_all m (held_at x.both x.core x.volumes area old) ds).volume (volume_at area new) → IsHeldAtRest m area new (kept_after m area old x ds)
