-- The steps of a syncpoint on a volume that is kept, one by one; and a page that goes home alone.
use Rattle.std.specs.Bool.{⊤}
use Rattle.std.specs.Prelude.{◌≡◌, ◌∷◌, [], ℕ, true, false, length, OnOk, None, Result, Ok}
use Rattle.jfs_disk.specs.declared.disk.Fault.{Fault}
use Rattle.jfs_kept_volumes.specs.Keeper.{Keeper}
use Rattle.jfs_kept_volumes.specs.commits_held.specs.volume_calls.specs.halves.specs.Change.{Points, Takes, Knows}
use Rattle.jfs_kept_volumes.specs.commits_held.specs.volume_calls.specs.halves.specs.Moves.{Moves}
use Rattle.jfs_kept_volumes.specs.commits_held.specs.volume_calls.specs.halves.specs.Parts.{Parts}
use Rattle.jfs_kept_volumes.specs.commits_held.specs.volume_calls.specs.volume.specs.Home.{HomeIs}
use Rattle.jfs_kept_volumes.specs.commits_held.specs.volume_calls.specs.volume.specs.MapsHome.{MapsHome, KeepsMemory, KeepsPlaces, with_written}
use Rattle.jfs_kept_volumes.specs.commits_held.specs.volume_calls.specs.volume.specs.Settle.{AllHome, SyncIs, with_point}
use Rattle.jfs_kept_volumes.specs.commits_held.specs.volume_calls.specs.volume.specs.Settles.{HomesAlone, HaltsAt, HomeHalts}
use Rattle.jfs_kept_volumes.specs.commits_held.specs.volume_calls.specs.volume.specs.pages.specs.Dirty.{dirty_of}
use Rattle.jfs_kept_volumes.specs.commits_held.specs.volume_calls.specs.volume.specs.pages.specs.declared.error.HomeError.{HomeError}
use Rattle.jfs_kept_volumes.specs.pages_held.specs.Homes.{AllTold}
use Rattle.jfs_kept_volumes.specs.pages_held.specs.joined_held.specs.held.specs.Held.{Mount}
use Rattle.jfs_kept_volumes.specs.Kept.{IsKept, Steps}
use Rattle.jfs_points_kept.specs.Kept.{IsSettledIn}

-- ---- pages go home

-- All dirty pages, or some of them where a write fails. (By the clauses of `home_all`.)
abbrev pub HomeAllLaw : Type 0
HomeAllLaw = (m : Mount) (area : ℕ → ℕ) (old new : Parts) (x : Keeper) (result : Result (Unit {0}) Fault) → IsKept m area old x → AllTold x.both
    → AllHome true true old new x.both.volume result → HomesAlone ⊤ old new → HaltsAt old.halted new.halted result → Steps m area new [] [] x

-- One page. (By the clauses of `home_one`.)
abbrev pub HomeOneLaw : Type 0
HomeOneLaw = (m : Mount) (area : ℕ → ℕ) (n : ℕ) (old new : Parts) (x : Keeper) (result : Result (Unit {0}) HomeError) → IsKept m area old x → AllTold x.both
    → HomeIs true true n old new x.both.volume result → HomesAlone ⊤ old new → HomeHalts old.halted new.halted result → Steps m area new [] [] x

-- The pages of each map that has changed, or a front of them where a write fails. (By the clauses of `home_maps`.)
abbrev pub HomeMapsLaw : Type 0
HomeMapsLaw = (m : Mount) (area : ℕ → ℕ) (old new : Parts) (x : Keeper) (result : Result (Unit {0}) Fault) → IsKept m area old x → AllTold x.both → old.halted ≡ None
    → MapsHome true true old new x.both.volume result → KeepsMemory old new → KeepsPlaces old new → OnOk result (new.files ≡ with_written old.files) → HaltsAt old.halted new.halted result → Steps m area new [] [] x

-- ---- the low part is synced

abbrev pub SyncLaw : Type 0
SyncLaw = (m : Mount) (area : ℕ → ℕ) (old new : Parts) (x : Keeper) (result : Result (Unit {0}) Fault) → IsKept m area old x
    → SyncIs true true old new x.both.volume result → HomesAlone ⊤ old new → HaltsAt old.halted new.halted result → Steps m area new [] [] x

-- Where all is acknowledged, no page is dirty and both maps are as their pages, it settles the volume.
abbrev pub SettledLaw : Type 0
SettledLaw = (m : Mount) (area : ℕ → ℕ) (old new : Parts) (x : Keeper) → IsKept m area old x → SyncIs true true old new x.both.volume (Ok tt) → HomesAlone ⊤ old new → HaltsAt old.halted new.halted (Ok tt)
    → AllTold x.both → ((p : ℕ) → dirty_of old.dirty p ≡ None) → old.files.blocks.stale ≡ false → old.files.inodes.stale ≡ false → old.halted ≡ None
    → (steps : Steps m area new [] [] x) × IsSettledIn m steps.keeper

-- ---- a SYNCPT

-- It is made and taken at once, and in what keeps the volume its group is stable. (By the clauses of `take_point`.)
abbrev pub PointLaw : Type 0
PointLaw = (m : Mount) (area : ℕ → ℕ) (old new : Parts) (x : Keeper) → IsKept m area old x → IsSettledIn m x → x.both.volume.waiting.items ≡ []
    → Moves true true old new x.both.volume (Points ∷ Takes ∷ []) → new ≡ with_point old → Steps m area new [] (length x.both.volume.history ∷ []) x

-- All sync counts are known to be stable. (By the clauses of `know_points`.)
abbrev pub KnowLaw : Type 0
KnowLaw = (m : Mount) (area : ℕ → ℕ) (old new : Parts) (x : Keeper) → IsKept m area old x
    → Moves true true old new x.both.volume (Knows ∷ []) → new ≡ record old { known = old.points } → Steps m area new [] [] x
