-- When a mounted volume is kept.
use Rattle.std.specs.Prelude.{ℕ, true, List}
use Rattle.jfs_commits_held.specs.volume_calls.specs.halves.specs.Entry.{Happened}
use Rattle.jfs_commits_held.specs.volume_calls.specs.halves.specs.Parts.{Parts, StandsFor}
use Rattle.jfs_commits_held.specs.joined_held.specs.held.specs.Held.{Mount}
use Rattle.jfs_commits_held.specs.joined_held.specs.Held.{blocks_at, held_at, IsHeldAs}
use Rattle.jfs_held_maps.specs.Maps.{KeepsMaps}
use Rattle.jfs_pages_held.specs.Pages.{PagesKept}
use Rattle.jfs_kept_volumes.specs.Keeper.{Keeper, GrowsBy}
use Rattle.jfs_kept_volumes.specs.Rest.{IsAtRest}

-- It is held by its parts, which stand for the half; the log is at rest; and what a mount looked at of the maps is still so.
pub record IsHeldAtRest (m : Mount) (area : ℕ → ℕ) (p : Parts) (x : Keeper) : Type 0 where
  pub held : IsHeldAs m area p x.both x.core x.volumes
  pub stands : StandsFor true true p x.both.volume
  pub rest : IsAtRest (blocks_at p) x.both
  pub maps : KeepsMaps m (held_at x.both x.core x.volumes area p)

-- And its dirty pages may go home, and pages of the maps are dirty as their files are marked.
pub record IsKept (m : Mount) (area : ℕ → ℕ) (p : Parts) (x : Keeper) : Type 0 where
  pub rests : IsHeldAtRest m area p x
  pub pages : PagesKept m area p x.both x.core

-- By a step of it these entries joined, and these sync counts were made.
pub record Steps (m : Mount) (area : ℕ → ℕ) (new : Parts) (hs : List Happened) (points : List ℕ) (x : Keeper) : Type 0 where
  pub keeper : Keeper
  pub kept : IsKept m area new keeper
  pub grows : GrowsBy hs points x keeper
