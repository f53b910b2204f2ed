-- When a SYNCPT may be made on a volume that is kept.
use Rattle.jfs_kept_volumes.specs.Keeper.{Keeper}
use Rattle.jfs_kept_volumes.specs.commits_held.specs.volume_calls.specs.halves.specs.Change.{MayPoint}
use Rattle.jfs_kept_volumes.specs.pages_held.specs.joined_held.specs.held.specs.Held.{Mount, face_at}
use Rattle.jfs_kept_volumes.specs.pages_held.specs.joined_held.specs.held.specs.survival.specs.Played.{MapsAreSynced}

-- All entries are acknowledged, no page is dirty or unsynced, and no page of a map waits.
pub record IsSettledIn (m : Mount) (x : Keeper) : Type 0 where
  pub half : MayPoint x.both.volume
  pub maps : MapsAreSynced (face_at m) x.core
