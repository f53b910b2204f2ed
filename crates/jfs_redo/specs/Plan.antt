-- What redo knows before it writes.
use Rattle.std.specs.Prelude.{◌≡◌, ◌<◌, ◌≤◌, ◌*◌, ℕ, List, length, Some, None, Result, Ok, Err}
use Rattle.jfs_ranges.specs.declared.edit.Edit.{Edit}
use Rattle.jfs_records.specs.Redo.{all_of}
use Rattle.jfs_redo_steps.specs.steps.specs.After.{used_after, extents_after}
use Rattle.jfs_bmap.specs.Set.{taken_at}
use Rattle.jfs_redo_steps.specs.each.specs.Each.{AllFit}
use Rattle.jfs_mount_maps.specs.mount_rules.specs.Subject.{Subject, volume}
use Rattle.jfs_mount_maps.specs.mount_rules.specs.Mount.{broken_maps}
use Rattle.jfs_mount_maps.specs.mount_rules.specs.Steps.{AreRead}
use Rattle.jfs_mount_maps.specs.mount_rules.specs.declared.bad.BadMount.{BadMount as Bad}
use Rattle.jfs_redo.specs.declared.plan.Plan.{Plan}

-- on every view: it is of a volume of so many blocks, and inode extents lie within it
pub record IsPlan (blocks agsize : ℕ) (plan : Plan) : Type 0 where
  pub blocks_are : plan.maps.blocks ≡ blocks
  pub number : length plan.blocks.owned ≡ blocks
  pub groups : plan.blocks.agsize ≡ agsize
  pub few : plan.maps.inodes.iags ≤ 65536
  pub all : length plan.places.items ≡ 128 * plan.maps.inodes.iags
  pub fit : AllFit blocks plan.places.items

-- of a volume that was read: no rule on its maps is broken; blocks in use and inode extents are those after all transactions
pub record IsPlanOf (s : Subject) (txs : List (List Edit)) (plan : Plan) : Type 0 where
  pub unbroken : broken_maps s ≡ None
  pub read : AreRead s plan.maps
  pub used : (b : ℕ) → b < length plan.blocks.owned → taken_at plan.blocks.owned b ≡ used_after (all_of txs) (volume s).used b
  pub places : plan.places.items ≡ extents_after (all_of txs) (volume s).extents

abbrev pub Plans : Subject → List (List Edit) → Result Plan Bad → Type 0
Plans s txs (Ok plan) = IsPlanOf s txs plan
Plans s txs (Err bad) = broken_maps s ≡ Some bad
