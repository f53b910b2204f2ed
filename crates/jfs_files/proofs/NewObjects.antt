-- New objects among the calls.
use Rattle.std.proofs.Common.{◌≤◌, refl, ℕ, Bool, true, false, List, arith}
use Rattle.jfs_bits.specs.declared.descriptor.Moment.{Moment}
use Rattle.jfs_create.specs.bmap.specs.States.{unowned_count}
use Rattle.jfs_create.specs.room.specs.Laws.{NoneReserved}
use Rattle.jfs_create.specs.claim.specs.Take.{total}
use Rattle.jfs_create.specs.claim.specs.declared.reserve.Want.{Want}
use Rattle.jfs_create.specs.claim.proofs.Looks.{settled_is_enough}
use Rattle.jfs_create.specs.Reserved.{IsStopped, want_with}
use Rattle.jfs_create.specs.declared.new.NewObject.{NewObject}
use Rattle.jfs_create.specs.declared.reserve.Stop.TheVariants as stops
use Rattle.jfs_create.proofs.Sites.{founding}
use Rattle.jfs_files.specs.Outcome.{IsBusyFor, WantsInode}
use Rattle.jfs_map_files.specs.declared.maps.Maps.{Maps}
use Rattle.jfs_files.proofs.Links.{enough_for}

most_wanted : (run : Bool) → total (want_with run) ≤ 12
most_wanted true = omega arith
most_wanted false = omega arith

pub busy_between : (blocks : ℕ) (pages : ℕ → List ℕ) (maps : Maps) (path : List (List ℕ)) (object : NewObject) (now : Moment) → IsStopped blocks pages maps.inodes path object now maps.blocks stops.NeedsLog → NoneReserved maps.blocks
    → (want : Want) × WantsInode maps want × IsBusyFor maps.blocks want
busy_between blocks pages maps path object now stopped none =
    let seen = stopped.0 in
    let passes = stopped.1 in
    let want = want_with seen.fresh.needs_extent in
    let enough = enough_for (unowned_count maps.blocks) 12 tt passes.space in
    let most = most_wanted seen.fresh.needs_extent in
    (want, (seen.fresh, passes.inode, refl), (stopped.2, settled_is_enough maps.blocks want none (omega (arith, enough, most)) (λ needs. passes.inode.3.0 (founding maps.blocks maps.inodes seen.fresh passes.inode needs).there)))
