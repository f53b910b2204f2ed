use Rattle.std.proofs.Common.{ℕ, length, ap, ◌∙◌, refl}
use Rattle.jfs_bmap.specs.States.{Blocks, BlockState, settled_state}
use Rattle.jfs_bmap.proofs.States.{changed-length}
use Rattle.jfs_volume.proofs.Busy.{between_settled}
use Rattle.jfs_volume.proofs.Files.{files_kept}
use Rattle.jfs_volume.proofs.volume.Volume.acknowledge.Goals as goal

pub invariant_of-self : goal.invariant_of-self
invariant_of-self g c =
    let i = c.self.invariant in
    let v = c.self.inside in
    let settled = c.settle.ensures in (
      i.0,
      rw (← c.self.view_is) at c.requires,
      i.2,
      i.3,
      i.4,
      i.5,
      rw settled (between_settled v.told v.appended c.args.n v.maps.blocks i.6),
      files_kept v.cache.blocks v.cache.blocks (length v.maps.blocks.states) (length c.settle.new.self.states) v.maps.inodes.iags v.maps.inodes.iags v.files refl
          (ap (λ (m : Blocks). length m.states) settled ∙ changed-length (λ (b : ℕ) (s : BlockState). settled_state c.args.n s) v.maps.blocks) refl i.7,
      i.8,
      i.9,
    )
