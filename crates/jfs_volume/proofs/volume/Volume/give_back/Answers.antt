use Rattle.std.proofs.Common.{ℕ, length, ap, ◌∙◌, refl, if◌then◌else◌}
use Rattle.jfs_bmap.specs.States.{Blocks, BlockState, Free, is_in_list}
use Rattle.jfs_bmap.proofs.States.{changed-length}
use Rattle.jfs_volume.specs.Runs.{taken_in}
use Rattle.jfs_volume.proofs.Busy.{between_freed}
use Rattle.jfs_volume.proofs.Files.{files_kept}
use Rattle.jfs_volume.proofs.volume.Volume.give_back.Goals as goal

pub invariant_of-self : goal.invariant_of-self
invariant_of-self g c =
    let i = c.self.invariant in
    let v = c.self.inside in
    let freed = c.give_back_all.ensures in
    let list = taken_in c.as_slice.result.now in (
      i.0,
      i.1,
      i.2,
      i.3,
      i.4,
      i.5,
      rw freed (between_freed v.told v.appended list v.maps.blocks i.6),
      files_kept v.cache.blocks v.cache.blocks (length v.maps.blocks.states) (length c.give_back_all.new.blocks.states) v.maps.inodes.iags v.maps.inodes.iags v.files refl
          (ap (λ (m : Blocks). length m.states) freed ∙ changed-length (λ (b : ℕ) (s : BlockState). if is_in_list list b then Free else s) v.maps.blocks) refl i.7,
      i.8,
      i.9,
    )
