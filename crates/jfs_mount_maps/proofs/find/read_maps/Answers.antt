use Rattle.std.proofs.Common.{◌∙◌, ℕ, refl, sym, ap, subst, arith}
use Rattle.jfs_super.specs.declared.fields.Geometry.{Geometry}
use Rattle.jfs_sets.specs.mount_rules.specs.Steps.{IsMounted}
use Rattle.jfs_bmap.specs.MapFile.{pages_of}
use Rattle.jfs_map_files.specs.Files.{AreFilesOf}
use Rattle.jfs_claim.specs.way.specs.Volume.{PlacesWithin}
use Rattle.jfs_mount_maps.proofs.Blocks.{idle_rests}
use Rattle.jfs_mount_maps.proofs.Joined.{found}
use Rattle.jfs_mount_maps.proofs.find.read_maps.Goals as goal

pub inode_map_of-requires-clause-mounted : goal.inode_map_of-requires-clause-mounted
inode_map_of-requires-clause-mounted g c =
    subst (λ (n : ℕ). IsMounted n c.in-Ok.mounted) (sym (c.in_ok-blocks.ensures.count_of_blocks ∙ c.in_ok-mounted.ensures.count_of_blocks)) (rw c.in-Ok.is at c.in_ok-mounted.ensures.maps)

pub returns-in-Ok-files_of-clause-rest : goal.returns-in-Ok-files_of-clause-rest
returns-in-Ok-files_of-clause-rest g c =
    let mounted = rw c.in-Ok.is at c.in_ok-mounted.ensures.maps in
    let blocks = mounted.blocks ∙ sym c.requires.part in
    record {
      number = c.in_ok-blocks.ensures.number ∙ c.in_ok-mounted.ensures.count_of_blocks ∙ sym c.requires.part;
      idle = c.in_ok-blocks.ensures.idle;
      rest = record { none = idle_rests c.in_ok-blocks.blocks c.in_ok-blocks.ensures.idle; places = omega (arith, c.in_ok-inodes.ensures.places) };
      within = subst (λ (n : ℕ). PlacesWithin n c.in_ok-inodes.inodes) (c.in_ok-blocks.ensures.count_of_blocks ∙ c.in_ok-mounted.ensures.count_of_blocks ∙ sym c.requires.part) c.in_ok-inodes.ensures.within;
      limit = refl;
      files = subst (λ (n : ℕ). AreFilesOf n (pages_of n) c.in_ok-inodes.inodes.iags c.in-Ok-files_of.files) blocks
          (subst (λ (k : ℕ). AreFilesOf c.in-Ok.mounted.maps.blocks (pages_of c.in-Ok.mounted.maps.blocks) k c.in-Ok-files_of.files) (sym c.in_ok-inodes.ensures.number) c.in-Ok-files_of.ensures.files);
      fresh = c.in-Ok-files_of.ensures.fresh;
    }

pub returns-in-Ok-files_of-clause-finds : goal.returns-in-Ok-files_of-clause-finds
returns-in-Ok-files_of-clause-finds g c = λ told s geo.
    let mounts = rw c.in-Ok.is at (c.in_ok-mounted.ensures.mounts told s (ap (λ (l : Geometry). l.blocks) geo ∙ c.requires.part)) in
    found s (g.V.PageView.image c.args.view.now) (g.V.PageView.image c.mounted.new.view) (g.V.PageView.image c.block_map_of.new.view) c.in-Ok.mounted c.in_ok-blocks.blocks c.in_ok-inodes.inodes c.args.layout.file_limit c.in-Ok-files_of.files
    (c.in_ok-mounted.ensures.image told) (c.in_ok-blocks.ensures.image told) mounts (λ read. c.in_ok-blocks.ensures.blocks told s geo read) (λ m. c.in_ok-inodes.ensures.inodes told s geo m) c.in-Ok-files_of.ensures.blocks c.in-Ok-files_of.ensures.inodes
