-- Areas of a new volume that are written together. For the prover alone.
use Rattle.std.specs.Prelude.{◌≡◌, ◌+◌}
use Rattle.jfs_disk.specs.Image.{Image, page_of}
use Rattle.jfs_imap.specs.Inodes.{IsInodePage}
use Rattle.jfs_bmap.specs.MapFile.{IsMapPage}
use Rattle.jfs_format.specs.declared.volume.NewVolume.{NewVolume}
use Rattle.jfs_format.specs.declared.tables.Table.TheVariants.{Aggregate, Fileset}
use Rattle.jfs_format.specs.Layout.{map_pages, second_table, second_map, inode_map, first_inodes, is_taken_block}
use Rattle.jfs_format.specs.Inodes.{aggregate_inode, fileset_inode, IsTablePage}
use Rattle.jfs_format.specs.Superblock.{super_page}
use Rattle.jfs_format.specs.Volume.{HasPages, inodes_in}

pub record HasFront (v : NewVolume) (image : Image) : Type 0 where
  pub aggregate_map : HasPages 9 2 (IsInodePage (inodes_in Aggregate v.layout)) image
  pub aggregate_inodes : HasPages 11 4 (IsTablePage (aggregate_inode v)) image
  pub second_super : page_of image 15 ≡ super_page v

pub record HasCopies (v : NewVolume) (image : Image) : Type 0 where
  pub second_inodes : HasPages (second_table v.layout) 4 (IsTablePage (aggregate_inode v)) image
  pub second_map : HasPages (second_map v.layout) 2 (IsInodePage (inodes_in Aggregate v.layout)) image

pub record HasFileset (v : NewVolume) (image : Image) : Type 0 where
  pub inode_map : HasPages (inode_map v.layout) (1 + v.layout.iags) (IsInodePage (inodes_in Fileset v.layout)) image
  pub inodes : HasPages (first_inodes v.layout) 4 (IsTablePage (fileset_inode v)) image

pub record IsUpToLog (v : NewVolume) (image : Image) : Type 0 where
  pub front : HasFront v image
  pub block_map : HasPages 16 (map_pages v.layout) (IsMapPage v.layout.blocks v.layout.agsize (is_taken_block v.layout)) image
  pub copies : HasCopies v image
  pub fileset : HasFileset v image
