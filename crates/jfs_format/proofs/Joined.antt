-- Areas of a new volume, one behind the other.
use Rattle.std.proofs.Common.{◌≡◌, ◌≤◌, ◌+◌, ℕ, zero, suc, List, ◌∙◌, inl, arith}
use Rattle.jfs_disk.specs.Image.{Image, page_of}
use Rattle.jfs_imap.specs.Inodes.{IsInodePage}
use Rattle.jfs_bmap.specs.MapFile.{IsMapPage, IsDmapPage}
use Rattle.jfs_logpages.specs.Fresh.{OthersStay}
use Rattle.jfs_format.specs.declared.layout.Layout.{Layout}
use Rattle.jfs_format.specs.declared.volume.NewVolume.{NewVolume}
use Rattle.jfs_format.specs.declared.tables.Table.TheVariants.{Aggregate, Fileset}
use Rattle.jfs_format.specs.Layout.{map_pages, second_table, second_map, inode_map, first_inodes, is_taken_block}
use Rattle.jfs_format.specs.Inodes.{aggregate_inode, fileset_inode, IsTablePage}
use Rattle.jfs_format.specs.Volume.{HasPages, inodes_in}
use Rattle.jfs_format.specs.Areas.{HasFront, HasCopies, HasFileset, IsUpToLog}
use Rattle.jfs_format.proofs.Written.{has-kept}

-- the file of the block map: its control pages, and then the dmaps
pub map-file : (l : Layout) (image : Image) → HasPages 16 4 (IsMapPage l.blocks l.agsize (is_taken_block l)) image → HasPages 20 l.dmaps (IsDmapPage l.blocks (is_taken_block l)) image → HasPages 16 (map_pages l) (IsMapPage l.blocks l.agsize (is_taken_block l)) image
map-file l image controls dmaps zero h = controls 0 (omega arith)
map-file l image controls dmaps (suc zero) h = controls 1 (omega arith)
map-file l image controls dmaps (suc (suc zero)) h = controls 2 (omega arith)
map-file l image controls dmaps (suc (suc (suc zero))) h = controls 3 (omega arith)
map-file l image controls dmaps (suc (suc (suc (suc k)))) h = let place : 20 + k ≡ 16 + suc (suc (suc (suc k))) = omega arith in rw place at (dmaps k (omega (arith, h)))

pub front-kept : (v : NewVolume) (first count : ℕ) (old new : Image) → 16 ≤ first → OthersStay first count old new → HasFront v old → HasFront v new
front-kept v first count old new behind stay front = record {
  aggregate_map = has-kept 9 2 first count (IsInodePage (inodes_in Aggregate v.layout)) old new (inl (omega arith)) stay front.aggregate_map;
  aggregate_inodes = has-kept 11 4 first count (IsTablePage (aggregate_inode v)) old new (inl (omega arith)) stay front.aggregate_inodes;
  second_super = stay 15 (inl (omega arith)) ∙ front.second_super;
}

pub map-kept : (l : Layout) (first count : ℕ) (old new : Image) → 16 + map_pages l ≤ first → OthersStay first count old new → HasPages 16 (map_pages l) (IsMapPage l.blocks l.agsize (is_taken_block l)) old → HasPages 16 (map_pages l) (IsMapPage l.blocks l.agsize (is_taken_block l)) new
map-kept l first count old new behind stay map = has-kept 16 (map_pages l) first count (IsMapPage l.blocks l.agsize (is_taken_block l)) old new (inl behind) stay map

pub copies-kept : (v : NewVolume) (first count : ℕ) (old new : Image) → inode_map v.layout ≤ first → OthersStay first count old new → HasCopies v old → HasCopies v new
copies-kept v first count old new behind stay copies = record {
  second_inodes = has-kept (second_table v.layout) 4 first count (IsTablePage (aggregate_inode v)) old new (inl (omega arith)) stay copies.second_inodes;
  second_map = has-kept (second_map v.layout) 2 first count (IsInodePage (inodes_in Aggregate v.layout)) old new (inl (omega arith)) stay copies.second_map;
}

pub fileset-kept : (v : NewVolume) (first count : ℕ) (old new : Image) → first_inodes v.layout + 4 ≤ first → OthersStay first count old new → HasFileset v old → HasFileset v new
fileset-kept v first count old new behind stay fileset = record {
  inode_map = has-kept (inode_map v.layout) (1 + v.layout.iags) first count (IsInodePage (inodes_in Fileset v.layout)) old new (inl (omega arith)) stay fileset.inode_map;
  inodes = has-kept (first_inodes v.layout) 4 first count (IsTablePage (fileset_inode v)) old new (inl (omega arith)) stay fileset.inodes;
}

pub up-to-kept : (v : NewVolume) (first count : ℕ) (old new : Image) → first_inodes v.layout + 4 ≤ first → OthersStay first count old new → IsUpToLog v old → IsUpToLog v new
up-to-kept v first count old new behind stay all = record {
  front = front-kept v first count old new (omega arith) stay all.front;
  block_map = map-kept v.layout first count old new (omega arith) stay all.block_map;
  copies = copies-kept v first count old new (omega arith) stay all.copies;
  fileset = fileset-kept v first count old new behind stay all.fileset;
}

pub four-pages : (Is : ℕ → List ℕ → Type 0) (image : Image) → Is 0 (page_of image 16) → Is 1 (page_of image 17) → Is 2 (page_of image 18) → Is 3 (page_of image 19) → HasPages 16 4 Is image
four-pages Is image a b c d zero h = a
four-pages Is image a b c d (suc zero) h = b
four-pages Is image a b c d (suc (suc zero)) h = c
four-pages Is image a b c d (suc (suc (suc zero))) h = d
four-pages Is image a b c d (suc (suc (suc (suc k)))) h = absurd (omega (arith, h))
