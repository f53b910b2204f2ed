-- What a write does to a file, whatever the volume holds.
use Rattle.std.specs.Prelude.{◌≡◌, ℕ, ◌+◌, ◌/◌, max, List, [], ◌++◌, length, Option}
use Rattle.jfs_bits.specs.declared.descriptor.Moment.{Moment}
use Rattle.jfs_bits.specs.declared.descriptor.Pxd.{Pxd}
use Rattle.jfs_bits.specs.declared.extent.Xad.{Xad}
use Rattle.jfs_ranges.specs.declared.edit.Edit.{Edit}
use Rattle.jfs_tree.specs.Fresh.{blocks_of}
use Rattle.jfs_link.specs.meaning.specs.Readers.{root_of}
use Rattle.jfs_read.specs.way.specs.declared.object.Held.{Held}
use Rattle.jfs_link.specs.lead_steps.specs.Balance.{own_after}
use Rattle.jfs_link.specs.steps.specs.Put.{AddsInode, TellsLines}
use Rattle.jfs_write_pages.specs.data_steps.specs.File.{resized}
use Rattle.jfs_write_pages.specs.Spots.{spots_between, placed, extents_for}
use Rattle.jfs_write_pages.specs.Pages.{told, pages_for}
use Rattle.jfs_write_pages.specs.declared.spot.Spot.{Spot}
use Rattle.jfs_write.specs.Tree.{run_allocs, PutsExtents}
use Rattle.jfs_write.specs.declared.make.Written.{Written}

-- The transaction: the file's tree gets the extents of those blocks that weren't recorded, the runs are taken, and the inode is put with this size, the blocks that it has then, and the time.
pub record Edits (blocks : ℕ) (pages : ℕ → List ℕ) (at : Held) (size : ℕ) (spots : List Spot) (runs free left : List Pxd) (now : Moment) (tx : List Edit) : Type 0 where
  pub root : List ℕ
  pub mid : List Edit
  pub width : length root ≡ 288
  pub rest : length at.inode.rest ≡ 384
  pub extents : PutsExtents blocks pages (extents_for spots) (root_of at.inode) root (blocks_of free) (blocks_of left) [] mid
  pub puts : AddsInode blocks pages at.page at.number (resized at.inode root size (own_after at.inode.nblocks (mid ++ run_allocs runs)) now) (mid ++ run_allocs runs) tx
  pub lines : TellsLines blocks pages at.page (mid ++ run_allocs runs) tx

-- The blocks that are written: those recorded from the old end on to the bytes, with zeros behind the end, and those that the bytes touch, each hole of which gets the next block of the runs; and the transaction.
pub record Makes (blocks : ℕ) (pages : ℕ → List ℕ) (at : Held) (size offset : ℕ) (bytes : List ℕ) (es : List Xad) (spots : List (Option Spot)) (runs free left : List Pxd) (now : Moment) (out : Written) : Type 0 where
  pub pages_are : told out.blocks ≡ pages_for pages size offset bytes (spots_between (size / 4096) (offset / 4096) es ++ placed (offset / 4096) spots (blocks_of runs))
  pub edits : Edits blocks pages at (max size (offset + length bytes)) (placed (offset / 4096) spots (blocks_of runs)) runs free left now out.tx
