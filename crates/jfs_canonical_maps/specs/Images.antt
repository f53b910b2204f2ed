-- Images with canonical map pages, as functions. Of what makes a page canonical all is a relation, field by field; the bytes that are in it are given page by page by jfs_map_bytes.
use Rattle.std.specs.Prelude.{ℕ, zero, suc, Bool, ◌&&◌, ◌==◌, if◌then◌else◌, List}
use Rattle.jfs_ranges.specs.declared.edit.Edit.{Edit}
use Rattle.jfs_ranges.specs.Apply.{apply_tx}
use Rattle.jfs_map_bytes.specs.BlockMap.{block_map_bytes}
use Rattle.jfs_map_bytes.specs.InodeMap.{inode_map_bytes}
use Rattle.jfs_face.specs.steps.specs.bmap.specs.MapFile.{pages_of, is_in_use}
use Rattle.jfs_face.specs.recovery.specs.Face.{Pages, Item, Value}
use Rattle.jfs_face.specs.Places.{Places, is_block_page, is_map_page}
use Rattle.jfs_face.specs.Items.{set_by, extent_by}
use Rattle.jfs_face.specs.MapPages.{taken_by, inode_used_by}
use Rattle.jfs_face.specs.Redo.{pages_redone, items_redone}
use Rattle.jfs_face.specs.Volume.{items_on}

-- ---- a page of a map

-- the greatest number below `n` that passes the test; 0 where none does
unfoldable pub last_that : ℕ → (ℕ → Bool) → ℕ
last_that zero test = 0
last_that (suc n) test = if test n then n else last_that n test

-- which page of the block map's file a block is, and which one of the inode map's
abbrev pub block_number : Places → ℕ → ℕ
block_number pl p = last_that (pages_of pl.blocks) (λ k. is_in_use pl.blocks k && pl.block_map k == p)

abbrev pub inode_number : Places → ℕ → ℕ
inode_number pl p = last_that (suc pl.iags) (λ k. pl.inode_map k == p)

-- its bytes, by the inodes on these pages and by what the maps keep
unfoldable pub map_page : Places → Pages → (Item → Value) → ℕ → List ℕ
map_page pl s items p =
    if is_block_page pl p then block_map_bytes pl.blocks pl.agsize (taken_by pl items) (block_number pl p)
    else inode_map_bytes (inode_used_by pl s items) (extent_by items) pl.iags pl.numag pl.agsize (inode_number pl p)

-- ---- images

-- these pages, with the maps' pages as they follow
unfoldable pub with_maps : Places → Pages → (Item → Value) → Pages
with_maps pl s items p = if is_map_page pl p then map_page pl s items p else s p

-- an image with its map pages made canonical
abbrev pub made_canonical : Places → Pages → Pages
made_canonical pl s = with_maps pl s (items_on pl s)

-- the image after an entry
abbrev pub after_entry : Places → Pages → List Edit → Pages
after_entry pl s tx = with_maps pl (λ p. apply_tx p tx (s p)) (λ i. set_by tx i (items_on pl s i))

-- and after redo of entries, over what a crash left
abbrev pub after_redo : Places → Pages → List (List Edit) → Pages
after_redo pl low txs = with_maps pl (pages_redone low txs) (items_redone pl low txs)
