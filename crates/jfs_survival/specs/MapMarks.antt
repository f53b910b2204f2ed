-- Which pages of the maps are dirty with an entry: all pages of a map that it changes, as the maps' files are marked.
use Rattle.std.specs.Prelude.{◌≡◌, ℕ, suc, Bool, true, false, ◌&&◌, ◌||◌, List, [], ◌∷◌}
use Rattle.jfs_bits.specs.Bits.{any_below}
use Rattle.jfs_ranges.specs.declared.edit.Edit.{Edit}
use Rattle.jfs_ranges.specs.declared.edit.Edit.TheVariants.{Lines, NoRedo, Alloc, Free}
use Rattle.jfs_face.specs.recovery.specs.records.specs.Marks.{is_new_extent}
use Rattle.jfs_face.specs.recovery.specs.objects.specs.Readers.{Readers}
use Rattle.jfs_face.specs.recovery.specs.Face.{Pages, IsStep}
use Rattle.jfs_face.specs.recovery.specs.Core.{Core, count, image}
use Rattle.jfs_face.specs.recovery.specs.Sound.{IsSound}
use Rattle.jfs_face.specs.Places.{Places, AreInAreas, is_block_page, is_inode_page, is_map_page}
use Rattle.jfs_face.specs.Marks.{inode_page_changes}
use Rattle.jfs_face.specs.Volume.{face_of}

-- The block map counts as changed where an edit takes or frees a run, as new inodes take theirs; also one without blocks.
abbrev pub has_run : Edit → Bool
has_run (Lines page kind first bytes) = is_new_extent kind bytes
has_run (NoRedo page) = false
has_run (Alloc run) = true
has_run (Free run) = true

abbrev pub block_map_changes : List Edit → Bool
block_map_changes [] = false
block_map_changes (e ∷ es) = has_run e || block_map_changes es

-- and the inode map where some page of it changes
abbrev pub inode_map_changes : Places → Pages → List Edit → Bool
inode_map_changes pl s tx = any_below (suc pl.iags) (λ k. inode_page_changes pl s tx k)

abbrev pub map_marks : Places → Pages → List Edit → ℕ → Bool
map_marks pl s tx p = (is_block_page pl p && block_map_changes tx) || (is_inode_page pl p && inode_map_changes pl s tx)

-- The other pages of the maps stay with an entry.
abbrev pub MarkedLaw : Type 0
MarkedLaw = (r : Readers) (pl : Places) (core : Core) (tx : List Edit) (t : Pages) (p : ℕ) → AreInAreas pl → IsSound (face_of r pl (map_marks pl)) core → IsStep (face_of r pl (map_marks pl)) (image core (count core)) tx t
    → is_map_page pl p ≡ true → map_marks pl (image core (count core)) tx p ≡ false → t p ≡ image core (count core) p
