-- The roots of trees as a new volume has them, in the bytes of an inode from byte 128 on; a root begins at byte 224. (JFS Layout: xtroot_t, dtroot_t.)
use Rattle.std.specs.Prelude.{ℕ, ◌+◌, List, [], ◌∷◌, ◌++◌, replicate}
use Rattle.byteorder.specs.Endian.{little_bytes}
use Rattle.jfs_bits.specs.declared.descriptor.Pxd.{Pxd}
use Rattle.jfs_bits.specs.declared.extent.Xad.{Xad}
use Rattle.jfs_bits.specs.Piece.{Piece, piece, puts}
use Rattle.jfs_bits.specs.Extent.{xad_pieces}

abbrev pub empty_rest : List ℕ
empty_rest = replicate 384 0

-- the header of an extent tree's root: a root that is a leaf, whose first free slot is `next` of 18
abbrev pub extent_head : ℕ → List Piece
extent_head next = piece 112 (little_bytes 1 0x83) ∷ piece 114 (little_bytes 2 next) ∷ piece 116 (little_bytes 2 18) ∷ []

-- no extent; slots 0 and 1 are the header's
unfoldable pub no_extents : List ℕ
no_extents = puts (extent_head 2) empty_rest

-- the file's blocks from 0 on are those of a run
abbrev pub whole_file : Pxd → Xad
whole_file run = record { flag = 0; offset = 0; at = run }

-- one extent, in slot 2
unfoldable pub one_extent : Pxd → List ℕ
one_extent run = puts (xad_pieces 128 (whole_file run)) (puts (extent_head 3) empty_rest)

-- a free slot of a directory's root: the next one, and that it is one slot
abbrev pub free_slot : ℕ → ℕ → List Piece
free_slot at next = piece at (little_bytes 1 next) ∷ piece (at + 1) (little_bytes 1 1) ∷ []

-- A directory without a name, which is its own parent: a root that is a leaf, no entry, 8 free slots from slot 1 on, and inode 2 as its
-- parent. Then the free slots 1 to 8 as a chain, which -1 ends.
unfoldable pub empty_root : List ℕ
empty_root =
    puts (piece 112 (little_bytes 1 0x83) ∷ piece 113 (little_bytes 1 0) ∷ piece 114 (little_bytes 1 8) ∷ piece 115 (little_bytes 1 1) ∷ piece 116 (little_bytes 4 2) ∷
    (free_slot 128 2 ++ (free_slot 160 3 ++ (free_slot 192 4 ++ (free_slot 224 5 ++ (free_slot 256 6 ++ (free_slot 288 7 ++ (free_slot 320 8 ++ free_slot 352 255)))))))) empty_rest
