-- Descriptors of extents. (JFS Layout: xad_t, dxd_t.)
use Rattle.std.specs.Prelude.{ℕ, ◌+◌, ◌*◌, ◌/◌, ◌%◌, ◌^◌, ◌<◌, List, [], ◌∷◌}
use Rattle.byteorder.specs.Endian.{little_bytes}
use Rattle.jfs_bits.specs.declared.extent.Xad.{Xad}
use Rattle.jfs_bits.specs.declared.extent.Dxd.{Dxd}
use Rattle.jfs_bits.specs.Field.{field_of}
use Rattle.jfs_bits.specs.Descriptor.{pxd_of, pxd_bytes, FitsPxd}
use Rattle.jfs_bits.specs.Piece.{Piece}

-- a flag, two reserved bytes, the offset's bits 39..32 in a byte and its bits 31..0 in a word, and the run
abbrev pub xad_of : List ℕ → ℕ → Xad
xad_of bytes at = record { flag = field_of bytes at 1; offset = field_of bytes (at + 3) 1 * 2 ^ 32 + field_of bytes (at + 4) 4; at = pxd_of bytes (at + 8) }

-- what has a place in these bits
pub record FitsXad (x : Xad) : Type 0 where
  pub flag : x.flag < 2 ^ 8
  pub offset : x.offset < 2 ^ 40
  pub run : FitsPxd x.at

-- the fields' bytes in their places from `at` on, the reserved ones aside
unfoldable pub xad_pieces : ℕ → Xad → List Piece
xad_pieces at x =
    record { at = at; bytes = little_bytes 1 x.flag } ∷
    record { at = at + 3; bytes = little_bytes 1 (x.offset / 2 ^ 32) } ∷
    record { at = at + 4; bytes = little_bytes 4 (x.offset % 2 ^ 32) } ∷
    record { at = at + 8; bytes = pxd_bytes x.at } ∷ []

-- a flag, three reserved bytes, the size in bytes, and the run
abbrev pub dxd_of : List ℕ → ℕ → Dxd
dxd_of bytes at = record { flag = field_of bytes at 1; size = field_of bytes (at + 4) 4; at = pxd_of bytes (at + 8) }

-- what has a place in these bits
pub record FitsDxd (d : Dxd) : Type 0 where
  pub flag : d.flag < 2 ^ 8
  pub size : d.size < 2 ^ 32
  pub run : FitsPxd d.at

-- the fields' bytes in their places from `at` on, the reserved ones aside
unfoldable pub dxd_pieces : ℕ → Dxd → List Piece
dxd_pieces at d =
    record { at = at; bytes = little_bytes 1 d.flag } ∷
    record { at = at + 4; bytes = little_bytes 4 d.size } ∷
    record { at = at + 8; bytes = pxd_bytes d.at } ∷ []
