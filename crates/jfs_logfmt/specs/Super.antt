-- The log's superblock, on its page 1. (JFS header, struct logsuper.)
use Rattle.std.specs.Prelude.{ℕ, ◌==◌, ◌&&◌, Bool, List, [], ◌∷◌}
use Rattle.byteorder.specs.Endian.{little_bytes}
use Rattle.jfs_bits.specs.Field.{field_of, range_of}
use Rattle.jfs_bits.specs.Piece.{Piece, piece}
use Rattle.jfs_logfmt.specs.declared.log_super.LogSuper.{LogSuper}

-- its magic number and its version
abbrev pub is_log_super : List ℕ → Bool
is_log_super page = field_of page 0 4 == 0x87654321 && field_of page 4 4 == 1

abbrev pub log_super_of : List ℕ → LogSuper
log_super_of page = record {
  serial = field_of page 8 4;
  size = field_of page 12 4;
  state = field_of page 28 4;
  uuid = range_of page 36 16;
  label = range_of page 52 16;
}

-- magic, version, serial, size, bsize, l2bsize, flag, state, end, uuid, label
unfoldable pub log_super_pieces : LogSuper → List Piece
log_super_pieces s =
    piece 0 (little_bytes 4 0x87654321) ∷
    piece 4 (little_bytes 4 1) ∷
    piece 8 (little_bytes 4 s.serial) ∷
    piece 12 (little_bytes 4 s.size) ∷
    piece 16 (little_bytes 4 4096) ∷
    piece 20 (little_bytes 4 12) ∷
    piece 24 (little_bytes 4 0) ∷
    piece 28 (little_bytes 4 s.state) ∷
    piece 32 (little_bytes 4 0) ∷
    piece 36 s.uuid ∷
    piece 52 s.label ∷ []
