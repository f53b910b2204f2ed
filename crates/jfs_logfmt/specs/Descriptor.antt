-- The 36 bytes that end a record. (JFS Log, lrd.)
use Rattle.std.specs.Prelude.{ℕ, List, [], ◌∷◌, replicate}
use Rattle.byteorder.specs.Endian.{little_bytes}
use Rattle.jfs_bits.specs.Field.{field_of}
use Rattle.jfs_bits.specs.Descriptor.{pxd_of, pxd_bytes}
use Rattle.jfs_bits.specs.Piece.{Piece, piece, puts}
use Rattle.jfs_logfmt.specs.declared.descriptor.Descriptor.{Descriptor}

-- the aggregate field, 4 bytes at 12, is not looked at
abbrev pub descriptor_of : List ℕ → Descriptor
descriptor_of tail = record {
  tid = field_of tail 0 4;
  back = field_of tail 4 4;
  number = field_of tail 8 2;
  length = field_of tail 10 2;
  fileset = field_of tail 16 4;
  inode = field_of tail 20 4;
  kind = field_of tail 24 2;
  count = field_of tail 26 2;
  at = pxd_of tail 28;
}

-- the bytes of each field, in its place
unfoldable pub descriptor_pieces : Descriptor → List Piece
descriptor_pieces d =
    piece 0 (little_bytes 4 d.tid) ∷
    piece 4 (little_bytes 4 d.back) ∷
    piece 8 (little_bytes 2 d.number) ∷
    piece 10 (little_bytes 2 d.length) ∷
    piece 16 (little_bytes 4 d.fileset) ∷
    piece 20 (little_bytes 4 d.inode) ∷
    piece 24 (little_bytes 2 d.kind) ∷
    piece 26 (little_bytes 2 d.count) ∷
    piece 28 (pxd_bytes d.at) ∷ []

-- as it is written: zeros where no field stands
abbrev pub descriptor_bytes : Descriptor → List ℕ
descriptor_bytes d = puts (descriptor_pieces d) (replicate 36 0)
