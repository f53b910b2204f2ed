-- Where each field of a superblock stands on page 8. (JFS header, struct jfs_superblock.)
use Rattle.std.specs.Prelude.{ℕ, List, [], ◌∷◌}
use Rattle.byteorder.specs.Endian.{little_bytes}
use Rattle.jfs_bits.specs.Field.{field_of, range_of}
use Rattle.jfs_bits.specs.Descriptor.{pxd_of, pxd_bytes, moment_of, moment_bytes, FitsPxd}
use Rattle.jfs_bits.specs.Piece.{Piece, piece}
use Rattle.jfs_super.specs.declared.fields.Super.{Super}

abbrev pub super_of : List ℕ → Super
super_of page = record {
  magic = field_of page 0 4;
  version = field_of page 4 4;
  size = field_of page 8 8;
  bsize = field_of page 16 4;
  l2bsize = field_of page 20 2;
  l2bfactor = field_of page 22 2;
  pbsize = field_of page 24 4;
  l2pbsize = field_of page 28 2;
  agsize = field_of page 32 4;
  flag = record { 0 = field_of page 36 4 };
  state = record { 0 = field_of page 40 4 };
  compress = field_of page 44 4;
  ait2 = pxd_of page 48;
  aim2 = pxd_of page 56;
  logdev = field_of page 64 4;
  logserial = field_of page 68 4;
  logpxd = pxd_of page 72;
  fsckpxd = pxd_of page 80;
  time = moment_of page 88;
  fsckloglen = field_of page 96 4;
  fscklog = field_of page 100 1;
  fpack = range_of page 101 11;
  xsize = field_of page 112 8;
  xfsckpxd = pxd_of page 120;
  xlogpxd = pxd_of page 128;
  uuid = range_of page 136 16;
  label = range_of page 152 16;
  loguuid = range_of page 168 16;
}

-- the runs of blocks have their place in a descriptor
pub record FitsSuper (s : Super) : Type 0 where
  pub ait2 : FitsPxd s.ait2
  pub aim2 : FitsPxd s.aim2
  pub log : FitsPxd s.logpxd
  pub fsck : FitsPxd s.fsckpxd
  pub xfsck : FitsPxd s.xfsckpxd
  pub xlog : FitsPxd s.xlogpxd

-- the bytes of each field, in its place
unfoldable pub pieces : Super → List Piece
pieces s =
    piece 0 (little_bytes 4 s.magic) ∷
    piece 4 (little_bytes 4 s.version) ∷
    piece 8 (little_bytes 8 s.size) ∷
    piece 16 (little_bytes 4 s.bsize) ∷
    piece 20 (little_bytes 2 s.l2bsize) ∷
    piece 22 (little_bytes 2 s.l2bfactor) ∷
    piece 24 (little_bytes 4 s.pbsize) ∷
    piece 28 (little_bytes 2 s.l2pbsize) ∷
    piece 32 (little_bytes 4 s.agsize) ∷
    piece 36 (little_bytes 4 s.flag.0) ∷
    piece 40 (little_bytes 4 s.state.0) ∷
    piece 44 (little_bytes 4 s.compress) ∷
    piece 48 (pxd_bytes s.ait2) ∷
    piece 56 (pxd_bytes s.aim2) ∷
    piece 64 (little_bytes 4 s.logdev) ∷
    piece 68 (little_bytes 4 s.logserial) ∷
    piece 72 (pxd_bytes s.logpxd) ∷
    piece 80 (pxd_bytes s.fsckpxd) ∷
    piece 88 (moment_bytes s.time) ∷
    piece 96 (little_bytes 4 s.fsckloglen) ∷
    piece 100 (little_bytes 1 s.fscklog) ∷
    piece 101 s.fpack ∷
    piece 112 (little_bytes 8 s.xsize) ∷
    piece 120 (pxd_bytes s.xfsckpxd) ∷
    piece 128 (pxd_bytes s.xlogpxd) ∷
    piece 136 s.uuid ∷
    piece 152 s.label ∷
    piece 168 s.loguuid ∷ []
