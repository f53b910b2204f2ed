-- Where each field of an inode stands in its 512 bytes. (JFS Layout, struct dinode.)
use Rattle.std.specs.Prelude.{ℕ, ◌*◌, List, [], ◌∷◌, ◌++◌}
use Rattle.byteorder.specs.Endian.{little_bytes}
use Rattle.jfs_bits.specs.Field.{field_of, range_of}
use Rattle.jfs_bits.specs.Descriptor.{pxd_of, pxd_bytes, moment_of, moment_bytes, FitsPxd}
use Rattle.jfs_bits.specs.Extent.{dxd_of, dxd_pieces, FitsDxd}
use Rattle.jfs_bits.specs.Piece.{Piece, piece}
use Rattle.jfs_inode.specs.declared.fields.Dinode.{Dinode}

-- the bytes of the inode in a slot of a page, which has eight
abbrev pub inode_at : List ℕ → ℕ → List ℕ
inode_at page slot = range_of page (512 * slot) 512

abbrev pub dinode_of : List ℕ → Dinode
dinode_of bytes = record {
  inostamp = field_of bytes 0 4;
  fileset = field_of bytes 4 4;
  number = field_of bytes 8 4;
  generation = field_of bytes 12 4;
  ixpxd = pxd_of bytes 16;
  size = field_of bytes 24 8;
  nblocks = field_of bytes 32 8;
  nlink = field_of bytes 40 4;
  uid = field_of bytes 44 4;
  gid = field_of bytes 48 4;
  mode = field_of bytes 52 4;
  atime = moment_of bytes 56;
  ctime = moment_of bytes 64;
  mtime = moment_of bytes 72;
  otime = moment_of bytes 80;
  acl = dxd_of bytes 88;
  ea = dxd_of bytes 104;
  next_index = field_of bytes 120 4;
  acltype = field_of bytes 124 4;
  rest = range_of bytes 128 384;
}

-- the runs of blocks have their place in a descriptor
pub record FitsDinode (d : Dinode) : Type 0 where
  pub ixpxd : FitsPxd d.ixpxd
  pub acl : FitsDxd d.acl
  pub ea : FitsDxd d.ea

-- the bytes of each field, in its place
unfoldable pub pieces : Dinode → List Piece
pieces d =
    piece 0 (little_bytes 4 d.inostamp) ∷
    piece 4 (little_bytes 4 d.fileset) ∷
    piece 8 (little_bytes 4 d.number) ∷
    piece 12 (little_bytes 4 d.generation) ∷
    piece 16 (pxd_bytes d.ixpxd) ∷
    piece 24 (little_bytes 8 d.size) ∷
    piece 32 (little_bytes 8 d.nblocks) ∷
    piece 40 (little_bytes 4 d.nlink) ∷
    piece 44 (little_bytes 4 d.uid) ∷
    piece 48 (little_bytes 4 d.gid) ∷
    piece 52 (little_bytes 4 d.mode) ∷
    piece 56 (moment_bytes d.atime) ∷
    piece 64 (moment_bytes d.ctime) ∷
    piece 72 (moment_bytes d.mtime) ∷
    piece 80 (moment_bytes d.otime) ∷
    (dxd_pieces 88 d.acl ++ (dxd_pieces 104 d.ea ++ (
    piece 120 (little_bytes 4 d.next_index) ∷
    piece 124 (little_bytes 4 d.acltype) ∷
    piece 128 d.rest ∷ [])))
