-- What is written of an inode is read back.
use Rattle.std.proofs.Common.{◌≡◌, ◌<◌, ◌^◌, ◌∷◌, [], ℕ, List, length, refl}
use Rattle.jfs_bits.specs.Piece.{puts}
use Rattle.jfs_bits.specs.Extent.{dxd_pieces}
use Rattle.jfs_bits.proofs.Descriptors.{length-pxd_bytes, length-moment_bytes}
use Rattle.jfs_bits.proofs.Pieces.{AreLaidOut, range_at-puts, field_of-puts, pxd_of-puts, moment_of-puts}
use Rattle.jfs_inode.specs.declared.fields.Dinode.{Dinode}
use Rattle.jfs_inode.specs.Inode.{dinode_of, pieces, FitsDinode}

-- each number fits its bytes, and the rest has its length
pub record InRange (d : Dinode) : Type 0 where
  pub inostamp : d.inostamp < 256 ^ 4
  pub fileset : d.fileset < 256 ^ 4
  pub number : d.number < 256 ^ 4
  pub generation : d.generation < 256 ^ 4
  pub size : d.size < 256 ^ 8
  pub nblocks : d.nblocks < 256 ^ 8
  pub nlink : d.nlink < 256 ^ 4
  pub uid : d.uid < 256 ^ 4
  pub gid : d.gid < 256 ^ 4
  pub mode : d.mode < 256 ^ 4
  pub atime_sec : d.atime.sec < 2 ^ 32
  pub atime_nano : d.atime.nano < 2 ^ 32
  pub ctime_sec : d.ctime.sec < 2 ^ 32
  pub ctime_nano : d.ctime.nano < 2 ^ 32
  pub mtime_sec : d.mtime.sec < 2 ^ 32
  pub mtime_nano : d.mtime.nano < 2 ^ 32
  pub otime_sec : d.otime.sec < 2 ^ 32
  pub otime_nano : d.otime.nano < 2 ^ 32
  pub next_index : d.next_index < 256 ^ 4
  pub acltype : d.acltype < 256 ^ 4
  pub rest : length d.rest ≡ 384

laid_out : (d : Dinode) (bytes : List ℕ) → InRange d → length bytes ≡ 512 → AreLaidOut (pieces d) (length bytes)
unfolding pieces dxd_pieces
laid_out d bytes r size = record {
  places = (0, 4) ∷ (4, 4) ∷ (8, 4) ∷ (12, 4) ∷ (16, 8) ∷ (24, 8) ∷ (32, 8) ∷ (40, 4) ∷ (44, 4) ∷ (48, 4) ∷ (52, 4) ∷ (56, 8) ∷ (64, 8) ∷ (72, 8) ∷ (80, 8) ∷ (88, 1) ∷ (92, 4) ∷ (96, 8) ∷ (104, 1) ∷ (108, 4) ∷ (112, 8) ∷ (120, 4) ∷ (124, 4) ∷ (128, 384) ∷ [];
  placed = (refl, refl, (refl, refl, (refl, refl, (refl, refl, (refl, length-pxd_bytes d.ixpxd, (refl, refl, (refl, refl, (refl, refl, (refl, refl, (refl, refl, (refl, refl, (refl, length-moment_bytes d.atime, (refl, length-moment_bytes d.ctime, (refl, length-moment_bytes d.mtime, (refl, length-moment_bytes d.otime, (refl, refl, (refl, refl, (refl, length-pxd_bytes d.acl.at, (refl, refl, (refl, refl, (refl, length-pxd_bytes d.ea.at, (refl, refl, (refl, refl, (refl, r.rest, tt))))))))))))))))))))))));
  within = rw size refl;
  apart = refl;
}

pub dinode_of-puts : (d : Dinode) (bytes : List ℕ) → InRange d → FitsDinode d → length bytes ≡ 512 → dinode_of (puts (pieces d) bytes) ≡ d
unfolding pieces dxd_pieces
dinode_of-puts d bytes r fits long =
    let ps = pieces d in
    let laid = laid_out d bytes r long in
    let inostamp = field_of-puts ps bytes 0 0 4 d.inostamp laid (refl, refl) r.inostamp in
    let fileset = field_of-puts ps bytes 1 4 4 d.fileset laid (refl, refl) r.fileset in
    let number = field_of-puts ps bytes 2 8 4 d.number laid (refl, refl) r.number in
    let generation = field_of-puts ps bytes 3 12 4 d.generation laid (refl, refl) r.generation in
    let ixpxd = pxd_of-puts ps bytes 4 16 d.ixpxd laid (refl, refl) fits.ixpxd in
    let size = field_of-puts ps bytes 5 24 8 d.size laid (refl, refl) r.size in
    let nblocks = field_of-puts ps bytes 6 32 8 d.nblocks laid (refl, refl) r.nblocks in
    let nlink = field_of-puts ps bytes 7 40 4 d.nlink laid (refl, refl) r.nlink in
    let uid = field_of-puts ps bytes 8 44 4 d.uid laid (refl, refl) r.uid in
    let gid = field_of-puts ps bytes 9 48 4 d.gid laid (refl, refl) r.gid in
    let mode = field_of-puts ps bytes 10 52 4 d.mode laid (refl, refl) r.mode in
    let atime = moment_of-puts ps bytes 11 56 d.atime laid (refl, refl) r.atime_sec r.atime_nano in
    let ctime = moment_of-puts ps bytes 12 64 d.ctime laid (refl, refl) r.ctime_sec r.ctime_nano in
    let mtime = moment_of-puts ps bytes 13 72 d.mtime laid (refl, refl) r.mtime_sec r.mtime_nano in
    let otime = moment_of-puts ps bytes 14 80 d.otime laid (refl, refl) r.otime_sec r.otime_nano in
    let acl_flag = field_of-puts ps bytes 15 88 1 d.acl.flag laid (refl, refl) fits.acl.flag in
    let acl_size = field_of-puts ps bytes 16 92 4 d.acl.size laid (refl, refl) fits.acl.size in
    let acl_run = pxd_of-puts ps bytes 17 96 d.acl.at laid (refl, refl) fits.acl.run in
    let ea_flag = field_of-puts ps bytes 18 104 1 d.ea.flag laid (refl, refl) fits.ea.flag in
    let ea_size = field_of-puts ps bytes 19 108 4 d.ea.size laid (refl, refl) fits.ea.size in
    let ea_run = pxd_of-puts ps bytes 20 112 d.ea.at laid (refl, refl) fits.ea.run in
    let next_index = field_of-puts ps bytes 21 120 4 d.next_index laid (refl, refl) r.next_index in
    let acltype = field_of-puts ps bytes 22 124 4 d.acltype laid (refl, refl) r.acltype in
    let rest = range_at-puts ps bytes 23 128 384 d.rest laid (refl, refl) r.rest in
    rw (inostamp, fileset, number, generation, ixpxd, size, nblocks, nlink, uid, gid, mode, atime, ctime, mtime, otime, acl_flag, acl_size, acl_run, ea_flag, ea_size, ea_run, next_index, acltype, rest) refl
