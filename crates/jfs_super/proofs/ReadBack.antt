-- What is written of a superblock is read back.
use Rattle.std.proofs.Common.{◌≡◌, ◌<◌, ◌^◌, ◌∷◌, [], ℕ, List, length, refl}
use Rattle.jfs_bits.specs.Piece.{puts}
use Rattle.jfs_bits.proofs.Descriptors.{length-pxd_bytes, length-moment_bytes}
use Rattle.jfs_bits.proofs.Pieces.{AreLaidOut, range_at-puts, field_of-puts, pxd_of-puts, moment_of-puts}
use Rattle.jfs_super.specs.declared.fields.Super.{Super}
use Rattle.jfs_super.specs.Super.{super_of, pieces, FitsSuper}

-- each number fits its bytes, and each array has its length
pub record InRange (s : Super) : Type 0 where
  pub magic : s.magic < 256 ^ 4
  pub version : s.version < 256 ^ 4
  pub size : s.size < 256 ^ 8
  pub bsize : s.bsize < 256 ^ 4
  pub l2bsize : s.l2bsize < 256 ^ 2
  pub l2bfactor : s.l2bfactor < 256 ^ 2
  pub pbsize : s.pbsize < 256 ^ 4
  pub l2pbsize : s.l2pbsize < 256 ^ 2
  pub agsize : s.agsize < 256 ^ 4
  pub flag : s.flag.0 < 256 ^ 4
  pub state : s.state.0 < 256 ^ 4
  pub compress : s.compress < 256 ^ 4
  pub logdev : s.logdev < 256 ^ 4
  pub logserial : s.logserial < 256 ^ 4
  pub sec : s.time.sec < 2 ^ 32
  pub nano : s.time.nano < 2 ^ 32
  pub fsckloglen : s.fsckloglen < 256 ^ 4
  pub fscklog : s.fscklog < 256 ^ 1
  pub fpack : length s.fpack ≡ 11
  pub xsize : s.xsize < 256 ^ 8
  pub uuid : length s.uuid ≡ 16
  pub label : length s.label ≡ 16
  pub loguuid : length s.loguuid ≡ 16

laid_out : (s : Super) (page : List ℕ) → InRange s → length page ≡ 4096 → AreLaidOut (pieces s) (length page)
unfolding pieces
laid_out s page r size = record {
  places = (0, 4) ∷ (4, 4) ∷ (8, 8) ∷ (16, 4) ∷ (20, 2) ∷ (22, 2) ∷ (24, 4) ∷ (28, 2) ∷ (32, 4) ∷ (36, 4) ∷ (40, 4) ∷ (44, 4) ∷ (48, 8) ∷ (56, 8) ∷ (64, 4) ∷ (68, 4) ∷ (72, 8) ∷ (80, 8) ∷ (88, 8) ∷ (96, 4) ∷ (100, 1) ∷ (101, 11) ∷ (112, 8) ∷ (120, 8) ∷ (128, 8) ∷ (136, 16) ∷ (152, 16) ∷ (168, 16) ∷ [];
  placed = (refl, refl, (refl, refl, (refl, refl, (refl, refl, (refl, refl, (refl, refl, (refl, refl, (refl, refl, (refl, refl, (refl, refl, (refl, refl, (refl, refl, (refl, length-pxd_bytes s.ait2, (refl, length-pxd_bytes s.aim2, (refl, refl, (refl, refl, (refl, length-pxd_bytes s.logpxd, (refl, length-pxd_bytes s.fsckpxd, (refl, length-moment_bytes s.time, (refl, refl, (refl, refl, (refl, r.fpack, (refl, refl, (refl, length-pxd_bytes s.xfsckpxd, (refl, length-pxd_bytes s.xlogpxd, (refl, r.uuid, (refl, r.label, (refl, r.loguuid, tt))))))))))))))))))))))))))));
  within = rw size refl;
  apart = refl;
}

pub super_of-puts : (s : Super) (page : List ℕ) → InRange s → FitsSuper s → length page ≡ 4096 → super_of (puts (pieces s) page) ≡ s
unfolding pieces
super_of-puts s page r fits size =
    let ps = pieces s in
    let laid = laid_out s page r size in
    let magic = field_of-puts ps page 0 0 4 s.magic laid (refl, refl) r.magic in
    let version = field_of-puts ps page 1 4 4 s.version laid (refl, refl) r.version in
    let size = field_of-puts ps page 2 8 8 s.size laid (refl, refl) r.size in
    let bsize = field_of-puts ps page 3 16 4 s.bsize laid (refl, refl) r.bsize in
    let l2bsize = field_of-puts ps page 4 20 2 s.l2bsize laid (refl, refl) r.l2bsize in
    let l2bfactor = field_of-puts ps page 5 22 2 s.l2bfactor laid (refl, refl) r.l2bfactor in
    let pbsize = field_of-puts ps page 6 24 4 s.pbsize laid (refl, refl) r.pbsize in
    let l2pbsize = field_of-puts ps page 7 28 2 s.l2pbsize laid (refl, refl) r.l2pbsize in
    let agsize = field_of-puts ps page 8 32 4 s.agsize laid (refl, refl) r.agsize in
    let flag = field_of-puts ps page 9 36 4 s.flag.0 laid (refl, refl) r.flag in
    let state = field_of-puts ps page 10 40 4 s.state.0 laid (refl, refl) r.state in
    let compress = field_of-puts ps page 11 44 4 s.compress laid (refl, refl) r.compress in
    let ait2 = pxd_of-puts ps page 12 48 s.ait2 laid (refl, refl) fits.ait2 in
    let aim2 = pxd_of-puts ps page 13 56 s.aim2 laid (refl, refl) fits.aim2 in
    let logdev = field_of-puts ps page 14 64 4 s.logdev laid (refl, refl) r.logdev in
    let logserial = field_of-puts ps page 15 68 4 s.logserial laid (refl, refl) r.logserial in
    let logpxd = pxd_of-puts ps page 16 72 s.logpxd laid (refl, refl) fits.log in
    let fsckpxd = pxd_of-puts ps page 17 80 s.fsckpxd laid (refl, refl) fits.fsck in
    let time = moment_of-puts ps page 18 88 s.time laid (refl, refl) r.sec r.nano in
    let fsckloglen = field_of-puts ps page 19 96 4 s.fsckloglen laid (refl, refl) r.fsckloglen in
    let fscklog = field_of-puts ps page 20 100 1 s.fscklog laid (refl, refl) r.fscklog in
    let fpack = range_at-puts ps page 21 101 11 s.fpack laid (refl, refl) r.fpack in
    let xsize = field_of-puts ps page 22 112 8 s.xsize laid (refl, refl) r.xsize in
    let xfsckpxd = pxd_of-puts ps page 23 120 s.xfsckpxd laid (refl, refl) fits.xfsck in
    let xlogpxd = pxd_of-puts ps page 24 128 s.xlogpxd laid (refl, refl) fits.xlog in
    let uuid = range_at-puts ps page 25 136 16 s.uuid laid (refl, refl) r.uuid in
    let label = range_at-puts ps page 26 152 16 s.label laid (refl, refl) r.label in
    let loguuid = range_at-puts ps page 27 168 16 s.loguuid laid (refl, refl) r.loguuid in
    rw (magic, version, size, bsize, l2bsize, l2bfactor, pbsize, l2pbsize, agsize, flag, state, compress, ait2, aim2, logdev, logserial, logpxd, fsckpxd, time, fsckloglen, fscklog, fpack, xsize, xfsckpxd, xlogpxd, uuid, label, loguuid) refl
