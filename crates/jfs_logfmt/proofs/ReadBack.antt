-- What is written of a descriptor, or of the log's superblock, is read back.
use Rattle.std.proofs.Common.{◌≡◌, ◌<◌, ◌^◌, ◌∷◌, [], ℕ, true, List, length, replicate, refl, arith}
use Rattle.jfs_bits.specs.Piece.{puts}
use Rattle.jfs_bits.specs.Descriptor.{FitsPxd}
use Rattle.jfs_bits.proofs.Descriptors.{length-pxd_bytes}
use Rattle.jfs_bits.proofs.Pieces.{AreLaidOut, length-puts, range_at-puts, field_of-puts, pxd_of-puts}
use Rattle.jfs_logfmt.specs.declared.descriptor.Descriptor.{Descriptor}
use Rattle.jfs_logfmt.specs.declared.log_super.LogSuper.{LogSuper}
use Rattle.jfs_logfmt.specs.Descriptor.{descriptor_of, descriptor_bytes, descriptor_pieces}
use Rattle.jfs_logfmt.specs.Super.{is_log_super, log_super_of, log_super_pieces}

pub record DescriptorInRange (d : Descriptor) : Type 0 where
  pub tid : d.tid < 256 ^ 4
  pub back : d.back < 256 ^ 4
  pub number : d.number < 256 ^ 2
  pub length : d.length < 256 ^ 2
  pub fileset : d.fileset < 256 ^ 4
  pub inode : d.inode < 256 ^ 4
  pub kind : d.kind < 256 ^ 2
  pub count : d.count < 256 ^ 2
  pub at : FitsPxd d.at

descriptor_laid_out : (d : Descriptor) → AreLaidOut (descriptor_pieces d) (length {A = ℕ} (replicate 36 0))
unfolding descriptor_pieces
descriptor_laid_out d = record {
  places = (0, 4) ∷ (4, 4) ∷ (8, 2) ∷ (10, 2) ∷ (16, 4) ∷ (20, 4) ∷ (24, 2) ∷ (26, 2) ∷ (28, 8) ∷ [];
  placed = (refl, refl, (refl, refl, (refl, refl, (refl, refl, (refl, refl, (refl, refl, (refl, refl, (refl, refl, (refl, length-pxd_bytes d.at, tt)))))))));
  within = refl;
  apart = refl;
}

pub length-descriptor_bytes : (d : Descriptor) → length (descriptor_bytes d) ≡ 36
length-descriptor_bytes d =
    let laid = descriptor_laid_out d in
    length-puts (descriptor_pieces d) laid.places (replicate 36 0) laid.placed laid.within

pub descriptor_of-bytes : (d : Descriptor) → DescriptorInRange d → descriptor_of (descriptor_bytes d) ≡ d
unfolding descriptor_pieces
descriptor_of-bytes d r =
    let ps = descriptor_pieces d in
    let page : List ℕ = replicate 36 0 in
    let laid = descriptor_laid_out d in
    let tid = field_of-puts ps page 0 0 4 d.tid laid (refl, refl) r.tid in
    let back = field_of-puts ps page 1 4 4 d.back laid (refl, refl) r.back in
    let number = field_of-puts ps page 2 8 2 d.number laid (refl, refl) r.number in
    let length = field_of-puts ps page 3 10 2 d.length laid (refl, refl) r.length in
    let fileset = field_of-puts ps page 4 16 4 d.fileset laid (refl, refl) r.fileset in
    let inode = field_of-puts ps page 5 20 4 d.inode laid (refl, refl) r.inode in
    let kind = field_of-puts ps page 6 24 2 d.kind laid (refl, refl) r.kind in
    let count = field_of-puts ps page 7 26 2 d.count laid (refl, refl) r.count in
    let at = pxd_of-puts ps page 8 28 d.at laid (refl, refl) r.at in
    rw (tid, back, number, length, fileset, inode, kind, count, at) refl

pub record LogSuperInRange (s : LogSuper) : Type 0 where
  pub serial : s.serial < 256 ^ 4
  pub size : s.size < 256 ^ 4
  pub state : s.state < 256 ^ 4
  pub uuid : length s.uuid ≡ 16
  pub label : length s.label ≡ 16

log_super_laid_out : (s : LogSuper) (page : List ℕ) → LogSuperInRange s → length page ≡ 4096 → AreLaidOut (log_super_pieces s) (length page)
unfolding log_super_pieces
log_super_laid_out s page r size = record {
  places = (0, 4) ∷ (4, 4) ∷ (8, 4) ∷ (12, 4) ∷ (16, 4) ∷ (20, 4) ∷ (24, 4) ∷ (28, 4) ∷ (32, 4) ∷ (36, 16) ∷ (52, 16) ∷ [];
  placed = (refl, refl, (refl, refl, (refl, refl, (refl, refl, (refl, refl, (refl, refl, (refl, refl, (refl, refl, (refl, refl, (refl, r.uuid, (refl, r.label, tt)))))))))));
  within = rw size refl;
  apart = refl;
}

pub log_super_of-puts : (s : LogSuper) (page : List ℕ) → LogSuperInRange s → length page ≡ 4096 → log_super_of (puts (log_super_pieces s) page) ≡ s
unfolding log_super_pieces
log_super_of-puts s page r size_is =
    let ps = log_super_pieces s in
    let laid = log_super_laid_out s page r size_is in
    let serial = field_of-puts ps page 2 8 4 s.serial laid (refl, refl) r.serial in
    let size = field_of-puts ps page 3 12 4 s.size laid (refl, refl) r.size in
    let state = field_of-puts ps page 7 28 4 s.state laid (refl, refl) r.state in
    let uuid = range_at-puts ps page 9 36 16 s.uuid laid (refl, refl) r.uuid in
    let label = range_at-puts ps page 10 52 16 s.label laid (refl, refl) r.label in
    rw (serial, size, state, uuid, label) refl

pub is_log_super-puts : (s : LogSuper) (page : List ℕ) → LogSuperInRange s → length page ≡ 4096 → is_log_super (puts (log_super_pieces s) page) ≡ true
unfolding log_super_pieces
is_log_super-puts s page r size =
    let ps = log_super_pieces s in
    let laid = log_super_laid_out s page r size in
    let magic = field_of-puts ps page 0 0 4 0x87654321 laid (refl, refl) (omega arith) in
    let version = field_of-puts ps page 1 4 4 1 laid (refl, refl) (omega arith) in
    rw (magic, version) refl
