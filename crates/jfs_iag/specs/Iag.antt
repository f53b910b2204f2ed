-- Where each field of an inode allocation group stands on its page. (JFS Layout, struct iag.)
use Rattle.std.specs.Prelude.{◌≡◌, ℕ, ◌+◌, ◌*◌, ◌^◌, ◌<◌, List, [], ◌∷◌, length, get_or}
use Rattle.byteorder.specs.Endian.{little_bytes}
use Rattle.jfs_bits.specs.declared.descriptor.Pxd.{Pxd}
use Rattle.jfs_bits.specs.Field.{field_of, range_of}
use Rattle.jfs_bits.specs.Descriptor.{pxd_of}
use Rattle.jfs_bits.specs.Piece.{Piece, piece}
use Rattle.jfs_iag.specs.declared.iag.Iag.{Iag}

-- a descriptor of zeros
abbrev pub no_run : Pxd
no_run = record { len = 0; addr = 0 }

-- the page holds these fields
pub record IsIag (i : Iag) (page : List ℕ) : Type 0 where
  pub agstart : i.agstart ≡ field_of page 0 8
  pub iagnum : i.iagnum ≡ field_of page 8 4
  pub inofreefwd : i.inofreefwd ≡ field_of page 12 4
  pub inofreeback : i.inofreeback ≡ field_of page 16 4
  pub extfreefwd : i.extfreefwd ≡ field_of page 20 4
  pub extfreeback : i.extfreeback ≡ field_of page 24 4
  pub iagfree : i.iagfree ≡ field_of page 28 4
  pub inosmap : i.inosmap ≡ range_of page 32 16
  pub extsmap : i.extsmap ≡ range_of page 48 16
  pub nfreeinos : i.nfreeinos ≡ field_of page 64 4
  pub nfreeexts : i.nfreeexts ≡ field_of page 68 4
  pub wmap : i.wmap ≡ range_of page 2048 512
  pub pmap : i.pmap ≡ range_of page 2560 512
  pub inoext : (e : ℕ) → e < 128 → get_or i.inoext e no_run ≡ pxd_of page (3072 + 8 * e)

-- the fields before the extents
unfoldable pub front_of : Iag → List Piece
front_of i =
    piece 0 (little_bytes 8 i.agstart) ∷
    piece 8 (little_bytes 4 i.iagnum) ∷
    piece 12 (little_bytes 4 i.inofreefwd) ∷
    piece 16 (little_bytes 4 i.inofreeback) ∷
    piece 20 (little_bytes 4 i.extfreefwd) ∷
    piece 24 (little_bytes 4 i.extfreeback) ∷
    piece 28 (little_bytes 4 i.iagfree) ∷
    piece 32 i.inosmap ∷
    piece 48 i.extsmap ∷
    piece 64 (little_bytes 4 i.nfreeinos) ∷
    piece 68 (little_bytes 4 i.nfreeexts) ∷
    piece 2048 i.wmap ∷
    piece 2560 i.pmap ∷ []

-- what has a place in these fields
pub record FitsFront (i : Iag) : Type 0 where
  pub agstart : i.agstart < 2 ^ 64
  pub iagnum : i.iagnum < 2 ^ 32
  pub inofreefwd : i.inofreefwd < 2 ^ 32
  pub inofreeback : i.inofreeback < 2 ^ 32
  pub extfreefwd : i.extfreefwd < 2 ^ 32
  pub extfreeback : i.extfreeback < 2 ^ 32
  pub iagfree : i.iagfree < 2 ^ 32
  pub inosmap : length i.inosmap ≡ 16
  pub extsmap : length i.extsmap ≡ 16
  pub nfreeinos : i.nfreeinos < 2 ^ 32
  pub nfreeexts : i.nfreeexts < 2 ^ 32
  pub wmap : length i.wmap ≡ 512
  pub pmap : length i.pmap ≡ 512
