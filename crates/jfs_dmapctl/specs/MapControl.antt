-- The control page of the block map. (JFS Layout, dbmap.)
use Rattle.std.specs.Prelude.{◌≡◌, ℕ, ◌+◌, ◌*◌, ◌^◌, ◌<◌, List, [], ◌∷◌, slice_index}
use Rattle.std.specs.Int.{cast_signed, w8}
use Rattle.byteorder.specs.Endian.{little_bytes}
use Rattle.jfs_bits.specs.Field.{field_of}
use Rattle.jfs_bits.specs.Piece.{Piece}
use Rattle.jfs_dmapctl.specs.declared.map_control.MapControl.{MapControl}

-- the page holds these numbers
pub record IsMapControl (m : MapControl) (page : List ℕ) : Type 0 where
  pub mapsize : m.mapsize ≡ field_of page 0 8
  pub nfree : m.nfree ≡ field_of page 8 8
  pub l2nbperpage : m.l2nbperpage ≡ field_of page 16 4
  pub numag : m.numag ≡ field_of page 20 4
  pub maxlevel : m.maxlevel ≡ field_of page 24 4
  pub maxag : m.maxag ≡ field_of page 28 4
  pub agpref : m.agpref ≡ field_of page 32 4
  pub aglevel : m.aglevel ≡ field_of page 36 4
  pub agheight : m.agheight ≡ field_of page 40 4
  pub agwidth : m.agwidth ≡ field_of page 44 4
  pub agstart : m.agstart ≡ field_of page 48 4
  pub agl2size : m.agl2size ≡ field_of page 52 4
  pub agfree : (k : ℕ) → k < 128 → slice_index m.agfree k ≡ field_of page (56 + 8 * k) 8
  pub agsize : m.agsize ≡ field_of page 1080 8
  pub maxfreebud : m.maxfreebud ≡ cast_signed w8 (field_of page 1088 1)

-- the fields before the groups' counts; for the prover alone
unfoldable pub front_of : MapControl → List Piece
front_of m =
    record { at = 0; bytes = little_bytes 8 m.mapsize } ∷
    record { at = 8; bytes = little_bytes 8 m.nfree } ∷
    record { at = 16; bytes = little_bytes 4 m.l2nbperpage } ∷
    record { at = 20; bytes = little_bytes 4 m.numag } ∷
    record { at = 24; bytes = little_bytes 4 m.maxlevel } ∷
    record { at = 28; bytes = little_bytes 4 m.maxag } ∷
    record { at = 32; bytes = little_bytes 4 m.agpref } ∷
    record { at = 36; bytes = little_bytes 4 m.aglevel } ∷
    record { at = 40; bytes = little_bytes 4 m.agheight } ∷
    record { at = 44; bytes = little_bytes 4 m.agwidth } ∷
    record { at = 48; bytes = little_bytes 4 m.agstart } ∷
    record { at = 52; bytes = little_bytes 4 m.agl2size } ∷ []

-- what has a place in these fields; for the prover alone
pub record FitsFront (m : MapControl) : Type 0 where
  pub mapsize : m.mapsize < 2 ^ 64
  pub nfree : m.nfree < 2 ^ 64
  pub l2nbperpage : m.l2nbperpage < 2 ^ 32
  pub numag : m.numag < 2 ^ 32
  pub maxlevel : m.maxlevel < 2 ^ 32
  pub maxag : m.maxag < 2 ^ 32
  pub agpref : m.agpref < 2 ^ 32
  pub aglevel : m.aglevel < 2 ^ 32
  pub agheight : m.agheight < 2 ^ 32
  pub agwidth : m.agwidth < 2 ^ 32
  pub agstart : m.agstart < 2 ^ 32
  pub agl2size : m.agl2size < 2 ^ 32
