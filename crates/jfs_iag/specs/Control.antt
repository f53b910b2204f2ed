-- Where each field of the control page of an inode map stands. (JFS Layout, struct dinomap.)
use Rattle.std.specs.Prelude.{◌≡◌, ℕ, ◌+◌, ◌*◌, ◌^◌, ◌<◌, List, [], ◌∷◌, get_or}
use Rattle.byteorder.specs.Endian.{little_bytes}
use Rattle.jfs_bits.specs.Field.{field_of}
use Rattle.jfs_bits.specs.Piece.{Piece, piece}
use Rattle.jfs_iag.specs.declared.control.InodeGroup.{InodeGroup}
use Rattle.jfs_iag.specs.declared.control.InodeControl.{InodeControl}

abbrev pub no_group : InodeGroup
no_group = record { inofree = 0; extfree = 0; numinos = 0; numfree = 0 }

-- the four numbers of group `g`
abbrev pub group_at : List ℕ → ℕ → InodeGroup
group_at page g = record {
  inofree = field_of page (2048 + 16 * g) 4;
  extfree = field_of page (2048 + 16 * g + 4) 4;
  numinos = field_of page (2048 + 16 * g + 8) 4;
  numfree = field_of page (2048 + 16 * g + 12) 4;
}

-- the page holds these fields
pub record IsInodeControl (c : InodeControl) (page : List ℕ) : Type 0 where
  pub freeiag : c.freeiag ≡ field_of page 0 4
  pub nextiag : c.nextiag ≡ field_of page 4 4
  pub numinos : c.numinos ≡ field_of page 8 4
  pub numfree : c.numfree ≡ field_of page 12 4
  pub nbperiext : c.nbperiext ≡ field_of page 16 4
  pub l2nbperiext : c.l2nbperiext ≡ field_of page 20 4
  pub diskblock : c.diskblock ≡ field_of page 24 4
  pub maxag : c.maxag ≡ field_of page 28 4
  pub groups : (g : ℕ) → g < 128 → get_or c.groups g no_group ≡ group_at page g

-- the fields before the groups
unfoldable pub head_of : InodeControl → List Piece
head_of c =
    piece 0 (little_bytes 4 c.freeiag) ∷
    piece 4 (little_bytes 4 c.nextiag) ∷
    piece 8 (little_bytes 4 c.numinos) ∷
    piece 12 (little_bytes 4 c.numfree) ∷
    piece 16 (little_bytes 4 c.nbperiext) ∷
    piece 20 (little_bytes 4 c.l2nbperiext) ∷
    piece 24 (little_bytes 4 c.diskblock) ∷
    piece 28 (little_bytes 4 c.maxag) ∷ []

-- the four numbers of a group
unfoldable pub group_pieces : ℕ → InodeGroup → List Piece
group_pieces g group =
    piece (2048 + 16 * g) (little_bytes 4 group.inofree) ∷
    piece (2048 + 16 * g + 4) (little_bytes 4 group.extfree) ∷
    piece (2048 + 16 * g + 8) (little_bytes 4 group.numinos) ∷
    piece (2048 + 16 * g + 12) (little_bytes 4 group.numfree) ∷ []

-- what has a place in these fields
pub record FitsHead (c : InodeControl) : Type 0 where
  pub freeiag : c.freeiag < 2 ^ 32
  pub nextiag : c.nextiag < 2 ^ 32
  pub numinos : c.numinos < 2 ^ 32
  pub numfree : c.numfree < 2 ^ 32
  pub nbperiext : c.nbperiext < 2 ^ 32
  pub l2nbperiext : c.l2nbperiext < 2 ^ 32
  pub diskblock : c.diskblock < 2 ^ 32
  pub maxag : c.maxag < 2 ^ 32

pub record FitsGroup (group : InodeGroup) : Type 0 where
  pub inofree : group.inofree < 2 ^ 32
  pub extfree : group.extfree < 2 ^ 32
  pub numinos : group.numinos < 2 ^ 32
  pub numfree : group.numfree < 2 ^ 32
