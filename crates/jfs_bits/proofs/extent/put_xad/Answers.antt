use Rattle.std.proofs.Common.{◌∙◌, ap, refl, List, ℕ}
use Rattle.jfs_bits.specs.Piece.{puts}
use Rattle.jfs_bits.specs.Extent.{xad_of, xad_pieces}
use Rattle.jfs_bits.proofs.Extents.{xad_of-puts}
use Rattle.jfs_bits.proofs.extent.put_xad.Goals as goal

bytes_are : goal.returns-clause-bytes
unfolding puts xad_pieces
bytes_are c = rw (c.put_pxd.ensures.bytes, c.put_u32.ensures.bytes, c.put_u8-2.ensures.bytes, c.put_u8.ensures.bytes) refl

pub returns-clause-bytes : goal.returns-clause-bytes
returns-clause-bytes c = bytes_are c

pub returns-clause-read_back : goal.returns-clause-read_back
returns-clause-read_back c =
    ap (λ (z : List ℕ). xad_of z c.args.at) (bytes_are c) ∙ xad_of-puts c.args.at c.args.v c.args.bytes.now c.requires.within c.requires.fits
