use Rattle.std.proofs.Common.{◌∙◌, ap, List, ℕ}
use Rattle.jfs_bits.specs.Piece.{puts}
use Rattle.jfs_bits.specs.Extent.{xad_pieces}
use Rattle.jfs_format.specs.Root.{whole_file, one_extent}
use Rattle.jfs_format.proofs.inodes.one_extent.Goals as goal

pub returns : goal.returns
unfolding one_extent
returns c = c.put_xad.ensures.bytes ∙ ap (λ (b : List ℕ). puts (xad_pieces 128 (whole_file c.args.run)) b) c.put_extent_head.ensures
