use Rattle.std.proofs.Common.{◌∙◌, ap, List, ℕ}
use Rattle.std.specs.Prelude.{replicate}
use Rattle.jfs_bits.specs.Piece.{puts}
use Rattle.jfs_super.specs.Super.{pieces}
use Rattle.jfs_super.specs.declared.fields.Super.{Super}
use Rattle.jfs_format.specs.Superblock.{super_page}
use Rattle.jfs_format.proofs.superblock.fill_super.Goals as goal

pub returns-clause-page : goal.returns-clause-page
unfolding super_page
returns-clause-page c =
    c.write_super.ensures.bytes
    ∙ ap (λ (b : List ℕ). puts (pieces c.new_super.result) b) c.zeros.ensures
    ∙ ap (λ (s : Super). puts (pieces s) (replicate 4096 0)) c.new_super.ensures.value

pub returns-clause-reads : goal.returns-clause-reads
returns-clause-reads c = c.write_super.ensures.read_back ∙ c.new_super.ensures.value
