use Rattle.std.proofs.Common.{◌∙◌}
use Rattle.jfs_file_blocks.proofs.Counting.{claim_reserves, held, settled_as}
use Rattle.jfs_file_blocks.proofs.reserve.FileBlocks.settle.Goals as goal

pub settle-requires : goal.settle-requires
settle-requires c = let is = c.requires.2.reserved in
    (held c.requires.0 c.args.map.now c.args.self.now is, c.requires.1, record { reserves = claim_reserves c.requires.0 c.args.map.now c.args.self.now is; parts = c.requires.2.parts })

pub returns : goal.returns
returns c before taken is =
    c.settle.ensures (held before c.args.map.now c.args.self.now is.reserved) taken (record { reserves = claim_reserves before c.args.map.now c.args.self.now is.reserved; parts = is.parts })
    ∙ settled_as c.args.self.now.runs taken c.args.self.now.claim.run before is.reserved.none
