use Rattle.std.proofs.Common.{ap, ◌∙◌}
use Rattle.jfs_bmap.specs.States.{Blocks, Free, put_state}
use Rattle.jfs_file_blocks.proofs.Counting.{claim_reserves, held, held_reserved, held_back}
use Rattle.jfs_file_blocks.proofs.reserve.FileBlocks.undo.Goals as goal

pub undo-requires : goal.undo-requires
undo-requires c = (held c.requires.0 c.args.map.now c.args.self.now c.requires.1, claim_reserves c.requires.0 c.args.map.now c.args.self.now c.requires.1)

pub give_back-requires : goal.give_back-requires
give_back-requires c = rw (c.undo.ensures (held c.requires.0 c.args.map.now c.args.self.now c.requires.1) (claim_reserves c.requires.0 c.args.map.now c.args.self.now c.requires.1)) (held_reserved c.requires.0 c.args.map.now c.args.self.now c.requires.1)

pub returns : goal.returns
returns c before r =
    c.give_back.ensures
    ∙ ap (λ (m : Blocks). put_state Free c.args.self.now.runs m) (c.undo.ensures (held before c.args.map.now c.args.self.now r) (claim_reserves before c.args.map.now c.args.self.now r))
    ∙ held_back before c.args.map.now c.args.self.now r
