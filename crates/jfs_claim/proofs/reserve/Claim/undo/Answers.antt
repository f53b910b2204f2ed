use Rattle.std.proofs.Common.{ap, ◌∙◌}
use Rattle.jfs_room.specs.bmap.specs.States.{Blocks, Free, put_state}
use Rattle.jfs_claim.specs.Take.{run_list}
use Rattle.jfs_claim.proofs.Settles.{front_reserved, still_reserved, all_back}
use Rattle.jfs_claim.proofs.reserve.Claim.undo.Goals as goal

pub give_back_run-requires : goal.give_back_run-requires
give_back_run-requires c = front_reserved c.requires.0 c.args.map.now (run_list c.args.self.now.run) c.args.self.now.blocks c.requires.1

pub give_back-requires : goal.give_back-requires
give_back-requires c = rw c.give_back_run.ensures (still_reserved c.requires.0 c.args.map.now (run_list c.args.self.now.run) c.args.self.now.blocks c.requires.1)

pub returns : goal.returns
returns c before r =
    c.give_back.ensures
    ∙ ap (λ (m : Blocks). put_state Free c.args.self.now.blocks m) c.give_back_run.ensures
    ∙ all_back before c.args.map.now (run_list c.args.self.now.run) c.args.self.now.blocks r
