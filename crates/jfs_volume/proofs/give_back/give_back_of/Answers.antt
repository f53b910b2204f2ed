use Rattle.std.proofs.Common.{sym, ◌∙◌, ap, List}
use Rattle.jfs_bits.specs.declared.descriptor.Pxd.{Pxd}
use Rattle.jfs_bmap.specs.States.{Free, is_in_list}
use Rattle.jfs_bmap.proofs.Puts.{put-none}
use Rattle.jfs_volume.specs.Runs.{runs_of}
use Rattle.jfs_volume.proofs.GivingBack.{in_one}
use Rattle.jfs_volume.proofs.give_back.give_back_of.Goals as goal

pub give_back_run-requires : goal.give_back_run-requires
give_back_run-requires c b h = c.requires b (ap (λ (runs : List Pxd). is_in_list runs b) (c.taken_run.ensures ∙ ap runs_of c.in-Some.is) ∙ in_one c.in-Some.run' b h)

pub returns-in_default : goal.returns-in_default
returns-in_default c = rw (c.in_default.ensures) (sym (put-none Free c.args.blocks.now))
