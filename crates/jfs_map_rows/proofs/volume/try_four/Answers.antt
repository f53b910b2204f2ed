use Rattle.std.specs.Prelude.{[], ◌∷◌}
use Rattle.jfs_bmap.specs.States.{Free}
use Rattle.jfs_map_rows.proofs.Stays.{reserve-stays, four-free}
use Rattle.jfs_map_rows.proofs.volume.try_four.Goals as goal

pub returns : goal.returns
returns c =
    let run = c.in_ok-run.run' in
    let before = c.args.map.now in
    rw (c.give_back_run.ensures, c.in_ok-run.ensures.reserved) (reserve-stays Free (run ∷ []) before (four-free before run c.in_ok-run.ensures.lowest c.in_ok-run.ensures.four))
