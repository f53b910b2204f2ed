use Rattle.std.specs.Prelude.{[], ◌∷◌}
use Rattle.jfs_bmap.specs.States.{Owned}
use Rattle.jfs_map_rows.proofs.Stays.{reserve-stays, four-free}
use Rattle.jfs_map_rows.proofs.volume.take_four.Goals as goal

pub returns : goal.returns
returns c =
    let run = c.in_ok-run.run' in
    let before = c.args.map.now in
    rw (c.own_run.ensures, c.in_ok-run.ensures.reserved) (reserve-stays Owned (run ∷ []) before (four-free before run c.in_ok-run.ensures.lowest c.in_ok-run.ensures.four))
