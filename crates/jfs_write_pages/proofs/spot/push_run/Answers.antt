use Rattle.std.proofs.Common.{◌∙◌, ◌++◌, ◌+◌, ◌-◌, ◌∷◌, ap, sym, true}
use Rattle.jfs_write_pages.specs.Spots.{run_spots}
use Rattle.jfs_write_pages.proofs.Steps.{recorded_step, recorded_done, pushed, ended}
use Rattle.jfs_write_pages.proofs.spot.push_run.Goals as goal

pub loop-i-preserved : goal.loop-i-preserved
loop-i-preserved c =
    pushed c.push.new.self.items c.loop-i.spots.items (run_spots (c.args.index + (c.loop-i.i + 1)) (c.args.block + (c.loop-i.i + 1)) (c.args.count - (c.loop-i.i + 1))) _ c.in_ok-push.ensures.items
    ∙ ap (λ n. c.loop-i.spots.items ++ (record { index = c.args.index + n; block = c.args.block + c.loop-i.i; recorded = true } ∷ run_spots (c.args.index + (c.loop-i.i + 1)) (c.args.block + (c.loop-i.i + 1)) (c.args.count - (c.loop-i.i + 1)))) c.from.ensures
    ∙ ap (λ xs. c.loop-i.spots.items ++ xs) (sym (recorded_step c.args.index c.args.block c.args.count c.loop-i.i c.loop-i-test.true))
    ∙ c.loop-i.invariant

pub returns : goal.returns
returns c = ended c.loop-i.spots.items (run_spots (c.args.index + c.loop-i.i) (c.args.block + c.loop-i.i) (c.args.count - c.loop-i.i)) _ (recorded_done c.args.index c.args.block c.args.count c.loop-i.i c.loop-i-test.false) c.loop-i.invariant
