use Rattle.std.proofs.Common.{◌∙◌, ◌++◌, ◌+◌, ◌-◌, ◌∷◌, ap, sym}
use Rattle.jfs_write_pages.specs.Spots.{spots_from}
use Rattle.jfs_write_pages.proofs.Steps.{spots_step, spots_done, pushed, ended}
use Rattle.jfs_write_pages.proofs.spot.spots_from.Goals as goal

pub loop-i-preserved : goal.loop-i-preserved
loop-i-preserved c =
    pushed c.push.new.self.items c.loop-i.spots.items (spots_from c.args.es.now (c.args.first + (c.loop-i.i + 1)) (c.args.count - (c.loop-i.i + 1))) c.spot_at.result c.in_ok-push.ensures.items
    ∙ ap (λ x. c.loop-i.spots.items ++ x ∷ spots_from c.args.es.now (c.args.first + (c.loop-i.i + 1)) (c.args.count - (c.loop-i.i + 1))) (rw c.from.ensures at c.spot_at.ensures)
    ∙ ap (λ xs. c.loop-i.spots.items ++ xs) (sym (spots_step c.args.es.now c.args.first c.args.count c.loop-i.i c.loop-i-test.true))
    ∙ c.loop-i.invariant

pub returns : goal.returns
returns c = ended c.loop-i.spots.items (spots_from c.args.es.now (c.args.first + c.loop-i.i) (c.args.count - c.loop-i.i)) _ (spots_done c.args.es.now c.args.first c.args.count c.loop-i.i c.loop-i-test.false) c.loop-i.invariant
