use Rattle.std.proofs.Common.{◌+◌, ◌*◌, ◌-◌, ◌∙◌, length, sym, ap, arith}
use Rattle.jfs_bmap.proofs.Views.{length-held, length-marked}
use Rattle.jfs_bmap.proofs.PartByPart.{Part, part-of, covered, covered-none, marked-none, marked-more, rest-free}
use Rattle.jfs_bmap.proofs.map_pages.MapPages.mark.Goals as goal
use Rattle.jfs_bmap.proofs.map_pages.MapPages.mark.Goals.{After-min-to}

pub overflow_add-end : goal.overflow_add-end
overflow_add-end c =
    let size = length-held c.self.inside.blocks c.self.inside.dmaps.items c.args.self.now c.self.view_is in
    omega (arith, size, c.self.invariant.most)

pub loop-k-init : goal.loop-k-init
loop-k-init c =
    sym (rw (covered-none c.args.first (c.args.first + c.args.n) (omega arith)) (marked-none c.args.first c.args.self.now))

pub overflow_mul-k : goal.overflow_mul-k
overflow_mul-k c =
    let size = length-held c.self.inside.blocks c.self.inside.dmaps.items c.args.self.now c.self.view_is in
    omega (arith, size, c.self.invariant.most, c.div_ceil-k-end.ensures)

pub overflow_mul-k-in-loop-k : goal.overflow_mul-k-in-loop-k
overflow_mul-k-in-loop-k c =
    let size = length-held c.self.inside.blocks c.self.inside.dmaps.items c.args.self.now c.self.view_is in
    omega (arith, size, c.self.invariant.most, c.div_ceil-k-end.ensures)

part : (c : After-min-to) → Part c.args.first (c.args.first + c.args.n) c.loop-k.k c.max-from.result c.min-to.result
part c = part-of c.args.first (c.args.first + c.args.n) c.div_ceil-k-end.result c.loop-k.k c.max-from.result c.min-to.result (omega arith) c.loop-k.auto.k c.loop-k-test.true c.div_ceil-k-end.ensures c.max-from.ensures c.min-to.ensures

pub mark_part-requires-clause-within : goal.mark_part-requires-clause-within
mark_part-requires-clause-within c =
    let p = part (goal.at.mark_part-requires-clause-within c).After-min-to in
    let size = ap length c.loop-k.invariant ∙ length-marked c.args.first (covered c.args.first (c.args.first + c.args.n) c.loop-k.k) c.args.self.now in
    omega (arith, p.begins, p.ends, size, c.requires.within)

pub mark_part-requires-clause-there : goal.mark_part-requires-clause-there
mark_part-requires-clause-there c =
    let p = part (goal.at.mark_part-requires-clause-there c).After-min-to in
    let size = ap length c.loop-k.invariant ∙ length-marked c.args.first (covered c.args.first (c.args.first + c.args.n) c.loop-k.k) c.args.self.now in
    omega (arith, p.there, size, c.requires.within)

pub mark_part-requires-clause-free : goal.mark_part-requires-clause-free
mark_part-requires-clause-free c =
    let p = part (goal.at.mark_part-requires-clause-free c).After-min-to in
    rest-free c.args.first (covered c.args.first (c.args.first + c.args.n) c.loop-k.k) (c.min-to.result - c.max-from.result) c.args.n (8192 * c.loop-k.k + (c.max-from.result - 8192 * c.loop-k.k)) c.args.self.now c.loop-k.self
    p.begins (omega (arith, p.ends)) c.loop-k.invariant c.requires.free

pub loop-k-preserved : goal.loop-k-preserved
loop-k-preserved c =
    let p = part (goal.at.loop-k-preserved c).After-min-to in
    rw p.next (marked-more c.args.first (covered c.args.first (c.args.first + c.args.n) c.loop-k.k) (c.min-to.result - c.max-from.result) (8192 * c.loop-k.k + (c.max-from.result - 8192 * c.loop-k.k)) c.args.self.now c.loop-k.self c.mark_part.new.self
    p.begins c.loop-k.invariant c.mark_part.ensures)
