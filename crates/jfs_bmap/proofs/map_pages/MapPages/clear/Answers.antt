use Rattle.std.proofs.Common.{◌+◌, ◌*◌, ◌-◌, ◌∙◌, length, sym, ap, arith}
use Rattle.jfs_bmap.proofs.Views.{length-held, length-cleared}
use Rattle.jfs_bmap.proofs.PartByPart.{Part, part-of, covered, covered-none, cleared-none, cleared-more, rest-full}
use Rattle.jfs_bmap.proofs.map_pages.MapPages.clear.Goals as goal
use Rattle.jfs_bmap.proofs.map_pages.MapPages.clear.Goals.{After-min-to}

pub overflow_add-end : goal.overflow_add-end
overflow_add-end c =
    let size = length-held c.self.inside.blocks c.self.inside.dmaps.items c.args.self.now c.self.view_is in
    omega (arith, size, c.self.invariant.most)

pub loop-k-init : goal.loop-k-init
loop-k-init c =
    sym (rw (covered-none c.args.first (c.args.first + c.args.n) (omega arith)) (cleared-none c.args.first c.args.self.now))

pub overflow_mul-k : goal.overflow_mul-k
overflow_mul-k c =
    let size = length-held c.self.inside.blocks c.self.inside.dmaps.items c.args.self.now c.self.view_is in
    omega (arith, size, c.self.invariant.most, c.div_ceil-k-end.ensures)

pub overflow_mul-k-in-loop-k : goal.overflow_mul-k-in-loop-k
overflow_mul-k-in-loop-k c =
    let size = length-held c.self.inside.blocks c.self.inside.dmaps.items c.args.self.now c.self.view_is in
    omega (arith, size, c.self.invariant.most, c.div_ceil-k-end.ensures)

part : (c : After-min-to) → Part c.args.first (c.args.first + c.args.n) c.loop-k.k c.max-from.result c.min-to.result
part c = part-of c.args.first (c.args.first + c.args.n) c.div_ceil-k-end.result c.loop-k.k c.max-from.result c.min-to.result (omega arith) c.loop-k.auto.k c.loop-k-test.true c.div_ceil-k-end.ensures c.max-from.ensures c.min-to.ensures

pub clear_part-requires-clause-within : goal.clear_part-requires-clause-within
clear_part-requires-clause-within c =
    let p = part (goal.at.clear_part-requires-clause-within c).After-min-to in
    let size = ap length c.loop-k.invariant ∙ length-cleared c.args.first (covered c.args.first (c.args.first + c.args.n) c.loop-k.k) c.args.self.now in
    omega (arith, p.begins, p.ends, size, c.requires.within)

pub clear_part-requires-clause-there : goal.clear_part-requires-clause-there
clear_part-requires-clause-there c =
    let p = part (goal.at.clear_part-requires-clause-there c).After-min-to in
    let size = ap length c.loop-k.invariant ∙ length-cleared c.args.first (covered c.args.first (c.args.first + c.args.n) c.loop-k.k) c.args.self.now in
    omega (arith, p.there, size, c.requires.within)

pub clear_part-requires-clause-taken : goal.clear_part-requires-clause-taken
clear_part-requires-clause-taken c =
    let p = part (goal.at.clear_part-requires-clause-taken c).After-min-to in
    rest-full c.args.first (covered c.args.first (c.args.first + c.args.n) c.loop-k.k) (c.min-to.result - c.max-from.result) c.args.n (8192 * c.loop-k.k + (c.max-from.result - 8192 * c.loop-k.k)) c.args.self.now c.loop-k.self
    p.begins (omega (arith, p.ends)) c.requires.within c.loop-k.invariant c.requires.taken

pub loop-k-preserved : goal.loop-k-preserved
loop-k-preserved c =
    let p = part (goal.at.loop-k-preserved c).After-min-to in
    rw p.next (cleared-more c.args.first (covered c.args.first (c.args.first + c.args.n) c.loop-k.k) (c.min-to.result - c.max-from.result) (8192 * c.loop-k.k + (c.max-from.result - 8192 * c.loop-k.k)) c.args.self.now c.loop-k.self c.clear_part.new.self
    p.begins (omega (arith, p.ends, c.requires.within)) c.loop-k.invariant c.clear_part.ensures)
