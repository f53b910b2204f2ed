use Rattle.std.proofs.Common.{ap, arith}
use Rattle.jfs_bits.specs.declared.extent.Xad.{Xad}
use Rattle.jfs_xtpage.specs.Page.{count_of}
use Rattle.jfs_xtree.proofs.Ways.{page_within}
use Rattle.jfs_xtree.proofs.children.page_of.Goals as goal

pub overflow_cast-result : goal.overflow_cast-result
overflow_cast-result c =
    let h = page_within c.args.blocks c.args.bytes.now 0 (count_of c.args.bytes.now) c.args.place c.requires.within (omega arith) (let p = c.requires.place in omega (arith, p)) in
    let e = ap (λ (x : Xad). x.at.addr) c.xt_entry.ensures.value in let b = c.ranges.blocks.fits in omega (arith, h, e, b)

pub returns-clause-within : goal.returns-clause-within
returns-clause-within c =
    let h = page_within c.args.blocks c.args.bytes.now 0 (count_of c.args.bytes.now) c.args.place c.requires.within (omega arith) (let p = c.requires.place in omega (arith, p)) in
    let e = ap (λ (x : Xad). x.at.addr) c.xt_entry.ensures.value in omega (arith, h, e)
