use Rattle.std.proofs.Common.{◌∙◌, ◌-◌, ap, arith}
use Rattle.jfs_xtpage.specs.Page.{end_of}
use Rattle.jfs_xtree.proofs.CutMarks.{leaf_ends}
use Rattle.jfs_xtree.proofs.met.leaf_end.Goals as goal

pub returns : goal.returns
returns c = λ page.
    let v = c.get_u16-count.ensures.value in let z = c.if-count-eq0.false in let p = c.requires.page.least in
    c.end_of.ensures ∙ ap end_of c.xt_entry.ensures.value ∙ leaf_ends c.args.met page c.args.bytes.now (c.get_u16-count.result - 2 - 1) (omega (arith, v)) (omega (arith, v, z, p))
