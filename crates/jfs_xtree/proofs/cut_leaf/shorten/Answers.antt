use Rattle.std.proofs.Common.{ap, sym, ◌∙◌, arith, take, drop, ◌++◌, ◌∷◌, ◌+◌}
use Rattle.jfs_xtpage.specs.Page.{entries_of, entry_of, end_of}
use Rattle.jfs_xtree.proofs.Ways.{cut_at}
use Rattle.jfs_xtree.proofs.CutRows.{up_to_same}
use Rattle.jfs_xtree.proofs.cut_leaf.shorten.Goals as goal

pub returns-else-end_of-bound-clause-entries : goal.returns-else-end_of-bound-clause-entries
returns-else-end_of-bound-clause-entries c =
    cut_at c.args.bytes.now c.args.place c.requires.place
    ∙ ap (λ x. take c.args.place (entries_of c.args.bytes.now) ++ x ∷ drop (c.args.place + 1) (entries_of c.args.bytes.now))
    (sym (up_to_same c.args.bound (entry_of c.args.bytes.now c.args.place) (let h = c.if-end_of-bound.false in let e = c.end_of.ensures in let v = ap end_of c.xt_entry-x.ensures.value in omega (arith, h, e, v))))
