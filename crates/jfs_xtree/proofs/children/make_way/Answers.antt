use Rattle.std.proofs.Common.{ap, sym, ◌∙◌, arith, take, drop, ◌++◌, ◌∷◌, ◌+◌, ◌==◌}
use Rattle.jfs_xtpage.specs.Page.{entries_of, entry_of, end_of}
use Rattle.jfs_xtree.proofs.Ways.{cut_at}
use Rattle.jfs_xtree.proofs.Inners.{lowered_not}
use Rattle.jfs_xtree.proofs.children.make_way.Goals as goal

pub returns-else-end_of-key-clause-entries : goal.returns-else-end_of-key-clause-entries
returns-else-end_of-key-clause-entries c =
    cut_at c.args.bytes.now c.args.place c.requires.place
    ∙ ap (λ x. take c.args.place (entries_of c.args.bytes.now) ++ x ∷ drop (c.args.place + 1) (entries_of c.args.bytes.now))
    (sym (lowered_not (c.args.place == 0) c.args.key (entry_of c.args.bytes.now c.args.place) (let h = c.if-end_of-key.false in let e = c.end_of.ensures in let v = ap end_of c.xt_entry-before.ensures.value in omega (arith, h, e, v))))
