use Rattle.std.proofs.Common.{◌∙◌, arith}
use Rattle.std.proofs.lemmas.List.{take_all}
use Rattle.jfs_dtpage.specs.declared.head.DtForm.TheVariants.{Root}
use Rattle.jfs_dtpage.specs.Page.{entries_of}
use Rattle.jfs_dtree.proofs.Moves.{entries_count}
use Rattle.jfs_dtree.proofs.move_down.copy_entries.Goals as goal

pub returns-clause-entries : goal.returns-clause-entries
returns-clause-entries c =
    let t = c.loop-place-test.false in
    let n = entries_count Root c.args.root.now in
    c.loop-place.invariant.2 ∙ take_all c.loop-place.place (entries_of Root c.args.root.now) (omega (arith, t, n, c.count_of.ensures, c.from-place-end.ensures))
