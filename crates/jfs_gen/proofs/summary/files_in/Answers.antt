use Rattle.std.proofs.Common.{◌≡◌, ◌∙◌, ◌-◌, ◌+◌, ap}
use Rattle.jfs_gen.specs.declared.summary.Files.{Files}
use Rattle.jfs_gen.specs.Summary.{clients_from}
use Rattle.jfs_gen.proofs.Files.{one_client}
use Rattle.jfs_gen.proofs.summary.files_in.Goals as goal

pub loop-i-preserved : goal.loop-i-preserved
loop-i-preserved c =
    let h = c.args.history.now in
    let i = c.loop-i.i in
    ap (λ (all : Files). clients_from h (i + 1 + 1) (c.args.clients - (i + 1)) all) c.in_ok-all.ensures ∙ one_client h i c.args.clients c.loop-i.all c.loop-i-test.true ∙ c.loop-i.invariant
