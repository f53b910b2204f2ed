use Rattle.std.proofs.Common.{ap, ◌∙◌, arith}
use Rattle.std.specs.List.{list_all}
use Rattle.jfs_bits.specs.declared.descriptor.Pxd.{Pxd}
use Rattle.jfs_logfmt.specs.Text.{runs_of}
use Rattle.jfs_logfmt.specs.Rules.{is_inside}
use Rattle.jfs_logfmt.proofs.Runs.{inside_more}
use Rattle.jfs_logfmt.proofs.run.all_inside.Goals as goal

pub loop-i-preserved : goal.loop-i-preserved
loop-i-preserved c =
    inside_more (is_inside c.args.blocks) c.args.body.now c.loop-i.i c.args.count (list_all (is_inside c.args.blocks) (runs_of c.args.body.now 0 c.args.count)) (omega arith)
    (c.if-not-lies_inside.ensures ∙ ap (λ (p : Pxd). is_inside c.args.blocks p) c.get_pxd.ensures.value)
    c.loop-i.invariant
