use Rattle.std.proofs.Common.{◌∙◌, ap, sym, ◌&&◌, ◌+◌, ◌-◌}
use Rattle.jfs_bits.specs.declared.extent.Xad.{Xad}
use Rattle.jfs_xtpage.specs.Page.{entries_from}
use Rattle.jfs_xtree.specs.Node.{is_within, all_within}
use Rattle.jfs_xtree.proofs.Reading.{within_more}
use Rattle.jfs_xtree.proofs.check.are_within.Goals as goal

pub loop-i-preserved : goal.loop-i-preserved
loop-i-preserved c =
    c.loop-i.invariant ∙ within_more c.args.blocks c.args.bytes.now c.loop-i.i c.args.count c.loop-i-test.true
    ∙ ap (λ b. b && all_within c.args.blocks (entries_from c.args.bytes.now (c.loop-i.i + 1) (c.args.count - (c.loop-i.i + 1))))
    (ap (λ (x : Xad). is_within c.args.blocks x) (sym c.xt_entry.ensures.value) ∙ sym c.is_within.ensures ∙ c.if-not-is_within.false)
