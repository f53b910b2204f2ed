use Rattle.std.proofs.Common.{ap, IfOk, IfErr}
use Rattle.jfs_ranges.proofs.OnTop.{on_top}
use Rattle.jfs_meaning.specs.dtree.specs.Spells.{broken_for, TellsWay}
use Rattle.jfs_bits.specs.declared.rule.PageKind.TheVariants.{Dtree}
use Rattle.jfs_tree.specs.Changes.{TellsGone}
use Rattle.jfs_meaning.specs.dtree.specs.Removing.{RemovesName, MissesName}
use Rattle.jfs_lead_steps.proofs.remove.remove_on_top.Goals as goal

pub returns-clause-removes : goal.returns-clause-removes
returns-clause-removes g c tells =
    on_top (λ b pages. IfOk c.remove_on_loan.result (λ gone. RemovesName b pages c.args.name.now c.args.root.now c.remove_on_loan.new.root c.args.tx.now gone.tx gone.inode))
    (g.V.PageView.block_count c.args.view.now) (g.V.PageView.block_count c.new-over.result.view.now) (g.V.PageView.image c.args.view.now) (g.V.PageView.image c.new-over.result.view.now) c.args.tx.now c.new-over.result.tx.now
    (ap (λ v. g.V.PageView.block_count v) c.new-over.ensures.view) (ap (λ v. g.V.PageView.image v) c.new-over.ensures.view) c.new-over.ensures.tx (c.remove_on_loan.ensures.removes tells)

pub returns-clause-way : goal.returns-clause-way
returns-clause-way g c tells =
    on_top (λ b pages. TellsWay (broken_for b pages c.args.root.now c.args.name.now) c.remove_on_loan.result)
    (g.V.PageView.block_count c.args.view.now) (g.V.PageView.block_count c.new-over.result.view.now) (g.V.PageView.image c.args.view.now) (g.V.PageView.image c.new-over.result.view.now) c.args.tx.now c.new-over.result.tx.now
    (ap (λ v. g.V.PageView.block_count v) c.new-over.ensures.view) (ap (λ v. g.V.PageView.image v) c.new-over.ensures.view) c.new-over.ensures.tx (c.remove_on_loan.ensures.way tells)

pub returns-clause-missed : goal.returns-clause-missed
returns-clause-missed g c tells =
    on_top (λ b pages. IfErr c.remove_on_loan.result (MissesName b pages c.args.name.now c.args.root.now))
    (g.V.PageView.block_count c.args.view.now) (g.V.PageView.block_count c.new-over.result.view.now) (g.V.PageView.image c.args.view.now) (g.V.PageView.image c.new-over.result.view.now) c.args.tx.now c.new-over.result.tx.now
    (ap (λ v. g.V.PageView.block_count v) c.new-over.ensures.view) (ap (λ v. g.V.PageView.image v) c.new-over.ensures.view) c.new-over.ensures.tx (c.remove_on_loan.ensures.missed tells)

pub returns-clause-edits : goal.returns-clause-edits
returns-clause-edits g c tells =
    on_top (λ b pages. IfOk c.remove_on_loan.result (λ gone. TellsGone b Dtree pages c.args.tx.now gone.tx))
    (g.V.PageView.block_count c.args.view.now) (g.V.PageView.block_count c.new-over.result.view.now) (g.V.PageView.image c.args.view.now) (g.V.PageView.image c.new-over.result.view.now) c.args.tx.now c.new-over.result.tx.now
    (ap (λ v. g.V.PageView.block_count v) c.new-over.ensures.view) (ap (λ v. g.V.PageView.image v) c.new-over.ensures.view) c.new-over.ensures.tx (c.remove_on_loan.ensures.edits tells)
