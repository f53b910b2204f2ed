-- What the walk's end gives.
use Rattle.jfs_disk.specs.Image.{page_of}
use Rattle.jfs_xtree.specs.Node.{xt_scale}
use Rattle.jfs_owners.specs.Held.{extents_walk}
use Rattle.jfs_owners.specs.findings.specs.declared.finding.FindingKind.TheVariants as kinds
use Rattle.jfs_object_check.proofs.Found.{settled, told_sound}
use Rattle.jfs_object_check.proofs.Walks.{root_ends}
use Rattle.jfs_object_check.proofs.root.check_root.Goals as goal

pub returns-clause-found : goal.returns-clause-found
returns-clause-found g c = λ tells.
    let page = page_of (g.V.PageView.image c.args.view.now) in
    settled xt_scale (extents_walk (g.V.PageView.block_count c.args.view.now) page c.args.root.now) kinds.Xtree c.args.at c.args.findings.now.items c.settle.new.findings.items c.walk_tree-answer.result c.settle.result
    (root_ends (g.V.PageView.block_count c.args.view.now) c.blocks-blocks.result page c.args.root.now c.walk_tree-answer.result c.blocks-blocks.ensures (c.walk_tree-answer.ensures.spelled tells) (c.walk_tree-answer.ensures.bad tells))
    c.settle.ensures.settles

pub returns-clause-sound : goal.returns-clause-sound
returns-clause-sound g c = λ tells.
    let page = page_of (g.V.PageView.image c.args.view.now) in
    told_sound xt_scale (extents_walk (g.V.PageView.block_count c.args.view.now) page c.args.root.now) kinds.Xtree c.args.at c.args.findings.now.items c.settle.new.findings.items c.walk_tree-answer.result c.settle.result
    (root_ends (g.V.PageView.block_count c.args.view.now) c.blocks-blocks.result page c.args.root.now c.walk_tree-answer.result c.blocks-blocks.ensures (c.walk_tree-answer.ensures.spelled tells) (c.walk_tree-answer.ensures.bad tells))
    c.settle.ensures.settles
