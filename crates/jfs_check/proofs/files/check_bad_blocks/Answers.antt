use Rattle.std.proofs.Common.{subst, Bool}
use Rattle.jfs_disk.specs.Image.{page_of}
use Rattle.jfs_link_check.specs.xtree.specs.Node.{xt_scale}
use Rattle.jfs_link_check.specs.objects.specs.Objects.{listed}
use Rattle.jfs_link_check.specs.object_check.specs.Steps.{IsSound}
use Rattle.jfs_link_check.specs.owners.specs.Held.{extents_walk}
use Rattle.jfs_check.proofs.Filed.{sound_held}
use Rattle.jfs_check.proofs.Seen.{none_held}
use Rattle.jfs_check.proofs.files.check_bad_blocks.Goals as goal

pub returns-else-branch-clause-held : goal.returns-else-branch-clause-held
returns-else-branch-clause-held g c tells =
    let walk = extents_walk (g.V.PageView.block_count c.args.view.now) (page_of (g.V.PageView.image c.args.view.now)) c.args.root.now in
    none_held walk c.args.owners.now (subst (λ (b : Bool). IsSound (listed xt_scale walk) b) c.if-branch.false (c.in_ok-check_root.ensures.sound tells))

pub returns-then-branch-clause-held : goal.returns-then-branch-clause-held
returns-then-branch-clause-held g c tells =
    let walk = extents_walk (g.V.PageView.block_count c.args.view.now) (page_of (g.V.PageView.image c.args.view.now)) c.args.root.now in
    let one = c.in_ok-check_root.ensures in
    sound_held c.args.root.now (g.V.PageView.block_count c.args.view.now) (g.V.PageView.block_count c.check_root.new.view) (g.V.PageView.image c.args.view.now) (g.V.PageView.image c.check_root.new.view)
    c.add_sound_extents.result c.args.owners.now c.add_sound_extents.new.self one.count_of_blocks (one.image tells) (subst (λ (b : Bool). IsSound (listed xt_scale walk) b) c.if-branch.true (one.sound tells)) (c.add_sound_extents.ensures.adds tells)
