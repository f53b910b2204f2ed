use Rattle.std.proofs.Common.{◌∙◌, sym}
use Rattle.jfs_disk.specs.Image.{page_of}
use Rattle.jfs_findings.specs.mount_rules.specs.Subject.{subject_of}
use Rattle.jfs_check.proofs.Mapped.{maps_found}
use Rattle.jfs_check.proofs.maps.check_maps.Goals as goal

pub returns-clause-found : goal.returns-clause-found
returns-clause-found g c tells is counts used =
    let s = c.args.s.now in
    let blocks = c.in_ok-check_blocks.ensures in
    maps_found s (g.V.PageView.block_count c.args.view.now) (g.V.PageView.block_count c.check_blocks.new.view) (g.V.PageView.image c.args.view.now) (g.V.PageView.image c.check_blocks.new.view) c.requires.part blocks.count_of_blocks (blocks.image tells) c.args.maps.now is
    c.args.held.now c.as_set.result.now c.args.used.now c.args.findings.now.items c.find_shared.new.findings.items c.check_blocks.new.findings.items c.check_inodes.new.findings.items
    c.requires.owned c.as_set.ensures.set counts used
    (c.in-Ok.ensures.shared (subject_of s (page_of (g.V.PageView.image c.args.view.now))) (c.requires.owned ∙ sym c.requires.part) counts) (blocks.found tells s) (c.in_ok-check_inodes.ensures.found tells s)
