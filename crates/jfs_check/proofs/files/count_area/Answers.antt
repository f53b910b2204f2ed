use Rattle.std.proofs.Common.{◌∙◌}
use Rattle.jfs_check.proofs.Filed.{area_held, area_found}
use Rattle.jfs_check.proofs.files.count_area.Goals as goal

pub returns-clause-held : goal.returns-clause-held
returns-clause-held g c tells =
    let one = c.in_ok-map.ensures in
    let two = c.in_ok-bad_blocks.ensures in
    let three = c.in_ok-add_sound_extents.ensures in
    let four = c.in_ok-check_bad_blocks.ensures in
    let five = c.in_ok-inodes.ensures in
    let f2 = two.image tells ∙ one.image tells in
    let f3 = three.image tells ∙ f2 in
    let f4 = four.image tells ∙ f3 in
    let e2 = two.count_of_blocks ∙ one.count_of_blocks in
    let e3 = three.count_of_blocks ∙ e2 in
    area_held c.args.s.now (g.V.PageView.block_count c.args.view.now) (g.V.PageView.image c.args.view.now) c.requires.part c.add_sound_extents-2.result c.in_ok-map.map c.in_ok-bad_blocks.bad_blocks c.in_ok-inodes.inodes
    (g.V.PageView.block_count c.aggregate_root-2.new.view) (g.V.PageView.block_count c.add_sound_extents.new.view) (g.V.PageView.block_count c.aggregate_root-3.new.view)
    (g.V.PageView.image c.aggregate_root.new.view) (g.V.PageView.image c.aggregate_root-2.new.view) (g.V.PageView.image c.add_sound_extents.new.view) (g.V.PageView.image c.check_bad_blocks.new.view) (g.V.PageView.image c.aggregate_root-3.new.view)
    c.args.owners.now c.add_fixed.new.self c.add_sound_extents.new.self c.check_bad_blocks.new.owners c.add_sound_extents-2.new.self
    e2 e3 (five.count_of_blocks ∙ four.count_of_blocks ∙ e3) (one.image tells) f2 f3 f4 (five.image tells ∙ f4) (one.root tells) (two.root tells) (five.root tells)
    c.add_fixed.ensures (three.adds tells) (four.held tells) (c.add_sound_extents-2.ensures.adds tells)

pub returns-clause-found : goal.returns-clause-found
returns-clause-found g c tells =
    let one = c.in_ok-map.ensures in
    let two = c.in_ok-bad_blocks.ensures in
    let three = c.in_ok-add_sound_extents.ensures in
    let four = c.in_ok-check_bad_blocks.ensures in
    area_found c.args.s.now (g.V.PageView.block_count c.args.view.now) (g.V.PageView.image c.args.view.now) c.requires.part c.add_sound_extents-2.result c.in_ok-bad_blocks.bad_blocks
    (g.V.PageView.block_count c.add_sound_extents.new.view) (g.V.PageView.image c.aggregate_root.new.view) (g.V.PageView.image c.add_sound_extents.new.view) c.args.findings.now.items c.check_bad_blocks.new.findings.items
    (three.count_of_blocks ∙ two.count_of_blocks ∙ one.count_of_blocks) (one.image tells) (three.image tells ∙ two.image tells ∙ one.image tells) (two.root tells) (four.found tells)
