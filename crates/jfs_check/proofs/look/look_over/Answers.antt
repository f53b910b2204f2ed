use Rattle.jfs_check.proofs.Seen.{all_held, extents_list, no_extents, names_noted, both_found, only_found}
use Rattle.jfs_check.proofs.look.look_over.Goals as goal

pub returns-in_ok-count_extents-clause-seen : goal.returns-in_ok-count_extents-clause-seen
returns-in_ok-count_extents-clause-seen g c tells =
    let d = c.args.inode.now in
    let b0 = g.V.PageView.block_count c.args.view.now in
    let b1 = g.V.PageView.block_count c.check_object.new.view in
    let b2 = g.V.PageView.block_count c.count_names.new.view in
    let i0 = g.V.PageView.image c.args.view.now in
    let i1 = g.V.PageView.image c.check_object.new.view in
    let i2 = g.V.PageView.image c.count_names.new.view in
    let one = c.in_ok-sound.ensures in
    let two = c.in_ok-count_names.ensures in
    let is = one.sound tells in
    let list = extents_list d b0 b1 b2 i0 i1 i2 one.count_of_blocks (one.image tells) two.count_of_blocks (two.image tells) c.in_ok-sound.sound.extents c.if-sound.true is.1 in
    record {
      owners = all_held d b0 b1 b2 i0 i1 i2 one.count_of_blocks (one.image tells) two.count_of_blocks (two.image tells) c.in_ok-sound.sound.names c.args.census.now.owners c.add_attributes.new.self c.count_names.new.census.owners c.count_extents.new.owners
          is.0 c.add_attributes.ensures (two.held tells) (c.in_ok-count_extents.ensures.held tells list.0 list.1);
      names = names_noted d b0 b1 b2 i0 i1 i2 one.count_of_blocks (one.image tells) two.count_of_blocks (two.image tells) c.args.n c.args.page c.in_ok-sound.sound.names c.args.census.now.names c.count_names.new.census.names is.0 (two.noted tells);
    }

pub returns-in_ok-count_extents-clause-found : goal.returns-in_ok-count_extents-clause-found
returns-in_ok-count_extents-clause-found g c tells =
    let d = c.args.inode.now in
    let b0 = g.V.PageView.block_count c.args.view.now in
    let b1 = g.V.PageView.block_count c.check_object.new.view in
    let b2 = g.V.PageView.block_count c.count_names.new.view in
    let i0 = g.V.PageView.image c.args.view.now in
    let i1 = g.V.PageView.image c.check_object.new.view in
    let i2 = g.V.PageView.image c.count_names.new.view in
    let one = c.in_ok-sound.ensures in
    let two = c.in_ok-count_names.ensures in
    let is = one.sound tells in
    let list = extents_list d b0 b1 b2 i0 i1 i2 one.count_of_blocks (one.image tells) two.count_of_blocks (two.image tells) c.in_ok-sound.sound.extents c.if-sound.true is.1 in
    both_found d b0 b1 b2 i0 i1 i2 one.count_of_blocks (one.image tells) two.count_of_blocks (two.image tells) c.args.n c.args.page c.args.findings.now.items c.check_object.new.findings.items c.count_extents.new.findings.items
    (one.found tells c.requires.fits) (c.in_ok-count_extents.ensures.thin tells c.args.page list.0 list.1)

pub returns-else-sound-clause-seen : goal.returns-else-sound-clause-seen
returns-else-sound-clause-seen g c tells =
    let d = c.args.inode.now in
    let b0 = g.V.PageView.block_count c.args.view.now in
    let b1 = g.V.PageView.block_count c.check_object.new.view in
    let b2 = g.V.PageView.block_count c.count_names.new.view in
    let i0 = g.V.PageView.image c.args.view.now in
    let i1 = g.V.PageView.image c.check_object.new.view in
    let i2 = g.V.PageView.image c.count_names.new.view in
    let one = c.in_ok-sound.ensures in
    let two = c.in_ok-count_names.ensures in
    let is = one.sound tells in
    record {
      owners = all_held d b0 b1 b2 i0 i1 i2 one.count_of_blocks (one.image tells) two.count_of_blocks (two.image tells) c.in_ok-sound.sound.names c.args.census.now.owners c.add_attributes.new.self c.count_names.new.census.owners c.count_names.new.census.owners
          is.0 c.add_attributes.ensures (two.held tells)
          (no_extents d b0 b1 b2 i0 i1 i2 one.count_of_blocks (one.image tells) two.count_of_blocks (two.image tells) c.in_ok-sound.sound.extents c.count_names.new.census.owners c.if-sound.false is.1);
      names = names_noted d b0 b1 b2 i0 i1 i2 one.count_of_blocks (one.image tells) two.count_of_blocks (two.image tells) c.args.n c.args.page c.in_ok-sound.sound.names c.args.census.now.names c.count_names.new.census.names is.0 (two.noted tells);
    }

pub returns-else-sound-clause-found : goal.returns-else-sound-clause-found
returns-else-sound-clause-found g c tells =
    let one = c.in_ok-sound.ensures in
    only_found c.args.inode.now (g.V.PageView.block_count c.args.view.now) (g.V.PageView.image c.args.view.now) c.args.n c.args.page c.in_ok-sound.sound.extents c.args.findings.now.items c.check_object.new.findings.items c.if-sound.false
    (one.sound tells).1 (one.found tells c.requires.fits)
