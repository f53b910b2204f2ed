use Rattle.std.proofs.Common.{refl}
use Rattle.jfs_format.specs.Volume.{iags_of}
use Rattle.jfs_format.proofs.Maps.{are-links, some-iags}
use Rattle.jfs_format.proofs.inode_map.links_of.Goals as goal

pub returns : goal.returns
returns c =
    let b = c.requires.layout.1 in
    are-links c.args.table c.args.l (iags_of c.args.table c.args.l) c.args.l.groups c.args.k _ b.some_groups (some-iags c.requires.layout.0 c.args.table c.args.l b).1 c.requires.within
    refl refl (rw c.iags.ensures at c.next_place.ensures) c.previous_place.ensures
