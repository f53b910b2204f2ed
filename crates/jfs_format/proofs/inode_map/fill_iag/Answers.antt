use Rattle.std.proofs.Common.{refl}
use Rattle.jfs_format.proofs.Maps.{iag-made}
use Rattle.jfs_format.proofs.inode_map.fill_iag.Goals as goal

pub returns : goal.returns
returns c =
    iag-made c.args.table c.args.l c.args.k _ c.set_of-set.result c.extents_of-extents.result c.links_of.result c.iag_with_links.new.page.0 c.requires.within
    (rw (c.from.ensures, c.from-2.ensures) refl) c.set_of-set.ensures (rw c.extent.ensures.value at c.extents_of-extents.ensures.value) c.links_of.ensures c.iag_with_links.ensures
