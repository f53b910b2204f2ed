use Rattle.jfs_imap.proofs.Listed.{page-of_iag}
use Rattle.jfs_imap.proofs.inode_map.InodeMap.write_iag.Goals as goal

pub returns : goal.returns
returns c =
    let i = c.self.inside in
    rw (← c.self.view_is)
    (page-of_iag i.iags i.numag i.agsize i.set.items c.as_slice-set.result.now i.extents.items c.as_slice-extents.result.now i.free i.places c.args.k c.start_of-start.result
    (record { inofreefwd = c.neighbors-inodes.result.0; inofreeback = c.neighbors-inodes.result.1; extfreefwd = c.neighbors-places.result.0; extfreeback = c.neighbors-places.result.1 })
    c.write_part.new.page.0 c.self.invariant (rw (← c.self.view_is) at c.requires) c.as_slice-set.ensures.value c.as_slice-extents.ensures.value c.start_of-start.ensures c.neighbors-inodes.ensures c.neighbors-places.ensures c.write_part.ensures)
