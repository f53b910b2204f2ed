use Rattle.jfs_disk.specs.Image.{page_of}
use Rattle.jfs_plain.specs.Step.{stat, listed, readlink, read}
use Rattle.jfs_look.specs.way.specs.Walk.{tree_in}
use Rattle.jfs_files.proofs.Paths.{short_names}
use Rattle.jfs_files.proofs.Replies.{attr_told, names_told, target_told, bytes_told}
use Rattle.jfs_files.proofs.reply.look_reply.Goals as goal

pub stat-requires : goal.stat-requires
stat-requires g c = record { names = rw c.as_slice.ensures (short_names c.in-Stat.path (rw c.in-Stat.is at c.requires.fits)) }

pub returns-in-Ok-clause-follows : goal.returns-in-Ok-clause-follows
returns-in-Ok-clause-follows g c tells within area map con room now =
    let t = tree_in (g.V.PageView.block_count c.args.view.now) (page_of (g.V.PageView.image c.args.view.now)) area map c.args.inodes.now in
    rw c.in-Stat.is (attr_told t (stat t c.in-Stat.path) c.in-Ok.stat (rw c.as_slice.ensures at (c.in-Ok.ensures.follows tells within area map con)))

pub list_names-requires : goal.list_names-requires
list_names-requires g c = record { names = rw c.as_slice-in-List.ensures (short_names c.in-List.path (rw c.in-List.is at c.requires.fits)) }

pub returns-in-Ok-list_names-clause-follows : goal.returns-in-Ok-list_names-clause-follows
returns-in-Ok-list_names-clause-follows g c tells within area map con room now =
    let t = tree_in (g.V.PageView.block_count c.args.view.now) (page_of (g.V.PageView.image c.args.view.now)) area map c.args.inodes.now in
    rw c.in-List.is (names_told t (listed t c.in-List.path) c.in-Ok-list_names.names (rw c.as_slice-in-List.ensures at (c.in-Ok-list_names.ensures.follows tells within area map con)))

pub read_link-requires : goal.read_link-requires
read_link-requires g c = record { names = rw c.as_slice-in-Readlink.ensures (short_names c.in-Readlink.path (rw c.in-Readlink.is at c.requires.fits)) }

pub returns-in-Ok-read_link-clause-follows : goal.returns-in-Ok-read_link-clause-follows
returns-in-Ok-read_link-clause-follows g c tells within area map con room now =
    let t = tree_in (g.V.PageView.block_count c.args.view.now) (page_of (g.V.PageView.image c.args.view.now)) area map c.args.inodes.now in
    rw c.in-Readlink.is (target_told t (readlink t c.in-Readlink.path) c.in-Ok-read_link.target (rw c.as_slice-in-Readlink.ensures at (c.in-Ok-read_link.ensures.follows tells within area map con)))

pub read_bytes-requires : goal.read_bytes-requires
read_bytes-requires g c = record { names = rw c.as_slice-in-Read.ensures (short_names c.in-Read.path (rw c.in-Read.is at c.requires.fits).0) }

pub returns-in-Ok-read_bytes-clause-follows : goal.returns-in-Ok-read_bytes-clause-follows
returns-in-Ok-read_bytes-clause-follows g c tells within area map con room now =
    let t = tree_in (g.V.PageView.block_count c.args.view.now) (page_of (g.V.PageView.image c.args.view.now)) area map c.args.inodes.now in
    rw c.in-Read.is (bytes_told t (read t c.in-Read.path c.in-Read.offset c.in-Read.count) c.in-Ok-read_bytes.bytes (rw c.as_slice-in-Read.ensures at (c.in-Ok-read_bytes.ensures.follows tells within area map con)))
