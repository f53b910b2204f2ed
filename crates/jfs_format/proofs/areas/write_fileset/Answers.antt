use Rattle.std.proofs.Common.{◌+◌, inl, arith}
use Rattle.jfs_imap.specs.Inodes.{IsInodePage}
use Rattle.jfs_format.specs.declared.tables.Table.TheVariants.{Fileset}
use Rattle.jfs_format.specs.Layout.{inode_map, first_inodes}
use Rattle.jfs_format.specs.Volume.{inodes_in}
use Rattle.jfs_format.proofs.Written.{wrote-then, wrote-part, has-kept}
use Rattle.jfs_format.proofs.areas.write_fileset.Goals as goal

pub returns-in_err-write_inode_map-clause-wrote : goal.returns-in_err-write_inode_map-clause-wrote
returns-in_err-write_inode_map-clause-wrote g c =
    let l = c.args.v.layout in
    wrote-part g.D.Disk (inode_map l) (5 + l.iags) (inode_map l) (1 + l.iags) c.args.disk.now c.write_inode_map.new.disk (omega arith) (omega arith) c.in_err-write_inode_map.ensures.wrote

pub returns-in_err-write_table-clause-wrote : goal.returns-in_err-write_table-clause-wrote
returns-in_err-write_table-clause-wrote g c =
    let l = c.args.v.layout in
    wrote-then g.D.Disk (inode_map l) (5 + l.iags) (inode_map l) (1 + l.iags) (first_inodes l) 4 c.args.disk.now c.write_inode_map.new.disk c.write_table.new.disk (g.met.D.Disk.has_state c.args.disk.now) (omega arith) (omega arith) (omega arith) (omega arith) c.in_ok-write_inode_map.ensures.wrote c.in_err-write_table.ensures.wrote

pub returns-clause-wrote : goal.returns-clause-wrote
returns-clause-wrote g c =
    let l = c.args.v.layout in
    wrote-then g.D.Disk (inode_map l) (5 + l.iags) (inode_map l) (1 + l.iags) (first_inodes l) 4 c.args.disk.now c.write_inode_map.new.disk c.write_table.new.disk (g.met.D.Disk.has_state c.args.disk.now) (omega arith) (omega arith) (omega arith) (omega arith) c.in_ok-write_inode_map.ensures.wrote c.in_ok-write_table.ensures.wrote

pub returns-clause-fileset : goal.returns-clause-fileset
returns-clause-fileset g c = λ t.
    let l = c.args.v.layout in
    record {
      inode_map = has-kept (inode_map l) (1 + l.iags) (first_inodes l) 4 (IsInodePage (inodes_in Fileset l)) (g.D.Disk.image c.write_inode_map.new.disk) (g.D.Disk.image c.write_table.new.disk) (inl (omega arith)) (c.in_ok-write_table.ensures.wrote.others t) (c.in_ok-write_inode_map.ensures.map t);
      inodes = c.in_ok-write_table.ensures.table t;
    }
