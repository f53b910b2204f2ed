use Rattle.std.proofs.Common.{inl, arith}
use Rattle.jfs_format.specs.Inodes.{aggregate_inode, IsTablePage}
use Rattle.jfs_format.specs.Layout.{second_table, second_map}
use Rattle.jfs_format.proofs.Written.{wrote-then, wrote-part, has-kept}
use Rattle.jfs_format.proofs.areas.write_copies.Goals as goal

pub returns-in_err-write_table-clause-wrote : goal.returns-in_err-write_table-clause-wrote
returns-in_err-write_table-clause-wrote g c = wrote-part g.D.Disk (second_table c.args.v.layout) 6 (second_table c.args.v.layout) 4 c.args.disk.now c.write_table.new.disk (omega arith) (omega arith) c.in_err-write_table.ensures.wrote

pub returns-in_err-write_inode_map-clause-wrote : goal.returns-in_err-write_inode_map-clause-wrote
returns-in_err-write_inode_map-clause-wrote g c =
    wrote-then g.D.Disk (second_table c.args.v.layout) 6 (second_table c.args.v.layout) 4 (second_map c.args.v.layout) 2 c.args.disk.now c.write_table.new.disk c.write_inode_map.new.disk (g.met.D.Disk.has_state c.args.disk.now) (omega arith) (omega arith) (omega arith) (omega arith) c.in_ok-write_table.ensures.wrote c.in_err-write_inode_map.ensures.wrote

pub returns-clause-wrote : goal.returns-clause-wrote
returns-clause-wrote g c =
    wrote-then g.D.Disk (second_table c.args.v.layout) 6 (second_table c.args.v.layout) 4 (second_map c.args.v.layout) 2 c.args.disk.now c.write_table.new.disk c.write_inode_map.new.disk (g.met.D.Disk.has_state c.args.disk.now) (omega arith) (omega arith) (omega arith) (omega arith) c.in_ok-write_table.ensures.wrote c.in_ok-write_inode_map.ensures.wrote

pub returns-clause-copies : goal.returns-clause-copies
returns-clause-copies g c = λ t. record {
  second_inodes = has-kept (second_table c.args.v.layout) 4 (second_map c.args.v.layout) 2 (IsTablePage (aggregate_inode c.args.v)) (g.D.Disk.image c.write_table.new.disk) (g.D.Disk.image c.write_inode_map.new.disk) (inl (omega arith)) (c.in_ok-write_inode_map.ensures.wrote.others t) (c.in_ok-write_table.ensures.table t);
  second_map = c.in_ok-write_inode_map.ensures.map t;
}
