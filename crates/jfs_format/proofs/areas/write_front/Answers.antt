use Rattle.std.proofs.Common.{◌∙◌, inl, arith}
use Rattle.jfs_imap.specs.Inodes.{IsInodePage}
use Rattle.jfs_format.specs.declared.tables.Table.TheVariants.{Aggregate}
use Rattle.jfs_format.specs.Inodes.{aggregate_inode, IsTablePage}
use Rattle.jfs_format.specs.Volume.{inodes_in}
use Rattle.jfs_format.proofs.Written.{wrote-then, wrote-part, has-kept}
use Rattle.jfs_format.proofs.areas.write_front.Goals as goal

pub returns-in_err-write_inode_map-clause-wrote : goal.returns-in_err-write_inode_map-clause-wrote
returns-in_err-write_inode_map-clause-wrote g c = wrote-part g.D.Disk 9 7 9 2 c.args.disk.now c.write_inode_map.new.disk (omega arith) (omega arith) c.in_err-write_inode_map.ensures.wrote

pub returns-in_err-write_table-clause-wrote : goal.returns-in_err-write_table-clause-wrote
returns-in_err-write_table-clause-wrote g c =
    wrote-then g.D.Disk 9 7 9 2 11 4 c.args.disk.now c.write_inode_map.new.disk c.write_table.new.disk (g.met.D.Disk.has_state c.args.disk.now) (omega arith) (omega arith) (omega arith) (omega arith) c.in_ok-write_inode_map.ensures.wrote c.in_err-write_table.ensures.wrote

pub returns-in_err-put-clause-wrote : goal.returns-in_err-put-clause-wrote
returns-in_err-put-clause-wrote g c =
    wrote-then g.D.Disk 9 7 9 6 15 1 c.args.disk.now c.write_table.new.disk c.put.new.disk (g.met.D.Disk.has_state c.args.disk.now) (omega arith) (omega arith) (omega arith) (omega arith)
    (wrote-then g.D.Disk 9 6 9 2 11 4 c.args.disk.now c.write_inode_map.new.disk c.write_table.new.disk (g.met.D.Disk.has_state c.args.disk.now) (omega arith) (omega arith) (omega arith) (omega arith) c.in_ok-write_inode_map.ensures.wrote c.in_ok-write_table.ensures.wrote) c.in_err-put.ensures.wrote

pub returns-clause-wrote : goal.returns-clause-wrote
returns-clause-wrote g c =
    wrote-then g.D.Disk 9 7 9 6 15 1 c.args.disk.now c.write_table.new.disk c.put.new.disk (g.met.D.Disk.has_state c.args.disk.now) (omega arith) (omega arith) (omega arith) (omega arith)
    (wrote-then g.D.Disk 9 6 9 2 11 4 c.args.disk.now c.write_inode_map.new.disk c.write_table.new.disk (g.met.D.Disk.has_state c.args.disk.now) (omega arith) (omega arith) (omega arith) (omega arith) c.in_ok-write_inode_map.ensures.wrote c.in_ok-write_table.ensures.wrote) c.in_ok-put.ensures.wrote

pub returns-clause-front : goal.returns-clause-front
returns-clause-front g c = λ t.
    let map = IsInodePage (inodes_in Aggregate c.args.v.layout) in
    let table = IsTablePage (aggregate_inode c.args.v) in
    let one = g.D.Disk.image c.write_inode_map.new.disk in
    let two = g.D.Disk.image c.write_table.new.disk in
    let three = g.D.Disk.image c.put.new.disk in
    record {
      aggregate_map = has-kept 9 2 15 1 map two three (inl (omega arith)) (c.in_ok-put.ensures.wrote.others t) (has-kept 9 2 11 4 map one two (inl (omega arith)) (c.in_ok-write_table.ensures.wrote.others t) (c.in_ok-write_inode_map.ensures.map t));
      aggregate_inodes = has-kept 11 4 15 1 table two three (inl (omega arith)) (c.in_ok-put.ensures.wrote.others t) (c.in_ok-write_table.ensures.table t);
      second_super = c.in_ok-put.ensures.page t ∙ c.fill_super.ensures.page;
    }
