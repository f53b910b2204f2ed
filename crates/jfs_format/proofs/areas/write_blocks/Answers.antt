use Rattle.std.proofs.Common.{◌+◌, arith}
use Rattle.jfs_format.specs.Layout.{map_pages, second_table, inode_map}
use Rattle.jfs_format.proofs.Written.{wrote-then, wrote-part}
use Rattle.jfs_format.proofs.Joined.{front-kept, map-kept, copies-kept}
use Rattle.jfs_format.proofs.areas.write_blocks.Goals as goal

pub returns-in_err-write_front-clause-wrote : goal.returns-in_err-write_front-clause-wrote
returns-in_err-write_front-clause-wrote g c =
    let l = c.args.v.layout in
    wrote-part g.D.Disk 9 (22 + l.dmaps + l.iags) 9 7 c.args.disk.now c.write_front.new.disk (omega arith) (omega arith) c.in_err-write_front.ensures.wrote

pub returns-in_err-write_block_map-clause-wrote : goal.returns-in_err-write_block_map-clause-wrote
returns-in_err-write_block_map-clause-wrote g c =
    let l = c.args.v.layout in
    wrote-then g.D.Disk 9 (22 + l.dmaps + l.iags) 9 7 16 (map_pages l) c.args.disk.now c.write_front.new.disk c.write_block_map.new.disk (g.met.D.Disk.has_state c.args.disk.now) (omega arith) (omega arith) (omega arith) (omega arith) c.in_ok-write_front.ensures.wrote c.in_err-write_block_map.ensures.wrote

pub returns-in_err-write_copies-clause-wrote : goal.returns-in_err-write_copies-clause-wrote
returns-in_err-write_copies-clause-wrote g c =
    let l = c.args.v.layout in
    let some = g.met.D.Disk.has_state c.args.disk.now in
    wrote-then g.D.Disk 9 (22 + l.dmaps + l.iags) 9 (11 + l.dmaps) (second_table l) 6 c.args.disk.now c.write_block_map.new.disk c.write_copies.new.disk some (omega arith) (omega arith) (omega arith) (omega arith)
    (wrote-then g.D.Disk 9 (11 + l.dmaps) 9 7 16 (map_pages l) c.args.disk.now c.write_front.new.disk c.write_block_map.new.disk some (omega arith) (omega arith) (omega arith) (omega arith) c.in_ok-write_front.ensures.wrote c.in_ok-write_block_map.ensures.wrote)
    c.in_err-write_copies.ensures.wrote

pub returns-in_err-write_fileset-clause-wrote : goal.returns-in_err-write_fileset-clause-wrote
returns-in_err-write_fileset-clause-wrote g c =
    let l = c.args.v.layout in
    let some = g.met.D.Disk.has_state c.args.disk.now in
    wrote-then g.D.Disk 9 (22 + l.dmaps + l.iags) 9 (17 + l.dmaps) (inode_map l) (5 + l.iags) c.args.disk.now c.write_copies.new.disk c.write_fileset.new.disk some (omega arith) (omega arith) (omega arith) (omega arith)
    (wrote-then g.D.Disk 9 (17 + l.dmaps) 9 (11 + l.dmaps) (second_table l) 6 c.args.disk.now c.write_block_map.new.disk c.write_copies.new.disk some (omega arith) (omega arith) (omega arith) (omega arith)
    (wrote-then g.D.Disk 9 (11 + l.dmaps) 9 7 16 (map_pages l) c.args.disk.now c.write_front.new.disk c.write_block_map.new.disk some (omega arith) (omega arith) (omega arith) (omega arith) c.in_ok-write_front.ensures.wrote c.in_ok-write_block_map.ensures.wrote)
    c.in_ok-write_copies.ensures.wrote)
    c.in_err-write_fileset.ensures.wrote

pub returns-clause-wrote : goal.returns-clause-wrote
returns-clause-wrote g c =
    let l = c.args.v.layout in
    let some = g.met.D.Disk.has_state c.args.disk.now in
    wrote-then g.D.Disk 9 (22 + l.dmaps + l.iags) 9 (17 + l.dmaps) (inode_map l) (5 + l.iags) c.args.disk.now c.write_copies.new.disk c.write_fileset.new.disk some (omega arith) (omega arith) (omega arith) (omega arith)
    (wrote-then g.D.Disk 9 (17 + l.dmaps) 9 (11 + l.dmaps) (second_table l) 6 c.args.disk.now c.write_block_map.new.disk c.write_copies.new.disk some (omega arith) (omega arith) (omega arith) (omega arith)
    (wrote-then g.D.Disk 9 (11 + l.dmaps) 9 7 16 (map_pages l) c.args.disk.now c.write_front.new.disk c.write_block_map.new.disk some (omega arith) (omega arith) (omega arith) (omega arith) c.in_ok-write_front.ensures.wrote c.in_ok-write_block_map.ensures.wrote)
    c.in_ok-write_copies.ensures.wrote)
    c.in_ok-write_fileset.ensures.wrote

pub returns-clause-blocks : goal.returns-clause-blocks
returns-clause-blocks g c = λ t.
    let v = c.args.v in
    let l = v.layout in
    let one = g.D.Disk.image c.write_front.new.disk in
    let two = g.D.Disk.image c.write_block_map.new.disk in
    let three = g.D.Disk.image c.write_copies.new.disk in
    let four = g.D.Disk.image c.write_fileset.new.disk in
    let map = c.in_ok-write_block_map.ensures.wrote.others t in
    let copies = c.in_ok-write_copies.ensures.wrote.others t in
    let fileset = c.in_ok-write_fileset.ensures.wrote.others t in
    record {
      front = front-kept v (inode_map l) (5 + l.iags) three four (omega arith) fileset (front-kept v (second_table l) 6 two three (omega arith) copies (front-kept v 16 (map_pages l) one two (omega arith) map (c.in_ok-write_front.ensures.front t)));
      block_map = map-kept l (inode_map l) (5 + l.iags) three four (omega arith) fileset (map-kept l (second_table l) 6 two three (omega arith) copies (c.in_ok-write_block_map.ensures.map t));
      copies = copies-kept v (inode_map l) (5 + l.iags) three four (omega arith) fileset (c.in_ok-write_copies.ensures.copies t);
      fileset = c.in_ok-write_fileset.ensures.fileset t;
    }
