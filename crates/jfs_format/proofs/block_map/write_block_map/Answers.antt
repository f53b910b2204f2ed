use Rattle.std.proofs.Common.{inr, arith}
use Rattle.jfs_bmap.specs.MapFile.{IsDmapPage}
use Rattle.jfs_format.specs.Layout.{is_taken_block, map_pages}
use Rattle.jfs_format.proofs.Written.{wrote-then, wrote-part, has-kept}
use Rattle.jfs_format.proofs.Joined.{map-file}
use Rattle.jfs_format.proofs.block_map.write_block_map.Goals as goal

pub returns-in_err-leaves-clause-wrote : goal.returns-in_err-leaves-clause-wrote
returns-in_err-leaves-clause-wrote g c = wrote-part g.D.Disk 16 (map_pages c.args.l) 20 c.args.l.dmaps c.args.disk.now c.write_dmaps.new.disk (omega arith) (omega arith) c.in_err-leaves.ensures.wrote

pub returns-in_err-write_controls-clause-wrote : goal.returns-in_err-write_controls-clause-wrote
returns-in_err-write_controls-clause-wrote g c =
    wrote-then g.D.Disk 16 (map_pages c.args.l) 20 c.args.l.dmaps 16 4 c.args.disk.now c.write_dmaps.new.disk c.write_controls.new.disk (g.met.D.Disk.has_state c.args.disk.now) (omega arith) (omega arith) (omega arith) (omega arith) c.in_ok-leaves.ensures.wrote c.in_err-write_controls.ensures.wrote

pub returns-clause-wrote : goal.returns-clause-wrote
returns-clause-wrote g c =
    wrote-then g.D.Disk 16 (map_pages c.args.l) 20 c.args.l.dmaps 16 4 c.args.disk.now c.write_dmaps.new.disk c.write_controls.new.disk (g.met.D.Disk.has_state c.args.disk.now) (omega arith) (omega arith) (omega arith) (omega arith) c.in_ok-leaves.ensures.wrote c.in_ok-write_controls.ensures.wrote

pub returns-clause-map : goal.returns-clause-map
returns-clause-map g c = λ t.
    let l = c.args.l in
    map-file l (g.D.Disk.image c.write_controls.new.disk) (c.in_ok-write_controls.ensures.map t)
    (has-kept 20 l.dmaps 16 4 (IsDmapPage l.blocks (is_taken_block l)) (g.D.Disk.image c.write_dmaps.new.disk) (g.D.Disk.image c.write_controls.new.disk) (inr (omega arith)) (c.in_ok-write_controls.ensures.wrote.others t) (c.in_ok-leaves.ensures.dmaps t))
