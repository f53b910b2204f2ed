use Rattle.std.proofs.Common.{◌≡◌, ◌∙◌, inr, arith}
use Rattle.jfs_disk.specs.Image.{page_of}
use Rattle.jfs_bmap.specs.MapFile.{IsMapPage}
use Rattle.jfs_format.specs.Layout.{is_taken_block}
use Rattle.jfs_format.proofs.Written.{wrote-then, wrote-part}
use Rattle.jfs_format.proofs.Joined.{four-pages}
use Rattle.jfs_format.proofs.block_map.write_controls.Goals as goal

pub returns-in_err-put-clause-wrote : goal.returns-in_err-put-clause-wrote
returns-in_err-put-clause-wrote g c = wrote-part g.D.Disk 16 4 19 1 c.args.disk.now c.put.new.disk (omega arith) (omega arith) c.in_err-put.ensures.wrote

pub returns-in_err-put-2-clause-wrote : goal.returns-in_err-put-2-clause-wrote
returns-in_err-put-2-clause-wrote g c =
    wrote-then g.D.Disk 16 4 19 1 18 1 c.args.disk.now c.put.new.disk c.put-2.new.disk (g.met.D.Disk.has_state c.args.disk.now) (omega arith) (omega arith) (omega arith) (omega arith) c.in_ok-put.ensures.wrote c.in_err-put-2.ensures.wrote

pub returns-in_err-put-3-clause-wrote : goal.returns-in_err-put-3-clause-wrote
returns-in_err-put-3-clause-wrote g c =
    let some = g.met.D.Disk.has_state c.args.disk.now in
    wrote-then g.D.Disk 16 4 16 4 17 1 c.args.disk.now c.put-2.new.disk c.put-3.new.disk some (omega arith) (omega arith) (omega arith) (omega arith)
    (wrote-then g.D.Disk 16 4 19 1 18 1 c.args.disk.now c.put.new.disk c.put-2.new.disk some (omega arith) (omega arith) (omega arith) (omega arith) c.in_ok-put.ensures.wrote c.in_ok-put-2.ensures.wrote)
    c.in_err-put-3.ensures.wrote

pub returns-in_err-put-4-clause-wrote : goal.returns-in_err-put-4-clause-wrote
returns-in_err-put-4-clause-wrote g c =
    let some = g.met.D.Disk.has_state c.args.disk.now in
    wrote-then g.D.Disk 16 4 16 4 16 1 c.args.disk.now c.put-3.new.disk c.put-4.new.disk some (omega arith) (omega arith) (omega arith) (omega arith)
    (wrote-then g.D.Disk 16 4 16 4 17 1 c.args.disk.now c.put-2.new.disk c.put-3.new.disk some (omega arith) (omega arith) (omega arith) (omega arith)
    (wrote-then g.D.Disk 16 4 19 1 18 1 c.args.disk.now c.put.new.disk c.put-2.new.disk some (omega arith) (omega arith) (omega arith) (omega arith) c.in_ok-put.ensures.wrote c.in_ok-put-2.ensures.wrote)
    c.in_ok-put-3.ensures.wrote)
    c.in_err-put-4.ensures.wrote

pub returns-clause-wrote : goal.returns-clause-wrote
returns-clause-wrote g c =
    let some = g.met.D.Disk.has_state c.args.disk.now in
    wrote-then g.D.Disk 16 4 16 4 16 1 c.args.disk.now c.put-3.new.disk c.put-4.new.disk some (omega arith) (omega arith) (omega arith) (omega arith)
    (wrote-then g.D.Disk 16 4 16 4 17 1 c.args.disk.now c.put-2.new.disk c.put-3.new.disk some (omega arith) (omega arith) (omega arith) (omega arith)
    (wrote-then g.D.Disk 16 4 19 1 18 1 c.args.disk.now c.put.new.disk c.put-2.new.disk some (omega arith) (omega arith) (omega arith) (omega arith) c.in_ok-put.ensures.wrote c.in_ok-put-2.ensures.wrote)
    c.in_ok-put-3.ensures.wrote)
    c.in_ok-put-4.ensures.wrote

pub returns-clause-map : goal.returns-clause-map
returns-clause-map g c = λ t.
    let l = c.args.l in
    let image = g.D.Disk.image c.put-4.new.disk in
    let second = c.in_ok-put-2.ensures.wrote.others t in
    let third = c.in_ok-put-3.ensures.wrote.others t in
    let fourth = c.in_ok-put-4.ensures.wrote.others t in
    let p0 : page_of image 16 ≡ c.fill_first.new.page.0 = c.in_ok-put-4.ensures.page t in
    let p1 : page_of image 17 ≡ c.write_unused-2.new.page.0 = fourth 17 (inr (omega arith)) ∙ c.in_ok-put-3.ensures.page t in
    let p2 : page_of image 18 ≡ c.write_unused.new.page.0 = fourth 18 (inr (omega arith)) ∙ third 18 (inr (omega arith)) ∙ c.in_ok-put-2.ensures.page t in
    let p3 : page_of image 19 ≡ c.fill_level_zero.new.page.0 = fourth 19 (inr (omega arith)) ∙ third 19 (inr (omega arith)) ∙ second 19 (inr (omega arith)) ∙ c.in_ok-put.ensures.page t in
    four-pages (IsMapPage l.blocks l.agsize (is_taken_block l)) image (rw p0 c.fill_first.ensures) (rw p1 c.write_unused-2.ensures) (rw p2 c.write_unused.ensures) (rw p3 c.fill_level_zero.ensures)
