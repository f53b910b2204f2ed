use Rattle.jfs_pages.specs.Kept.{dirty_in}
use Rattle.jfs_volume.proofs.Putting.{puts-one}
use Rattle.jfs_volume.proofs.data.put_one.Goals as goal

pub returns-clause-puts : goal.returns-clause-puts
returns-clause-puts g c =
    let old = c.args.cache.now in
    let new = c.put.new.self in
    let d = g.D.Disk in
    let e = c.put.ensures in
    let one = c.args.one.now in
    puts-one one old.blocks new.blocks (dirty_in old.kept) (d.image old.disk) (d.image new.disk) (d.past old.disk) (d.past new.disk) old.kept new.kept e.blocks c.requires c.put.result
    e.puts e.others e.clean e.bytes (λ t none. old.clean t one.block none) (λ k. g.met.D.Disk.reads_now old.disk k) (λ k. g.met.D.Disk.reads_now new.disk k)
