use Rattle.jfs_disk.specs.Pages.{contents}
use Rattle.jfs_disk.proofs.Images.{contents-take, contents-drop, ArePages-take, ArePages-drop}
use Rattle.jfs_disk.proofs.sure.SureDiskDisk.cut.Goals as goal

pub invariant_of-low-clause-whole : goal.invariant_of-low-clause-whole
invariant_of-low-clause-whole c =
    let disk = c.args.self in
    ArePages-take disk.count c.args.at (contents disk.pages.items) (contents c.split_off.new.self.items) disk.whole c.requires
    (contents-take disk.pages.items c.split_off.new.self.items c.args.at c.in-Ok.ensures.items)

pub invariant_of-high-clause-whole : goal.invariant_of-high-clause-whole
invariant_of-high-clause-whole c =
    let disk = c.args.self in
    ArePages-drop disk.count c.args.at (contents disk.pages.items) (contents c.in-Ok.high.items) disk.whole c.requires
    (contents-drop disk.pages.items c.in-Ok.high.items c.args.at c.in-Ok.ensures.tail)

pub returns-clause-image : goal.returns-clause-image
returns-clause-image c = λ _. (
  contents-take c.args.self.pages.items c.split_off.new.self.items c.args.at c.in-Ok.ensures.items,
  contents-drop c.args.self.pages.items c.in-Ok.high.items c.args.at c.in-Ok.ensures.tail,
)
