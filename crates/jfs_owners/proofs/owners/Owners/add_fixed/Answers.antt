use Rattle.jfs_owners.proofs.Areas.{areas_counted}
use Rattle.jfs_owners.proofs.owners.Owners.add_fixed.Goals as goal

pub returns : goal.returns
returns c = areas_counted c.args.table c.args.map c.args.self.now c.add.new.self c.add-2.new.self c.add-3.new.self c.add.ensures c.add-2.ensures c.add-3.ensures
