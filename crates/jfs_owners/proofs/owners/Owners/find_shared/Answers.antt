use Rattle.std.proofs.Common.{refl}
use Rattle.jfs_owners.proofs.Gained.{shared_found}
use Rattle.jfs_owners.proofs.owners.Owners.find_shared.Goals as goal

pub returns-clause-shared : goal.returns-clause-shared
returns-clause-shared c =
    shared_found c.find_marked.result (record { blocks = c.self.inside.blocks; owned = c.self.inside.owned.items; shared = c.self.inside.shared.items }) c.args.self.now c.as_slice.result.now c.self.inside.blocks
    c.args.findings.now.items c.find_marked.new.findings.items c.self.view_is c.as_slice.ensures.value refl c.find_marked.ensures
