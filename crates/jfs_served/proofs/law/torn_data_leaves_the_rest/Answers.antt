use Rattle.jfs_served.proofs.Torn.{torn_law}
use Rattle.jfs_served.proofs.law.torn_data_leaves_the_rest.Goals as goal

pub returns : goal.returns
returns c = torn_law
