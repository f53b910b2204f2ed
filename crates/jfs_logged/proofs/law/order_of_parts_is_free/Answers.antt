use Rattle.jfs_logged.proofs.Ordered.{order_law}
use Rattle.jfs_logged.proofs.law.order_of_parts_is_free.Goals as goal

pub returns : goal.returns
returns c = order_law
