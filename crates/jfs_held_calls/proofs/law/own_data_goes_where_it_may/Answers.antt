use Rattle.jfs_held_calls.proofs.Calls.{own_law}
use Rattle.jfs_held_calls.proofs.law.own_data_goes_where_it_may.Goals as goal

pub returns : goal.returns
returns c = own_law
