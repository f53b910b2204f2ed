use Rattle.jfs_held_maps.proofs.Places.{fixed_law}
use Rattle.jfs_held_maps.proofs.law.crashes_leave_fixed_pages.Goals as goal

pub returns : goal.returns
returns c = fixed_law
