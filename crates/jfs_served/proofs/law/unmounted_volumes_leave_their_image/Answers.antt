use Rattle.jfs_served.proofs.Unmounted.{unmounted_law}
use Rattle.jfs_served.proofs.law.unmounted_volumes_leave_their_image.Goals as goal

pub returns : goal.returns
returns c = unmounted_law
