use Rattle.jfs_checked_maps.proofs.Past.{past_law}
use Rattle.jfs_checked_maps.proofs.law.maps_that_agree_set_bits_past_the_end.Goals as goal

pub returns : goal.returns
returns c = past_law
