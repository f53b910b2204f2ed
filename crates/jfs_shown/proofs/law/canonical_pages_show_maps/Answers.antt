use Rattle.jfs_shown.proofs.Canonical.{canonical_law}
use Rattle.jfs_shown.proofs.law.canonical_pages_show_maps.Goals as goal

pub returns : goal.returns
returns c = canonical_law
