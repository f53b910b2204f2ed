use Rattle.jfs_shown.proofs.Files.{written_law}
use Rattle.jfs_shown.proofs.law.written_pages_show_maps.Goals as goal

pub returns : goal.returns
returns c = written_law
