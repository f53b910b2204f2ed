use Rattle.jfs_findings.proofs.BothWays.{clean_law}
use Rattle.jfs_findings.proofs.law.clean_volumes_are_sound.Goals as goal

pub returns : goal.returns
returns c = clean_law
