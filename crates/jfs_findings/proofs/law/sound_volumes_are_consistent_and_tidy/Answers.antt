use Rattle.jfs_findings.proofs.Tidy.{consistent_law}
use Rattle.jfs_findings.proofs.law.sound_volumes_are_consistent_and_tidy.Goals as goal

pub returns : goal.returns
returns c = consistent_law
