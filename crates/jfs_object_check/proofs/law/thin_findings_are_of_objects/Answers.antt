-- Each way.
use Rattle.jfs_object_check.proofs.OfThin.{thin_law}
use Rattle.jfs_object_check.proofs.law.thin_findings_are_of_objects.Goals as goal

pub returns : goal.returns
returns c = thin_law
